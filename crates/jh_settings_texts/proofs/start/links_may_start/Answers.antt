use Rattle.std.proofs.Common.{ℕ, All, take, get_or, subst, sym, refl}
use Rattle.std.proofs.lemmas.List.{take_all, take_more}
use Rattle.std.proofs.lemmas.List.Elements.{All-push}
use Rattle.std.specs.Prelude.{IfSome}
use Rattle.jh_env.specs.Starting.{IsStartingLink}
use Rattle.jh_settings_texts.specs.StartInside.{MayStartLink}
use Rattle.jh_settings_texts.proofs.start.links_may_start.Goals as goal

pub loop-to-preserved : goal.loop-to-preserved
loop-to-preserved c =
    let P : ℕ → Type 0 = MayStartLink c.args.env.now c.args.from in
    let xs = c.args.nodes.now in
    let i = c.loop-to.to-index in
    let x = c.to-item.result in
    let here : P (get_or xs i x) = subst P c.to-item.is (subst (λ link. IfSome link IsStartingLink) c.link.ensures.link (c.is_starting_link.ensures.0 c.if-not-is_starting_link.false)) in
    subst (All P) (sym (take_more xs i x c.loop-to-test.true)) (All-push P (take i xs) (get_or xs i x) c.loop-to.invariant here)

pub returns : goal.returns
returns c =
    let P : ℕ → Type 0 = MayStartLink c.args.env.now c.args.from in
    (λ _. subst (All P) (take_all c.loop-to.to-index c.args.nodes.now c.loop-to-test.false) c.loop-to.invariant, λ _. refl)
