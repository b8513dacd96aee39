use Rattle.std.proofs.Common.{ℕ, All, take, get_or, subst, sym, refl}
use Rattle.std.proofs.lemmas.List.{take_all, take_more}
use Rattle.std.proofs.lemmas.List.Elements.{All-push}
use Rattle.jh_settings_texts.specs.StartInside.{MayStartLink}
use Rattle.jh_settings_texts.proofs.start.all_links_may_start.Goals as goal

pub loop-from-preserved : goal.loop-from-preserved
loop-from-preserved c =
    let P : ℕ → Type 0 = λ from. All (MayStartLink c.args.env.now from) c.args.nodes.now in
    let xs = c.args.nodes.now in
    let i = c.loop-from.from-index in
    let x = c.from-item.result in
    let here : P (get_or xs i x) = subst P c.from-item.is (c.links_may_start.ensures.0 c.if-not-links_may_start.false) in
    subst (All P) (sym (take_more xs i x c.loop-from-test.true)) (All-push P (take i xs) (get_or xs i x) c.loop-from.invariant here)

pub returns : goal.returns
returns c =
    let P : ℕ → Type 0 = λ from. All (MayStartLink c.args.env.now from) c.args.nodes.now in
    (λ _. subst (All P) (take_all c.loop-from.from-index c.args.nodes.now c.loop-from-test.false) c.loop-from.invariant, λ _. refl)
