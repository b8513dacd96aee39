use Rattle.std.proofs.Common.{ℕ, All, take, get_or, subst, sym, refl}
use Rattle.std.proofs.lemmas.List.{take_all, take_more}
use Rattle.std.proofs.lemmas.List.Elements.{All-push}
use Rattle.std.specs.Prelude.{IfSome}
use Rattle.jh_env.specs.Starting.{IsStartingNode}
use Rattle.jh_settings_texts.specs.StartInside.{MayStartNode}
use Rattle.jh_settings_texts.proofs.start.nodes_may_start.Goals as goal

pub loop-node-preserved : goal.loop-node-preserved
loop-node-preserved c =
    let P : ℕ → Type 0 = MayStartNode c.args.env.now in
    let xs = c.args.nodes.now in
    let i = c.loop-node.node-index in
    let x = c.node-item.result in
    let here : P (get_or xs i x) = subst P c.node-item.is (subst (λ cell. IfSome cell IsStartingNode) c.node.ensures.node (c.is_starting_node.ensures.0 c.if-not-is_starting_node.false)) in
    subst (All P) (sym (take_more xs i x c.loop-node-test.true)) (All-push P (take i xs) (get_or xs i x) c.loop-node.invariant here)

pub returns : goal.returns
returns c =
    let P : ℕ → Type 0 = MayStartNode c.args.env.now in
    (λ _. subst (All P) (take_all c.loop-node.node-index c.args.nodes.now c.loop-node-test.false) c.loop-node.invariant, λ _. refl)
