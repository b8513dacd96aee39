use Rattle.std.proofs.Common.{ℕ, List, sym, subst, arith}
use Rattle.std.specs.List.{Contains}
use Rattle.std.proofs.lemmas.List.{take_all}
use Rattle.jh_grudge.proofs.RankLemmas.{ranked_step}
use Rattle.jh_grudge.proofs.ranks.rank_all.Goals as goal

pub loop-node-preserved : goal.loop-node-preserved
loop-node-preserved c =
    ranked_step c.args.ranks.now c.loop-node.ranks c.args.nodes.now c.args.rank c.loop-node.node-index c.from.result c.loop-node-test.true (sym c.from.ensures) (omega (arith, c.type_inv.nodes c.loop-node.node-index, c.loop-node.invariant.long)) c.loop-node.invariant

pub returns-clause-ranked : goal.returns-clause-ranked
returns-clause-ranked c node has =
    c.loop-node.invariant.ranked node (subst (λ (xs : List ℕ). Contains xs node) (sym (take_all c.loop-node.node-index c.args.nodes.now c.loop-node-test.false)) has)
