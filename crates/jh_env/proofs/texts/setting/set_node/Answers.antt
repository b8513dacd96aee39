use Rattle.std.proofs.Common.{◌≡◌, Some, refl, rules}
use Rattle.std.proofs.lemmas.Result.{err_from_is_err_and}
use Rattle.jh_env.specs.Cells.{node_at}
use Rattle.jh_env.specs.Starting.{SetsNode, RefusesNode}
use Rattle.jh_env.specs.TextCells.{node_with}
use Rattle.jh_env.specs.TextErrors.{place_of}
use Rattle.jh_env.proofs.TextCellLemmas.{sets_node, entry_error-node, node_amount-starts, node_refused}
use Rattle.jh_env.proofs.texts.setting.set_node.Goals as goal

pub returns-in_err-set_node : goal.returns-in_err-set_node
returns-in_err-set_node c =
    let names = c.args.start.now.names in
    let a = c.in_ok-node.node in
    let at : place_of names c.args.name.now ≡ Some a = search rules in
    let there : node_at c.args.start.now.cells a ≡ Some c.in-Some.cell = search rules in
    let refused : RefusesNode c.args.start.now a (node_with c.args.change c.in-Some.cell) c.in_err-set_node.field-0.0 = rw c.applied.ensures at c.in_err-set_node.ensures.1 in
    let p = err_from_is_err_and c.from_residual-in_err-set_node.result c.from_residual-in_err-set_node.ensures.1 in
    rw (p.1, p.2) (node_refused c.args.start.now c.args.name.now c.args.change a c.in-Some.cell c.in_err-set_node.field-0.0
    at (c.requires.nodes a c.in-Some.cell there) refused)

pub returns : goal.returns
returns c =
    let names = c.args.start.now.names in
    let a = c.in_ok-node.node in
    let at : place_of names c.args.name.now ≡ Some a = search rules in
    let there : node_at c.args.start.now.cells a ≡ Some c.in-Some.cell = search rules in
    let sets : SetsNode c.args.start.now a (node_with c.args.change c.in-Some.cell) c.set_node.new.self = rw c.applied.ensures at c.in_ok-set_node.ensures in
    let good = node_amount-starts c.args.change c.in-Some.cell sets.amount in (
      rw (entry_error-node names c.args.name.now c.args.change a at, good) refl,
      sets_node c.args.start.now c.set_node.new.self c.args.name.now c.args.change a c.in-Some.cell at there c.requires sets,
    )
