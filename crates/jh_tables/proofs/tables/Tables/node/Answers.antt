use Rattle.std.proofs.Common.{rules, ◌≡◌, ◌<◌, ◌≤◌, ◌∙◌, length, sym, ap, subst, arith, Some, get_or, refl}
use Rattle.std.proofs.lemmas.Int.{ints}
use Rattle.jh_tables.specs.Cells.{node_at}
use Rattle.jh_tables.specs.Standing.{TablesValue, IsNodeInRange}
use Rattle.jh_tables.specs.Tallies.{running_tally, node_now}
use Rattle.jh_tables.proofs.OverlayLemmas.{node_at_now, no_node_now}
use Rattle.jh_tables.proofs.RangeLemmas.{bumped_in_range, clock_at_start, node_in_range}
use Rattle.jh_tables.proofs.tables.Tables.node.Goals as goal

pub node_now-requires : goal.node_now-requires
node_now-requires c =
    let w = c.self.invariant in
    let t = c.self.inside.counted in
    let below : c.args.node < length t.nodes = search rules in
    let few : length w.faults ≤ 256 = omega (arith, w.few, w.laid) in
    let start = clock_at_start t w.faults w.tallies few w.starting_nodes c.args.node below in
    let bumped_ms = bumped_in_range t w.faults w.tallies few c.args.node below in
    rw (c.node.ensures, c.place-place.ensures)
    ((omega (arith, ints, start.0), omega (arith, ints, start.1)), (omega (arith, ints, bumped_ms.0), omega (arith, ints, bumped_ms.1)))

pub returns-then-place-count-clause-node : goal.returns-then-place-count-clause-node
returns-then-place-count-clause-node c =
    let t = c.self.inside.counted in
    let below : c.args.node < length t.nodes = search rules in
    let now : c.node_now.result ≡ node_now (get_or t.nodes c.args.node running_tally) = c.node_now.ensures ∙ rw (c.node.ensures, c.place-place.ensures) refl in
    ap Some now ∙ sym (node_at_now t c.args.node below) ∙ ap (λ (v : TablesValue). node_at v.cells c.args.node) c.self.view_is

pub returns-then-place-count-clause-within : goal.returns-then-place-count-clause-within
returns-then-place-count-clause-within c =
    let w = c.self.invariant in
    let t = c.self.inside.counted in
    let below : c.args.node < length t.nodes = search rules in
    let now : c.node_now.result ≡ node_now (get_or t.nodes c.args.node running_tally) = c.node_now.ensures ∙ rw (c.node.ensures, c.place-place.ensures) refl in
    subst IsNodeInRange (sym now) (node_in_range t w.faults w.tallies (omega (arith, w.few, w.laid)) w.starting_nodes c.args.node below)

pub returns-else-place-count-clause-node : goal.returns-else-place-count-clause-node
returns-else-place-count-clause-node c =
    let t = c.self.inside.counted in
    let past : length t.nodes ≤ c.args.node = search rules in
    sym (no_node_now t c.args.node past) ∙ ap (λ (v : TablesValue). node_at v.cells c.args.node) c.self.view_is
