use Rattle.std.proofs.Common.{◌≡◌, ◌<◌, Some, length, refl, sym, arith}
use Rattle.std.specs.Prelude.{slice_get}
use Rattle.std.proofs.lemmas.Option.{slice_get_read}
use Rattle.jh_txn_edges.proofs.MomentLemmas.{at_done_from, completion_added, completion_none, point_inside}
use Rattle.jh_txn_edges.proofs.StepLemmas.{on_ok_then}
use Rattle.jh_txn_edges.proofs.moments.add_completion.Goals as goal

pub add-requires : goal.add-requires
add-requires c =
    let txns = c.args.txns.now in
    let txn = c.index-txns-place.result in
    let at : slice_get txns c.args.place ≡ Some txn = slice_get_read txns (length txns) c.args.place txn refl c.requires.place c.index-txns-place.is in
    let inside : c.point_of.result < length c.args.moments.now = point_inside c.args.moments.now c.in-Some.index c.point_of.result (c.requires.moments.whole c.args.place c.in-Some.index (at_done_from txns c.args.place c.in-Some.index txn at (sym c.in-Some.ensures))) c.point_of.ensures in
    omega (arith, inside, c.requires.hubs)

pub returns-in-None : goal.returns-in-None
returns-in-None c =
    let txns = c.args.txns.now in
    let txn = c.index-txns-place.result in
    let at : slice_get txns c.args.place ≡ Some txn = slice_get_read txns (length txns) c.args.place txn refl c.requires.place c.index-txns-place.is in
    completion_none txns c.args.moments.now c.args.first c.args.graph.now c.args.graph.now c.args.place txn at (sym c.in-None.ensures)

pub returns-in-Some : goal.returns-in-Some
returns-in-Some c =
    let txns = c.args.txns.now in
    let txn = c.index-txns-place.result in
    let at : slice_get txns c.args.place ≡ Some txn = slice_get_read txns (length txns) c.args.place txn refl c.requires.place c.index-txns-place.is in
    on_ok_then c.add.result _ _ (completion_added txns c.args.moments.now c.args.first c.args.graph.now c.add.new.graph c.args.place c.in-Some.index c.point_of.result txn at (sym c.in-Some.ensures) c.point_of.ensures) c.add.ensures
