use Rattle.std.proofs.Common.{◌≡◌, ◌<◌, ℕ, Some, IfOk, IsTrue, length, subst, sym, ◌∙◌, refl, ap}
use Rattle.std.specs.Prelude.{slice_get}
use Rattle.std.proofs.lemmas.Option.{slice_get_read}
use Rattle.jh_txn.specs.declared.txn.Outcome.TheVariants.{Done}
use Rattle.jh_txn.specs.OrderCheckInside.{AreAfter, SawListAt}
use Rattle.jh_txn.specs.SnapshotCheckInside.{SawListsAt, ops_of_point, place_of_point}
use Rattle.jh_txn.proofs.OrderCheckLemmas.{same_answer}
use Rattle.jh_txn.proofs.StartLemmas.{ops_is, saw_at_start, start_saw}
use Rattle.jh_txn.proofs.starts.run_point.Goals as goal

pub returns-in-Start-clause-saw : goal.returns-in-Start-clause-saw
returns-in-Start-clause-saw c =
    let txns = c.args.txns.now in
    let lists = c.args.lists.now in
    let place = c.in-Start.place in
    let txn = c.index-txns-place.result in
    let low : place < length txns = subst (λ point. place_of_point point < length txns) c.in-Start.is c.requires.there in
    let at : slice_get txns place ≡ Some txn = slice_get_read txns (length txns) place txn refl low c.index-txns-place.is in
    same_answer c.look.result (txn.outcome ≡ Done → (index : ℕ) → SawListAt lists txn.ops index) (SawListsAt txns lists c.args.point) c.look.ensures.reads
    (λ saw. subst (SawListsAt txns lists) (sym c.in-Start.is) (saw_at_start txns lists place txn at saw))
    (λ saw. start_saw txns lists place txn at (subst (SawListsAt txns lists) c.in-Start.is saw))

pub returns-in-Commit-clause-after : goal.returns-in-Commit-clause-after
returns-in-Commit-clause-after c =
    let txns = c.args.txns.now in
    let place = c.in-Commit.place in
    let txn = c.index-txns-place-in-Commit.result in
    let low : place < length txns = subst (λ point. place_of_point point < length txns) c.in-Commit.is c.requires.there in
    let at : slice_get txns place ≡ Some txn = slice_get_read txns (length txns) place txn refl low c.index-txns-place-in-Commit.is in
    let same : c.as_slice.result.now ≡ ops_of_point txns c.args.point = c.as_slice.ensures ∙ ap (λ t. t.ops) (sym c.index-txns-place-in-Commit.is) ∙ sym (ops_is txns place txn at) ∙ sym (ap (ops_of_point txns) c.in-Commit.is) in
    subst (λ ops. IfOk c.run_ops.result (λ yes. IsTrue yes → AreAfter ops c.args.lists.now c.run_ops.new.lists)) same c.run_ops.ensures.after
