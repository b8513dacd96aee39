use Rattle.std.proofs.Common.{◌≡◌, ◌<◌, ◌↔◌, IsTrue, Some, length, subst, sym, ◌∙◌, refl, ap}
use Rattle.std.specs.Prelude.{slice_get}
use Rattle.std.proofs.lemmas.Option.{slice_get_read}
use Rattle.jh_txn.specs.SnapshotCheckInside.{AreWritersAfter, AreWritersBehind, MayDoAll, MayPass, place_of_point}
use Rattle.jh_txn.specs.Transactions.{ops_at}
use Rattle.jh_txn.proofs.StartLemmas.{ops_is}
use Rattle.jh_txn.proofs.writers.pass.Goals as goal

pub returns-in-Start-clause-may : goal.returns-in-Start-clause-may
returns-in-Start-clause-may c =
    let txns = c.args.txns.now in
    let last = c.args.last.now in
    let over = c.args.over.now in
    let place = c.in-Start.place in
    let txn = c.index-txns-place.result in
    let low : place < length txns = subst (λ point. place_of_point point < length txns) c.in-Start.is c.requires.there in
    let at : slice_get txns place ≡ Some txn = slice_get_read txns (length txns) place txn refl low c.index-txns-place.is in
    let same : c.as_slice.result.now ≡ ops_at txns place = c.as_slice.ensures ∙ ap (λ t. t.ops) (sym c.index-txns-place.is) ∙ sym (ops_is txns place txn at) in
    subst (λ point. IsTrue c.write_all.result ↔ MayPass txns last over point) (sym c.in-Start.is)
    (subst (λ ops. IsTrue c.write_all.result ↔ MayDoAll last over place ops) same c.write_all.ensures.may)

pub returns-in-Start-clause-last : goal.returns-in-Start-clause-last
returns-in-Start-clause-last c =
    let txns = c.args.txns.now in
    let last = c.args.last.now in
    let place = c.in-Start.place in
    let txn = c.index-txns-place.result in
    let low : place < length txns = subst (λ point. place_of_point point < length txns) c.in-Start.is c.requires.there in
    let at : slice_get txns place ≡ Some txn = slice_get_read txns (length txns) place txn refl low c.index-txns-place.is in
    let same : c.as_slice.result.now ≡ ops_at txns place = c.as_slice.ensures ∙ ap (λ t. t.ops) (sym c.index-txns-place.is) ∙ sym (ops_is txns place txn at) in
    subst (λ point. IsTrue c.write_all.result → AreWritersBehind txns point last c.write_all.new.last) (sym c.in-Start.is)
    (subst (λ ops. IsTrue c.write_all.result → AreWritersAfter place ops last c.write_all.new.last) same c.write_all.ensures.after)
