use Rattle.std.proofs.Common.{◌≡◌, Some, [], length, refl, sym, ap, ◌∙◌}
use Rattle.std.specs.Prelude.{slice_get, unwrap_or, option_map}
use Rattle.std.proofs.lemmas.Option.{slice_get_read}
use Rattle.jh_txn.specs.declared.txn.Txn.{Txn}
use Rattle.jh_txn.specs.Transactions.{ops_at}
use Rattle.jh_txn_seen.proofs.MiddleLemmas.{noted_here, noted_unread}
use Rattle.jh_txn_seen.proofs.middles.note_txn.Goals as goal

pub returns-then-not-is_place-clause-unread : goal.returns-then-not-is_place-clause-unread
returns-then-not-is_place-clause-unread c =
    let txns = c.args.txns.now in
    let at : slice_get txns c.args.place ≡ Some c.index-txns-place.result = slice_get_read txns (length txns) c.args.place c.index-txns-place.result refl c.requires.place c.index-txns-place.is in
    let is : c.as_slice.result.now ≡ ops_at txns c.args.place = c.as_slice.ensures ∙ ap (λ (t : Txn). t.ops) (sym c.index-txns-place.is) ∙ sym (ap (λ o. unwrap_or (option_map (λ (t : Txn). t.ops) o) []) at) in
    noted_unread txns c.args.marks.now c.args.place c.as_slice.result.now c.args.table.now c.note_unread.new.table is c.note_unread.ensures c.requires.unread

pub returns-then-not-is_place-clause-noted : goal.returns-then-not-is_place-clause-noted
returns-then-not-is_place-clause-noted c =
    let txns = c.args.txns.now in
    let at : slice_get txns c.args.place ≡ Some c.index-txns-place.result = slice_get_read txns (length txns) c.args.place c.index-txns-place.result refl c.requires.place c.index-txns-place.is in
    let is : c.as_slice.result.now ≡ ops_at txns c.args.place = c.as_slice.ensures ∙ ap (λ (t : Txn). t.ops) (sym c.index-txns-place.is) ∙ sym (ap (λ o. unwrap_or (option_map (λ (t : Txn). t.ops) o) []) at) in
    noted_here txns c.args.marks.now c.args.place c.as_slice.result.now c.args.table.now c.note_unread.new.table is c.note_unread.ensures
