use Rattle.std.proofs.Common.{◌<◌, Some, set, [], ◌∷◌, length, sym, subst, ◌∙◌}
use Rattle.std.proofs.lemmas.Bool.{false≢true}
use Rattle.jh_txn.specs.Transactions.{IsKeyBelow}
use Rattle.jh_txn_seen.specs.Inside.{NotesUnread}
use Rattle.jh_txn_seen.proofs.MiddleLemmas.{notes_set}
use Rattle.jh_txn_seen.proofs.middles.note_op.Goals as goal

pub returns-then-not-is_marked : goal.returns-then-not-is_marked
returns-then-not-is_marked c =
    let low : c.in-Append.key < length c.args.table.now = subst (IsKeyBelow (length c.args.table.now)) c.in-Append.is c.requires in
    subst (λ op. NotesUnread c.args.marks.now c.args.place (op ∷ []) c.args.table.now (set c.args.table.now c.in-Append.key (Some (record { place = c.args.place; element = c.in-Append.element })))) (sym c.in-Append.is)
    (notes_set c.args.marks.now c.args.place c.in-Append.key c.in-Append.element c.args.table.now low (λ h. false≢true (c.if-not-is_marked.ensures ∙ h)))
