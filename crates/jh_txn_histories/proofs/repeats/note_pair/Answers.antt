use Rattle.std.proofs.Common.{◌≡◌, ◌∙◌, Bool, Some, option_map, sym, ap, subst}
use Rattle.std.specs.Prelude.{if◌then◌else◌, None}
use Rattle.jh_ops.specs.Operation.{operations}
use Rattle.jh_txn_histories.specs.Histories.{txn_asked}
use Rattle.jh_txn_histories.specs.ReadingInside.{NotesAppends, NotesPair, written_ops}
use Rattle.jh_txn_histories.specs.Written.{appends_of}
use Rattle.jh_txn_histories.proofs.NoteLemmas.{notes_pair}
use Rattle.jh_txn_histories.proofs.repeats.note_pair.Goals as goal

pub returns-then-branch : goal.returns-then-branch
returns-then-branch c =
    let history = operations c.args.history.now in
    let ops = written_ops c.in-Some.asked.items in
    let is : txn_asked history c.args.pair ≡ Some ops = sym c.in_ok-asked.ensures ∙ ap (λ o. option_map (λ os. written_ops os.items) o) c.in-Some.is in
    let noted = subst (λ os. NotesAppends c.args.tables.now c.note_ops.new.tables (appends_of (written_ops os)) c.in_ok-note_ops.field-0) c.deref.ensures.value c.in_ok-note_ops.ensures in
    subst (λ (b : Bool). NotesPair history c.args.tables.now c.note_ops.new.tables c.args.pair (if b then Some c.args.pair.invoke else None)) c.if-branch.true
    (notes_pair history c.args.tables.now c.note_ops.new.tables c.args.pair ops c.in_ok-note_ops.field-0 is noted)

pub returns : goal.returns
returns c =
    let history = operations c.args.history.now in
    let ops = written_ops c.in-Some.asked.items in
    let is : txn_asked history c.args.pair ≡ Some ops = sym c.in_ok-asked.ensures ∙ ap (λ o. option_map (λ os. written_ops os.items) o) c.in-Some.is in
    let noted = subst (λ os. NotesAppends c.args.tables.now c.note_ops.new.tables (appends_of (written_ops os)) c.in_ok-note_ops.field-0) c.deref.ensures.value c.in_ok-note_ops.ensures in
    subst (λ (b : Bool). NotesPair history c.args.tables.now c.note_ops.new.tables c.args.pair (if b then Some c.args.pair.invoke else None)) c.if-branch.false
    (notes_pair history c.args.tables.now c.note_ops.new.tables c.args.pair ops c.in_ok-note_ops.field-0 is noted)
