use Rattle.std.proofs.Common.{◌<◌, ◌≤◌, ◌||◌, [], ◌∷◌, length, take, sym, subst, arith}
use Rattle.std.proofs.lemmas.List.{take_all}
use Rattle.jh_txn_histories.specs.ReadingInside.{NotesAppends, written, written_ops}
use Rattle.jh_txn_histories.specs.Written.{appends_of}
use Rattle.jh_txn_histories.proofs.NoteLemmas.{appends_more, notes_then}
use Rattle.jh_txn_histories.proofs.repeats.note_ops.Goals as goal

pub loop-op-preserved : goal.loop-op-preserved
loop-op-preserved c =
    let ops = c.args.ops.now in
    let i = c.loop-op.op-index in
    let low : i < length ops = omega arith in
    subst (λ xs. NotesAppends c.args.tables.now c.note_op.new.tables xs (c.loop-op.again || c.in_ok-again.field-0)) (sym (appends_more ops i c.op-item.result low c.op-item.is))
    (notes_then c.args.tables.now c.loop-op.tables c.note_op.new.tables (appends_of (written_ops (take i ops))) (appends_of (written c.op-item.result ∷ [])) c.loop-op.again c.in_ok-again.field-0 c.loop-op.invariant c.in_ok-again.ensures)

pub returns : goal.returns
returns c =
    let ops = c.args.ops.now in
    let past : length ops ≤ c.loop-op.op-index = omega arith in
    subst (λ xs. NotesAppends c.args.tables.now c.loop-op.tables (appends_of (written_ops xs)) c.loop-op.again) (take_all c.loop-op.op-index ops past) c.loop-op.invariant
