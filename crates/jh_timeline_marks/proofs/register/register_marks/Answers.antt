use Rattle.std.proofs.Common.{◌≡◌, subst, sym}
use Rattle.std.specs.Prelude.{IfOk, List, ℕ}
use Rattle.jh_linear.specs.declared.verdict.LinVerdict.{LinVerdict}
use Rattle.jh_ops.specs.Operation.{operations}
use Rattle.jh_timeline_marks.specs.Marked.{marks_by, ordered_note, register_note}
use Rattle.jh_timeline_marks.proofs.register.register_marks.Goals as goal

pub returns-in-Valid : goal.returns-in-Valid
returns-in-Valid c =
    let history = operations c.args.history.now in
    let calls = c.args.calls.now in
    subst (λ (judged : LinVerdict). IfOk c.valid_marks.result (λ marks. marks.items ≡ marks_by (register_note judged c.args.explanation.now history) calls)) (sym c.in-Valid.is)
    (subst (λ (order : List ℕ). IfOk c.valid_marks.result (λ marks. marks.items ≡ marks_by (ordered_note order history) calls)) c.as_slice.ensures c.valid_marks.ensures)
