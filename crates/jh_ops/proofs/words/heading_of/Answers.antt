use Rattle.std.proofs.Common.{◌≡◌, true, false, None, Some, sym, ◌∙◌}
use Rattle.jh_ops.specs.Operation.{operation}
use Rattle.jh_ops.specs.RecordParts.{IsPlain}
use Rattle.jh_ops.proofs.RecordLemmas.{heading_is, kept_shape, shape_in, kept_fits}
use Rattle.jh_ops.proofs.words.heading_of.Goals as goal

pub returns-in_err-shape : goal.returns-in_err-shape
returns-in_err-shape c =
    rw c.from_residual-in_err-shape.ensures (λ r can same. absurd (
    let clash : None ≡ Some (shape_in r.content) = c.in_err-shape.ensures ∙ kept_shape (operation c.args.op.now) r same in cc
    ))

pub returns-then-not-may_have : goal.returns-then-not-may_have
returns-then-not-may_have c r can same =
    let fits = kept_fits (operation c.args.op.now) r c.in_ok-function.function c.in_ok-shape.shape can same (sym c.in_ok-function.ensures) (sym c.in_ok-shape.ensures) in
    let clash : false ≡ true = sym c.if-not-may_have.true ∙ c.may_have.ensures ∙ rw c.count_of-count.ensures fits in
    absurd cc

pub returns : goal.returns
returns c =
    let op = operation c.args.op.now in
    let event = rw c.as_slice.ensures at c.in_ok-event.ensures.word in
    let function = sym c.in_ok-function.ensures in
    let shape = sym c.in_ok-shape.ensures in
    let plain : IsPlain op = c.is_plain.ensures.0 c.if-not-is_plain.false in
    let fits = sym c.may_have.ensures ∙ c.if-not-may_have.false in
    rw (c.word.ensures, c.process_word.ensures) (heading_is op c.in_ok-function.function c.in_ok-shape.shape c.in_ok-event.event (sym event) c.in_ok-event.ensures.small function shape plain (rw c.count_of-count.ensures at fits))
