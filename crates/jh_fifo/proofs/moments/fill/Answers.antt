use Rattle.std.proofs.Common.{◌≡◌, ℕ, ◌+◌, ◌<◌, List, length, sym, ap, subst, ◌∙◌}
use Rattle.jh_fifo.specs.declared.spans.Span.{Span}
use Rattle.jh_fifo.specs.declared.moments.Sweep.{Sweep}
use Rattle.jh_fifo.specs.declared.operations.FifoCall.TheVariants.{Empty}
use Rattle.jh_fifo.specs.Moments.{IsFilling}
use Rattle.jh_fifo.specs.Reasons.{call_at}
use Rattle.jh_fifo.specs.Sorted.{key_entry_at}
use Rattle.jh_fifo.proofs.LayoutLemmas.{if_yes, if_no}
use Rattle.jh_fifo.proofs.MomentLemmas.{filling_none, filling_skip, filling_more, filling_all, inside_ops, is_never}
use Rattle.jh_fifo.proofs.moments.fill.Goals.{then-finds_empty+else-is_over+in_ok-push, else-finds_empty}
use Rattle.jh_fifo.proofs.moments.fill.Goals as goal

pub loop-number-init : goal.loop-number-init
loop-number-init c =
    subst (λ (xs : List Span). IsFilling c.args.ops.now c.args.values.now c.args.entered.now c.args.invoked.now 0 xs 0 0) (sym c.requires.spans)
    (filling_none c.args.ops.now c.requires.once c.args.values.now c.requires.values c.args.entered.now c.args.invoked.now c.requires.invoked)

pub finds_empty-requires : goal.finds_empty-requires
finds_empty-requires c = subst (λ (k : ℕ). k < length c.args.ops.now) (sym c.index_at-place.ensures)
    (inside_ops c.args.ops.now c.requires.once c.args.values.now c.requires.values c.args.entered.now c.args.invoked.now c.requires.invoked c.loop-number.number c.loop-number-test.true)

pub no_earlier-requires : goal.no_earlier-requires
no_earlier-requires c = subst (λ (k : ℕ). k < length c.args.ops.now) (sym c.index_at-place.ensures)
    (inside_ops c.args.ops.now c.requires.once c.args.values.now c.requires.values c.args.entered.now c.args.invoked.now c.requires.invoked c.loop-number.number c.loop-number-test.true)

pub is_over-requires : goal.is_over-requires
is_over-requires c = subst (λ (k : ℕ). k < length c.args.ops.now) (sym c.index_at-place.ensures)
    (inside_ops c.args.ops.now c.requires.once c.args.values.now c.requires.values c.args.entered.now c.args.invoked.now c.requires.invoked c.loop-number.number c.loop-number-test.true)

pub returns-then-is_over : goal.returns-then-is_over
returns-then-is_over c =
    let l = c.loop-number in
    let f = c.first_free-sweep in
    is_never c.args.ops.now c.requires.once c.args.values.now c.requires.values c.args.entered.now c.args.invoked.now c.requires.invoked l.number l.spans.items l.sweep.passed l.sweep.at l.invariant
    c.index_at-place.result c.loop-number-test.true c.index_at-place.ensures (if_yes _ _ c.finds_empty.ensures c.if-finds_empty.true) c.no_earlier.result.at f.result.at f.result.passed c.no_earlier.ensures.at
    f.ensures.later f.ensures.covered f.ensures.free f.ensures.swept (if_yes _ _ c.is_over.ensures.over c.if-is_over.true)

pub loop-number-preserved : goal.loop-number-preserved
loop-number-preserved c =
    let l = c.loop-number in
    let ops = c.args.ops.now in
    let values = c.args.values.now in
    let entered = c.args.entered.now in
    let invoked = c.args.invoked.now in
    let n = l.number + 1 in
    elim c.if-finds_empty.branch as (λ _. IsFilling ops values entered invoked n c.if-finds_empty.spans.items c.if-finds_empty.sweep.passed c.if-finds_empty.sweep.at) [
      | then-finds_empty+else-is_over+in_ok-push w ↦
          let f = w.first_free-sweep in
          subst (λ (s : Sweep). IsFilling ops values entered invoked n c.if-finds_empty.spans.items s.passed s.at) (sym w.sweep-is)
          (subst (λ (xs : List Span). IsFilling ops values entered invoked n xs f.result.passed f.result.at) (sym (ap (λ v. v.items) w.spans-is ∙ w.in_ok-push.ensures.items))
          (filling_more ops c.requires.once values c.requires.values entered invoked c.requires.invoked l.number l.spans.items l.sweep.passed l.sweep.at l.invariant
          c.index_at-place.result c.loop-number-test.true c.index_at-place.ensures (if_yes _ _ c.finds_empty.ensures w.if-finds_empty.true) w.no_earlier.result.at f.result.at f.result.passed w.no_earlier.ensures.at
          f.ensures.later f.ensures.covered f.ensures.free f.ensures.swept c.requires.done w.is_over.ensures.told (if_no _ _ w.is_over.ensures.over w.if-is_over.false) w.empty_span.result w.empty_span.ensures))
      | else-finds_empty w ↦
          let not : call_at ops (key_entry_at invoked l.number).1 ≡ Empty → ⊥ = λ h. if_no _ _ c.finds_empty.ensures w.if-finds_empty.false (subst (λ (k : ℕ). call_at ops k ≡ Empty) (sym c.index_at-place.ensures) h) in
          subst (λ (s : Sweep). IsFilling ops values entered invoked n c.if-finds_empty.spans.items s.passed s.at) (sym w.sweep-is)
          (subst (λ (xs : List Span). IsFilling ops values entered invoked n xs l.sweep.passed l.sweep.at) (sym (ap (λ v. v.items) w.spans-is))
          (filling_skip ops c.requires.once values c.requires.values entered invoked c.requires.invoked l.number l.spans.items l.sweep.passed l.sweep.at l.invariant not))
    ]

pub returns : goal.returns
returns c =
    let l = c.loop-number in
    filling_all c.args.ops.now c.requires.once c.args.values.now c.requires.values c.args.entered.now c.args.invoked.now c.requires.invoked l.number l.spans.items l.sweep.passed l.sweep.at l.invariant c.loop-number-test.false
