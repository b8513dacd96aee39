use Rattle.std.proofs.Common.{◌≡◌, ℕ, ◌<◌, ◌≤◌, length, max, ap, subst, ◌∙◌, arith}
use Rattle.jh_fifo.specs.declared.spans.Span.{Span}
use Rattle.jh_fifo.specs.Sorted.{key_entry_at}
use Rattle.jh_fifo.specs.Spans.{span_at}
use Rattle.jh_fifo.proofs.MomentLemmas.{covered_more, swept_more, is_free}
use Rattle.jh_fifo.proofs.moments.first_free.Goals as goal

pub returns-then-at-span-clause-free : goal.returns-then-at-span-clause-free
returns-then-at-span-clause-free c =
    let values = c.args.values.now in
    let entered = c.args.entered.now in
    let l = c.loop-number in
    let is : c.span_of-span.result ≡ span_at values (key_entry_at entered l.number).1 = c.span_of-span.ensures ∙ ap (λ (k : ℕ). span_at values k) c.index_at.ensures in
    is_free values entered c.requires.sorted l.number l.at l.invariant.swept (λ low. subst (λ (s : Span). l.at ≤ s.entered) is c.if-at-span.true)

pub loop-number-preserved : goal.loop-number-preserved
loop-number-preserved c =
    let values = c.args.values.now in
    let entered = c.args.entered.now in
    let l = c.loop-number in
    let low : l.number < length entered = omega (arith, c.loop-number-test.true) in
    let is : c.span_of-span.result ≡ span_at values (key_entry_at entered l.number).1 = c.span_of-span.ensures ∙ ap (λ (k : ℕ). span_at values k) c.index_at.ensures in
    let next_is : c.max-at.result ≡ max l.at (span_at values (key_entry_at entered l.number).1).leaving = c.max-at.ensures ∙ ap (λ (s : Span). max l.at s.leaving) is in
    let lt : (span_at values (key_entry_at entered l.number).1).entered < l.at = subst (λ (s : Span). s.entered < l.at) is c.if-at-span.false in
    record {
      later = (let a = l.invariant.later in omega (arith, a, next_is));
      covered = covered_more values entered c.requires.sorted l.number c.args.sweep.at l.at c.max-at.result low lt next_is l.invariant.covered;
      swept = swept_more values entered c.requires.sorted l.number l.at c.max-at.result next_is l.invariant.swept;
    }

pub returns-clause-free : goal.returns-clause-free
returns-clause-free c =
    let l = c.loop-number in
    is_free c.args.values.now c.args.entered.now c.requires.sorted l.number l.at l.invariant.swept (λ low. absurd (omega (arith, low, c.loop-number-test.false)))
