use Rattle.std.proofs.Common.{List, sym, subst}
use Rattle.jh_fifo.specs.declared.spans.Span.{Span}
use Rattle.jh_fifo.specs.declared.verdict.FifoReason.TheVariants.{OutOfOrder}
use Rattle.jh_fifo.specs.Layout.{CanGoThrough}
use Rattle.jh_fifo.specs.Lines.{IsLined, IsTurnOf, AreCrossedSpans}
use Rattle.jh_fifo.specs.Reasons.{AreCrossedAt}
use Rattle.jh_fifo.specs.Spans.{span_at}
use Rattle.jh_fifo.proofs.JudgeLemmas.{invalid}
use Rattle.jh_fifo.proofs.SpanLemmas.{turn_of, crossed_of}
use Rattle.jh_fifo.proofs.judge.judge_spans.Goals as goal

pub order_of-requires-clause-turn : goal.order_of-requires-clause-turn
order_of-requires-clause-turn c =
    let ops = c.args.ops.now in
    let spans = c.args.spans.now in
    let lined : IsLined spans c.in-All.turn.items = subst (λ t. IsTurnOf spans t) c.in-All.is (c.in_ok-first.ensures {u = tt}) in
    subst (λ (xs : List Span). CanGoThrough ops xs) (sym c.deref.ensures.value) (turn_of ops spans c.requires.spans c.in-All.turn.items lined)

pub returns-in-Crossed : goal.returns-in-Crossed
returns-in-Crossed c =
    let ops = c.args.ops.now in
    let spans = c.args.spans.now in
    let first = c.in-Crossed.first in
    let second = c.in-Crossed.second in
    let one = c.span_of-one.result in
    let other = c.span_of-other.result in
    let crossed : AreCrossedSpans spans first second = subst (λ t. IsTurnOf spans t) c.in-Crossed.is (c.in_ok-first.ensures {u = tt}) in
    let at : AreCrossedAt ops one.place other.place =
    subst (λ (s : Span). AreCrossedAt ops s.place other.place) (sym c.span_of-one.ensures)
    (subst (λ (s : Span). AreCrossedAt ops (span_at spans first).place s.place) (sym c.span_of-other.ensures) (crossed_of ops spans c.requires.spans c.requires.sound.taken_once first second crossed)) in
    invalid ops c.requires.sound.fit (OutOfOrder one.place other.place) at
