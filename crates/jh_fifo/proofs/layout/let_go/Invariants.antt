use Rattle.std.proofs.Common.{ℕ, ◌<◌, ◌≤◌, List, length}
use Rattle.jh_fifo.specs.declared.operations.FifoOp.{FifoOp}
use Rattle.jh_fifo.specs.Layout.{IsLaid, CanGoThrough}
use Rattle.jh_fifo.specs.Reasons.{EnqueuedOnce}
use Rattle.jh_fifo.specs.Times.{never}
use Rattle.jh_fifo.specs.Spans.{span_at}
use Rattle.jh_fifo.proofs.layout.let_go.Given as goal

abbrev pub invariant-loop-number : goal.invariant-loop-number
invariant-loop-number l = (ops : List FifoOp) → EnqueuedOnce ops → CanGoThrough ops l.spans → l.until < never
    → ((later : ℕ) → l.come ≤ later → later < length l.spans → l.until ≤ (span_at l.spans later).from)
    → IsLaid ops l.spans l.fn.gone l.come l.initial.order.items → IsLaid ops l.spans l.number l.come l.order.items
