use Rattle.jh_fifo.specs.Layout.{IsLaid}
use Rattle.jh_fifo.proofs.layout.order_of.Given as goal

abbrev pub invariant-loop-come : goal.invariant-loop-come
invariant-loop-come l = IsLaid l.ops l.spans l.gone l.come l.order.items
