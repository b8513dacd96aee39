use Rattle.std.proofs.Common.{◌≡◌, ℕ, ◌+◌, ◌<◌, ◌≤◌, [], ◌∷◌, ◌++◌, length, sym, ap, subst, ◌∙◌, arith}
use Rattle.jh_fifo.specs.declared.operations.FifoCall.TheVariants.{Empty}
use Rattle.jh_fifo.specs.Layout.{IsLaid}
use Rattle.jh_fifo.specs.Reasons.{call_at}
use Rattle.jh_fifo.specs.Times.{never}
use Rattle.jh_fifo.specs.Spans.{span_at}
use Rattle.jh_fifo.proofs.LayoutLemmas.{if_yes, if_no, begin, waits_le, come_value, come_empty, finish}
use Rattle.jh_fifo.proofs.layout.order_of.Goals.{then-finds_empty, else-finds_empty}
use Rattle.jh_fifo.proofs.layout.order_of.Goals as goal

pub loop-come-init : goal.loop-come-init
loop-come-init c = subst (λ v. IsLaid c.args.ops.now c.args.spans.now 0 0 v) (sym c.new-order.ensures.items) (begin c.args.ops.now c.args.spans.now c.requires.once c.requires.turn)

pub let_go-requires-clause-turn : goal.let_go-requires-clause-turn
let_go-requires-clause-turn c = waits_le c.args.ops.now c.args.spans.now c.loop-come.invariant.queue c.loop-come.gone c.loop-come.come c.loop-come.invariant.waits

pub loop-come-preserved : goal.loop-come-preserved
loop-come-preserved c =
    let ops = c.args.ops.now in
    let spans = c.args.spans.now in
    let l = c.loop-come in
    let once = c.requires.once in
    let turn = c.requires.turn in
    let low : l.come < length spans = c.loop-come-test.true in
    let is : c.span_of-span.result ≡ span_at spans l.come = c.span_of-span.ensures in
    let soon : c.span_of-span.result.from < never = subst (λ s. s.from < never) (sym is) (turn.each l.come low).soon in
    let later : (i : ℕ) → l.come ≤ i → i < length spans → c.span_of-span.result.from ≤ (span_at spans i).from = λ i above below.
    subst (λ s. s.from ≤ (span_at spans i).from) (sym is) (turn.come_in_turn l.come i above below) in
    let laid = c.in_ok-gone.ensures.laid ops once turn soon later l.invariant in
    let early : c.in_ok-gone.gone < l.come → (span_at spans l.come).from < (span_at spans c.in_ok-gone.gone).leaving = λ lt.
    subst (λ s. s.from < (span_at spans c.in_ok-gone.gone).leaving) is (c.in_ok-gone.ensures.waits lt) in
    let place : c.span_of-span.result.place ≡ (span_at spans l.come).place = ap (λ s. s.place) is in
    let pushed = sym (c.in_ok-push.ensures.items ∙ ap (λ p. c.let_go.new.order.items ++ p ∷ []) place) in
    elim c.if-finds_empty.branch as (λ _. IsLaid ops spans c.if-finds_empty.gone (l.come + 1) c.push.new.self.items) [
      | then-finds_empty w ↦
          subst (λ n. IsLaid ops spans n (l.come + 1) c.push.new.self.items) (sym w.gone-is)
          (subst (λ v. IsLaid ops spans (l.come + 1) (l.come + 1) v) pushed (come_empty ops spans once turn c.in_ok-gone.gone l.come c.let_go.new.order.items laid low early (subst (λ p. call_at ops p ≡ Empty) place (if_yes _ _ c.finds_empty.ensures w.if-finds_empty.true))))
      | else-finds_empty w ↦
          subst (λ n. IsLaid ops spans n (l.come + 1) c.push.new.self.items) (sym w.gone-is)
          (subst (λ v. IsLaid ops spans c.in_ok-gone.gone (l.come + 1) v) pushed (come_value ops spans once turn c.in_ok-gone.gone l.come c.let_go.new.order.items laid low early (λ empty. if_no _ _ c.finds_empty.ensures w.if-finds_empty.false (subst (λ p. call_at ops p ≡ Empty) (sym place) empty))))
    ]

pub let_go-requires-2-clause-turn : goal.let_go-requires-2-clause-turn
let_go-requires-2-clause-turn c =
    let le = waits_le c.args.ops.now c.args.spans.now c.loop-come.invariant.queue c.loop-come.gone c.loop-come.come c.loop-come.invariant.waits in
    omega (arith, le, c.loop-come.auto.come-end)

pub returns : goal.returns
returns c =
    let ops = c.args.ops.now in
    let spans = c.args.spans.now in
    let l = c.loop-come in
    let end : l.come ≡ length spans = omega (arith, c.loop-come-test.false, c.loop-come.auto.come-end) in
    let invariant : IsLaid ops spans l.gone (length spans) l.order.items = subst (λ n. IsLaid ops spans l.gone n l.order.items) end l.invariant in
    let laid = c.in_ok-let_go.ensures.laid ops c.requires.once c.requires.turn (omega arith) (λ i above below. absurd (omega (arith, above, below))) invariant in
    finish ops spans c.requires.once c.requires.turn c.in_ok-let_go.field-0 c.let_go-2.new.order.items laid (λ lt. let w = c.in_ok-let_go.ensures.waits lt in omega (arith, w))
