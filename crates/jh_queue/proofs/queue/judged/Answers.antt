use Rattle.std.proofs.Common.{◌≡◌, ℕ, ◌<◌, ◌∙◌, List, sym, subst, length, rules}
use Rattle.std.specs.Prelude.{Option, Some, None}
use Rattle.std.proofs.lemmas.List.{length-map}
use Rattle.jh_ops.specs.Operation.{operation, operations}
use Rattle.jh_queue.specs.Queue.{finds_none}
use Rattle.jh_queue.specs.QueueInside.{IsFirstWithNone, passages}
use Rattle.jh_queue.specs.declared.passages.ValueAt.{ValueAt}
use Rattle.jh_queue.proofs.FirstLemmas.{found_within, found_first, found_none, found_count}
use Rattle.jh_queue.proofs.queue.judged.Goals as goal

-- what was looked for, in the vectors themselves
found : (ins outs ins' outs' : List ValueAt) (first first' : Option ℕ) → ins ≡ ins' → outs ≡ outs' → first ≡ first'
    → IsFirstWithNone (finds_none (passages ins) (passages outs)) (passages outs) first → IsFirstWithNone (finds_none (passages ins') (passages outs')) (passages outs') first'
found ins outs ins' outs' first first' a b e h = subst (λ w. w) (λ i. IsFirstWithNone (finds_none (passages (a i)) (passages (b i))) (passages (b i)) (e i)) h

pub copy_at-requires : goal.copy_at-requires
copy_at-requires c =
    let history = operations c.args.history.now in
    let first = found c.deref.result.now c.deref-2.result.now c.in_ok-ins.ins.items c.in_ok-outs.outs.items c.first_without.result (Some c.in-Some.place) c.deref.ensures.value c.deref-2.ensures.value c.in-Some.is c.first_without.ensures in
    let less = found_within history c.args.pairs.now c.in_ok-enqueues.field-0.items c.in_ok-ins.ins.items c.in_ok-dequeues.field-0.items c.in_ok-outs.outs.items c.in_ok-enqueues.ensures c.in_ok-dequeues.ensures c.in_ok-ins.ensures.permutation c.in_ok-outs.ensures.permutation c.in-Some.place first in
    subst (λ n. c.in-Some.place < n) (length-map c.args.history.now operation) less

pub returns-in-Some : goal.returns-in-Some
returns-in-Some c =
    let history = operations c.args.history.now in
    let first = found c.deref.result.now c.deref-2.result.now c.in_ok-ins.ins.items c.in_ok-outs.outs.items c.first_without.result (Some c.in-Some.place) c.deref.ensures.value c.deref-2.ensures.value c.in-Some.is c.first_without.ensures in
    let at = found_first history c.args.pairs.now c.in_ok-enqueues.field-0.items c.in_ok-ins.ins.items c.in_ok-dequeues.field-0.items c.in_ok-outs.outs.items c.in_ok-enqueues.ensures c.in_ok-dequeues.ensures c.in_ok-ins.ensures.permutation c.in_ok-outs.ensures.permutation c.in-Some.place first in
    (at.0, at.1, sym at.2, c.in_ok-copy_at-in-Some.ensures)

pub returns : goal.returns
returns c =
    let history = operations c.args.history.now in
    let first = found c.deref.result.now c.deref-2.result.now c.in_ok-ins.ins.items c.in_ok-outs.outs.items c.first_without.result None c.deref.ensures.value c.deref-2.ensures.value c.in-None.is c.first_without.ensures in
    let long : c.len.result ≡ length c.in_ok-outs.outs.items = search rules in (
      found_none history c.args.pairs.now c.in_ok-enqueues.field-0.items c.in_ok-ins.ins.items c.in_ok-dequeues.field-0.items c.in_ok-outs.outs.items c.in_ok-enqueues.ensures c.in_ok-dequeues.ensures c.in_ok-ins.ensures.permutation c.in_ok-outs.ensures.permutation first,
      long ∙ found_count history c.args.pairs.now c.in_ok-enqueues.field-0.items c.in_ok-ins.ins.items c.in_ok-dequeues.field-0.items c.in_ok-outs.outs.items c.in_ok-enqueues.ensures c.in_ok-dequeues.ensures c.in_ok-ins.ensures.permutation c.in_ok-outs.ensures.permutation,
    )
