use Rattle.std.proofs.Common.{◌≡◌, ℕ, ◌+◌, List, length, sym, ap, subst, ◌∙◌, arith}
use Rattle.jh_fifo.specs.declared.spans.Span.{Span}
use Rattle.jh_fifo.proofs.ValueLemmas.{AreGathered, gathered_more, gathered_skip, gathered_all}
use Rattle.jh_fifo.proofs.values.values_of.Goals.{in-Some+in_ok-push, in_default}
use Rattle.jh_fifo.proofs.values.values_of.Goals as goal

pub loop-place-preserved : goal.loop-place-preserved
loop-place-preserved c =
    let l = c.loop-place in
    let ops = c.args.ops.now in
    elim c.match-span_for.branch as (λ _. AreGathered ops (l.place + 1) c.match-span_for.spans.items) [
      | in-Some+in_ok-push w ↦
          subst (λ (xs : List Span). AreGathered ops (l.place + 1) xs) (sym (ap (λ v. v.items) w.spans-is ∙ w.in_ok-push.ensures.items)) (gathered_more ops l.place l.spans.items l.invariant w.in-Some.span w.in-Some.ensures)
      | in_default w ↦
          subst (λ (xs : List Span). AreGathered ops (l.place + 1) xs) (sym (ap (λ v. v.items) w.spans-is)) (gathered_skip ops l.place l.spans.items l.invariant w.in_default.ensures)
    ]

pub returns : goal.returns
returns c =
    let l = c.loop-place in
    let ops = c.args.ops.now in
    let end : l.place ≡ length ops = omega (arith, c.loop-place-test.false, l.auto.place-end) in
    gathered_all ops l.spans.items c.requires.sound (subst (λ (n : ℕ). AreGathered ops n l.spans.items) end l.invariant)
