use Rattle.std.proofs.Common.{◌≡◌, ◌<◌, ◌+◌, ◌≤◌, ℕ, true, false, List, [], length, replicate, set, sym, ap, subst, ◌∙◌, inl, inr, arith}
use Rattle.std.specs.Prelude.{◌⊎◌}
use Rattle.jh_fifo.specs.Lines.{IsStep, IsTaking}
use Rattle.jh_fifo.specs.declared.turn.Step.TheVariants.{TakeFirst, TakeSecond}
use Rattle.jh_fifo.specs.Sorted.{key_entry_at}
use Rattle.jh_fifo.proofs.LineLemmas.{taking_none, taking_all, take_first, take_second, inside_left}
use Rattle.jh_fifo.proofs.turn.in_turn.Goals.{then-loop-early-test+else-late-len, else-loop-early-test}
use Rattle.jh_fifo.proofs.turn.in_turn.Goals as goal

pub loop-early-init : goal.loop-early-init
loop-early-init c =
    let spans = c.args.spans.now in
    let entered = c.in_ok-entered.entered.items in
    let left = c.in_ok-left.left.items in
    let e = c.in_ok-line.ensures {u = tt} in
    let line = c.in_ok-line.line in
    subst (λ taken. IsTaking spans entered left taken line.turn.items line.from line.leaving 0 0) (sym e.taken)
    (subst (λ turn. IsTaking spans entered left (replicate (length spans) false) turn line.from line.leaving 0 0) (sym e.turn)
    (subst (λ from. IsTaking spans entered left (replicate (length spans) false) [] from line.leaving 0 0) (sym e.from)
    (subst (λ leaving. IsTaking spans entered left (replicate (length spans) false) [] 0 leaving 0 0) (sym e.leaving)
    (taking_none spans c.requires.fair c.requires.apart entered left (c.in_ok-entered.ensures {u = tt}) (c.in_ok-left.ensures {u = tt})))))

pub take-requires-in-TakeSecond-clause-number : goal.take-requires-in-TakeSecond-clause-number
take-requires-in-TakeSecond-clause-number c =
    let is : c.index_at-second.result ≡ (key_entry_at c.in_ok-left.left.items c.loop-early.late).1 = c.index_at-second.ensures ∙ ap (λ (xs : List (ℕ × ℕ)). (key_entry_at xs c.loop-early.late).1) c.deref-in-loop-early.ensures.value in
    subst (λ k. k < length c.args.spans.now) (sym is) (inside_left c.args.spans.now c.requires.fair c.requires.apart c.in_ok-entered.entered.items c.in_ok-left.left.items (c.in_ok-entered.ensures {u = tt}) (c.in_ok-left.ensures {u = tt}) c.loop-early.late (omega (arith, c.in_ok-left.left.ok.0, c.len-in-loop-early.ensures, c.if-late-len.true)))

pub take-requires-in-TakeSecond-clause-taken : goal.take-requires-in-TakeSecond-clause-taken
take-requires-in-TakeSecond-clause-taken c =
    let is : c.index_at-second.result ≡ (key_entry_at c.in_ok-left.left.items c.loop-early.late).1 = c.index_at-second.ensures ∙ ap (λ (xs : List (ℕ × ℕ)). (key_entry_at xs c.loop-early.late).1) c.deref-in-loop-early.ensures.value in
    subst (λ k. k < length c.loop-early.line.taken.items) (sym is)
    (subst (λ n. (key_entry_at c.in_ok-left.left.items c.loop-early.late).1 < n) (sym c.loop-early.invariant.line.same)
    (inside_left c.args.spans.now c.requires.fair c.requires.apart c.in_ok-entered.entered.items c.in_ok-left.left.items (c.in_ok-entered.ensures {u = tt}) (c.in_ok-left.ensures {u = tt}) c.loop-early.late (omega (arith, c.in_ok-left.left.ok.0, c.len-in-loop-early.ensures, c.if-late-len.true))))

pub loop-early-preserved : goal.loop-early-preserved
loop-early-preserved c =
    let spans = c.args.spans.now in
    let entered = c.in_ok-entered.entered.items in
    let left = c.in_ok-left.left.items in
    let l = c.loop-early in
    let low : l.early < length entered = omega (arith, c.in_ok-entered.entered.ok.0, c.len.ensures, c.loop-early-test.true) in
    let low_left : l.late < length left = omega (arith, c.in_ok-left.left.ok.0, c.len-in-loop-early.ensures, c.if-late-len.true) in
    let first_is : c.index_at-first.result ≡ (key_entry_at entered l.early).1 = c.index_at-first.ensures ∙ ap (λ (xs : List (ℕ × ℕ)). (key_entry_at xs l.early).1) c.deref.ensures.value in
    let second_is : c.index_at-second.result ≡ (key_entry_at left l.late).1 = c.index_at-second.ensures ∙ ap (λ (xs : List (ℕ × ℕ)). (key_entry_at xs l.late).1) c.deref-in-loop-early.ensures.value in
    let step : IsStep spans l.line.taken.items c.index_at-first.result c.index_at-second.result TakeSecond = subst (λ taken. IsStep spans taken c.index_at-first.result c.index_at-second.result TakeSecond) c.deref-in-loop-early-2.ensures.value c.in-TakeSecond.ensures in
    let e = c.in_ok-take-in-TakeSecond.ensures {u = tt} in
    let new = c.take-in-TakeSecond.new.line in
    subst (λ taken. IsTaking spans entered left taken new.turn.items new.from new.leaving l.early (l.late + 1)) (sym e.taken)
    (subst (λ turn. IsTaking spans entered left (set l.line.taken.items c.index_at-second.result true) turn new.from new.leaving l.early (l.late + 1)) (sym e.turn)
    (take_second spans c.requires.fair c.requires.apart entered left (c.in_ok-entered.ensures {u = tt}) (c.in_ok-left.ensures {u = tt}) l.line.taken.items l.line.turn.items l.line.from l.line.leaving l.early l.late l.invariant
    c.index_at-first.result c.index_at-second.result low low_left first_is second_is new.from new.leaving step.1 step.2 e.from e.leaving))

pub loop-early-preserved-in-TakeFirst : goal.loop-early-preserved-in-TakeFirst
loop-early-preserved-in-TakeFirst c =
    let spans = c.args.spans.now in
    let entered = c.in_ok-entered.entered.items in
    let left = c.in_ok-left.left.items in
    let l = c.loop-early in
    let low : l.early < length entered = omega (arith, c.in_ok-entered.entered.ok.0, c.len.ensures, c.loop-early-test.true) in
    let low_left : l.late < length left = omega (arith, c.in_ok-left.left.ok.0, c.len-in-loop-early.ensures, c.if-late-len.true) in
    let first_is : c.index_at-first.result ≡ (key_entry_at entered l.early).1 = c.index_at-first.ensures ∙ ap (λ (xs : List (ℕ × ℕ)). (key_entry_at xs l.early).1) c.deref.ensures.value in
    let second_is : c.index_at-second.result ≡ (key_entry_at left l.late).1 = c.index_at-second.ensures ∙ ap (λ (xs : List (ℕ × ℕ)). (key_entry_at xs l.late).1) c.deref-in-loop-early.ensures.value in
    let step : IsStep spans l.line.taken.items c.index_at-first.result c.index_at-second.result TakeFirst = subst (λ taken. IsStep spans taken c.index_at-first.result c.index_at-second.result TakeFirst) c.deref-in-loop-early-2.ensures.value c.in-TakeFirst.ensures in
    let e = c.in_ok-take-in-TakeFirst.ensures {u = tt} in
    let new = c.take.new.line in
    subst (λ taken. IsTaking spans entered left taken new.turn.items new.from new.leaving (l.early + 1) l.late) (sym e.taken)
    (subst (λ turn. IsTaking spans entered left (set l.line.taken.items c.index_at-first.result true) turn new.from new.leaving (l.early + 1) l.late) (sym e.turn)
    (take_first spans c.requires.fair c.requires.apart entered left (c.in_ok-entered.ensures {u = tt}) (c.in_ok-left.ensures {u = tt}) l.line.taken.items l.line.turn.items l.line.from l.line.leaving l.early l.late l.invariant
    c.index_at-first.result c.index_at-second.result low low_left first_is second_is new.from new.leaving step.0 step.1 e.from e.leaving))

pub returns : goal.returns
returns c =
    let l = c.loop-early in
    let entered = c.in_ok-entered.entered.items in
    let left = c.in_ok-left.left.items in
    taking_all c.args.spans.now c.requires.fair c.requires.apart entered left (c.in_ok-entered.ensures {u = tt}) (c.in_ok-left.ensures {u = tt}) l.line.taken.items l.line.turn.items l.line.from l.line.leaving l.early l.late l.invariant
    (elim c.loop-early-test.branch as (λ _. (length entered ≤ l.early) ⊎ (length left ≤ l.late)) [
      | then-loop-early-test+else-late-len w ↦ inr (omega (arith, c.in_ok-left.left.ok.0, w.len-in-loop-early.ensures, w.if-late-len.false))
      | else-loop-early-test w ↦ inl (omega (arith, c.in_ok-entered.entered.ok.0, c.len.ensures, w.loop-early-test.false))
    ])
