use Rattle.std.proofs.Common.{◌≡◌, ◌∙◌, ◌<◌, length, append_assoc, arith, rules, ap, sym, refl, take, length-append, List, ◌∷◌, ◌++◌, [], Bool, true, false, inl, inr, take-append-drop}
use Rattle.jh_nemesis.specs.declared.steps.Step.{Step}
use Rattle.std.specs.Vec.Iter.{into_iter_items}
use Rattle.std.proofs.lemmas.List.Elements.{All-head, All-tail}
use Rattle.jh_nemesis.specs.Work.{NemesisValue}
use Rattle.jh_nemesis.specs.Steps.{StepFits, is_free}
use Rattle.jh_nemesis.proofs.StepLemmas.{all_fit, step_more}
use Rattle.jh_nemesis.proofs.nemesis.Nemesis.apply_all.Goals as goal

pub apply-requires : goal.apply-requires
apply-requires c =
    let rest = into_iter_items c.next.new.self in
    All-head (StepFits c.loop-step.self.state) c.in-Some.step rest (rw c.in-Some.ensures.steps.0 at c.loop-step.invariant.fit)

pub loop-step-preserved : goal.loop-step-preserved
loop-step-preserved c =
    let rest = into_iter_items c.next.new.self in
    let parsed = rw c.in-Some.ensures.steps.0 at c.loop-step.invariant.parsed in
    let after = rw c.in-Some.ensures.steps.0 at c.loop-step.invariant.rest in
    let room = rw c.in-Some.ensures.steps.0 at c.loop-step.invariant.room in
    let fit = All-tail (StepFits c.loop-step.self.state) c.in-Some.step rest (rw c.in-Some.ensures.steps.0 at c.loop-step.invariant.fit) in
    let left = rw c.in-Some.ensures.steps.0 at c.loop-step.invariant.left in
    let written = rw c.in-Some.ensures.steps.0 at c.loop-step.invariant.work in
    let more = step_more c.args.self.now.state c.args.steps.items c.loop-step.answers.items c.loop-step.self.state c.in-Some.step rest left c.loop-step.invariant.answered c.loop-step.invariant.taken in
    record {
      can = tt;
      ends = tt;
      room = omega (arith, room, c.push_reserved.ensures.capacity, ap length c.push_reserved.ensures.items, length-append c.loop-step.answers.items (c.in-Ok.answer ∷ []));
      parsed = rw (c.push_reserved.ensures.items, c.in-Ok.ensures.answer.0, c.in-Ok.ensures.answer.1, append_assoc) parsed;
      rest = rw c.in-Ok.ensures.answer.1 after;
      fit = rw c.in-Ok.ensures.answer.1 (all_fit c.loop-step.self.state c.in-Some.step rest fit);
      left = rw (c.push_reserved.ensures.items, c.in-Ok.ensures.answer.0) more.left;
      answered = rw (c.push_reserved.ensures.items, c.in-Ok.ensures.answer.0) more.answered;
      taken = rw (c.push_reserved.ensures.items, c.in-Ok.ensures.answer.0, c.in-Ok.ensures.answer.1) more.taken;
      work = rw c.in-Ok.ensures.answer.1 (omega (arith, written, c.in-Ok.ensures.work));
    }

not_true : (b : Bool) → (b ≡ true → false ≡ true) → b ≡ false
not_true true h = sym (h refl)
not_true false h = refl

first_of : (steps : List Step) → 0 < length steps → (next : Step) × (rest : List Step) × (steps ≡ next ∷ rest)
first_of [] h = absurd (omega (arith, h))
first_of (step ∷ steps) h = (step, steps, refl)

pub returns-in-Err-clause-answer : goal.returns-in-Err-clause-answer
returns-in-Err-clause-answer c =
    let rest = into_iter_items c.next.new.self in
    let n = length c.loop-step.answers.items in
    let left = rw c.in-Some.ensures.steps.0 at c.loop-step.invariant.left in
    let same = ap (λ (n : NemesisValue). n.state) c.in-Err.ensures.answer.1 in (
      take n c.args.steps.items,
      c.in-Some.step,
      rest,
      sym (take-append-drop n c.args.steps.items) ∙ ap (λ (w : List Step). take n c.args.steps.items ++ w) left,
      c.loop-step.invariant.answered,
      same ∙ c.loop-step.invariant.taken,
      inr (rw same c.in-Err.ensures.answer.0, not_true (is_free c.in-Some.step) c.in-Err.ensures.free),
    )

pub returns-then-is_err-clause-answer : goal.returns-then-is_err-clause-answer
returns-then-is_err-clause-answer c =
    let some : 0 < length c.args.steps.items = search rules in
    let first = first_of c.args.steps.items some in
    let none = c.reserve.ensures.items ∙ c.new-answers.ensures.items in
    ([], first.0, first.1, first.2, none, refl, inl refl)
