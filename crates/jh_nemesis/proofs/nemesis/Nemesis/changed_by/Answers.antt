use Rattle.std.proofs.Common.{◌≡◌, ◌<◌, ◌-◌, List, [], ◌∷◌, false, length, refl, rules}
use Rattle.std.specs.List.{Contains}
use Rattle.jh_env.specs.Faults.{FaultValue}
use Rattle.jh_nemesis.specs.State.{faults_in}
use Rattle.jh_nemesis.specs.AcceptedInside.{begun_fault, faults_at, accepted_at, stamps_changed}
use Rattle.jh_nemesis.specs.Steps.{answer_of, is_ok}
use Rattle.jh_nemesis.specs.declared.steps.Step.TheVariants.{Begin, Withdraw, WithdrawAll, Undo, Redo}
use Rattle.jh_nemesis.specs.declared.steps.StepAnswer.TheVariants as StepAnswer
use Rattle.jh_nemesis.proofs.ChangedLemmas.{all_changes, begin_changes, changed_known, one_known, redo_changes, refused_none, seen, undo_changes, withdraw_changes}
use Rattle.jh_nemesis.proofs.CursorLemmas.{known}
use Rattle.jh_nemesis.proofs.nemesis.Nemesis.changed_by.Goals as goal

pub returns-then-ne-clause-faults : goal.returns-then-ne-clause-faults
returns-then-ne-clause-faults c =
    let refused : is_ok (answer_of c.args.self.now.state c.args.step.now) ≡ false = search rules in
    rw (refused_none c.args.self.now.state c.args.step.now refused, c.new.ensures.items) refl

pub stamp_of-requires : goal.stamp_of-requires
stamp_of-requires c = rw (c.deref.ensures.value, c.deref-in-Withdraw.ensures.0) (known c.self.invariant)

pub faults_of-requires : goal.faults_of-requires
faults_of-requires c =
    let a = c.self.inside in
    let inside : Contains a.active.items c.in-Some.stamp = rw c.deref-in-Withdraw.ensures.0 at c.in-Some.ensures.stamp.0 in
    rw c.deref-in-Some.ensures.value (one_known a.accepted.items a.active.items c.in-Some.stamp (known c.self.invariant) inside)

pub faults_of-requires-in-WithdrawAll : goal.faults_of-requires-in-WithdrawAll
faults_of-requires-in-WithdrawAll c = rw (c.deref-in-WithdrawAll.ensures.value, c.deref-in-WithdrawAll-2.ensures.0) (known c.self.invariant)

pub changed_at-requires-clause-begins : goal.changed_at-requires-clause-begins
changed_at-requires-clause-begins c =
    let a = c.self.inside in
    let within : a.cursor - 1 < length a.accepted.items = search rules in
    rw c.deref-in-Undo.ensures.value (changed_known (length a.env.names) a.accepted.items c.self.invariant.right (a.cursor - 1) within)

pub changed_at-requires-in-Redo-clause-begins : goal.changed_at-requires-in-Redo-clause-begins
changed_at-requires-in-Redo-clause-begins c =
    let a = c.self.inside in
    let within : a.cursor < length a.accepted.items = search rules in
    rw c.deref-in-Redo.ensures.value (changed_known (length a.env.names) a.accepted.items c.self.invariant.right a.cursor within)

pub returns-in_err-vec-in-Begin : goal.returns-in_err-vec-in-Begin
returns-in_err-vec-in-Begin c =
    let ok : answer_of c.args.self.now.state c.args.step.now ≡ StepAnswer.Ok = search rules in
    let h = seen c.self.inside c.args.self.now c.args.step.now (Begin c.in-Begin.field-0 c.in-Begin.fault) (c.in-Begin.fault ∷ []) c.self.view_is c.in-Begin.is ok (begin_changes c.self.invariant c.in-Begin.field-0 c.in-Begin.fault) in
    record { faults = search rules; elsewhere = h.elsewhere; memory = rw h.is (search rules) }

pub returns-in_ok-vec-in-Begin : goal.returns-in_ok-vec-in-Begin
returns-in_ok-vec-in-Begin c =
    let ok : answer_of c.args.self.now.state c.args.step.now ≡ StepAnswer.Ok = search rules in
    let h = seen c.self.inside c.args.self.now c.args.step.now (Begin c.in-Begin.field-0 c.in-Begin.fault) (c.in-Begin.fault ∷ []) c.self.view_is c.in-Begin.is ok (begin_changes c.self.invariant c.in-Begin.field-0 c.in-Begin.fault) in
    record { faults = rw (h.is, c.in_ok-vec-in-Begin.ensures.items) refl; elsewhere = h.elsewhere; memory = search rules }

pub returns-in-Some : goal.returns-in-Some
returns-in-Some c =
    let a = c.self.inside in
    let named : List FaultValue = faults_in (faults_at a.accepted.items (c.in-Some.stamp ∷ [])) in
    let inside : Contains a.active.items c.in-Some.stamp = rw c.deref-in-Withdraw.ensures.0 at c.in-Some.ensures.stamp.0 in
    let at : (begun_fault (accepted_at a.accepted.items c.in-Some.stamp)).0 ≡ c.in-Withdraw.id = rw c.deref.ensures.value at c.in-Some.ensures.stamp.1 in
    let ok : answer_of c.args.self.now.state c.args.step.now ≡ StepAnswer.Ok = search rules in
    let h = seen a c.args.self.now c.args.step.now (Withdraw c.in-Withdraw.id) named c.self.view_is c.in-Withdraw.is ok (λ accepted. withdraw_changes c.self.invariant c.in-Withdraw.id c.in-Some.stamp accepted inside at) in
    record {
      faults = rw h.is (rw c.deref-in-Some.ensures.value at c.faults_of.ensures.faults);
      elsewhere = h.elsewhere;
      memory = rw h.is (rw c.deref-in-Some.ensures.value at c.faults_of.ensures.memory);
    }

pub returns-in-WithdrawAll : goal.returns-in-WithdrawAll
returns-in-WithdrawAll c =
    let a = c.self.inside in
    let named : List FaultValue = faults_in (faults_at a.accepted.items a.active.items) in
    let ok : answer_of c.args.self.now.state c.args.step.now ≡ StepAnswer.Ok = search rules in
    let h = seen a c.args.self.now c.args.step.now WithdrawAll named c.self.view_is c.in-WithdrawAll.is ok (all_changes c.self.invariant) in
    record {
      faults = rw h.is (rw (c.deref-in-WithdrawAll.ensures.value, c.deref-in-WithdrawAll-2.ensures.0) at c.faults_of-in-WithdrawAll.ensures.faults);
      elsewhere = h.elsewhere;
      memory = rw h.is (rw (c.deref-in-WithdrawAll.ensures.value, c.deref-in-WithdrawAll-2.ensures.0) at c.faults_of-in-WithdrawAll.ensures.memory);
    }

pub returns-in-Undo : goal.returns-in-Undo
returns-in-Undo c =
    let a = c.self.inside in
    let named : List FaultValue = faults_in (faults_at a.accepted.items (stamps_changed (a.cursor - 1) (accepted_at a.accepted.items (a.cursor - 1)))) in
    let ok : answer_of c.args.self.now.state c.args.step.now ≡ StepAnswer.Ok = search rules in
    let h = seen a c.args.self.now c.args.step.now Undo named c.self.view_is c.in-Undo.is ok (undo_changes c.self.invariant) in
    record {
      faults = rw h.is (rw c.deref-in-Undo.ensures.value at c.changed_at.ensures.faults);
      elsewhere = h.elsewhere;
      memory = rw h.is (rw c.deref-in-Undo.ensures.value at c.changed_at.ensures.memory);
    }

pub returns-in-Redo : goal.returns-in-Redo
returns-in-Redo c =
    let a = c.self.inside in
    let named : List FaultValue = faults_in (faults_at a.accepted.items (stamps_changed a.cursor (accepted_at a.accepted.items a.cursor))) in
    let ok : answer_of c.args.self.now.state c.args.step.now ≡ StepAnswer.Ok = search rules in
    let h = seen a c.args.self.now c.args.step.now Redo named c.self.view_is c.in-Redo.is ok (redo_changes c.self.invariant) in
    record {
      faults = rw h.is (rw c.deref-in-Redo.ensures.value at c.changed_at-in-Redo.ensures.faults);
      elsewhere = h.elsewhere;
      memory = rw h.is (rw c.deref-in-Redo.ensures.value at c.changed_at-in-Redo.ensures.memory);
    }
