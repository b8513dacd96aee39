use Rattle.std.proofs.Common.{◌≡◌, ◌≤◌, ◌+◌, ap, length, rules, subst, sym, ◌∙◌}
use Rattle.std.specs.List.{Contains}
use Rattle.jh_env.specs.Overlay.{work_of}
use Rattle.jh_nemesis.specs.State.{State, is_active}
use Rattle.jh_nemesis.specs.Work.{NemesisValue, size_of_step}
use Rattle.jh_nemesis.specs.Steps.{withdraw_answer, state_after}
use Rattle.jh_nemesis.specs.AcceptedInside.{begun_fault, faults_at, past_of, accepted_at}
use Rattle.jh_nemesis.specs.NemesisInside.{state_of}
use Rattle.jh_nemesis.specs.declared.accepted.AcceptedStep.TheVariants.{Withdrawn}
use Rattle.jh_nemesis.specs.declared.steps.Step.TheVariants.{Withdraw}
use Rattle.jh_nemesis.specs.declared.steps.StepAnswer.TheVariants as StepAnswer
use Rattle.jh_nemesis.proofs.CursorLemmas.{known, withdraw_room, withdraw_right, put_true, put_future, put_work, withdrawn_state}
use Rattle.jh_nemesis.proofs.nemesis.Nemesis.withdraw_step.Goals as goal

pub stamp_of-requires : goal.stamp_of-requires
stamp_of-requires c =
    let a = c.self.inside in
    rw (c.deref.ensures.value, c.deref-2.ensures.0) (known c.self.invariant)

pub invariant_of-self-2 : goal.invariant_of-self-2
invariant_of-self-2 c =
    let a = c.self.inside in
    let inside : Contains a.active.items c.in-Some.stamp = rw c.deref-2.ensures.0 at c.in-Some.ensures.stamp.0 in
    let found : withdraw_answer c.args.self.now.state c.args.id ≡ StepAnswer.Ok = search rules in
    let ok : withdraw_answer (state_of a) c.args.id ≡ StepAnswer.Ok = rw (← c.self.view_is) at found in
    rw c.in_ok-put_at.ensures.ok
    (put_true c.self.invariant (Withdrawn c.in-Some.stamp) (withdraw_room c.self.invariant c.args.id ok)
    (withdraw_right c.self.invariant (length a.env.names) c.in-Some.stamp inside))

pub apply_next-requires : goal.apply_next-requires
apply_next-requires c =
    let a = c.self.inside in
    rw c.in_ok-put_at.ensures.ok (put_future c.self.invariant (Withdrawn c.in-Some.stamp))

pub returns-clause-ok : goal.returns-clause-ok
returns-clause-ok c =
    let a = c.self.inside in
    let inside : Contains a.active.items c.in-Some.stamp = rw c.deref-2.ensures.0 at c.in-Some.ensures.stamp.0 in
    let at : (begun_fault (accepted_at a.accepted.items c.in-Some.stamp)).0 ≡ c.args.id =
    rw c.deref.ensures.value at c.in-Some.ensures.stamp.1 in
    let found : withdraw_answer c.args.self.now.state c.args.id ≡ StepAnswer.Ok = search rules in
    let ok : withdraw_answer (state_of a) c.args.id ≡ StepAnswer.Ok = rw (← c.self.view_is) at found in
    let state =
    withdrawn_state c.self.invariant c.args.id c.in-Some.stamp c.put_at.new.accepted.items c.apply_next.new.self.state
    c.in_ok-put_at.ensures.ok inside at
    c.apply_next.ensures.state ok in
    subst (λ (s : State). (StepAnswer.Ok ≡ withdraw_answer s c.args.id) × (c.apply_next.new.self.state ≡ state_after s (Withdraw c.args.id)))
    (ap (λ (n : NemesisValue). n.state) c.self.view_is) (sym ok, state)

pub returns-clause-work : goal.returns-clause-work
returns-clause-work c =
    let a = c.self.inside in
    let inside : Contains a.active.items c.in-Some.stamp = rw c.deref-2.ensures.0 at c.in-Some.ensures.stamp.0 in
    let at : (begun_fault (accepted_at a.accepted.items c.in-Some.stamp)).0 ≡ c.args.id =
    rw c.deref.ensures.value at c.in-Some.ensures.stamp.1 in
    let found : withdraw_answer c.args.self.now.state c.args.id ≡ StepAnswer.Ok = search rules in
    let ok : withdraw_answer (state_of a) c.args.id ≡ StepAnswer.Ok = rw (← c.self.view_is) at found in
    let state =
    withdrawn_state c.self.invariant c.args.id c.in-Some.stamp c.put_at.new.accepted.items c.apply_next.new.self.state
    c.in_ok-put_at.ensures.ok inside at
    c.apply_next.ensures.state ok in
    let written =
    put_work c.self.invariant (Withdrawn c.in-Some.stamp) c.put_at.new.accepted.items c.apply_next.new.self.state (state_after (state_of a) (Withdraw c.args.id))
    c.apply_next.new.self.work (work_of a.env) c.in_ok-put_at.ensures.ok state c.apply_next.ensures.work in
    subst (λ (n : NemesisValue). c.apply_next.new.self.work ≤ n.work + size_of_step n.state (Withdraw c.args.id)) c.self.view_is written
