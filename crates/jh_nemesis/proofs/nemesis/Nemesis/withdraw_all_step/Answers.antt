use Rattle.std.proofs.Common.{◌≡◌, ◌≤◌, ◌+◌, ap, length, rules, subst, sym, ◌∙◌}
use Rattle.jh_env.specs.Overlay.{work_of}
use Rattle.jh_nemesis.specs.State.{State}
use Rattle.jh_nemesis.specs.Work.{NemesisValue, size_of_step}
use Rattle.jh_nemesis.specs.Steps.{withdraw_all_answer, state_after}
use Rattle.jh_nemesis.specs.NemesisInside.{state_of}
use Rattle.jh_nemesis.specs.declared.accepted.AcceptedStep.TheVariants.{WithdrawnAll}
use Rattle.jh_nemesis.specs.declared.steps.Step.TheVariants.{WithdrawAll}
use Rattle.jh_nemesis.specs.declared.steps.StepAnswer.TheVariants as StepAnswer
use Rattle.jh_nemesis.proofs.CursorLemmas.{all_room, all_right, put_true, put_future, put_work, all_withdrawn_state}
use Rattle.jh_nemesis.proofs.nemesis.Nemesis.withdraw_all_step.Goals as goal

pub invariant_of-self-2 : goal.invariant_of-self-2
invariant_of-self-2 c =
    let a = c.self.inside in
    let found : withdraw_all_answer c.args.self.now.state ≡ StepAnswer.Ok = search rules in
    let ok : withdraw_all_answer (state_of a) ≡ StepAnswer.Ok = rw (← c.self.view_is) at found in
    let is : c.in_ok-stamps.stamps.items ≡ a.active.items = c.in_ok-stamps.ensures.items ∙ c.deref.ensures.0 in
    rw c.in_ok-put_at.ensures.ok
    (put_true c.self.invariant (WithdrawnAll c.in_ok-stamps.stamps)
    (all_room c.self.invariant ok)
    (all_right c.self.invariant (length a.env.names) c.in_ok-stamps.stamps is))

pub apply_next-requires : goal.apply_next-requires
apply_next-requires c =
    let a = c.self.inside in
    rw c.in_ok-put_at.ensures.ok (put_future c.self.invariant (WithdrawnAll c.in_ok-stamps.stamps))

pub returns-clause-ok : goal.returns-clause-ok
returns-clause-ok c =
    let a = c.self.inside in
    let found : withdraw_all_answer c.args.self.now.state ≡ StepAnswer.Ok = search rules in
    let ok : withdraw_all_answer (state_of a) ≡ StepAnswer.Ok = rw (← c.self.view_is) at found in
    let state =
    all_withdrawn_state c.self.invariant c.in_ok-stamps.stamps c.put_at.new.accepted.items c.apply_next.new.self.state
    c.in_ok-put_at.ensures.ok
    c.apply_next.ensures.state ok in
    subst (λ (s : State). (StepAnswer.Ok ≡ withdraw_all_answer s) × (c.apply_next.new.self.state ≡ state_after s WithdrawAll))
    (ap (λ (n : NemesisValue). n.state) c.self.view_is) (sym ok, state)

pub returns-clause-work : goal.returns-clause-work
returns-clause-work c =
    let a = c.self.inside in
    let found : withdraw_all_answer c.args.self.now.state ≡ StepAnswer.Ok = search rules in
    let ok : withdraw_all_answer (state_of a) ≡ StepAnswer.Ok = rw (← c.self.view_is) at found in
    let state =
    all_withdrawn_state c.self.invariant c.in_ok-stamps.stamps c.put_at.new.accepted.items c.apply_next.new.self.state
    c.in_ok-put_at.ensures.ok
    c.apply_next.ensures.state ok in
    let written =
    put_work c.self.invariant (WithdrawnAll c.in_ok-stamps.stamps) c.put_at.new.accepted.items c.apply_next.new.self.state (state_after (state_of a) WithdrawAll)
    c.apply_next.new.self.work (work_of a.env) c.in_ok-put_at.ensures.ok state c.apply_next.ensures.work in
    subst (λ (n : NemesisValue). c.apply_next.new.self.work ≤ n.work + size_of_step n.state WithdrawAll) c.self.view_is written
