use Rattle.std.proofs.Common.{◌≡◌, ◌≤◌, ◌+◌, ap, length, rules, subst, sym}
use Rattle.std.proofs.lemmas.Result.{err_from_is_err_and}
use Rattle.jh_env.specs.Faults.{FitsCount}
use Rattle.jh_nemesis.specs.NemesisInside.{state_of}
use Rattle.jh_env.specs.Overlay.{work_of}
use Rattle.jh_nemesis.specs.State.{State}
use Rattle.jh_nemesis.specs.Work.{NemesisValue, size_of_step}
use Rattle.jh_nemesis.specs.Steps.{begin_answer, state_after}
use Rattle.jh_nemesis.specs.declared.steps.Step.TheVariants.{Begin}
use Rattle.jh_nemesis.specs.declared.steps.StepAnswer.TheVariants as StepAnswer
use Rattle.jh_nemesis.specs.declared.accepted.AcceptedStep.TheVariants.{Begun}
use Rattle.jh_nemesis.proofs.CursorLemmas.{begin_right, put_true, put_future, put_work, begun_state}
use Rattle.jh_nemesis.proofs.nemesis.Nemesis.begin_step.Goals as goal

pub invariant_of-self-2 : goal.invariant_of-self-2
invariant_of-self-2 c =
    let a = c.self.inside in
    let found : begin_answer c.args.self.now.state c.args.id ≡ StepAnswer.Ok = search rules in
    let ok : begin_answer (state_of a) c.args.id ≡ StepAnswer.Ok = rw (← c.self.view_is) at found in
    let fits : FitsCount (length a.env.names) c.args.fault = rw (← c.self.view_is) at c.requires in
    let right = begin_right c.self.invariant c.args.id c.args.fault ok fits in
    rw c.in_ok-put_at.ensures.ok (put_true c.self.invariant (Begun c.args.id c.args.fault) right.1 right.0)

pub apply_next-requires : goal.apply_next-requires
apply_next-requires c =
    let a = c.self.inside in
    rw c.in_ok-put_at.ensures.ok (put_future c.self.invariant (Begun c.args.id c.args.fault))

pub returns-clause-ok : goal.returns-clause-ok
returns-clause-ok c =
    let a = c.self.inside in
    let found : begin_answer c.args.self.now.state c.args.id ≡ StepAnswer.Ok = search rules in
    let ok : begin_answer (state_of a) c.args.id ≡ StepAnswer.Ok = rw (← c.self.view_is) at found in
    let state =
    begun_state c.self.invariant c.args.id c.args.fault c.put_at.new.accepted.items c.apply_next.new.self.state
    c.in_ok-put_at.ensures.ok c.apply_next.ensures.state ok in
    subst (λ (s : State). (StepAnswer.Ok ≡ begin_answer s c.args.id) × (c.apply_next.new.self.state ≡ state_after s (Begin c.args.id c.args.fault)))
    (ap (λ (n : NemesisValue). n.state) c.self.view_is) (sym ok, state)

pub returns-in_err-put_at-clause-err : goal.returns-in_err-put_at-clause-err
returns-in_err-put_at-clause-err c =
    let found : begin_answer c.args.self.now.state c.args.id ≡ StepAnswer.Ok = search rules in
    let p = err_from_is_err_and c.from_residual.result c.from_residual.ensures.1 in
    rw (p.1, c.in_err-put_at.ensures.err) (found, c.self.view_is)

pub returns-clause-work : goal.returns-clause-work
returns-clause-work c =
    let a = c.self.inside in
    let found : begin_answer c.args.self.now.state c.args.id ≡ StepAnswer.Ok = search rules in
    let ok : begin_answer (state_of a) c.args.id ≡ StepAnswer.Ok = rw (← c.self.view_is) at found in
    let state =
    begun_state c.self.invariant c.args.id c.args.fault c.put_at.new.accepted.items c.apply_next.new.self.state
    c.in_ok-put_at.ensures.ok c.apply_next.ensures.state ok in
    let written =
    put_work c.self.invariant (Begun c.args.id c.args.fault) c.put_at.new.accepted.items c.apply_next.new.self.state (state_after (state_of a) (Begin c.args.id c.args.fault))
    c.apply_next.new.self.work (work_of a.env) c.in_ok-put_at.ensures.ok state c.apply_next.ensures.work in
    subst (λ (n : NemesisValue). c.apply_next.new.self.work ≤ n.work + size_of_step n.state (Begin c.args.id c.args.fault)) c.self.view_is written
