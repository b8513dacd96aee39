use Rattle.std.proofs.Common.{◌∙◌, sym}
use Rattle.jh_conversation.proofs.CodeLemmas.{pass_last, pass_next, sound_pass, sound_step}
use Rattle.jh_conversation.proofs.machine.Machine.turn.Goals as goal

pub calls-requires : goal.calls-requires
calls-requires c = sound_step c.args.test.now c.loop-pass.self c.step.new.self c.loop-pass.invariant.fit c.loop-pass.invariant.sound c.in_ok-step.ensures

pub returns-then-not-branch : goal.returns-then-not-branch
returns-then-not-branch c =
    pass_last c.args.test.now c.loop-pass.self c.step.new.self c.calls.new.self c.next_phase.new.self
    _ _ _ c.loop-pass-test.true c.loop-pass.invariant.rest c.in_ok-step.ensures c.in_ok-calls.ensures c.in_ok-next_phase.ensures.machine (sym c.in_ok-next_phase.ensures.moved ∙ c.if-not-branch.true)

pub loop-pass-preserved : goal.loop-pass-preserved
loop-pass-preserved c = record {
  rest = pass_next c.args.test.now c.loop-pass.self c.step.new.self c.calls.new.self c.next_phase.new.self
      _ _ _ c.loop-pass-test.true c.loop-pass.invariant.rest c.in_ok-step.ensures c.in_ok-calls.ensures c.in_ok-next_phase.ensures.machine (sym c.in_ok-next_phase.ensures.moved ∙ c.if-not-branch.false);
  sound = sound_pass c.args.test.now c.loop-pass.self c.step.new.self c.calls.new.self c.next_phase.new.self c.loop-pass.invariant.fit c.loop-pass.invariant.sound c.in_ok-step.ensures c.in_ok-calls.ensures c.in_ok-next_phase.ensures.machine;
  fit = c.loop-pass.invariant.fit;
}
