use Rattle.std.proofs.Common.{◌∙◌, sym}
use Rattle.jh_conversation.proofs.CodeLemmas.{round_last, round_next, sound_round}
use Rattle.jh_conversation.proofs.machine.Machine.calls.Goals as goal

pub returns-then-calls_given-before : goal.returns-then-calls_given-before
returns-then-calls_given-before c =
    round_last c.args.test.now c.loop-round.self c.round.new.self _ _ _ c.loop-round-test.true c.loop-round.invariant.rest c.in_ok-round.ensures
    (sym c.calls_given.ensures ∙ c.if-calls_given-before.true ∙ c.calls_given-before.ensures)

pub loop-round-preserved : goal.loop-round-preserved
loop-round-preserved c = record {
  rest = round_next c.args.test.now c.loop-round.self c.round.new.self _ _ _ c.loop-round-test.true c.loop-round.invariant.rest c.in_ok-round.ensures
      (λ e. c.if-calls_given-before.false (c.calls_given.ensures ∙ e ∙ sym c.calls_given-before.ensures));
  sound = sound_round c.args.test.now c.loop-round.self c.round.new.self c.loop-round.invariant.fit c.loop-round.invariant.sound c.in_ok-round.ensures;
  fit = c.loop-round.invariant.fit;
}
