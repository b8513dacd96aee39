use Rattle.std.proofs.Common.{◌≡◌, ◌-◌}
use Rattle.jh_conversation.specs.Sound.{IsSoundMachine}
use Rattle.jh_test_parts.specs.Test.{IsFitTest}
use Rattle.jh_conversation.specs.Turn as rule
use Rattle.jh_conversation.proofs.machine.Machine.turn.Given as goal

abbrev pub invariant-loop-pass : goal.invariant-loop-pass
invariant-loop-pass l = record {
  rest : rule.passes l.test (5 - l._pass) l.self ≡ rule.turn l.test l.fn.self;
  sound : IsSoundMachine l.test l.self;
  fit : IsFitTest l.test;
}
