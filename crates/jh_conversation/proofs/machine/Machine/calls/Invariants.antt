use Rattle.std.proofs.Common.{◌≡◌, ◌-◌}
use Rattle.jh_conversation.specs.Sound.{IsSoundMachine}
use Rattle.jh_test_parts.specs.Test.{IsFitTest}
use Rattle.jh_conversation.specs.Turn as rule
use Rattle.jh_conversation.proofs.machine.Machine.calls.Given as goal

abbrev pub invariant-loop-round : goal.invariant-loop-round
invariant-loop-round l = record {
  rest : rule.rounds l.test (l.most - l._round) l.self ≡ rule.calls l.test l.fn.self;
  sound : IsSoundMachine l.test l.self;
  fit : IsFitTest l.test;
}
