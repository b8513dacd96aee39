use Rattle.std.proofs.Common.{◌≡◌, ◌-◌}
use Rattle.jh_conversation.specs.Sound.{IsSoundMachine}
use Rattle.jh_test_parts.specs.Test.{IsFitTest}
use Rattle.jh_conversation.specs.Turn as rule
use Rattle.jh_conversation.proofs.machine.Machine.round.Given as goal

abbrev pub invariant-loop-thread : goal.invariant-loop-thread
invariant-loop-thread l = record {
  rest : rule.visits l.test l.thread (l.thread-end - l.thread) l.self ≡ rule.round l.test l.fn.self;
  sound : IsSoundMachine l.test l.self;
  end : l.thread-end ≡ l.test.clients;
  fit : IsFitTest l.test;
}
