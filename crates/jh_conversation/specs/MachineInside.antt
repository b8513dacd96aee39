-- What a contract sees of the fields of a machine, and what holds of them. This project's own.
use Rattle.std.specs.Prelude.{◌≤◌, length, reverse, take}
use Rattle.jh_conversation.specs.Machine.{Machine}
use Rattle.jh_conversation.specs.declared.machine.Machine.TheInside.{Inside}

abbrev pub machine_of : Inside → Machine
machine_of a = record {
  phase = a.phase;
  driver = a.driver;
  final_calls = a.final_calls;
  has_spent = a.has_spent;
  random_numbers = a.random_numbers;
  transactions = a.transactions;
  calls_by_group = a.calls_by_group.items;
  callers = a.callers.items;
  given = a.given;
  answered = a.answered;
  crashed = a.crashed;
  nemesis = a.nemesis.state;
  taken = a.taken;
  step = a.step;
  stops = a.stops;
  clock = a.clock;
  rest_began = a.rest_began;
  read = a.read;
  bad = a.bad;
  history = reverse a.history.items;
  said = take a.said (reverse a.history.items);
}

-- what was said is a part of the history
abbrev pub IsPartSaid : Inside → Type 0
IsPartSaid a = a.said ≤ length a.history.items
