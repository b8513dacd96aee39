-- What a contract sees of the fields of a test, and what holds of them. This project's own.
use Rattle.std.specs.Prelude.{[]}
use Rattle.jh_env.specs.Overlay.{StandsFor}
use Rattle.jh_test_parts.specs.Test.{TestValue, IsFitTest}
use Rattle.jh_test_parts.specs.declared.test.Test.TheInside.{Inside}

abbrev pub test_of : Inside → TestValue
test_of a = record {
  start = a.environment;
  workload = a.workload;
  generator = a.generator;
  final_calls = a.final_calls;
  clients = a.clients;
  ops = a.ops;
  time_limit = a.time_limit;
  rate = a.rate;
  keys = a.keys;
  transactions = a.transactions;
  recovery = a.recovery;
  seed = a.seed;
  schedule = a.schedule.items;
}

-- what holds of every test, as it is made
pub record IsFitInside (a : Inside) : Type 0 where
  pub fit : IsFitTest (test_of a)
  pub calm : StandsFor a.environment []
