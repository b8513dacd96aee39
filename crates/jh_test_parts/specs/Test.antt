-- What a test of a real database is set to, beside how its history is judged. This project's own;
-- generators, workloads and faults are those of a run.
use Rattle.std.specs.Prelude.{◌≡◌, ℕ, ◌%◌, ◌==◌, ◌≤◌, Bool, true, ◌&&◌, not, All, List}
use Rattle.std.specs.Prelude.{length}
use Rattle.std.specs.Prelude.{Option, None, Some, option_map}
use Rattle.jh_env.specs.Overlay.{EnvValue}
use Rattle.jh_gen.specs.DriverState.{max_calls, max_clients}
use Rattle.jh_gen.specs.Generator.{Generator}
use Rattle.jh_gen.specs.Suits.{suits, suits_transactions}
use Rattle.jh_gen.specs.View.{generator_of}
use Rattle.jh_nemesis.specs.Steps.{FitsNodes}
use Rattle.jh_ops.specs.declared.call.Workload.{Workload}
use Rattle.jh_test_parts.specs.declared.parts.TestEntry.{TestEntry}
use Rattle.jh_test_parts.specs.declared.parts.KeyShares.{KeyShares}
use Rattle.jh_test_parts.specs.declared.workload.TestWorkload.{TestWorkload}
use Rattle.jh_test_parts.specs.declared.workload.TestWorkload.TheVariants.{Register, Counter, Set}
use Rattle.jh_test_parts.specs.declared.workload.TestWorkload.TheVariants.{Ids, ListAppend}
use Rattle.jh_test_parts.specs.declared.parts.TransactionShape.{TransactionShape}
use Rattle.jh_test_parts.specs.Limits.{max_key_appends, max_test_entries, max_transaction_keys}
use Rattle.jh_test_parts.specs.Limits.{max_transaction_ops}
use Rattle.jh_test_parts.specs.declared.test.TestData.{TestData}
use Rattle.jh_test_parts.specs.declared.test.TestError.{TestError}
use Rattle.jh_test_parts.specs.declared.test.TestError.TheVariants.{BadClients, BadOps, BadKeys}
use Rattle.jh_test_parts.specs.declared.test.TestError.TheVariants.{BadGenerator, BadFinal}
use Rattle.jh_test_parts.specs.declared.test.TestError.TheVariants.{BadSchedule, BadTransactions}
use Rattle.jh_test_parts.specs.declared.test.TestError.TheVariants.{OutOfMemory}

pub record TestValue : Type 0 where
  -- the environment before the first fault
  pub start : EnvValue
  pub workload : TestWorkload
  -- the calls of *main*, and of *final* where there is one
  pub generator : Generator
  pub final_calls : Option Generator
  -- how many threads make calls, and how many calls they make at most
  pub clients : ℕ
  pub ops : ℕ
  -- milliseconds from which on no call of *main* is given
  pub time_limit : Option ℕ
  -- calls of *main* a second, at most
  pub rate : Option ℕ
  pub keys : Option KeyShares
  pub transactions : TransactionShape
  -- milliseconds between the end of all faults and the final calls
  pub recovery : ℕ
  pub seed : ℕ
  pub schedule : List TestEntry

-- the test that is made of this data
abbrev pub test_of_data : TestData → TestValue
test_of_data fields = record {
  start = fields.environment;
  workload = fields.workload;
  generator = generator_of fields.generator;
  final_calls = option_map generator_of fields.final_calls;
  clients = fields.clients;
  ops = fields.ops;
  time_limit = fields.time_limit;
  rate = fields.rate;
  keys = fields.keys;
  transactions = fields.transactions;
  recovery = fields.recovery;
  seed = fields.seed;
  schedule = fields.schedule.items;
}

-- the test with another schedule and another seed, all else being the same
abbrev pub test_with_schedule : TestValue → List TestEntry → ℕ → TestValue
test_with_schedule t schedule seed = record t { schedule = schedule; seed = seed }

-- Which tests can be made.

abbrev pub HasTestClients : TestValue → Type 0
HasTestClients t = (1 ≤ t.clients) × (t.clients ≤ max_clients)

abbrev pub HasTestOps : TestValue → Type 0
HasTestOps t = (1 ≤ t.ops) × (t.ops ≤ max_calls)

-- the threads of a key divide the clients, and each key has calls
abbrev pub are_shares : ℕ → Option KeyShares → Bool
are_shares clients None = true
are_shares clients (Some shares) =
    not (shares.threads == 0) && (clients % shares.threads == 0 && not (shares.calls == 0))

abbrev pub FitsKeys : TestValue → Type 0
FitsKeys t = are_shares t.clients t.keys ≡ true

-- the generator's calls are requests of what is tested
abbrev pub suits_workload : TestWorkload → ℕ → Generator → Bool
suits_workload Register clients generator = suits Workload.Register clients generator
suits_workload Counter clients generator = suits Workload.Counter clients generator
suits_workload Set clients generator = suits Workload.Set clients generator
suits_workload Ids clients generator = suits Workload.Ids clients generator
suits_workload ListAppend clients generator = suits_transactions clients generator

abbrev pub final_calls_suit : TestWorkload → ℕ → Option Generator → Bool
final_calls_suit workload clients None = true
final_calls_suit workload clients (Some generator) = suits_workload workload clients generator

abbrev pub HasTestGenerator : TestValue → Type 0
HasTestGenerator t = suits_workload t.workload t.clients t.generator ≡ true

abbrev pub FitsFinal : TestValue → Type 0
FitsFinal t = final_calls_suit t.workload t.clients t.final_calls ≡ true

-- there are not too many entries, and each node that a fault names is in the environment
abbrev pub HasSchedule : TestValue → Type 0
HasSchedule t =
    (length t.schedule ≤ max_test_entries)
    × All (λ entry. FitsNodes (length t.start.names) entry.step) t.schedule

-- transactions are over some keys at a time, of some micro-operations at most, with some appends of a
-- key, each within its limit
pub record IsGoodShape (shape : TransactionShape) : Type 0 where
  pub some_keys : 1 ≤ shape.keys
  pub few_keys : shape.keys ≤ max_transaction_keys
  pub some_ops : 1 ≤ shape.most
  pub few_ops : shape.most ≤ max_transaction_ops
  pub some_appends : 1 ≤ shape.appends
  pub few_appends : shape.appends ≤ max_key_appends

abbrev pub FitsTransactions : TestValue → Type 0
FitsTransactions t = IsGoodShape t.transactions

pub record IsFitTest (t : TestValue) : Type 0 where
  pub clients : HasTestClients t
  pub ops : HasTestOps t
  pub keys : FitsKeys t
  pub generator : HasTestGenerator t
  pub final : FitsFinal t
  pub schedule : HasSchedule t
  pub transactions : FitsTransactions t

-- why a test is refused: each is looked at only where those before it are right
abbrev pub RefusesTest : TestValue → TestError → Type 0
RefusesTest t BadClients = HasTestClients t → ⊥
RefusesTest t BadOps = HasTestClients t × (HasTestOps t → ⊥)
RefusesTest t BadKeys = HasTestClients t × HasTestOps t × (FitsKeys t → ⊥)
RefusesTest t BadGenerator = HasTestClients t × HasTestOps t × FitsKeys t × (HasTestGenerator t → ⊥)
RefusesTest t BadFinal = HasTestClients t × HasTestOps t × FitsKeys t × HasTestGenerator t × (FitsFinal t → ⊥)
RefusesTest t BadSchedule =
    HasTestClients t × HasTestOps t × FitsKeys t × HasTestGenerator t × FitsFinal t × (HasSchedule t → ⊥)
RefusesTest t BadTransactions =
    HasTestClients t × HasTestOps t × FitsKeys t × HasTestGenerator t × FitsFinal t × HasSchedule t
    × (FitsTransactions t → ⊥)
RefusesTest t OutOfMemory = IsFitTest t

-- the thread of a process: a client that crashed goes on as a process of its thread (jepsen.generator)
abbrev pub thread_of_process : TestValue → ℕ → ℕ
thread_of_process t process = process % t.clients

-- the node that a thread calls
abbrev pub node_of_thread : TestValue → ℕ → ℕ
node_of_thread t thread = thread % length t.start.names
