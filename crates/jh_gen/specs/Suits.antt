-- Which generators suit a run of a workload, or a test of transactions, with so many client threads,
-- where a schedule and not the generator begins and ends the faults (this project's own; the
-- workloads are those of Jepsen's pages on checkers).
use Rattle.std.specs.Prelude.{ℕ, pos, int_lt, Bool, true, false, not, ◌&&◌}
use Rattle.jh_ops.specs.declared.call.Call.{Call}
use Rattle.jh_ops.specs.declared.call.Call.TheVariants.{Client, Step}
use Rattle.jh_ops.specs.declared.call.Request.{Request}
use Rattle.jh_ops.specs.declared.call.Request.TheVariants.{Add, Read, Txn}
use Rattle.jh_ops.specs.declared.call.Workload.{Workload}
use Rattle.jh_ops.specs.declared.call.Workload.TheVariants.{Counter}
use Rattle.jh_ops.specs.Requests.{is_request_of}
use Rattle.jh_gen.specs.Generator.{Generator, nothing, once, rising, forever, seq, limit, mix}
use Rattle.jh_gen.specs.Generator.{phases, reserve, each_thread, clients, nemesis_only, Generators}
use Rattle.jh_gen.specs.Generator.{no_generators, generator, ShareList, no_shares, share}
use Rattle.jh_gen.specs.Fits.{fits}
use Rattle.jh_gen.specs.Rises.{risen}

-- Each call of a generator passes a test, wherever the call stands, and no part is the nemesis's. A
-- rising is judged as the call of its first number, which is its least.
abbrev mutual
  pub has_only : (Call → Bool) → Generator → Bool
  has_only passes nothing = true
  has_only passes (once c) = passes c
  has_only passes (rising r n) = passes (risen r n)
  has_only passes (forever c) = passes c
  has_only passes (seq gs) = all_have_only passes gs
  has_only passes (limit n g) = has_only passes g
  has_only passes (mix gs) = all_have_only passes gs
  has_only passes (phases gs) = all_have_only passes gs
  has_only passes (reserve ms g) = shares_have_only passes ms && has_only passes g
  has_only passes (each_thread g) = has_only passes g
  has_only passes (clients g) = has_only passes g
  has_only passes (nemesis_only g) = false

  pub all_have_only : (Call → Bool) → Generators → Bool
  all_have_only passes no_generators = true
  all_have_only passes (generator g gs) = has_only passes g && all_have_only passes gs

  pub shares_have_only : (Call → Bool) → ShareList → Bool
  shares_have_only passes no_shares = true
  shares_have_only passes (share n g ms) = has_only passes g && shares_have_only passes ms

-- adds what is below 0
abbrev pub takes_away : Request → Bool
takes_away (Add n) = int_lt n (pos 0)
takes_away _ = false

-- nothing is taken away from a counter; the elements of a set are any numbers
abbrev pub only_grows : Workload → Bool
only_grows Counter = true
only_grows _ = false

-- a client's request of the workload; under the counter no add is negative
abbrev pub is_call_for : Workload → Call → Bool
is_call_for w (Client r) = is_request_of r w && not (only_grows w && takes_away r)
is_call_for w (Step i) = false

-- a client's transaction
abbrev pub is_transaction : Call → Bool
is_transaction (Client Txn) = true
is_transaction _ = false

-- No reserve's numbers sum to more than the client threads, and all calls are of the workload.
abbrev pub suits : Workload → ℕ → Generator → Bool
suits w threads g = fits threads g && has_only (is_call_for w) g

-- the same, and all calls are transactions
abbrev pub suits_transactions : ℕ → Generator → Bool
suits_transactions threads g = fits threads g && has_only is_transaction g

-- anything but a client's read
abbrev pub is_no_read : Call → Bool
is_no_read (Client Read) = false
is_no_read _ = true

-- No call is a read, and no part is the nemesis's: of a generator that suits a run, nobody ever reads.
abbrev pub never_reads : Generator → Bool
never_reads g = has_only is_no_read g
