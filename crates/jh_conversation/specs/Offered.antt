-- Calls are offers of the generator. This project's own; what a generator offers, behind the calls that it
-- gave, is jepsen.generator's.
use Rattle.std.specs.Prelude.{◌≡◌, ℕ, ◌+◌, List, [], ◌∷◌, ◌++◌, Option, None, Some}
use Rattle.jh_gen.specs.DriverState.{all_threads}
use Rattle.jh_gen.specs.Generator.{Generator, clients, limit}
use Rattle.jh_gen.specs.Offers.{offer}
use Rattle.jh_gen.specs.Scope.{Question}
use Rattle.jh_gen.specs.Trace.{Trace}
use Rattle.jh_ops.specs.declared.call.Call.TheVariants as call
use Rattle.jh_ops.specs.declared.call.Request.{Request}
use Rattle.jh_conversation.specs.Laws.{Drivers, IsBeforeFinal, run}
use Rattle.jh_test_parts.specs.Test.{TestValue, thread_of_process}
use Rattle.jh_test_parts.specs.declared.records.Recorded.{Recorded}
use Rattle.jh_test_parts.specs.declared.records.Recorded.TheVariants.{Invoked}

-- the calls of a history, the newest first: the thread that makes each, and its request
abbrev pub given_calls : TestValue → List Recorded → List (ℕ × Request)
given_calls t [] = []
given_calls t (Invoked time process node asked ∷ past) =
    (thread_of_process t process, asked.request) ∷ given_calls t past
given_calls t (_ ∷ past) = given_calls t past

-- Each call is what the generator offers to its thread behind the calls before it, the newest first. The
-- trace has by which path each of them was given.
abbrev pub AreOffers : Generator → ℕ → Trace → List (ℕ × Request) → Type 0
AreOffers g threads [] [] = Unit {0}
AreOffers g threads (path ∷ trace) (given ∷ past) =
    (q : Question) × (q.asker ≡ given.0 + 1)
    × (offer g trace (all_threads threads) q ≡ Some (path, call.Client given.1))
    × AreOffers g threads trace past
AreOffers g threads _ _ = ⊥

-- Calls are offers of a test's generator, of which client threads alone are given at most so many.
abbrev pub AreCallsOf : TestValue → Generator → List (ℕ × Request) → Type 0
AreCallsOf t g calls = (trace : Trace) × AreOffers (clients (limit t.ops g)) t.clients trace calls

abbrev pub AreFinalCalls : TestValue → Option Generator → List (ℕ × Request) → Type 0
AreFinalCalls t None calls = calls ≡ []
AreFinalCalls t (Some g) calls = AreCallsOf t g calls

-- Calls are those of *main*, and behind them those of *final*.
pub record AreAllOffers (t : TestValue) (calls : List (ℕ × Request)) : Type 0 where
  pub final : List (ℕ × Request)
  pub main : List (ℕ × Request)
  pub split : calls ≡ final ++ main
  pub of_main : AreCallsOf t t.generator main
  pub of_final : AreFinalCalls t t.final_calls final

abbrev pub CallsAreOffers : Type 0
CallsAreOffers =
    (t : TestValue) (d : Drivers t) (lines : List (List ℕ))
    → AreAllOffers t (given_calls t (run t d lines).history)

-- before *final* begins, all are those of *main*
abbrev pub MainCallsAreOffers : Type 0
MainCallsAreOffers =
    (t : TestValue) (d : Drivers t) (lines : List (List ℕ)) → IsBeforeFinal (run t d lines).phase
    → AreCallsOf t t.generator (given_calls t (run t d lines).history)
