-- Each call of a test is one of its workload.
use Rattle.std.proofs.Common.{◌≡◌, ℕ, true, List, [], ◌∷◌, ◌++◌, ℤ, pos, ◌+ℤ◌, sym, subst}
use Rattle.std.specs.Prelude.{Option, None, Some}
use Rattle.std.proofs.lemmas.Bool.{and_parts}
use Rattle.jh_gen.specs.DriverState.{all_threads}
use Rattle.jh_gen.specs.Fits.{fits}
use Rattle.jh_gen.specs.Generator.{Generator, clients, limit}
use Rattle.jh_gen.specs.Offers.{offer}
use Rattle.jh_gen.specs.Scope.{Scope, Question}
use Rattle.jh_gen.specs.Rises.{risen}
use Rattle.jh_gen.specs.Suits.{has_only, is_call_for, is_transaction}
use Rattle.jh_gen.specs.Trace.{Trace}
use Rattle.jh_gen.specs.declared.rise.Rise.{Rise}
use Rattle.jh_gen.specs.declared.rise.Rise.TheVariants.{Adds, Writes}
use Rattle.jh_ops.specs.declared.call.Call.TheVariants.{Client}
use Rattle.jh_ops.specs.declared.call.Request.{Request}
use Rattle.jh_ops.specs.declared.call.Workload.{Workload}
use Rattle.jh_run_laws.specs.OwnHistory.{Passes}
use Rattle.jh_run_laws.proofs.OfferLemmas.{offer_passes, offers_suit}
use Rattle.jh_conversation.specs.Laws.{Drivers, run}
use Rattle.jh_conversation.specs.Offered.{AreFinalCalls, AreOffers, CallsAreOffers, given_calls}
use Rattle.jh_test_parts.specs.Test.{TestValue, IsFitTest, final_calls_suit, suits_workload}
use Rattle.jh_test_parts.specs.declared.workload.TestWorkload.{TestWorkload}
use Rattle.jh_test_parts.specs.declared.workload.TestWorkload.TheVariants.{Register, Counter, Set, Ids, ListAppend}
use Rattle.jh_test_laws.specs.HistoryInside.{suits_call}

-- each of these calls is one of the workload
abbrev pub AllSuit : TestWorkload → List (ℕ × Request) → Type 0
AllSuit workload [] = Unit {0}
AllSuit workload (given ∷ calls) = (suits_call workload (Client given.1) ≡ true) × AllSuit workload calls

no_more_transactions : (r : Rise) (n : ℤ) (k : ℕ) → is_transaction (risen r n) ≡ true → is_transaction (risen r (n +ℤ pos k)) ≡ true
no_more_transactions Adds n k h = absurd cc
no_more_transactions Writes n k h = absurd cc

-- a generator that suits the workload offers such calls
passes : (workload : TestWorkload) (threads : ℕ) (g : Generator) → suits_workload workload threads g ≡ true → (ops : ℕ) (t : Trace) (scope : Scope) (q : Question)
    → Passes (suits_call workload) (offer (clients (limit ops g)) t scope q)
passes Register threads g h ops t scope q = offers_suit Workload.Register (clients (limit ops g)) (and_parts (fits threads g) (has_only (is_call_for Workload.Register) g) h).1 t scope q
passes Counter threads g h ops t scope q = offers_suit Workload.Counter (clients (limit ops g)) (and_parts (fits threads g) (has_only (is_call_for Workload.Counter) g) h).1 t scope q
passes Set threads g h ops t scope q = offers_suit Workload.Set (clients (limit ops g)) (and_parts (fits threads g) (has_only (is_call_for Workload.Set) g) h).1 t scope q
passes Ids threads g h ops t scope q = offers_suit Workload.Ids (clients (limit ops g)) (and_parts (fits threads g) (has_only (is_call_for Workload.Ids) g) h).1 t scope q
passes ListAppend threads g h ops t scope q = offer_passes is_transaction no_more_transactions (clients (limit ops g)) (and_parts (fits threads g) (has_only is_transaction g) h).1 t scope q

offers_suit_workload : (workload : TestWorkload) (threads ops : ℕ) (g : Generator) → suits_workload workload threads g ≡ true → (all : ℕ) (trace : Trace) (calls : List (ℕ × Request))
    → AreOffers (clients (limit ops g)) all trace calls → AllSuit workload calls
offers_suit_workload workload threads ops g h all [] [] o = tt
offers_suit_workload workload threads ops g h all [] (c ∷ calls) o = absurd o
offers_suit_workload workload threads ops g h all (p ∷ trace) [] o = absurd o
offers_suit_workload workload threads ops g h all (path ∷ trace) (given ∷ calls) (q, asker, is, rest) = (
  subst (Passes (suits_call workload)) is (passes workload threads g h ops trace (all_threads all) q),
  offers_suit_workload workload threads ops g h all trace calls rest,
)

joined : (workload : TestWorkload) (xs ys : List (ℕ × Request)) → AllSuit workload xs → AllSuit workload ys → AllSuit workload (xs ++ ys)
joined workload [] ys a b = b
joined workload (x ∷ xs) ys a b = (a.0, joined workload xs ys a.1 b)

final_suits : (t : TestValue) (final : Option Generator) (calls : List (ℕ × Request)) → final_calls_suit t.workload t.clients final ≡ true → AreFinalCalls t final calls → AllSuit t.workload calls
final_suits t None calls h is = subst (AllSuit t.workload) (sym is) tt
final_suits t (Some g) calls h is = offers_suit_workload t.workload t.clients t.ops g h t.clients is.0 calls is.1

pub all_suit : CallsAreOffers → (t : TestValue) (d : Drivers t) (lines : List (List ℕ)) → IsFitTest t → AllSuit t.workload (given_calls t (run t d lines).history)
all_suit offers t d lines fit =
    let all = offers t d lines in
    let main = offers_suit_workload t.workload t.clients t.ops t.generator fit.generator t.clients all.of_main.0 all.main all.of_main.1 in
    let final = final_suits t t.final_calls all.final fit.final all.of_final in
    subst (AllSuit t.workload) (sym all.split) (joined t.workload all.final all.main final main)
