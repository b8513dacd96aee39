-- The machine is sound at each moment.
use Rattle.std.proofs.Common.{◌≡◌, ◌≢◌, ℕ, zero, suc, ◌+◌, ◌*◌, ◌<◌, ◌≤◌, ◌^◌, Bool, true, false}
use Rattle.std.proofs.Common.{nat_le, List, [], ◌∷◌, length, set, get_or, refl, sym, ap, ◌∙◌, arith}
use Rattle.std.proofs.Common.{subst, length-set}
use mathlib.Core.Logic.{◌⊎◌, inl, inr}
use Rattle.std.specs.Prelude.{Option, None, Some, All, if◌then◌else◌, ◌||◌, ◌==◌, not, replicate}
use Rattle.std.specs.Prelude.{slice_get, slice_index_or}
use Rattle.std.proofs.lemmas.Bool.{and_parts, cases_eq, cases_lt, cond_both, false≢true, true≢false}
use Rattle.std.proofs.lemmas.Bool.{leb-false}
use Rattle.std.proofs.lemmas.List.{get_or-replicate, get_or-set_same, get_or-set_other}
use Rattle.std.proofs.lemmas.List.{length-replicate, set_past}
use Rattle.std.proofs.lemmas.Option.{slice_get-get_or, slice_get_within}
use Rattle.std.proofs.Math.Nat.{mul-le-mul}
use Rattle.rand_pcg.specs.Lcg.{Lcg}
use Rattle.rand_pcg.specs.Pcg.{pcg64}
use Rattle.jh_edn.specs.Edn.{is_empty}
use Rattle.jh_gen.specs.DriverState.{DriverState, IsFresh, answer_by, asked, driver_after_end}
use Rattle.jh_gen.specs.DriverState.{max_calls, question_by}
use Rattle.jh_gen.specs.Generator.{Generator}
use Rattle.jh_gen.specs.State.{GeneratorState, Taking, is_done, taking}
use Rattle.jh_gen.specs.declared.answers.GenAnswer.{GenAnswer}
use Rattle.jh_gen.specs.declared.answers.GenAnswer.TheVariants.{Call, Done, Pending}
use Rattle.jh_gen.specs.declared.answers.Thread.TheVariants as thread
use Rattle.jh_nemesis.specs.State.{Active, State, first_state, state_back_to, state_forth_to}
use Rattle.jh_nemesis.specs.Steps.{FitsNodes, answer_of, code_of, is_ok, moved_state, state_after}
use Rattle.jh_nemesis.specs.declared.steps.Step.{Step}
use Rattle.jh_nemesis.specs.declared.steps.Step.TheVariants.{Begin, Withdraw, WithdrawAll, Undo}
use Rattle.jh_nemesis.specs.declared.steps.Step.TheVariants.{Redo}
use Rattle.jh_nemesis.specs.declared.steps.StepAnswer.{StepAnswer}
use Rattle.jh_nemesis.specs.declared.steps.StepAnswer.TheVariants as answer
use Rattle.jh_ops.specs.declared.call.Call.TheVariants as call
use Rattle.jh_ops.specs.declared.call.Request.{Request}
use Rattle.jh_ops.specs.declared.operation.Kind.{Kind}
use Rattle.jh_conversation.specs.Laws.{Drivers, IsFinalDriver}
use Rattle.jh_conversation.specs.Lines.{at_first, ended_as, more_crashes}
use Rattle.jh_conversation.specs.Machine.{Machine, are_free, caller_process, has_no_call}
use Rattle.jh_conversation.specs.Machine.{new_callers, no_caller}
use Rattle.jh_conversation.specs.Sound.{AreGivenByDrivers, AreGroups, HasSmallCounts}
use Rattle.jh_conversation.specs.Sound.{IsFreshIfThere, IsSmallStep, IsSoundMachine, IsTied}
use Rattle.jh_conversation.specs.Sound.{earlier_calls, is_busy_for, is_idle, open_calls}
use Rattle.jh_test_parts.specs.Test.{IsFitTest, TestValue}
use Rattle.jh_conversation.specs.Turn.{driver_answer, call_made, calls_ended, counts_after}
use Rattle.jh_conversation.specs.Turn.{due_in_phase, group_of, has_come_to, if_due, invoke}
use Rattle.jh_conversation.specs.Turn.{may_call, after_answer}
use Rattle.jh_test_parts.specs.declared.calls.ValuedCall.{ValuedCall}
use Rattle.jh_conversation.specs.declared.callers.Caller.{Caller}
use Rattle.jh_test_parts.specs.declared.parts.TestEntry.{TestEntry}
use Rattle.jh_test_parts.specs.declared.parts.KeyShares.{KeyShares}
use Rattle.jh_conversation.specs.declared.phase.Phase.{Phase}
use Rattle.jh_conversation.specs.declared.phase.Phase.TheVariants.{Main, Heal, Rest, Final, Over}
use Rattle.jh_conversation.specs.declared.turns.Due.{Due}
use Rattle.jh_conversation.proofs.CellLemmas.{start_stays}
use Rattle.jh_conversation.proofs.FormedLemmas.{between, free_at, in_callers, long_new, new_at}
use Rattle.jh_conversation.proofs.FormedLemmas.{none_between}
use Rattle.jh_conversation.proofs.KeptLemmas.{IsKeptByCalls, IsKeptByLine, IsKeptInTurn}

-- What asking makes of a driver.

abbrev HasAsked : DriverState → ℕ → GenAnswer × DriverState → Type 0
HasAsked d n (Call p c, e) = (e.clients ≡ d.clients) × (e.given ≡ d.given + 1) × (e.busy ≡ set d.busy (n + 1) true) × (d.given < max_calls)
HasAsked d n (Pending, e) = e ≡ d
HasAsked d n (Done, e) = e ≡ d

pub has_asked : (d : DriverState) (n random_number : ℕ) → HasAsked d n (driver_answer d n random_number)
has_asked d n random_number = cond_both (nat_le max_calls d.given) (Done, d) (asked d (thread.Client n) random_number) (HasAsked d n) (λ _. refl) may
  where
    may : nat_le max_calls d.given ≡ false → HasAsked d n (asked d (thread.Client n) random_number)
    may few = cond_both (is_done d.state) (Done, d) (answer_by d (thread.Client n) (taking d.state (question_by d (thread.Client n) random_number))) (HasAsked d n) (λ _. refl)
        (λ _. go (taking d.state (question_by d (thread.Client n) random_number)))
      where
        go : (x : Taking GeneratorState) → HasAsked d n (answer_by d (thread.Client n) x)
        go None = refl
        go (Some (c, left)) = (refl, refl, refl, leb-false _ _ few)

-- A thread's caller changes.

here : (callers : List Caller) (t : ℕ) (w : Caller) → t < length callers → get_or (set callers t w) t no_caller ≡ w
here callers t w h = get_or-set_same callers t w no_caller h

there : (callers : List Caller) (t u : ℕ) (w : Caller) → u ≢ t → get_or (set callers t w) u no_caller ≡ get_or callers u no_caller
there callers t u w ne = get_or-set_other callers t u w no_caller ne

busy_here : (busy : List Bool) (t : ℕ) (b : Bool) → t + 1 < length busy → slice_index_or (set busy (t + 1) b) (t + 1) false ≡ b
busy_here busy t b h = get_or-set_same busy (t + 1) b false h

busy_there : (busy : List Bool) (t u : ℕ) (b : Bool) → u ≢ t → slice_index_or (set busy (t + 1) b) (u + 1) false ≡ slice_index_or busy (u + 1) false
busy_there busy t u b ne = get_or-set_other busy (t + 1) (u + 1) b false (λ e. ne (omega (arith, e)))

-- the driver says of a thread what it does now, and of the others what it said
tied_next : (clients : ℕ) (d e : DriverState) (spent : Bool) (callers : List Caller) (t : ℕ) (w : Caller) (b : Bool)
    → IsTied clients d spent callers → t < clients → e.clients ≡ d.clients → e.busy ≡ set d.busy (t + 1) b
    → (has_no_call w.call ≡ false → b ≡ true) → (has_no_call w.call ≡ true → b ≡ false)
    → IsTied clients e spent (set callers t w)
tied_next clients d e spent callers t w b h within same set_is calls free = record {
  clients_is = same ∙ h.clients_is;
  long = ap length set_is ∙ length-set d.busy (t + 1) b ∙ h.long;
  wide = length-set callers t w ∙ h.wide;
  busy = λ k hk is. busy_at k hk (cases_eq k t) is;
  idle = λ goes k hk is. idle_at goes k hk (cases_eq k t) is;
}
  where
    at_here : (k : ℕ) → k ≡ t → is_busy_for e k ≡ b
    at_here k is = ap (λ l. slice_index_or l (k + 1) false) set_is ∙ ap (λ j. slice_index_or (set d.busy (t + 1) b) (j + 1) false) is ∙ busy_here d.busy t b (omega (arith, h.long))

    at_there : (k : ℕ) → k ≢ t → is_busy_for e k ≡ is_busy_for d k
    at_there k ne = ap (λ l. slice_index_or l (k + 1) false) set_is ∙ busy_there d.busy t k b ne

    call_here : (k : ℕ) → k ≡ t → is_idle (set callers t w) k ≡ has_no_call w.call
    call_here k is = ap (λ j. is_idle (set callers t w) j) is ∙ ap (λ (x : Caller). has_no_call x.call) (here callers t w (omega (arith, h.wide)))

    call_there : (k : ℕ) → k ≢ t → is_idle (set callers t w) k ≡ is_idle callers k
    call_there k ne = ap (λ (x : Caller). has_no_call x.call) (there callers t k w ne)

    busy_at : (k : ℕ) → k < clients → (k ≡ t) ⊎ (k ≡ t → ⊥) → is_idle (set callers t w) k ≡ false → is_busy_for e k ≡ true
    busy_at k hk (inl is) busy = at_here k is ∙ calls (sym (call_here k is) ∙ busy)
    busy_at k hk (inr ne) busy = at_there k ne ∙ h.busy k hk (sym (call_there k ne) ∙ busy)

    idle_at : spent ≡ false → (k : ℕ) → k < clients → (k ≡ t) ⊎ (k ≡ t → ⊥) → is_idle (set callers t w) k ≡ true → is_busy_for e k ≡ false
    idle_at goes k hk (inl is) none = at_here k is ∙ free (sym (call_here k is) ∙ none)
    idle_at goes k hk (inr ne) none = at_there k ne ∙ h.idle goes k hk (sym (call_there k ne) ∙ none)

-- a driver that has no more need not know who is idle
tied_spent : (clients : ℕ) (d : DriverState) (spent : Bool) (callers : List Caller) → IsTied clients d spent callers → IsTied clients d true callers
tied_spent clients d spent callers h = record { clients_is = h.clients_is; long = h.long; wide = h.wide; busy = h.busy; idle = λ e. absurd (true≢false e) }

tied_fresh : (clients : ℕ) (d : DriverState) (used_numbers : ℕ) → IsFresh d clients → IsTied clients d false (new_callers clients used_numbers)
tied_fresh clients d used_numbers h = record {
  clients_is = h.clients_is;
  long = ap length h.idle ∙ length-replicate (clients + 1) false;
  wide = long_new clients used_numbers;
  busy = λ k hk is. absurd (false≢true (sym is ∙ ap (λ (x : Caller). has_no_call x.call) (new_at clients used_numbers k hk)));
  idle = λ _ k hk is. ap (λ l. slice_index_or l (k + 1) false) h.idle ∙ get_or-replicate (clients + 1) (k + 1) false false (omega arith);
}

-- open calls are counted

open_more : (callers : List Caller) (t life : ℕ) (c : ValuedCall) → t < length callers → is_idle callers t ≡ true
    → open_calls (set callers t (record { used_numbers = life; call = Some c })) ≡ suc (open_calls callers)
open_more [] t life c h e = absurd (omega arith)
open_more (x ∷ callers) zero life c h e = ap suc (sym (ap (λ b. if b then open_calls callers else suc (open_calls callers)) e))
open_more (x ∷ callers) (suc t) life c h e =
    let rest = open_more callers t life c (omega arith) e in
    elim (has_no_call x.call) as (λ b. (if b then open_calls (set callers t (record { used_numbers = life; call = Some c })) else suc (open_calls (set callers t (record { used_numbers = life; call = Some c }))))
    ≡ suc (if b then open_calls callers else suc (open_calls callers))) [ true ↦ rest | false ↦ ap suc rest ]

open_fewer : (callers : List Caller) (t life : ℕ) → t < length callers → is_idle callers t ≡ false
    → suc (open_calls (set callers t (record { used_numbers = life; call = None }))) ≡ open_calls callers
open_fewer [] t life h e = absurd (omega arith)
open_fewer (x ∷ callers) zero life h e = sym (ap (λ b. if b then open_calls callers else suc (open_calls callers)) e)
open_fewer (x ∷ callers) (suc t) life h e =
    let rest = open_fewer callers t life (omega arith) e in
    elim (has_no_call x.call) as (λ b. suc (if b then open_calls (set callers t (record { used_numbers = life; call = None })) else suc (open_calls (set callers t (record { used_numbers = life; call = None }))))
    ≡ (if b then open_calls callers else suc (open_calls callers))) [ true ↦ rest | false ↦ ap suc rest ]

open_none : (callers : List Caller) → are_free callers ≡ true → open_calls callers ≡ 0
open_none [] e = refl
open_none (x ∷ callers) e = let both = and_parts (has_no_call x.call) (are_free callers) e in ap (λ b. if b then open_calls callers else suc (open_calls callers)) both.0 ∙ open_none callers both.1

open_new : (n used_numbers : ℕ) → open_calls (new_callers n used_numbers) ≡ 0
open_new zero used_numbers = refl
open_new (suc n) used_numbers = open_new n used_numbers

crashes_next : (clients : ℕ) (callers : List Caller) (crashed most t : ℕ) (w : Caller) → ((k : ℕ) → k < clients → (get_or callers k no_caller).used_numbers ≤ crashed) → t < length callers
    → crashed ≤ most → w.used_numbers ≤ most → (k : ℕ) → k < clients → (get_or (set callers t w) k no_caller).used_numbers ≤ most
crashes_next clients callers crashed most t w h within less top k hk = go (cases_eq k t)
  where
    go : (k ≡ t) ⊎ (k ≡ t → ⊥) → (get_or (set callers t w) k no_caller).used_numbers ≤ most
    go (inl is) = subst (λ (x : Caller). x.used_numbers ≤ most) (sym (ap (λ j. get_or (set callers t w) j no_caller) is ∙ here callers t w within)) top
    go (inr ne) = let low = h k hk in subst (λ (x : Caller). x.used_numbers ≤ most) (sym (there callers t k w ne)) (omega arith)

-- the calls of groups

groups_next : (clients given : ℕ) (groups : List ℕ) (keys : Option KeyShares) (t : ℕ) → AreGroups clients given groups → AreGroups clients (given + 1) (counts_after keys t groups)
groups_next clients given groups None t h = record { long = h.long; each = λ k. let low = h.each k in omega arith }
groups_next clients given groups (Some shares) t h = record {
  long = length-set groups (group_of shares t) _ ∙ h.long;
  each = λ k. go k (cases_eq k (group_of shares t)) (cases_in k);
}
  where
    g : ℕ
    g = group_of shares t

    more : List ℕ
    more = set groups g (slice_index_or groups g 0 + 1)

    cases_in : (k : ℕ) → (g < length groups) ⊎ (length groups ≤ g)
    cases_in k = cases_lt g (length groups)

    go : (k : ℕ) → (k ≡ g) ⊎ (k ≡ g → ⊥) → (g < length groups) ⊎ (length groups ≤ g) → slice_index_or more k 0 ≤ given + 1
    go k (inl is) (inl within) =
        let low = h.each g in
        let new : slice_index_or more k 0 ≡ slice_index_or groups g 0 + 1 = ap (λ j. slice_index_or more j 0) is ∙ get_or-set_same groups g (slice_index_or groups g 0 + 1) 0 within in
        omega (arith, low, new)
    go k (inl is) (inr beyond) =
        let low = h.each k in
        let old : slice_index_or more k 0 ≡ slice_index_or groups k 0 = ap (λ l. slice_index_or l k 0) (set_past groups g _ beyond) in
        omega (arith, low, old)
    go k (inr ne) within =
        let low = h.each k in
        let old : slice_index_or more k 0 ≡ slice_index_or groups k 0 = get_or-set_other groups g k _ 0 ne in
        omega (arith, low, old)

-- numbers stay small

all_given : (phase : Phase) (d : DriverState) (given : ℕ) → AreGivenByDrivers phase given d → given ≤ 2 * max_calls
all_given Main d given h = let a = h.0 in let b = h.1 in omega (arith, a, b)
all_given Heal d given h = let a = h.0 in let b = h.1 in omega (arith, a, b)
all_given Rest d given h = let a = h.0 in let b = h.1 in omega (arith, a, b)
all_given Final d given h = let a = h.0 in let b = h.1 in omega (arith, a, b)
all_given Over d given h = let a = h.0 in let b = h.1 in omega (arith, a, b)

pub small_counts : (t : TestValue) (m : Machine) → IsSoundMachine t m → HasSmallCounts t m
small_counts t m h = record {
  wide = h.0.wide;
  used_numbers = λ k hk. let low = h.2.each k hk in let few = h.2.few in let all = h.2.all in let given = all_given m.phase m.driver m.given h.1 in omega (arith, low, few, all, given);
  given = all_given m.phase m.driver m.given h.1;
  groups = h.3;
}

-- also behind an answer of the driver
pub small_counts_asked : (t : TestValue) (m : Machine) (d : DriverState) (random_numbers : Lcg) → HasSmallCounts t m → HasSmallCounts t (record m { driver = d; random_numbers = random_numbers })
small_counts_asked t m d random_numbers h = record { wide = h.wide; used_numbers = h.used_numbers; given = h.given; groups = h.groups }

pub small_process : (t : TestValue) (m : Machine) (thread : ℕ) → IsFitTest t → HasSmallCounts t m → thread < t.clients → caller_process t m thread < 2 ^ 26
small_process t m thread fit h within =
    let used_numbers : (get_or m.callers thread no_caller).used_numbers ≤ 2000000 = h.used_numbers thread within in
    let few : t.clients ≤ 16 = fit.clients.1 in
    let product : t.clients * (get_or m.callers thread no_caller).used_numbers ≤ 16 * 2000000 = mul-le-mul few used_numbers in
    omega (arith, few, within, product)

small_code : (a : StepAnswer) → code_of a < 2 ^ 63
small_code answer.Ok = omega arith
small_code answer.IdTaken = omega arith
small_code answer.TooManyActive = omega arith
small_code answer.TooManySteps = omega arith
small_code answer.NotActive = omega arith
small_code answer.NothingActive = omega arith
small_code answer.NothingToUndo = omega arith
small_code answer.NothingToRedo = omega arith

-- what was given in one phase is no more in the next one

given_on : (phase next : Phase) (given : ℕ) (d : DriverState) → earlier_calls phase ≤ earlier_calls next → AreGivenByDrivers phase given d → AreGivenByDrivers next given d
given_on phase next given d less h = (let a = h.0 in omega (arith, a, less), h.1)

earlier_is : (phase next : Phase) → phase ≡ next → earlier_calls phase ≡ earlier_calls next
earlier_is phase next is = ap earlier_calls is

earlier_few : (phase : Phase) → earlier_calls phase ≤ max_calls
earlier_few Main = omega arith
earlier_few Heal = omega arith
earlier_few Rest = omega arith
earlier_few Final = omega arith
earlier_few Over = omega arith

-- the nemesis stays over its start

back_keeps : (s : State) (moments : List Active) → (state_back_to s moments).names ≡ s.names
back_keeps s [] = refl
back_keeps s (x ∷ moments) = refl

forth_keeps : (s : State) (moments : List Active) → (state_forth_to s moments).names ≡ s.names
forth_keeps s [] = refl
forth_keeps s (x ∷ moments) = refl

moved_keeps : (s : State) (step : Step) → (moved_state s step).names ≡ s.names
moved_keeps s (Begin id f) = refl
moved_keeps s (Withdraw id) = refl
moved_keeps s WithdrawAll = refl
moved_keeps s Undo = back_keeps s s.past
moved_keeps s Redo = forth_keeps s s.future

names_stay : (s : State) (step : Step) → (state_after s step).names ≡ s.names
names_stay s step = elim (is_ok (answer_of s step)) as (λ b. (if b then moved_state s step else s).names ≡ s.names) [
  | true ↦ moved_keeps s step
  | false ↦ refl
]

-- Calls.

module _ (t : TestValue) (fit : IsFitTest t) (m : Machine) (n : ℕ) (random_numbers : Lcg) (within : n < t.clients) (idle : is_idle m.callers n ≡ true) (may : may_call t m ≡ true) (h : IsSoundMachine t m) where
  sound_same : (e : DriverState) → e ≡ m.driver → IsSoundMachine t (record m { driver = e; random_numbers = random_numbers })
  sound_same e is = subst (λ d. IsSoundMachine t (record m { driver = d; random_numbers = random_numbers })) (sym is) h

  sound_spent : (e : DriverState) → e ≡ m.driver → IsSoundMachine t (record m { driver = e; random_numbers = random_numbers; has_spent = true })
  sound_spent e is = subst (λ d. IsSoundMachine t (record m { driver = d; random_numbers = random_numbers; has_spent = true })) (sym is) (tied_spent t.clients m.driver m.has_spent m.callers h.0, h.1, h.2, h.3, h.4, h.5, h.6, h.7)

  -- a step ends the calls, though its thread is busy for the driver
  sound_stepped : (e : DriverState) → (e.clients ≡ m.driver.clients) × (e.given ≡ m.driver.given + 1) × (e.busy ≡ set m.driver.busy (n + 1) true) × (m.driver.given < max_calls)
      → IsSoundMachine t (record m { driver = e; random_numbers = random_numbers; has_spent = true })
  sound_stepped e g = (
    record {
      clients_is = g.0 ∙ h.0.clients_is;
      long = ap length g.2 ∙ length-set m.driver.busy (n + 1) true ∙ h.0.long;
      wide = h.0.wide;
      busy = λ k hk is. go k hk is (cases_eq k n);
      idle = λ b. absurd (true≢false b);
    },
    (let a = h.1.0 in let b = g.1 in omega (arith, a, b), let a = g.1 in let b = g.3 in omega (arith, a, b)),
    h.2,
    h.3,
    h.4,
    h.5,
    h.6,
    h.7,
  )
    where
      go : (k : ℕ) → k < t.clients → is_idle m.callers k ≡ false → (k ≡ n) ⊎ (k ≡ n → ⊥) → is_busy_for e k ≡ true
      go k hk is (inl same) = absurd (true≢false (sym idle ∙ ap (is_idle m.callers) (sym same) ∙ is))
      go k hk is (inr ne) = ap (λ l. slice_index_or l (k + 1) false) g.2 ∙ busy_there m.driver.busy n k true ne ∙ h.0.busy k hk is

  sound_called : (e : DriverState) (request : Request) → (e.clients ≡ m.driver.clients) × (e.given ≡ m.driver.given + 1) × (e.busy ≡ set m.driver.busy (n + 1) true) × (m.driver.given < max_calls)
      → IsSoundMachine t (invoke t n request (record m { driver = e; random_numbers = random_numbers }))
  sound_called e request g =
      let made = call_made t m n request in
      let used_numbers = (get_or m.callers n no_caller).used_numbers in
      let low = h.2.each n within in
      let inside : n < length m.callers = let wide = h.0.wide in omega (arith, wide, within) in (
        tied_next t.clients m.driver e m.has_spent m.callers n (record { used_numbers = used_numbers; call = Some made }) true h.0 within g.0 g.2 (λ _. refl) (λ b. absurd (false≢true b)),
        (let a = h.1.0 in let b = g.1 in omega (arith, a, b), let a = g.1 in let b = g.3 in omega (arith, a, b)),
        record {
          all = (let more = open_more m.callers n used_numbers made inside idle in let all = h.2.all in omega (arith, more, all));
          few = h.2.few;
          each = crashes_next t.clients m.callers m.crashed m.crashed n (record { used_numbers = used_numbers; call = Some made }) h.2.each inside (omega arith) low;
        },
        groups_next t.clients m.given m.calls_by_group t.keys n h.3,
        (λ b. absurd (none_between t m.phase m.stops m.given m.clock (and_parts _ _ may).1 b)),
        h.5,
        h.6,
        record {
          time = h.7.time;
          entries = (let a = h.7.entries in omega (arith, a));
          open_step = h.7.open_step;
          records = ((h.7.time, (let p = small_process t m n fit (small_counts t m h) within in omega (arith, p))), h.7.records);
        },
      )

  pub sound_answer : (x : GenAnswer × DriverState) → HasAsked m.driver n x → IsSoundMachine t (after_answer t n x.0 (record m { driver = x.1; random_numbers = random_numbers }))
  sound_answer (Pending, e) is = sound_same e is
  sound_answer (Done, e) is = sound_spent e is
  sound_answer (Call p (call.Step place), e) is = sound_stepped e is
  sound_answer (Call p (call.Client request), e) is = sound_called e request is

idle_is : (callers : List Caller) (k : ℕ) → (get_or callers k no_caller).call ≡ None → is_idle callers k ≡ true
idle_is callers k e = ap has_no_call e

pub sound_by_calls : (t : TestValue) → IsFitTest t → IsKeptByCalls t (IsSoundMachine t)
sound_by_calls t fit = record {
  visits = λ m n within none may h.
      let drawn = pcg64 m.random_numbers in
      sound_answer t fit m n drawn.1 within (idle_is m.callers n none) may h (driver_answer m.driver n drawn.0) (has_asked m.driver n drawn.0);
}

-- A turn.

abbrev IsSmallDue : TestValue → Option Due → Type 0
IsSmallDue t None = Unit {0}
IsSmallDue t (Some due) = (due.entry ≤ 1024) × FitsNodes (length t.start.names) due.step

entry_is : (x y : TestEntry) → Some x ≡ Some y → x ≡ y
entry_is x y e = cc

all_at : (P : TestEntry → Type 0) (xs : List TestEntry) (i : ℕ) (x : TestEntry) → All P xs → slice_get xs i ≡ Some x → P x
all_at P xs i x all e =
    let within = slice_get_within xs i x e in
    subst P (entry_is (get_or xs i x) x (sym (slice_get-get_or xs i x within) ∙ e)) (all i x within)

-- a step that is due is of the schedule, whose steps fit, or withdraws all faults
pub small_due : (t : TestValue) → IsFitTest t → (m : Machine) (due : Due) → due_in_phase m.phase t m ≡ Some due → (due.entry ≤ 1024) × FitsNodes (length t.start.names) due.step
small_due t fit m due e = subst (IsSmallDue t) e (go m.phase)
  where
    of_entry : (entry : Option TestEntry) → slice_get t.schedule m.taken ≡ entry → IsSmallDue t (if_due m entry)
    of_entry None e = tt
    of_entry (Some entry) e =
        let there = slice_get_within t.schedule m.taken entry e in
        let few = fit.schedule.0 in
        cond_both (has_come_to entry.at m) (Some (record { entry = m.taken; step = entry.step })) None (IsSmallDue t) (λ _. (omega (arith, there, few), all_at (λ entry. FitsNodes (length t.start.names) entry.step) t.schedule m.taken entry fit.schedule.1 e)) (λ _. tt)

    go : (phase : Phase) → IsSmallDue t (due_in_phase phase t m)
    go Main = cond_both (calls_ended t m || not (m.stops == 0)) None (if_due m (slice_get t.schedule m.taken)) (IsSmallDue t) (λ _. tt) (λ _. of_entry (slice_get t.schedule m.taken) refl)
    go Heal = cond_both (is_empty m.nemesis.active) None (Some (record { entry = length t.schedule; step = WithdrawAll })) (IsSmallDue t) (λ _. tt) (λ _. (fit.schedule.0, tt))
    go Rest = tt
    go Final = tt
    go Over = tt

pub sound_in_turn : (t : TestValue) → IsFitTest t → IsKeptInTurn t (IsSoundMachine t)
sound_in_turn t fit = record {
  calls = sound_by_calls t fit;
  begins = λ m due none is h.
      let fits = small_due t fit m due is in
      let few = fits.0 in (
        h.0,
        h.1,
        h.2,
        h.3,
        h.4,
        h.5,
        (names_stay m.nemesis due.step ∙ h.6.0, start_stays m.nemesis due.step ∙ h.6.1),
        record {
          time = h.7.time;
          entries = (let a = h.7.entries in omega (arith, a));
          open_step = ((omega (arith, few)), small_code (answer_of m.nemesis due.step));
          records = ((h.7.time, omega (arith, few), fits.1), h.7.records);
        },
      );
  heals = λ m is e h. (h.0, (given_on m.phase Heal m.given m.driver (let a = earlier_is _ _ is in omega (arith, a)) h.1), h.2, h.3, (λ _. (and_parts _ _ e).0), h.5, h.6, h.7);
  rests = λ m is none quiet h. (h.0, (given_on m.phase Rest m.given m.driver (let a = earlier_is _ _ is in omega (arith, a)) h.1), h.2, h.3, (λ _. h.4 (between _ _ is tt)), h.5, h.6, h.7);
  ends_rest = λ m is h. (h.0, (given_on m.phase Over m.given m.driver (earlier_few m.phase) h.1), h.2, h.3, (λ b. absurd b), h.5, h.6, h.7);
  finals = λ m driver is there h.
      let fresh : IsFresh driver t.clients × (driver.given ≡ 0) = subst (IsFreshIfThere t.clients) there h.5 in
      let free = h.4 (between _ _ is tt) in (
        tied_fresh t.clients driver m.crashed fresh.0,
        (let a = earlier_is _ _ is in let b = h.1.0 in let c = h.1.1 in omega (arith, a, b, c), (let a = fresh.1 in omega (arith, a))),
        record {
          all = (let old = open_none m.callers free in let new = open_new t.clients m.crashed in let all = h.2.all in omega (arith, old, new, all));
          few = h.2.few;
          each = λ k hk. subst (λ (x : Caller). x.used_numbers ≤ m.crashed) (sym (new_at t.clients m.crashed k hk)) (omega arith);
        },
        h.3,
        (λ b. absurd b),
        tt,
        h.6,
        h.7,
      );
  ends_final = λ m is e h. (h.0, (given_on m.phase Over m.given m.driver (earlier_few m.phase) h.1), h.2, h.3, (λ b. absurd b), h.5, h.6, h.7);
}

-- A line.

pub sound_by_line : (t : TestValue) → IsFitTest t → IsKeptByLine t (IsSoundMachine t)
sound_by_line t fit = record {
  counts_line = λ m h. h;
  clocks = λ m time h. (h.0, h.1, h.2, h.3, h.4, h.5, h.6, record { time = omega arith; entries = h.7.entries; open_step = h.7.open_step; records = h.7.records });
  stops = λ m h. h;
  refuses = λ m why h. h;
  step_ends = λ m step op is h.
      let small : (step.entry < 2 ^ 63) × (step.code < 2 ^ 63) = subst IsSmallStep is h.7.open_step in (
        h.0,
        h.1,
        h.2,
        h.3,
        h.4,
        h.5,
        h.6,
        record {
          time = h.7.time;
          entries = (let a = h.7.entries in omega (arith, a));
          open_step = tt;
          records = ((h.7.time, small.0, small.1), h.7.records);
        },
      );
  finishes = λ m n c op is no fits h.
      let inside = in_callers m.callers n c is in
      let within : n < t.clients = let wide = h.0.wide in omega (arith, wide, inside) in
      let busy : is_idle m.callers n ≡ false = ap has_no_call is in
      let next : Caller = record { used_numbers = (get_or m.callers n no_caller).used_numbers + more_crashes op.kind; call = None } in
      let low = h.2.each n within in (
        tied_next t.clients m.driver (driver_after_end m.driver (thread.Client n) (ended_as op.kind)) m.has_spent m.callers n next false h.0 within refl refl (λ e. absurd (true≢false e)) (λ _. refl),
        h.1,
        record {
          all = (let fewer = open_fewer m.callers n ((get_or m.callers n no_caller).used_numbers + more_crashes op.kind) inside busy in let all = h.2.all in omega (arith, fewer, all));
          few = (let few = h.2.few in let one = few_crashes op.kind in omega (arith, few, one));
          each = crashes_next t.clients m.callers m.crashed (m.crashed + more_crashes op.kind) n next h.2.each inside (omega arith) (omega (arith, low));
        },
        h.3,
        (λ b. absurd (true≢false (sym (idle_is m.callers n (free_at m.callers (h.4 b) n)) ∙ busy))),
        h.5,
        h.6,
        record {
          time = h.7.time;
          entries = (let a = h.7.entries in omega (arith, a));
          open_step = h.7.open_step;
          records = ((h.7.time, (let p = small_process t m n fit (small_counts t m h) within in omega (arith, p))), h.7.records);
        },
      );
}
  where
    few_crashes : (kind : Kind) → more_crashes kind ≤ 1
    few_crashes Kind.Invoke = omega arith
    few_crashes Kind.Ok = omega arith
    few_crashes Kind.Fail = omega arith
    few_crashes Kind.Info = omega arith

-- At first.

fresh_if_there : (t : TestValue) (g : Option Generator) (final_calls : Option DriverState) → IsFinalDriver t g final_calls → IsFreshIfThere t.clients final_calls
fresh_if_there t None None h = tt
fresh_if_there t (Some g) None h = absurd h
fresh_if_there t None (Some d) h = absurd h
fresh_if_there t (Some g) (Some d) h = (h.1, h.0.count)

pub sound_at_first : (t : TestValue) (d : Drivers t) → IsSoundMachine t (at_first t d.first d.final_calls (first_state t.start))
sound_at_first t d =
    let given : d.first.given ≡ 0 = d.is_first.0.count in (
      tied_fresh t.clients d.first 0 d.is_first.1,
      (omega (arith, given), omega (arith, given)),
      record {
        all = (let e = open_new t.clients 0 in omega (arith, e));
        few = omega arith;
        each = λ k hk. subst (λ (x : Caller). x.used_numbers ≤ 0) (sym (new_at t.clients 0 k hk)) (omega arith);
      },
      record { long = length-replicate t.clients 0; each = λ k. none_given t.clients k },
      (λ b. absurd b),
      fresh_if_there t t.final_calls d.final_calls d.is_final,
      (refl, refl),
      record { time = omega arith; entries = omega arith; open_step = tt; records = tt },
    )
  where
    none_given : (n k : ℕ) → slice_index_or (replicate n 0) k 0 ≤ 0
    none_given zero k = omega arith
    none_given (suc n) zero = omega arith
    none_given (suc n) (suc k) = none_given n k
