-- A run has fewer events than a world may have: at most two for each call, and one for each entry of the schedule.
use Rattle.std.proofs.Common.{◌≡◌, ℕ, zero, suc, ◌+◌, ◌*◌, ◌≤◌, ◌<◌, Bool, true, false, ◌||◌, List, [], ◌∷◌, ◌++◌, length, refl, sym, ap, ◌∙◌, arith, length-append, leb-false}
use Rattle.std.specs.Prelude.{if◌then◌else◌, slice_get, nat_le, Option, Some, None}
use Rattle.std.proofs.lemmas.Option.{same_Some}
use Rattle.jh_ops.specs.declared.call.Call.{Call}
use Rattle.jh_ops.specs.declared.call.Call.TheVariants.{Client, Step}
use Rattle.jh_ops.specs.declared.call.Request.{Request}
use Rattle.jh_ops.specs.declared.call.Workload.{Workload}
use Rattle.jh_ops.specs.declared.call.Workload.TheVariants.{Register, Counter, Set, Ids}
use Rattle.jh_gen.specs.DriverState.{all_threads}
use Rattle.jh_gen.specs.Offers.{Offer, member_offer, offer, is_exhausted, offer_unless_exhausted}
use Rattle.jh_gen.specs.Scope.{Scope, Question, is_in_scope}
use Rattle.jh_gen.specs.Trace.{Path, Trace, trace_under}
use Rattle.jh_ops.specs.Requests.{max_calls_of}
use Rattle.jh_simnode.specs.declared.events.Event.{Event}
use Rattle.jh_simnode.specs.declared.schedule.Entry.{Entry}
use Rattle.jh_simnode.specs.declared.events.WorldError.TheVariants as world
use Rattle.jh_simnode.specs.declared.serial.RunError.{RunError}
use Rattle.jh_simnode.specs.declared.serial.RunError.TheVariants as error
use Rattle.jh_simnode.specs.Counts.{answered_count, applied_count, is_call, is_step, last_event}
use Rattle.jh_simnode.specs.Limits.{max_events}
use Rattle.jh_simnode.specs.Plans.{PlanValue, IsKeptPlan}
use Rattle.jh_simnode.specs.Runs.{Stops, Turns, Move, Comes, RunReaches, Reaches, ask_move, call_event, entry_move, is_due, move_of, move_offered, turn_question, run_generator, ticks_after, turn_move}
use Rattle.jh_simnode.specs.Runs.Move.{Ticks, Applies, Waits, Calls, Ends, Rests}
use Rattle.jh_simnode.proofs.EventCountLemmas.{count_yes, count_no, last_push}
use Rattle.jh_simnode.specs.Running.{StopsOrFills}
use Rattle.jh_simnode.proofs.GivenCallLemmas.{call_is}

-- ---- the calls that a run gives

-- each path begins with the one member
abbrev StartZero : Trace → Type 0
StartZero [] = Unit {0}
StartZero (path ∷ trace) = ((rest : Path) × (path ≡ 0 ∷ rest)) × StartZero trace

under_zero : (t : Trace) → StartZero t → length (trace_under 0 t) ≡ length t
under_zero [] h = refl
under_zero (path ∷ t) h = rw h.0.1 (ap suc (under_zero t h.1))

unless_some : (b : Bool) (scope : Scope) (q : Question) (o : Offer) (x : Path × Call) → offer_unless_exhausted b scope q o ≡ Some x → (b ≡ false) × (o ≡ Some x)
unless_some b scope q o x =
    elim (is_in_scope scope q.asker) as (λ c. (if c then (if b then None else o) else None) ≡ Some x → (b ≡ false) × (o ≡ Some x)) [
      | true ↦ inner b
      | false ↦ λ h. absurd cc
    ] where
      inner : (a : Bool) → (if a then None else o) ≡ Some x → (a ≡ false) × (o ≡ Some x)
      inner true h = absurd cc
      inner false h = (refl, h)

member_some : (o : Offer) (path : Path) (call : Call) → member_offer 0 o ≡ Some (path, call) → (rest : Path) × (path ≡ 0 ∷ rest)
member_some None path call h = absurd cc
member_some (Some (rest, c)) path call h = (rest, sym (ap (λ (x : Path × Call). x.0) (same_Some (0 ∷ rest, c) (path, call) h)))

first_false : (a b : Bool) → (a || b) ≡ false → a ≡ false
first_false true b h = h
first_false false b h = refl

-- a call is given only where fewer were, and by the one member
call_given : (p : PlanValue) (r : Turns) (journal : List Event) (path : Path) (request : Request) → StartZero r.trace → move_of p r journal ≡ Calls path request
    → (length r.trace < p.ops) × ((rest : Path) × (path ≡ 0 ∷ rest))
call_given p r journal path request zeros h =
    let scope = all_threads p.clients in
    let q = turn_question p r journal in
    let found = unless_some (is_exhausted (run_generator p) r.trace scope) scope q _ (path, Client request) (call_is p r journal path request h) in
    let room = leb-false p.ops (length (trace_under 0 r.trace)) (first_false (nat_le p.ops (length (trace_under 0 r.trace))) _ found.0) in
    let same = under_zero r.trace zeros in
    (omega (arith, room, same), member_some _ path (Client request) found.1)

-- ---- which move comes when

abbrev is_turn : Move → Bool
is_turn Ticks = false
is_turn (Applies entry) = false
is_turn Waits = true
is_turn (Calls path request) = true
is_turn Ends = true
is_turn Rests = true

abbrev is_tick : Move → Bool
is_tick Ticks = true
is_tick (Applies entry) = false
is_tick Waits = false
is_tick (Calls path request) = false
is_tick Ends = false
is_tick Rests = false

both_ways : {A : Type 0} (P : A → Type 0) (b : Bool) (x y : A) → P x → P y → P (if b then x else y)
both_ways P true x y h k = h
both_ways P false x y h k = k

offered_turn : (o : Offer) → is_turn (move_offered o) ≡ true
offered_turn None = refl
offered_turn (Some (path, Client request)) = refl
offered_turn (Some (path, Step entry)) = refl

turn_turns : (p : PlanValue) (r : Turns) (journal : List Event) → is_turn (turn_move p r journal) ≡ true
turn_turns p r journal =
    both_ways (λ (m : Move). is_turn m ≡ true) _ Rests (ask_move p r journal) refl
    (both_ways (λ (m : Move). is_turn m ≡ true) _ Ends _ refl (offered_turn (offer (run_generator p) r.trace (all_threads p.clients) (turn_question p r journal))))

turn_no_tick : (m : Move) → is_turn m ≡ true → is_tick m ≡ false
turn_no_tick Ticks h = absurd cc
turn_no_tick (Applies entry) h = refl
turn_no_tick Waits h = refl
turn_no_tick (Calls path request) h = refl
turn_no_tick Ends h = refl
turn_no_tick Rests h = refl

entry_no_tick : (p : PlanValue) (r : Turns) (journal : List Event) (o : Option Entry) → is_tick (entry_move p r journal o) ≡ false
entry_no_tick p r journal None = turn_no_tick (turn_move p r journal) (turn_turns p r journal)
entry_no_tick p r journal (Some entry) =
    both_ways (λ (m : Move). is_tick m ≡ false) (is_due r journal entry) (Applies entry) (turn_move p r journal) refl (turn_no_tick (turn_move p r journal) (turn_turns p r journal))

tick_is_due : (p : PlanValue) (r : Turns) (journal : List Event) → move_of p r journal ≡ Ticks → ticks_after p journal (last_event journal) ≡ true
tick_is_due p r journal =
    elim (ticks_after p journal (last_event journal)) as (λ b. (if b then Ticks else entry_move p r journal (slice_get p.schedule (applied_count journal))) ≡ Ticks → b ≡ true) [
      | true ↦ λ h. refl
      | false ↦ λ h. let never : is_tick Ticks ≡ false = ap is_tick (sym h) ∙ entry_no_tick p r journal (slice_get p.schedule (applied_count journal)) in sym never
    ]

entry_is_there : (p : PlanValue) (r : Turns) (journal : List Event) (entry : Entry) → move_of p r journal ≡ Applies entry → (e : Entry) × (slice_get p.schedule (applied_count journal) ≡ Some e)
entry_is_there p r journal entry =
    elim (slice_get p.schedule (applied_count journal)) as (λ o. (if ticks_after p journal (last_event journal) then Ticks else entry_move p r journal o) ≡ Applies entry → (e : Entry) × (o ≡ Some e)) [
      | Some e ↦ λ h. (e, refl)
      | None ↦ never (ticks_after p journal (last_event journal))
    ] where
      never : (b : Bool) → (if b then Ticks else turn_move p r journal) ≡ Applies entry → (e : Entry) × (None ≡ Some e)
      never true h = absurd cc
      never false h = let clash : is_turn (Applies entry) ≡ true = ap is_turn (sym h) ∙ turn_turns p r journal in absurd cc

there_below : {X : Type 0} (xs : List X) (i : ℕ) (x : X) → slice_get xs i ≡ Some x → i < length xs
there_below [] i x h = absurd cc
there_below (y ∷ ys) zero x h = omega arith
there_below (y ∷ ys) (suc i) x h = let below = there_below ys i x h in omega (arith, below)

-- ---- how many events there are

-- a call may still have its tick
abbrev owes : Option Event → ℕ
owes None = 0
owes (Some (Event.Call process node request draw reply)) = 1
owes (Some (Event.Step step answer)) = 0
owes (Some Event.Tick) = 0

due_owes : (p : PlanValue) (journal : List Event) (o : Option Event) → ticks_after p journal o ≡ true → owes o ≡ 1
due_owes p journal None h = absurd cc
due_owes p journal (Some (Event.Call process node request draw reply)) h = refl
due_owes p journal (Some (Event.Step step answer)) h = absurd cc
due_owes p journal (Some Event.Tick) h = absurd cc

record IsCounted (p : PlanValue) (r : Turns) (journal : List Event) : Type 0 where
  calls : answered_count journal ≡ length r.trace
  zeros : StartZero r.trace
  few : length r.trace ≤ p.ops
  steps : applied_count journal ≤ length p.schedule
  events : length journal + owes (last_event journal) ≤ 2 * answered_count journal + applied_count journal

one_more : (journal : List Event) (e : Event) → length (journal ++ e ∷ []) ≡ length journal + 1
one_more journal e = length-append journal (e ∷ [])

comes_counted : (p : PlanValue) (r r' : Turns) (journal journal' : List Event) (m : Move) → move_of p r journal ≡ m → Comes p r journal r' journal' m → IsCounted p r journal → IsCounted p r' journal'
comes_counted p r r' journal journal' Ticks is s k =
    let e = Event.Tick in
    let due : owes (last_event journal) ≡ 1 = due_owes p journal (last_event journal) (tick_is_due p r journal is) in
    let calls : answered_count (journal ++ e ∷ []) ≡ answered_count journal = count_no is_call journal e refl in
    let steps : applied_count (journal ++ e ∷ []) ≡ applied_count journal = count_no is_step journal e refl in
    let events = k.events in
    rw (s.0, s.1) (record {
      calls = calls ∙ k.calls;
      zeros = k.zeros;
      few = k.few;
      steps = rw steps k.steps;
      events = rw (last_push journal e, calls, steps, one_more journal e) (omega (arith, events, due));
    })
comes_counted p r r' journal journal' (Applies entry) is s k =
    let e = Event.Step entry.step s.1.0 in
    let there = entry_is_there p r journal entry is in
    let below = there_below p.schedule (applied_count journal) there.0 there.1 in
    let calls : answered_count (journal ++ e ∷ []) ≡ answered_count journal = count_no is_call journal e refl in
    let steps : applied_count (journal ++ e ∷ []) ≡ applied_count journal + 1 = count_yes is_step journal e refl in
    let events = k.events in
    rw (s.0, s.1.1) (record {
      calls = calls ∙ k.calls;
      zeros = k.zeros;
      few = k.few;
      steps = rw steps (omega (arith, below));
      events = rw (last_push journal e, calls, steps, one_more journal e) (omega (arith, events));
    })
comes_counted p r r' journal journal' Waits is s k = rw (s.0, s.1) (record { calls = k.calls; zeros = k.zeros; few = k.few; steps = k.steps; events = k.events })
comes_counted p r r' journal journal' (Calls path request) is s k =
    let e = call_event p r journal request s.1.0 in
    let given = call_given p r journal path request k.zeros is in
    let calls : answered_count (journal ++ e ∷ []) ≡ answered_count journal + 1 = count_yes is_call journal e refl in
    let steps : applied_count (journal ++ e ∷ []) ≡ applied_count journal = count_no is_step journal e refl in
    let events = k.events in
    let before = k.calls in
    let below = given.0 in
    rw (s.0, s.1.1) (record {
      calls = calls ∙ omega (arith, before);
      zeros = (given.1, k.zeros);
      few = omega (arith, below);
      steps = rw steps k.steps;
      events = rw (last_push journal e, calls, steps, one_more journal e) (omega (arith, events));
    })
comes_counted p r r' journal journal' Ends is s k = rw (s.0, s.1) (record { calls = k.calls; zeros = k.zeros; few = k.few; steps = k.steps; events = k.events })
comes_counted p r r' journal journal' Rests is s k = absurd s

reaches_counted : (p : PlanValue) (n : ℕ) (r : Turns) (journal : List Event) → Reaches p n r journal → IsCounted p r journal
reaches_counted p zero r journal h = rw (h.0, h.1) (record { calls = refl; zeros = tt; few = omega arith; steps = omega arith; events = omega arith })
reaches_counted p (suc n) r journal h =
    comes_counted p h.0 r h.1.0 journal (move_of p h.0 h.1.0) refl h.1.1.1 (reaches_counted p n h.0 h.1.0 h.1.1.0)

-- how many calls a plan has at most
pub ops_few : (w : Workload) → max_calls_of w ≤ 10000
ops_few Register = omega arith
ops_few Counter = omega arith
ops_few Set = omega arith
ops_few Ids = omega arith

pub events_suffice : (p : PlanValue) (r : Turns) (journal : List Event) → IsKeptPlan p → RunReaches p r journal → length journal < max_events
events_suffice p r journal kept reached =
    let k = reaches_counted p reached.run.0 r journal reached.run.1 in
    let events = k.events in
    let calls = k.calls in
    let few = k.few in
    let steps = k.steps in
    let ops = kept.fit.ops.1 in
    let most = ops_few p.database.workload in
    let entries = kept.few in
    omega (arith, events, calls, few, steps, ops, most, entries)

-- so a run never stops since its world is full
pub never_fills : (p : PlanValue) → IsKeptPlan p → (e : RunError) → StopsOrFills p e → Stops p e
never_fills p kept error.Stuck h = h
never_fills p kept error.OutOfMemory h = h
never_fills p kept (error.World world.OutOfMemory) h = h
never_fills p kept (error.World world.UnknownNode) h = h
never_fills p kept (error.World world.TooManyEvents) h =
    let few = events_suffice p h.0 h.1 kept h.2 in
    let many = h.3 in
    absurd (omega (arith, few, many))
