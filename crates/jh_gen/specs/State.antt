-- What is left of a generator, as plain data, and how a call is taken from it. The code keeps this
-- and no trace: counts, next numbers and which members have begun. `state_left` says what a trace
-- leaves of a generator.
-- This project's own.
use Rattle.std.specs.Prelude.{ℕ, suc, ◌+◌, ◌-◌, ◌==◌, ℤ, pos, ◌+ℤ◌, Bool, true, false, not, ◌&&◌}
use Rattle.jh_edn.specs.Edn.{is_empty}
use Rattle.std.specs.Prelude.{◌||◌, if◌then◌else◌, List, [], ◌∷◌, map, length, filter}
use Rattle.std.specs.Prelude.{Option, None, Some}
use Rattle.std.specs.Prelude.{option_map, int_lt}
use Rattle.jh_gen.specs.Generator.{Generator, nothing, once, rising, forever, seq, limit, mix}
use Rattle.jh_gen.specs.Generator.{phases, reserve, each_thread, clients, nemesis_only, Generators}
use Rattle.jh_gen.specs.Generator.{no_generators, generator, ShareList, no_shares, share}
use Rattle.jh_gen.specs.Trace.{Trace, trace_under}
use Rattle.jh_gen.specs.Scope.{Scope, is_client_thread, is_nemesis_thread, is_share_thread}
use Rattle.jh_gen.specs.Scope.{is_beyond, is_in_scope, Question, has_busy_thread}
use Rattle.jh_gen.specs.Offers.{max_number, shares_len, is_exhausted, head_of, picked_value}
use Rattle.jh_gen.specs.Fits.{shares_sum}
use Rattle.jh_gen.specs.Rises.{risen}
use Rattle.jh_gen.specs.declared.rise.Rise.{Rise}
use Rattle.jh_ops.specs.declared.call.Call.{Call}

mutual
  pub data GeneratorState : Type 0 where
    -- nothing
    gone : GeneratorState
    -- one call
    one : Call → GeneratorState
    -- adds or writes, the next one of this number
    counting : Rise → ℤ → GeneratorState
    -- a call again and again
    endless : Call → GeneratorState
    -- members in their turn, which begin when none of these threads is busy
    in_turn : List ℕ → GeneratorStates → GeneratorState
    -- so many calls of another
    limited : ℕ → GeneratorState → GeneratorState
    -- members in a mixture
    mixed : GeneratorStates → GeneratorState
    -- others, each for some threads
    split : Lots → GeneratorState

  -- states of members, each with whether it has given a call
  pub data GeneratorStates : Type 0 where
    no_states : GeneratorStates
    state : Bool → GeneratorState → GeneratorStates → GeneratorStates

  -- states, each for the threads that use it
  pub data Lots : Type 0 where
    no_lots : Lots
    lot : List ℕ → GeneratorState → Lots → Lots

-- whether nothing is left
abbrev mutual
  pub is_done : GeneratorState → Bool
  is_done gone = true
  is_done (one c) = false
  is_done (counting r n) = false
  is_done (endless c) = false
  is_done (in_turn awaited ss) = are_all_done ss
  is_done (limited n s) = (n == 0) || is_done s
  is_done (mixed ss) = are_all_done ss
  is_done (split ls) = are_lots_done ls

  pub are_all_done : GeneratorStates → Bool
  are_all_done no_states = true
  are_all_done (state b s ss) = is_done s && are_all_done ss

  pub are_lots_done : Lots → Bool
  are_lots_done no_lots = true
  are_lots_done (lot threads s ls) = is_done s && are_lots_done ls

-- a call, and what is left after it
abbrev pub Taking : Type 0 → Type 0
Taking X = Option (Call × X)

abbrev pub taking_within : {X Y : Type 0} → (X → Y) → Taking X → Taking Y
taking_within f o = option_map (λ r. (r.0, f r.1)) o

abbrev pub counting_after : Rise → ℤ → GeneratorState
counting_after r n = if int_lt n max_number then counting r (n +ℤ pos 1) else gone

-- the call that a thread gets now, if any
abbrev mutual
  pub taking : GeneratorState → Question → Taking GeneratorState
  taking gone q = None
  taking (one c) q = Some (c, gone)
  taking (counting r n) q = Some (risen r n, counting_after r n)
  taking (endless c) q = Some (c, endless c)
  taking (in_turn awaited ss) q =
      taking_within (in_turn awaited) (head_of (open_takings awaited ss q))
  taking (limited n s) q =
      if n == 0 then None else taking_within (limited (n - 1)) (taking s q)
  taking (mixed ss) q = taking_within mixed (picked_value q.random_number (open_takings [] ss q))
  taking (split ls) q = taking_within split (lot_taking ls q)

  -- from each of the members that aren't done
  pub open_takings : List ℕ → GeneratorStates → Question → List (Taking GeneratorStates)
  open_takings awaited no_states q = []
  open_takings awaited (state b s ss) q =
      if is_done s then map (taking_within (state b s)) (open_takings awaited ss q)
      else (if not b && has_busy_thread q.busy awaited then None
      else taking_within (λ r. state true r ss) (taking s q))
      ∷ map (taking_within (state b s)) (open_takings awaited ss q)

  pub lot_taking : Lots → Question → Taking Lots
  lot_taking no_lots q = None
  lot_taking (lot threads s ls) q =
      if is_in_scope threads q.asker then taking_within (λ r. lot threads r ls) (taking s q)
      else taking_within (lot threads s) (lot_taking ls q)

abbrev pub joined_lots : Lots → Lots → Lots
joined_lots no_lots ls = ls
joined_lots (lot threads s rest) ls = lot threads s (joined_lots rest ls)

-- a lot for each thread
abbrev pub lots_each : (ℕ → GeneratorState) → List ℕ → Lots
lots_each f [] = no_lots
lots_each f (x ∷ xs) = lot (x ∷ []) (f x) (lots_each f xs)

-- what is left of a generator after a trace
abbrev mutual
  pub state_left : Generator → Trace → Scope → GeneratorState
  state_left nothing t scope = gone
  state_left (once c) t scope = if is_exhausted (once c) t scope then gone else one c
  state_left (rising r n) t scope =
      if is_exhausted (rising r n) t scope then gone else counting r (n +ℤ pos (length t))
  state_left (forever c) t scope =
      if is_exhausted (forever c) t scope then gone else endless c
  state_left (seq gs) t scope = in_turn [] (states_left gs 0 t scope)
  state_left (limit n g) t scope = limited (n - length t) (state_left g (trace_under 0 t) scope)
  state_left (mix gs) t scope = mixed (states_left gs 0 t scope)
  state_left (phases gs) t scope = in_turn scope (states_left gs 0 t scope)
  state_left (reserve ms g) t scope =
      split (joined_lots (lots_of ms 0 0 t scope)
      (lot (filter (is_beyond (shares_sum ms)) scope)
      (state_left g (trace_under (shares_len ms) t) (filter (is_beyond (shares_sum ms)) scope))
      no_lots))
  state_left (each_thread g) t scope =
      split (lots_each (λ x. state_left g (trace_under x t) (x ∷ [])) scope)
  state_left (clients g) t scope =
      split (lot (filter is_client_thread scope)
      (state_left g (trace_under 0 t) (filter is_client_thread scope)) no_lots)
  state_left (nemesis_only g) t scope =
      split (lot (filter is_nemesis_thread scope)
      (state_left g (trace_under 0 t) (filter is_nemesis_thread scope)) no_lots)

  pub states_left : Generators → ℕ → Trace → Scope → GeneratorStates
  states_left no_generators i t scope = no_states
  states_left (generator g gs) i t scope =
      state (not (is_empty (trace_under i t))) (state_left g (trace_under i t) scope)
      (states_left gs (suc i) t scope)

  pub lots_of : ShareList → ℕ → ℕ → Trace → Scope → Lots
  lots_of no_shares i first t scope = no_lots
  lots_of (share n g ms) i first t scope =
      lot (filter (is_share_thread first n) scope)
      (state_left g (trace_under i t) (filter (is_share_thread first n) scope))
      (lots_of ms (suc i) (first + n) t scope)

-- The lists that contracts see, as states.

abbrev pub states_from : List (Bool × GeneratorState) → GeneratorStates
states_from [] = no_states
states_from (m ∷ ms) = state m.0 m.1 (states_from ms)

abbrev pub lots_from : List (List ℕ × GeneratorState) → Lots
lots_from [] = no_lots
lots_from (m ∷ ms) = lot m.0 m.1 (lots_from ms)

abbrev mutual
  pub state_size : GeneratorState → ℕ
  state_size gone = 0
  state_size (one c) = 0
  state_size (counting r n) = 0
  state_size (endless c) = 0
  state_size (in_turn awaited ss) = suc (states_size ss)
  state_size (limited n s) = suc (state_size s)
  state_size (mixed ss) = suc (states_size ss)
  state_size (split ls) = suc (lots_size ls)

  pub states_size : GeneratorStates → ℕ
  states_size no_states = 0
  states_size (state b s ss) = suc (state_size s + states_size ss)

  pub lots_size : Lots → ℕ
  lots_size no_lots = 0
  lots_size (lot threads s ls) = suc (state_size s + lots_size ls)

abbrev pub row_size : List (Bool × GeneratorState) → ℕ
row_size ms = states_size (states_from ms)

abbrev pub split_size : List (List ℕ × GeneratorState) → ℕ
split_size ms = lots_size (lots_from ms)

-- the call that was taken, and what is left in any case
abbrev pub taken_call : {X : Type 0} → Taking X → Option Call
taken_call None = None
taken_call (Some r) = Some r.0

abbrev pub rest_of : {X : Type 0} → X → Taking X → X
rest_of x None = x
rest_of x (Some r) = r.1
