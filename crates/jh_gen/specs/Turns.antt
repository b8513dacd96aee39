-- Calls taken from a row of members, by their places (this project's own).
use Rattle.std.specs.Prelude.{ℕ, zero, suc, ◌-◌, ◌%◌, Bool, true, not, ◌&&◌, List, [], ◌∷◌}
use Rattle.std.specs.Prelude.{if◌then◌else◌}
use Rattle.std.specs.Prelude.{length, None}
use Rattle.std.specs.Option.{option_or}
use Rattle.jh_gen.specs.Scope.{Question, has_busy_thread, is_in_scope}
use Rattle.jh_gen.specs.State.{GeneratorState, is_done, Taking, taking_within, taking}
use Rattle.jh_gen.specs.declared.node.Question as asked

abbrev pub question : asked.Question → Question
question a = record { asker = a.asker; random_number = a.random_number; busy = a.busy.now }

abbrev pub RowMembers : Type 0
RowMembers = List (Bool × GeneratorState)

-- the place of the first member that isn't done
abbrev pub first_open_place : RowMembers → ℕ
first_open_place [] = 0
first_open_place (m ∷ ms) = if is_done m.1 then suc (first_open_place ms) else 0

-- from the member at a place
abbrev pub turn_at : List ℕ → RowMembers → ℕ → Question → Taking RowMembers
turn_at awaited [] k q = None
turn_at awaited (m ∷ ms) zero q =
    if not m.0 && has_busy_thread q.busy awaited then None
    else taking_within (λ r. (true, r) ∷ ms) (taking m.1 q)
turn_at awaited (m ∷ ms) (suc k) q = taking_within (λ ns. m ∷ ns) (turn_at awaited ms k q)

-- the place of the first lot for a thread
abbrev pub lot_at : List (List ℕ × GeneratorState) → ℕ → ℕ
lot_at [] thread = 0
lot_at (l ∷ ls) thread = if is_in_scope l.0 thread then 0 else suc (lot_at ls thread)

abbrev pub lot_turn : List (List ℕ × GeneratorState) → ℕ → Question
    → Taking (List (List ℕ × GeneratorState))
lot_turn [] k q = None
lot_turn (l ∷ ls) zero q = taking_within (λ r. (l.0, r) ∷ ls) (taking l.1 q)
lot_turn (l ∷ ls) (suc k) q = taking_within (λ ns. l ∷ ns) (lot_turn ls k q)

-- from the first member that isn't done
abbrev pub first_turn : List ℕ → RowMembers → Question → Taking RowMembers
first_turn awaited ms q = turn_at awaited ms (first_open_place ms) q

-- how many members aren't done
abbrev pub open_len : RowMembers → ℕ
open_len [] = 0
open_len (m ∷ ms) = if is_done m.1 then open_len ms else suc (open_len ms)

-- the place of a member by its number among those that aren't done
abbrev pub open_place : RowMembers → ℕ → ℕ
open_place [] k = 0
open_place (m ∷ ms) zero = if is_done m.1 then suc (open_place ms zero) else 0
open_place (m ∷ ms) (suc k) = suc (open_place ms (if is_done m.1 then suc k else k))

abbrev pub is_done_at : RowMembers → ℕ → Bool
is_done_at [] k = true
is_done_at (m ∷ ms) zero = is_done m.1
is_done_at (m ∷ ms) (suc k) = is_done_at ms k

-- the first call that there is at so many places from one on
abbrev pub turn_among : RowMembers → Question → ℕ → ℕ → Taking RowMembers
turn_among ms q from zero = None
turn_among ms q from (suc n) =
    option_or (if is_done_at ms from then None else turn_at [] ms from q)
    (turn_among ms q (suc from) n)

abbrev pub any_turn : RowMembers → Question → Taking RowMembers
any_turn ms q =
    let from = open_place ms (q.random_number % open_len ms) in
    option_or (turn_among ms q from (length ms - from)) (turn_among ms q 0 from)
