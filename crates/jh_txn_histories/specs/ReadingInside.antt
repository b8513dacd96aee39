-- What the parts of reading go by: proofs rest on it, and no public clause names it. This project's
-- own.
use Rattle.std.specs.Prelude.{◌≡◌, ℕ, ◌≤◌, min, Bool, true, List, [], ◌∷◌, ◌++◌, map, Option, Some}
use Rattle.std.specs.Prelude.{None, option_map}
use Rattle.std.specs.List.{list_any, Contains, IsDistinct}
use Rattle.jh_edn.specs.Edn.{Edn}
use Rattle.jh_edn.specs.Normal.{normal}
use Rattle.jh_edn.specs.View.{view, views}
use Rattle.jh_numbers.specs.Numbers.{HasNumber, is_same_owned}
use Rattle.jh_ops.specs.Operation.{Operation}
use Rattle.jh_ops.specs.declared.pairs.Pair.{Pair}
use Rattle.jh_txn_histories.specs.Histories.{appends_of_pairs, repeated_place}
use Rattle.jh_txn_histories.specs.Written.{Written, append, read, has_repeat}
use Rattle.jh_txn_histories.specs.declared.tables.Tables.{Tables}
use Rattle.jh_txn_histories.specs.declared.written.WrittenOp.{WrittenOp}

-- a micro-operation that a program holds
abbrev pub written : WrittenOp → Written
written (WrittenOp.Append key element) = append (view key.now) (view element.now)
written (WrittenOp.Read key seen) = read (view key.now) (views seen.now)

abbrev pub written_ops : List WrittenOp → List Written
written_ops ops = map written ops

-- what is found, behind what was found before
abbrev pub found_behind : {A : Type 0} → List A → Option (List A) → Option (List A)
found_behind front found = option_map (λ more. front ++ more) found

-- the lesser of two places, of which one or both may be missing
abbrev pub lesser_of_places : Option ℕ → Option ℕ → Option ℕ
lesser_of_places None other = other
lesser_of_places (Some place) None = Some place
lesser_of_places (Some place) (Some other) = Some (min place other)

-- The least place of which P holds, or none where it holds of none.
abbrev pub IsLeastPlace : (ℕ → Type 0) → Option ℕ → Type 0
IsLeastPlace P None = (place : ℕ) → ¬ P place
IsLeastPlace P (Some place) = P place × ((other : ℕ) → P other → place ≤ other)

-- what has a number keeps it
abbrev pub Stays : List (ℕ × Edn) → List (ℕ × Edn) → Type 0
Stays old new = (one : ℕ × Edn) (number : ℕ) → HasNumber old one number → HasNumber new one number

-- in both tables
pub record TablesGrow (old new : Tables) : Type 0 where
  pub keys : Stays old.keys new.keys
  pub elements : Stays old.elements new.elements

-- a number of the append's key is in the table of keys, and its element in that of elements, as one of this key
abbrev pub IsInTables : Tables → Edn × Edn → Type 0
IsInTables tables one =
    (key : ℕ) × HasNumber tables.keys (0, normal one.0) key
    × (list_any (is_same_owned (key, normal one.1)) tables.elements ≡ true)

-- an entry of the table of elements is that of one of the appends
abbrev pub IsAppended : List (ℕ × Edn) → List (Edn × Edn) → ℕ × Edn → Type 0
IsAppended keys appends entry =
    (one : Edn × Edn) × Contains appends one × HasNumber keys (0, normal one.0) entry.0
    × (normal one.1 ≡ entry.1)

-- The tables have what these append, and nothing else.
pub record AreNoted (tables : Tables) (appends : List (Edn × Edn)) : Type 0 where
  pub distinct : IsDistinct is_same_owned tables.keys
  pub noted : (one : Edn × Edn) → Contains appends one → IsInTables tables one
  pub only : (entry : ℕ × Edn) → Contains tables.elements entry
      → IsAppended tables.keys appends entry

-- Behind any appends in front these ones are noted as well, and it is told whether one was there.
abbrev pub NotesAppends : Tables → Tables → List (Edn × Edn) → Bool → Type 0
NotesAppends old new appends again =
    (front : List (Edn × Edn)) → AreNoted old front
    → (again ≡ has_repeat front appends) × AreNoted new (front ++ appends)

-- The same of the appends of a pair, and the place at which it is refused.
abbrev pub NotesPair : List Operation → Tables → Tables → Pair → Option ℕ → Type 0
NotesPair history old new pair place =
    (front : List Pair) → AreNoted old (appends_of_pairs history front)
    → (place ≡ repeated_place history front pair)
    × AreNoted new (appends_of_pairs history (front ++ pair ∷ []))
