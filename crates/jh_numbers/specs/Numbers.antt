-- Numbers for the values of owners, in the order in which they came first: equal values of one owner
-- have one number. This project's own.
use Rattle.std.specs.Prelude.{◌≡◌, ℕ, Bool, true, ◌==◌, ◌&&◌, List, [], ◌∷◌, ◌++◌, Some, slice_get}
use Rattle.std.specs.Prelude.{if◌then◌else◌}
use Rattle.std.specs.List.{list_any}
use Rattle.std.specs.Ordering.{is_eq}
use Rattle.jh_edn.specs.Edn.{Edn}
use Rattle.jh_edn.specs.Order.{edn_cmp}

-- Whether two are one: of one owner, with values that rank equal. Values in normal form do where they
-- are equal as EDN says.
abbrev pub is_same_owned : ℕ × Edn → ℕ × Edn → Bool
is_same_owned one other = (one.0 == other.0) && is_eq (edn_cmp one.1 other.1)

-- the number of this one, among those that have numbers
abbrev pub HasNumber : List (ℕ × Edn) → ℕ × Edn → ℕ → Type 0
HasNumber values one number =
    (value : ℕ × Edn) × (slice_get values number ≡ Some value) × (is_same_owned one value ≡ true)

-- those that have numbers, and behind them this one where it has none
abbrev pub with_value : List (ℕ × Edn) → ℕ × Edn → List (ℕ × Edn)
with_value values one = if list_any (is_same_owned one) values then values else values ++ one ∷ []
