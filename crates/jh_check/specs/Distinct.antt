-- Sets of values, written in normal order with each value once. All values are in normal form,
-- where two are equal (EDN's format description, "Equality") as they are one.
use Rattle.std.specs.Prelude.{◌≡◌, ℕ, Bool, false, not, if◌then◌else◌, List, [], ◌∷◌, filter}
use Rattle.std.specs.Prelude.{count_by}
use Rattle.std.specs.List.{list_any}
use Rattle.std.specs.Ordering.{is_eq}
use Rattle.jh_edn.specs.Edn.{Edn}
use Rattle.jh_edn.specs.Order.{edn_cmp, in_order, is_below}

abbrev pub is_same : Edn → Edn → Bool
is_same x y = is_eq (edn_cmp x y)

abbrev pub has_same_value : List Edn → Edn → Bool
has_same_value values x = list_any (is_same x) values

-- how many of the values it is
abbrev pub count_of : List Edn → Edn → ℕ
count_of values x = count_by (is_same x) values

-- each value once, where it first stands
abbrev pub distinct_values : List Edn → List Edn
distinct_values [] = []
distinct_values (x ∷ xs) = x ∷ filter (λ y. not (is_same x y)) (distinct_values xs)

-- the set of the values
abbrev pub set_of : List Edn → List Edn
set_of values = distinct_values (in_order is_below values)

-- none of the values is below this one
abbrev pub IsLeast : Edn → List Edn → Type 0
IsLeast x [] = Unit {0}
IsLeast x (y ∷ ys) = (is_below y x ≡ false) × IsLeast x ys

-- no value is below one before it
abbrev pub Ascends : List Edn → Type 0
Ascends [] = Unit {0}
Ascends (x ∷ xs) = IsLeast x xs × Ascends xs

-- whether it is found, or is not, as wanted
abbrev pub is_wanted : Bool → Bool → Bool
is_wanted wanted found = if wanted then found else not found
