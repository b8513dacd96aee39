-- Transactions over lists, the workload list-append (Jepsen's page on jepsen.tests.cycle.append;
-- Kingsbury and Alvaro, "Elle", 2020). Each key has a list, empty at first; an append puts its
-- element at the end of it. Elle calls such histories traceable: since no element is appended to a
-- key twice, what a read shows says which appends came before it, and in which order. Keys and
-- elements are numbers here, and whoever has other ones numbers them, equal ones alike.
-- Transactions go by their places in a list, their micro-operations by their indexes, from 0.
use Rattle.std.specs.Prelude.{◌≡◌, ◌==◌, ◌⊎◌, ℕ, ◌<◌, Bool, true, List, [], ◌∷◌, if◌then◌else◌}
use Rattle.std.specs.Prelude.{take, slice_get, Option, Some, None, unwrap_or, option_map}
use Rattle.std.specs.Prelude.{option_and_then}
use Rattle.std.specs.List.{list_any, flat_map, All, IsDistinct}
use Rattle.jh_txn.specs.declared.txn.MicroOp.{MicroOp}
use Rattle.jh_txn.specs.declared.txn.MicroOp.TheVariants.{Append, Read}
use Rattle.jh_txn.specs.declared.txn.Outcome.{Outcome}
use Rattle.jh_txn.specs.declared.txn.Outcome.TheVariants.{Done, Failed}
use Rattle.jh_txn.specs.declared.txn.Txn.{Txn}

-- whether a number stands in a list
abbrev pub includes : List ℕ → ℕ → Bool
includes xs x = list_any (λ y. y == x) xs

-- the first number stands in the list, and the second one behind it
abbrev pub ComesBefore : List ℕ → ℕ → ℕ → Type 0
ComesBefore [] first second = ⊥
ComesBefore (x ∷ xs) first second =
    ((x ≡ first) × (includes xs second ≡ true)) ⊎ ComesBefore xs first second

-- no number stands there twice
abbrev pub HasNoRepeat : List ℕ → Type 0
HasNoRepeat xs = IsDistinct ◌==◌ xs

-- how the transaction at a place ended; past the end of the list there is one that failed
abbrev pub outcome_at : List Txn → ℕ → Outcome
outcome_at txns place = unwrap_or (option_map (λ txn. txn.outcome) (slice_get txns place)) Failed

-- its micro-operations, in order
abbrev pub ops_at : List Txn → ℕ → List MicroOp
ops_at txns place = unwrap_or (option_map (λ txn. txn.ops) (slice_get txns place)) []

-- the transaction is known to have happened
abbrev pub IsDoneAt : List Txn → ℕ → Type 0
IsDoneAt txns place = outcome_at txns place ≡ Done

-- it is known not to have happened
abbrev pub IsFailedAt : List Txn → ℕ → Type 0
IsFailedAt txns place = outcome_at txns place ≡ Failed

-- it may have happened
abbrev pub IsPossibleAt : List Txn → ℕ → Type 0
IsPossibleAt txns place = ¬ IsFailedAt txns place

-- the elements that micro-operations append to a key, in their order
abbrev pub appended : ℕ → List MicroOp → List ℕ
appended key [] = []
appended key (Append other element ∷ ops) =
    if other == key then element ∷ appended key ops else appended key ops
appended key (Read other seen ∷ ops) = appended key ops

-- what the transaction at a place appends to a key
abbrev pub appends_at : List Txn → ℕ → ℕ → List ℕ
appends_at txns key place = appended key (ops_at txns place)

-- what it appends to it before one of its micro-operations
abbrev pub appends_before : List Txn → ℕ → ℕ → ℕ → List ℕ
appends_before txns key place index = appended key (take index (ops_at txns place))

-- The list of a key behind the transactions at these places: what they append to it, one
-- transaction after another.
abbrev pub list_after : List Txn → ℕ → List ℕ → List ℕ
list_after txns key places = flat_map (appends_at txns key) places

-- the transaction at a place appends this element to this key
abbrev pub Appends : List Txn → ℕ → ℕ → ℕ → Type 0
Appends txns key element place = includes (appends_at txns key place) element ≡ true

-- No element is appended to a key twice, by whatever transactions.
pub record AppendOnce (txns : List Txn) : Type 0 where
  pub within : (key place : ℕ) → HasNoRepeat (appends_at txns key place)
  pub apart : (key element first second : ℕ) → Appends txns key element first
      → Appends txns key element second → first ≡ second

-- the key of a read, and the elements that it saw
abbrev pub read_content : MicroOp → Option (ℕ × List ℕ)
read_content (Append key element) = None
read_content (Read key seen) = Some (key, seen)

-- The transaction at a place is done, and its micro-operation at this index is a read of this key,
-- which saw these elements.
abbrev pub Saw : List Txn → ℕ → ℕ → ℕ → List ℕ → Type 0
Saw txns place index key seen =
    IsDoneAt txns place
    × (option_and_then read_content (slice_get (ops_at txns place) index) ≡ Some (key, seen))

-- the key of a micro-operation is below a number
abbrev pub IsKeyBelow : ℕ → MicroOp → Type 0
IsKeyBelow count (Append key element) = key < count
IsKeyBelow count (Read key seen) = key < count

-- all keys are below a number
abbrev pub AreKeysBelow : ℕ → List Txn → Type 0
AreKeysBelow count txns = All (λ txn. All (IsKeyBelow count) txn.ops) txns
