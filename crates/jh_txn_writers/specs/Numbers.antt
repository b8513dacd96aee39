-- What the numbers of a history's keys and elements owe. Keys and elements are any values there, and
-- whoever reads a history numbers them: equal keys alike, equal elements of equal keys alike, and
-- elements of different keys differently. This project's own.
use Rattle.std.specs.Prelude.{◌≡◌, ℕ, ◌<◌, List}
use Rattle.std.specs.List.{All}
use Rattle.jh_txn.specs.declared.txn.MicroOp.{MicroOp}
use Rattle.jh_txn.specs.declared.txn.MicroOp.TheVariants.{Append, Read}
use Rattle.jh_txn.specs.declared.txn.Txn.{Txn}
use Rattle.jh_txn.specs.Transactions.{AppendOnce, Appends, AreKeysBelow}

-- the elements of a micro-operation are below a number
abbrev pub AreElementsOfBelow : ℕ → MicroOp → Type 0
AreElementsOfBelow count (Append key element) = element < count
AreElementsOfBelow count (Read key seen) = All (λ element. element < count) seen

-- all elements are below a number
abbrev pub AreElementsBelow : ℕ → List Txn → Type 0
AreElementsBelow count txns = All (λ txn. All (AreElementsOfBelow count) txn.ops) txns

-- no element is appended to two keys
abbrev pub AppendToOneKey : List Txn → Type 0
AppendToOneKey txns =
    (one other element first second : ℕ) → Appends txns one element first
    → Appends txns other element second → one ≡ other

-- Keys are below a number and elements below another one; each element is appended at most once,
-- and to one key.
pub record AreNumbersOf (txns : List Txn) (keys elements : ℕ) : Type 0 where
  pub keys_below : AreKeysBelow keys txns
  pub elements_below : AreElementsBelow elements txns
  pub once : AppendOnce txns
  pub one_key : AppendToOneKey txns
