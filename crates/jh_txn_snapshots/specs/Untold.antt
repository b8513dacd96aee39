-- Writers of a key of which no read tells the order: no read has what they append, and they do not
-- read the key themselves (blind writes). No dependency keeps these apart. This project's own.
use Rattle.std.specs.Prelude.{◌≡◌, ◌≢◌, ◌⊎◌, ℕ, true, List, ◌∷◌, ◌++◌}
use Rattle.jh_txn.specs.declared.txn.Point.{Point}
use Rattle.jh_txn.specs.declared.txn.Point.TheVariants.{Start, Commit}
use Rattle.jh_txn.specs.declared.txn.Txn.{Txn}
use Rattle.jh_txn.specs.Dependencies.{ReadsWith}
use Rattle.jh_txn.specs.SnapshotOrders.{HasPoint, IsEarlier}
use Rattle.jh_txn.specs.Transactions.{Saw, Appends, includes}

-- The transaction appends the element to the key, no read has it, and the transaction does not read
-- the key itself.
pub record IsUntold (txns : List Txn) (key element place : ℕ) : Type 0 where
  pub appends : Appends txns key element place
  pub unread : (reader : ℕ) → ¬ ReadsWith txns key element reader
  pub blind : (index : ℕ) (seen : List ℕ) → ¬ Saw txns place index key seen

-- two different untold writers of a key, both of them there
pub record AreUntoldPair (txns : List Txn) (points : List Point) (key one other first second : ℕ)
    : Type 0 where
  pub differ : first ≢ second
  pub one_untold : IsUntold txns key one first
  pub other_untold : IsUntold txns key other second
  pub first_there : HasPoint points (Start first)
  pub second_there : HasPoint points (Start second)

-- no two untold writers of a key overlap
abbrev pub AreUntoldApart : List Txn → List Point → Type 0
AreUntoldApart txns points =
    (key one other first second : ℕ) → AreUntoldPair txns points key one other first second
    → IsEarlier points (Commit first) (Start second)
    ⊎ IsEarlier points (Commit second) (Start first)

-- A list for each key: its untold writers that are there, each over before the next one starts.
pub record AreUntoldInTurn (txns : List Txn) (points : List Point) (turn : ℕ → List ℕ)
    : Type 0 where
  pub whole : (key element place : ℕ) → IsUntold txns key element place
      → HasPoint points (Start place) → includes (turn key) place ≡ true
  pub there : (key place : ℕ) → includes (turn key) place ≡ true → HasPoint points (Start place)
  pub next : (key first second : ℕ) (front back : List ℕ)
      → turn key ≡ front ++ first ∷ second ∷ back → IsEarlier points (Commit first) (Start second)

-- the transaction commits just behind its start
abbrev pub IsAtOnce : List Point → ℕ → Type 0
IsAtOnce points place =
    (front back : List Point) × (points ≡ front ++ Start place ∷ Commit place ∷ back)

-- where a key has two untold writers, each commits just behind its start
abbrev pub AreUntoldAtOnce : List Txn → List Point → Type 0
AreUntoldAtOnce txns points =
    (key one other first second : ℕ) → AreUntoldPair txns points key one other first second
    → IsAtOnce points first
