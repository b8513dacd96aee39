-- The dependencies that one read by itself says. This project's own; the definitions of dependencies
-- in `jh_txn` name the papers for each kind of them.
use Rattle.std.specs.Prelude.{◌≡◌, ◌≢◌, ℕ, true, false, List, ◌∷◌, ◌++◌}
use Rattle.jh_txn.specs.declared.dependency.Why.{Why}
use Rattle.jh_txn.specs.declared.dependency.Why.TheVariants.{WriteRead, WriteWrite, FirstCommitter}
use Rattle.jh_txn.specs.declared.dependency.Why.TheVariants.{ReadWrite}
use Rattle.jh_txn.specs.declared.txn.Txn.{Txn}
use Rattle.jh_txn.specs.Dependencies.{MustBeThere}
use Rattle.jh_txn.specs.Transactions.{Appends, includes}

-- `Holds` is true of each dependency that a read says: a read of a key by the transaction at a place,
-- which saw these elements. From the writer of each element that it shows to the reader, and to the
-- writer of the next one; from the reader to the writer of each element that it lacks, and where the
-- reader appends to the key itself once more, as from the first committer. These are linearly many
-- pairs in what is appended to the key.
pub record ReadSays (txns : List Txn) (place key : ℕ) (seen : List ℕ) (Holds : Why → ℕ → ℕ → Type 0)
    : Type 0 where
  pub shown : (element writer : ℕ) → includes seen element ≡ true
      → Appends txns key element writer → writer ≢ place → Holds (WriteRead key element) writer place
  pub in_turn : (one other first second : ℕ) (front back : List ℕ)
      → seen ≡ front ++ one ∷ other ∷ back → Appends txns key one first
      → Appends txns key other second → first ≢ second → Holds (WriteWrite key one) first second
  pub lacked : (element writer : ℕ) → includes seen element ≡ false
      → Appends txns key element writer → MustBeThere txns writer → writer ≢ place
      → Holds (ReadWrite key element) place writer
  pub wins : (own other writer : ℕ) → Appends txns key own place
      → includes seen other ≡ false → Appends txns key other writer → MustBeThere txns writer
      → writer ≢ place → Holds (FirstCommitter key own) place writer
