-- A number of dependencies linear in the history, from which all others follow, and the writers
-- whose order the reads tell. This project's own.
use Rattle.std.specs.Prelude.{◌≡◌, ◌≢◌, ◌⊎◌, ℕ, Bool, true, false, List, ◌∷◌, ◌++◌}
use Rattle.std.specs.List.{AllByRecursion}
use Rattle.jh_txn.specs.declared.txn.Txn.{Txn}
use Rattle.jh_txn.specs.Dependencies.{MustBeThere}
use Rattle.jh_txn.specs.RealTime.{PrecedesInTime}
use Rattle.jh_txn.specs.Transactions.{Saw, Appends, appends_before, includes, ComesBefore}

-- A list for each key: each read of the key begins it, and one saw all of it, if there is one.
pub record AreLongest (txns : List Txn) (longest : ℕ → List ℕ) : Type 0 where
  pub begins : (place index key : ℕ) (seen : List ℕ) → Saw txns place index key seen
      → (rest : List ℕ) × (longest key ≡ seen ++ rest)
  pub seen : (place index key : ℕ) (seen : List ℕ) → Saw txns place index key seen
      → (reader at : ℕ) × Saw txns reader at key (longest key)

-- What an order keeps: from writer to writer along the longest read of a key; from the writer of
-- the last element of a read (the reader's own appends left out) to the reader; from a reader to
-- the writer of the next element of the longest read that is not the reader's own; from the readers
-- of all of it to the writers of what no read has; and real time.
pub record KeepsNext (txns : List Txn) (real_time : Bool) (longest : ℕ → List ℕ)
    (order : List ℕ) : Type 0 where
  pub along : (key one other first second : ℕ) (front back : List ℕ)
      → longest key ≡ front ++ one ∷ other ∷ back → Appends txns key one first
      → Appends txns key other second → first ≢ second → ComesBefore order first second
  pub to_reader : (place index key element writer : ℕ) (base : List ℕ)
      → Saw txns place index key (base ++ element ∷ appends_before txns key place index)
      → Appends txns key element writer → writer ≢ place → ComesBefore order writer place
  pub from_reader : (place index key element writer : ℕ) (seen own rest : List ℕ)
      → Saw txns place index key seen → longest key ≡ seen ++ own ++ element ∷ rest
      → AllByRecursion (λ one. Appends txns key one place) own
      → Appends txns key element writer → writer ≢ place → ComesBefore order place writer
  pub unread : (place index key element writer : ℕ)
      → Saw txns place index key (longest key)
      → Appends txns key element writer → includes (longest key) element ≡ false
      → MustBeThere txns writer → writer ≢ place → ComesBefore order place writer
  pub in_time : (first second : ℕ) → real_time ≡ true → PrecedesInTime txns first second
      → MustBeThere txns second → first ≢ second → ComesBefore order first second

-- The reads tell which of two writers of a key comes first: one that saw the longest list of it has
-- an element of one of the two, or one of the two read the key.
abbrev pub IsTold : List Txn → ℕ → List ℕ → ℕ → ℕ → ℕ → ℕ → Type 0
IsTold txns key longest one other first second =
    (includes longest one ≡ true) ⊎ ((includes longest other ≡ true)
    ⊎ (((index : ℕ) × (seen : List ℕ) × Saw txns first index key seen)
    ⊎ ((index : ℕ) × (seen : List ℕ) × Saw txns second index key seen)))
