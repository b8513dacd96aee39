-- Cycles of dependencies (Adya, "Weak consistency", 1999: G0 of `:ww` alone, G1c without `:rw`,
-- G-single with one, G2 with more. That a cycle in which no two `:rw` are neighbours excludes
-- snapshot isolation: Cerone and Gotsman, "Analysing snapshot isolation", 2016, after Fekete and
-- others, "Making snapshot isolation serializable", 2005).
use Rattle.std.specs.Prelude.{◌≡◌, ℕ, Bool, true, false, List, [], ◌∷◌}
use Rattle.jh_txn.specs.declared.dependency.Step.{Step}
use Rattle.jh_txn.specs.declared.dependency.Why.{Why}
use Rattle.jh_txn.specs.declared.dependency.Why.TheVariants.{WriteRead, WriteWrite, FirstCommitter}
use Rattle.jh_txn.specs.declared.dependency.Why.TheVariants.{ReadWrite, RealTime}
use Rattle.jh_txn.specs.declared.model.ConsistencyModel.{ConsistencyModel}
use Rattle.jh_txn.specs.declared.txn.Txn.{Txn}
use Rattle.jh_txn.specs.Dependencies.{IsDependency}

-- the transaction of the first of these steps; where there is none, the one that they lead to
abbrev pub first_place : List Step → ℕ → ℕ
first_place [] last = last
first_place (step ∷ steps) last = step.place

-- Each step is a dependency of the next step's transaction on its own, and the last one of this
-- transaction.
abbrev pub LeadTo : List Txn → ConsistencyModel → List Step → ℕ → Type 0
LeadTo txns model [] last = Unit {0}
LeadTo txns model (step ∷ steps) last =
    IsDependency txns model step.why step.place (first_place steps last)
    × LeadTo txns model steps last

-- Steps, each from its own transaction to that of the next one, and the last one to that of the
-- first one.
abbrev pub IsCycle : List Txn → ConsistencyModel → List Step → Type 0
IsCycle txns model [] = ⊥
IsCycle txns model (step ∷ steps) = LeadTo txns model (step ∷ steps) step.place

-- whether a dependency is an anti-dependency, `:rw`
abbrev pub is_read_write : Why → Bool
is_read_write (WriteRead key element) = false
is_read_write (WriteWrite key element) = false
is_read_write (FirstCommitter key element) = false
is_read_write (ReadWrite key element) = true
is_read_write RealTime = false

-- why the first of these steps leads on; where there is none, this
abbrev pub first_why : List Step → Why → Why
first_why [] why = why
first_why (step ∷ steps) why = step.why

-- no two neighbours are `:rw`, with one more behind the last
abbrev pub AreReadWritesApart : List Step → Why → Type 0
AreReadWritesApart [] why = Unit {0}
AreReadWritesApart (step ∷ steps) why =
    (is_read_write step.why ≡ true → is_read_write (first_why steps why) ≡ true → ⊥)
    × AreReadWritesApart steps why

-- a cycle in which no two `:rw` are neighbours, around the end too
abbrev pub IsSnapshotCycle : List Txn → ConsistencyModel → List Step → Type 0
IsSnapshotCycle txns model [] = ⊥
IsSnapshotCycle txns model (step ∷ steps) =
    IsCycle txns model (step ∷ steps) × AreReadWritesApart (step ∷ steps) step.why
