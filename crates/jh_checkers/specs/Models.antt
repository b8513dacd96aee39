-- The names of the consistency models (those of Jepsen's page "Consistency Models", which calls the
-- third one strong snapshot isolation, after Daudjee and Salem, 2006).
use Rattle.std.specs.Prelude.{ℕ, List, [], ◌∷◌, codes, if◌then◌else◌, Option, Some, None}
use Rattle.std.specs.Str.{bytes_eq}
use Rattle.jh_txn.specs.declared.model.ConsistencyModel.{ConsistencyModel}
use Rattle.jh_txn.specs.declared.model.ConsistencyModel.TheVariants.{Serializable}
use Rattle.jh_txn.specs.declared.model.ConsistencyModel.TheVariants.{StrictSerializable}
use Rattle.jh_txn.specs.declared.model.ConsistencyModel.TheVariants.{SnapshotIsolation}
use Rattle.jh_txn.specs.declared.model.ConsistencyModel.TheVariants.{StrongSnapshotIsolation}

-- the names of all, in the order of help
abbrev pub model_names : List (List ℕ)
model_names =
    codes "strict-serializable" ∷ codes "serializable" ∷ codes "strong-snapshot-isolation"
    ∷ codes "snapshot-isolation" ∷ []

-- the model that a text names
abbrev pub model_named : List ℕ → Option ConsistencyModel
model_named name =
    if bytes_eq name (codes "strict-serializable") then Some StrictSerializable
    else if bytes_eq name (codes "serializable") then Some Serializable
    else if bytes_eq name (codes "strong-snapshot-isolation") then Some StrongSnapshotIsolation
    else if bytes_eq name (codes "snapshot-isolation") then Some SnapshotIsolation
    else None
