-- Registers each of whose values is written once (Gibbons and Korach, "Testing shared memories",
-- SIAM J. Comput. 26, 1997: a read mapping of writes that are told apart by their values). Their
-- extension to compare-and-set and to operations of unknown outcome is this project's own. An
-- operation goes by its number, its index in a list of operations, as in jh_linear.
use Rattle.std.specs.Prelude.{◌≡◌, ◌≢◌, ℕ, zero, suc, ℤ, Option, Some, None, List, [], ◌∷◌}
use Rattle.jh_linear.specs.declared.register.RegCall.{RegCall}
use Rattle.jh_linear.specs.declared.register.RegCall.TheVariants.{Read, Write, Cas}
use Rattle.jh_linear.specs.declared.register.RegOp.{RegOp}
use Rattle.jh_linear.specs.Order.{op_at, IsPossible, IsDone}

-- the call writes this value
abbrev pub WritesValue : RegCall → ℤ → Type 0
WritesValue (Read seen) value = ⊥
WritesValue (Write new) value = new ≡ value
WritesValue (Cas old new) value = new ≡ value

-- the register has to have this value right before the call
abbrev pub NeedsValue : RegCall → ℤ → Type 0
NeedsValue (Read None) value = ⊥
NeedsValue (Read (Some seen)) value = seen ≡ value
NeedsValue (Write new) value = ⊥
NeedsValue (Cas old new) value = old ≡ value

-- the register has this value right behind the call, whatever it had before
abbrev pub GivesValue : RegCall → ℤ → Type 0
GivesValue (Read None) value = ⊥
GivesValue (Read (Some seen)) value = seen ≡ value
GivesValue (Write new) value = new ≡ value
GivesValue (Cas old new) value = new ≡ value

-- the call of the operation with a number
abbrev pub reg_call_at : List RegOp → ℕ → RegCall
reg_call_at ops number = (op_at ops number).call

-- the operation did not fail, and writes this value
abbrev pub WritesAt : List RegOp → ℕ → ℤ → Type 0
WritesAt ops number value = IsPossible ops number × WritesValue (reg_call_at ops number) value

-- Each value is written by one operation at most, and the initial one by none.
pub record WriteOnce (ops : List RegOp) (initial : Option ℤ) : Type 0 where
  pub apart : (value : ℤ) (first second : ℕ) → WritesAt ops first value
      → WritesAt ops second value → first ≡ second
  pub fresh : (value : ℤ) (number : ℕ) → WritesAt ops number value → initial ≢ Some value

-- The operation is known to have happened, or it wrote what the first of these others needed, that
-- one what the next of them needed, and so on, and the last of them is known to have happened.
abbrev pub IsNeeded : List RegOp → List ℕ → ℕ → Type 0
IsNeeded ops [] number = IsDone ops number
IsNeeded ops (reader ∷ readers) number =
    (value : ℤ) × WritesAt ops number value × NeedsValue (reg_call_at ops reader) value
    × IsNeeded ops readers reader

-- The operation has to stand in each order, since it is needed.
abbrev pub MustStand : List RegOp → ℕ → Type 0
MustStand ops number = (readers : List ℕ) × IsNeeded ops readers number

-- A cluster is the values to which compare-and-sets lead from one beginning. It goes by a number: 0
-- is the cluster that begins with the initial value, and n + 1 the one that begins with the write
-- of number n.
abbrev pub ClusterBegins : List RegOp → Option ℤ → ℕ → ℤ → Type 0
ClusterBegins ops initial zero value = initial ≡ Some value
ClusterBegins ops initial (suc number) value =
    IsPossible ops number × (reg_call_at ops number ≡ Write value)

-- These compare-and-sets, from the last to the first, lead from the beginning of a cluster to a
-- value.
abbrev pub IsChainTo : List RegOp → Option ℤ → ℕ → List ℕ → ℤ → Type 0
IsChainTo ops initial cluster [] value = ClusterBegins ops initial cluster value
IsChainTo ops initial cluster (number ∷ numbers) value =
    (old : ℤ) × IsPossible ops number × (reg_call_at ops number ≡ Cas old value)
    × IsChainTo ops initial cluster numbers old

-- the cluster has this value
abbrev pub HasValue : List RegOp → Option ℤ → ℕ → ℤ → Type 0
HasValue ops initial cluster value =
    (numbers : List ℕ) × IsChainTo ops initial cluster numbers value

-- The operation is of this cluster: it leaves one of its values.
abbrev pub IsOfCluster : List RegOp → Option ℤ → ℕ → ℕ → Type 0
IsOfCluster ops initial cluster number =
    (value : ℤ) × GivesValue (reg_call_at ops number) value × HasValue ops initial cluster value
