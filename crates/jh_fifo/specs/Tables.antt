-- Tables of operations by their values.
use Rattle.std.specs.Prelude.{◌≡◌, ◌≢◌, ℕ, ◌<◌, Some, List, length}
use Rattle.std.specs.BTreeMap.{get}
use Rattle.std.specs.Ordering.{nat_cmp}
use Rattle.std.specs.declared.alloc.Global.{Global}
use Rattle.std.specs.declared.collections.btree_map.BTreeMap.{BTreeMap}
use Rattle.jh_fifo.specs.declared.operations.FifoCall.{FifoCall}
use Rattle.jh_fifo.specs.declared.operations.FifoCall.TheVariants.{Enqueue, Dequeue}
use Rattle.jh_fifo.specs.declared.operations.FifoOp.{FifoOp}
use Rattle.jh_fifo.specs.declared.tables.Side.{Side}
use Rattle.jh_fifo.specs.declared.tables.Side.TheVariants.{In, Out}
use Rattle.jh_fifo.specs.declared.tables.Table.{Table}
use Rattle.jh_fifo.specs.declared.tables.Table.TheVariants.{Once, Twice}
use Rattle.jh_fifo.specs.Reasons.{call_at}

-- the call puts this value in, or takes it out
abbrev pub MovesValue : Side → ℕ → FifoCall → Type 0
MovesValue In value call = call ≡ Enqueue value
MovesValue Out value call = call ≡ Dequeue value

-- The table has the place of each value, of the operations below a bound.
pub record IsTable (ops : List FifoOp) (side : Side) (bound : ℕ) (table : BTreeMap ℕ ℕ Global)
    : Type 0 where
  pub sound : (value place : ℕ) → get nat_cmp table value ≡ Some place
      → (place < bound) × MovesValue side value (call_at ops place)
  pub whole : (value place : ℕ) → place < bound → MovesValue side value (call_at ops place)
      → get nat_cmp table value ≡ Some place

abbrev pub IsTableOf : List FifoOp → Side → Table → Type 0
IsTableOf ops side (Once table) = IsTable ops side (length ops) table
IsTableOf ops side (Twice first second) = (first ≢ second)
    × ((value : ℕ) × MovesValue side value (call_at ops first) × MovesValue side value (call_at ops second))
