-- What the functions compute that find the completion at which a search got stuck: proofs rest on
-- it, and no public clause names it. This project's own.
use Rattle.std.specs.Prelude.{◌≡◌, ℕ, ◌+◌, ◌<◌, ◌≤◌, ◌&&◌, Bool, true, false, List, length, nat_lt}
use Rattle.std.specs.Prelude.{slice_index_or}
use Rattle.jh_linear.specs.declared.register.RegOp.{RegOp}
use Rattle.jh_linear.specs.CheckingInside.{is_outcome_done}
use Rattle.jh_linear.specs.Order.{op_at}
use Rattle.jh_linear.specs.Stuck.{op_end}

-- whether an operation is known to have happened by a history that is cut right before a place
abbrev pub is_known : RegOp → ℕ → Bool
is_known op cut = is_outcome_done op.outcome && nat_lt (op_end op) cut

-- whether that holds of the operation at an index of an order
abbrev pub is_known_at : List RegOp → List ℕ → ℕ → ℕ → Bool
is_known_at ops order cut i = is_known (op_at ops (slice_index_or order i 0)) cut

-- So many numbers of an order there are up to the last operation that is known to have happened.
pub record IsKnownUntil (ops : List RegOp) (order : List ℕ) (cut count : ℕ) : Type 0 where
  pub bounded : count ≤ length order
  pub last : (i : ℕ) → i + 1 ≡ count → is_known_at ops order cut i ≡ true
  pub behind : (i : ℕ) → count ≤ i → i < length order → is_known_at ops order cut i ≡ false
