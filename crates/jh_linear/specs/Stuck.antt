-- Why operations have no linearization: the first completion with which they have none any more.
-- (Knossos gives the operation at which its search got stuck; the definition is this project's
-- own.)
use Rattle.std.specs.Prelude.{◌≡◌, ℕ, ◌+◌, ◌-◌, ◌^◌, ◌≤◌, ℤ, Option, List, map, unwrap_or, nat_lt}
use Rattle.std.specs.Prelude.{if◌then◌else◌}
use Rattle.jh_linear.specs.declared.register.Outcome.{Outcome}
use Rattle.jh_linear.specs.declared.register.Outcome.TheVariants.{Done, Failed, Unsure}
use Rattle.jh_linear.specs.declared.register.RegOp.{RegOp}
use Rattle.jh_linear.specs.declared.verdict.Stuck.{Stuck}
use Rattle.jh_linear.specs.Order.{op_at, IsDone, HasAllDone, IsPartialOrder, IsOrder}

-- the greatest number that stands for a place (`usize::MAX`), which is behind all places
abbrev pub behind_all : ℕ
behind_all = 2 ^ 64 - 1

-- where an operation ended; one with no such place ends after all others
abbrev pub op_end : RegOp → ℕ
op_end op = unwrap_or op.ended behind_all

-- What is known of an operation that has not ended yet. One that is going to fail is taken to have
-- failed from the start.
abbrev pub outcome_before_end : Outcome → Outcome
outcome_before_end Done = Unsure
outcome_before_end Failed = Failed
outcome_before_end Unsure = Unsure

-- What a history that is cut right before a place shows of an operation: one that is not invoked
-- there did not happen, and of one that does not end there it is not known whether it did.
abbrev pub outcome_in : ℕ → RegOp → Outcome
outcome_in cut op =
    if nat_lt op.invoked cut
    then (if nat_lt (op_end op) cut then op.outcome else outcome_before_end op.outcome)
    else Failed

-- the operation, as a history that is cut right before a place shows it
abbrev pub op_in : ℕ → RegOp → RegOp
op_in cut op = record op { outcome = outcome_in cut op }

-- the operations, as a history that is cut right before a place shows them
abbrev pub ops_before : List RegOp → ℕ → List RegOp
ops_before ops cut = map (op_in cut) ops

-- It names the place of a completion. Where the history is cut right before that place, the
-- operations have an order, which leads to the value that is given; where it is cut right behind,
-- they have none. They have one wherever the history is cut before.
pub record IsStuck (ops : List RegOp) (initial : Option ℤ) (stuck : Stuck) : Type 0 where
  pub completion : (number : ℕ) × IsDone ops number × (op_end (op_at ops number) ≡ stuck.end)
  pub before : IsPartialOrder (ops_before ops stuck.end) initial stuck.order stuck.value
  pub whole : HasAllDone (ops_before ops stuck.end) stuck.order
  pub behind : (order : List ℕ) → IsOrder (ops_before ops (stuck.end + 1)) initial order → ⊥
  pub least : (cut : ℕ) → cut ≤ stuck.end → (order : List ℕ)
      × IsOrder (ops_before ops cut) initial order
