-- Why a history of a register is not valid, beside the verdict (Knossos gives the operation at
-- which its search got stuck, and what was pending there; what of it is given here is this
-- project's own, as the reason is where each value is written once, after Gibbons and Korach 1997).
-- Operations of the register go by their numbers, as in orders: their places in the list of them.
use Rattle.std.specs.Prelude.{◌≡◌, ℕ, ℤ, ◌&&◌, Bool, true, false, nat_le, nat_lt, List, map, filter}
use Rattle.std.specs.Prelude.{slice_get, Option, Some, None, option_map, IsSomeAnd}
use Rattle.std.specs.List.{enumerate_from}
use Rattle.jh_ops.specs.Operation.{Operation, operation}
use Rattle.jh_linear.specs.Stuck.{op_end}
use Rattle.jh_linear.specs.declared.register.Outcome.{Outcome}
use Rattle.jh_linear.specs.declared.register.Outcome.TheVariants.{Done, Failed, Unsure}
use Rattle.jh_linear.specs.declared.register.RegOp.{RegOp}
use Rattle.jh_linear.specs.declared.verdict.LinVerdict.{LinVerdict}
use Rattle.jh_linear.specs.declared.verdict.LinVerdict.TheVariants.{Invalid}
use Rattle.jh_unique.specs.Judged.{IsUniqueReason}
use Rattle.jh_unique.specs.Unique.{WriteOnce}
use Rattle.jh_unique.specs.declared.verdict.UniqueReason.{UniqueReason}
use Rattle.jh_checkers.specs.declared.explanation.Explanation.{Explanation}

-- Whether an operation that ended so is still open at this place of the history, where `end` is where
-- it ended. What failed did not happen, so no order has to place it; what crashed is open for ever.
abbrev pub is_open_at : ℕ → Outcome → ℕ → Bool
is_open_at place Done end = nat_le place end
is_open_at place Failed end = false
is_open_at place Unsure end = true

-- The operation was invoked before this place of the history, and is open there.
abbrev pub is_pending : ℕ → RegOp → Bool
is_pending place op = nat_lt op.invoked place && is_open_at place op.outcome (op_end op)

-- the numbers of the operations that are pending at this place of the history, ascending
abbrev pub numbers_pending : List RegOp → ℕ → List ℕ
numbers_pending ops end =
    map (λ numbered. numbered.0)
    (filter (λ numbered. is_pending end numbered.1) (enumerate_from 0 ops))

-- Why no order exists: where each value is written once a reason that applies, and none elsewhere.
abbrev pub IsBecause : List RegOp → Option ℤ → Option UniqueReason → Type 0
IsBecause ops initial (Some reason) = WriteOnce ops initial × IsUniqueReason ops initial reason
IsBecause ops initial None = ¬ WriteOnce ops initial

-- At this place the history has the completion, these operations are pending, and this is why.
pub record Explains (history : List Operation) (ops : List RegOp) (initial : Option ℤ) (end : ℕ)
    (explanation : Explanation) : Type 0 where
  pub completion : slice_get history end ≡ Some (operation explanation.completion)
  pub pending : explanation.pending.items ≡ numbers_pending ops end
  pub because : IsBecause ops initial explanation.because

-- What stands beside a verdict where an explanation is asked for, or is not: one of the completion
-- at which a no is stuck, and none beside any other verdict.
abbrev pub IsExplained : Bool → List Operation → List RegOp → Option ℤ → LinVerdict
    → Option Explanation → Type 0
IsExplained true history ops initial (Invalid stuck) explanation =
    IsSomeAnd explanation (Explains history ops initial stuck.end)
IsExplained asked history ops initial judged explanation = explanation ≡ None

-- what of an explanation no choice of an order changes: the completion, and what is pending there
abbrev pub stuck_point : Option Explanation → Option (Operation × List ℕ)
stuck_point explanation =
    option_map (λ shown. (operation shown.completion, shown.pending.items)) explanation
