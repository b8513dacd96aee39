-- What pairing keeps of each process while it goes over a history: how far it has come.
-- This project's own.
use Rattle.std.specs.Prelude.{ℕ, List, [], ◌∷◌, ◌++◌, zero, suc, Option, Some, None, Result, Ok}
use Rattle.std.specs.Prelude.{Err}
use Rattle.jh_ops.specs.declared.operation.Kind.{Kind}
use Rattle.jh_ops.specs.declared.pairs.Pair.{Pair}
use Rattle.jh_ops.specs.declared.pairs.PairError.{PairError}
use Rattle.jh_ops.specs.declared.pairs.PairError.TheVariants.{AfterCrash, DoubleInvoke, NoInvoke}
use Rattle.jh_ops.specs.declared.pairing.Stage.{Stage}
use Rattle.jh_ops.specs.declared.pairing.Stage.TheVariants.{Idle, Waiting, Crashed}

-- the stage after an operation at a place, where a new pair would stand at `opened`
abbrev pub stage_after : Stage → Kind → ℕ → ℕ → Result Stage PairError
stage_after Crashed kind place opened = Err (AfterCrash place)
stage_after Idle Kind.Invoke place opened = Ok (Waiting opened)
stage_after Idle kind place opened = Err (NoInvoke place)
stage_after (Waiting at) Kind.Invoke place opened = Err (DoubleInvoke place)
stage_after (Waiting at) Kind.Info place opened = Ok Crashed
stage_after (Waiting at) kind place opened = Ok Idle

-- the pairs with this outcome of the pair at a place
abbrev pub pairs_with_outcome : List Pair → ℕ → ℕ → List Pair
pairs_with_outcome [] at outcome = []
pairs_with_outcome (p ∷ pairs) zero outcome = record p { outcome = Some outcome } ∷ pairs
pairs_with_outcome (p ∷ pairs) (suc at) outcome = p ∷ pairs_with_outcome pairs at outcome

-- the pairs after an operation at a place that its process may do at this stage
abbrev pub pairs_after : Stage → ℕ → List Pair → List Pair
pairs_after (Waiting at) place pairs = pairs_with_outcome pairs at place
pairs_after _ place pairs = pairs ++ record { invoke = place; outcome = None } ∷ []

-- the place of the pair that awaits its outcome
abbrev pub pair_awaited : Stage → Option ℕ
pair_awaited (Waiting at) = Some at
pair_awaited _ = None
