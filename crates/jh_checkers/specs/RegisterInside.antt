-- What the checker of a register makes of an error of its operations, and of an answer of the judge
-- of values that are written once: proofs rest on it, and no public clause names it. This project's own.
use Rattle.std.specs.Prelude.{Option, Some, None}
use Rattle.jh_check.specs.declared.error.CheckError.{CheckError}
use Rattle.jh_check.specs.declared.error.CheckError.TheVariants.{BadValue, OutOfMemory}
use Rattle.jh_linear.specs.declared.operations.RegOpsError.{RegOpsError}
use Rattle.jh_linear.specs.declared.operations.RegOpsError.TheVariants as operations
use Rattle.jh_unique.specs.declared.verdict.UniqueReason.{UniqueReason}
use Rattle.jh_unique.specs.declared.verdict.UniqueVerdict.{UniqueVerdict}
use Rattle.jh_unique.specs.declared.verdict.UniqueVerdict.TheVariants.{Invalid}

-- the same error
abbrev pub error_of : RegOpsError → CheckError
error_of (operations.BadValue place) = BadValue place
error_of operations.OutOfMemory = OutOfMemory

-- the reason of a no
abbrev pub reason_in : UniqueVerdict → Option UniqueReason
reason_in (Invalid reason) = Some reason
reason_in _ = None
