use Rattle.std.proofs.Common.{◌≡◌, take, option_map}
use Rattle.jh_ops.specs.Operation.{operation, operations}
use Rattle.jh_check.specs.SetResults.{final_read}
use Rattle.jh_check.proofs.set.final_read.Given as goal

abbrev pub invariant-loop-place : goal.invariant-loop-place
invariant-loop-place l = option_map (λ read. (read.0, operation read.1.now)) l.found ≡ final_read (operations (take l.place l.history))
