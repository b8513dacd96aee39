use Rattle.std.proofs.Common.{◌<◌, length, below_more, arith, rules}
use Rattle.std.proofs.lemmas.List.{length-map}
use Rattle.jh_ops.specs.Operation.{operations}
use Rattle.jh_audit.specs.Audit.{IsSoundAt}
use Rattle.jh_audit.proofs.AuditLemmas.{first_fault}
use Rattle.jh_audit.proofs.checks.check_operations.Goals as goal

-- what is wrong at this place is wrong first, since all places before it are sound
pub returns-in-Err : goal.returns-in-Err
returns-in-Err c =
    let history = operations c.args.history.now in
    let low : c.loop-place.place < length history = simp length-map (omega arith) in
    first_fault c.args.journal.now history c.loop-place.place c.in-Err.fault low c.loop-place.invariant.sound c.in-Err.ensures

-- one more place is sound
pub loop-place-preserved : goal.loop-place-preserved
loop-place-preserved c = record {
  sound = below_more (IsSoundAt c.args.journal.now (operations c.args.history.now)) c.loop-place.place c.loop-place.invariant.sound c.in-Ok.ensures;
  behind = search rules;
}
