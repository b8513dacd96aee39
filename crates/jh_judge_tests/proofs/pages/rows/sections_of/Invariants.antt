use Rattle.std.specs.Prelude.{All}
use Rattle.jh_ops.specs.OperationWritten.{IsWritable}
use Rattle.jh_judge_tests.proofs.pages.rows.sections_of.Given as goal

abbrev pub invariant-loop-text : goal.invariant-loop-text
invariant-loop-text l = All (λ section. All (λ op. IsWritable op.process) section.history.items) l.sections.items
