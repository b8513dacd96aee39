-- The value of the result, a map, whose printed text is its one line (this project's own).
use Rattle.std.specs.Prelude.{pos, List, [], ◌∷◌, codes}
use Rattle.jh_edn.specs.Edn.{Edn, int, keyword}
use Rattle.jh_ops.specs.Operation.{Operation, operation}
use Rattle.jh_ops.specs.OperationWritten.{value_written}
use Rattle.jh_check.specs.Lines.{map_with_verdict}
use Rattle.jh_check.specs.declared.verdict.Verdict.TheVariants.{True, False}
use Rattle.jh_queue.specs.declared.queue.QueueResult.{QueueResult}
use Rattle.jh_queue.specs.declared.queue.QueueResult.TheVariants.{Dequeued, First}

-- the first completion that comes from no enqueue, written as operations are
abbrev pub first_pairs : Operation → List (Edn × Edn)
first_pairs completion = (keyword (codes "first"), value_written completion) ∷ []

abbrev pub queue_value : QueueResult → Edn
queue_value (Dequeued count) =
    map_with_verdict True ((keyword (codes "dequeued"), int (pos count)) ∷ [])
queue_value (First place completion) =
    map_with_verdict False (first_pairs (operation completion))
