use Rattle.std.proofs.Common.{map}
use Rattle.jh_ops.specs.OperationWritten.{value_written}
use Rattle.jh_run_laws.proofs.RecordLemmas.{records_print, records_parsed}
use Rattle.jh_run_laws.proofs.laws.recorded_lines_are_text.Goals as goal

pub returns-clause-printable : goal.returns-clause-printable
returns-clause-printable c = records_print

pub returns-clause-lines : goal.returns-clause-lines
returns-clause-lines c = λ history all. (
  map value_written history,
  (c.operation_lines_read_back.ensures.lines history (records_print history all)).0,
  records_parsed history all,
)
