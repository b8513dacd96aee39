use Rattle.std.proofs.Common.{List, map, sym, subst}
use Rattle.jh_ops.specs.HistoryText.{AreParsed}
use Rattle.jh_ops.specs.Operation.{Operation}
use Rattle.jh_ops.specs.OperationWritten.{value_written}
use Rattle.jh_run_laws.proofs.LineLemmas.{are_parsed}
use Rattle.jh_run_laws.proofs.PrintLemmas.{own_printable}
use Rattle.jh_run_laws.proofs.laws.own_lines_are_text.Goals as goal

pub returns-clause-printable : goal.returns-clause-printable
returns-clause-printable c = own_printable

pub returns-clause-lines : goal.returns-clause-lines
returns-clause-lines c = λ p journal history run can. (
  map value_written history,
  (c.operation_lines_read_back.ensures.lines history (own_printable p journal history run can)).0,
  subst (λ (h : List Operation). AreParsed (map value_written h) h) (sym run.is_history) (are_parsed journal),
)
