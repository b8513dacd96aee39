use Rattle.jh_laws.proofs.HistoryLemmas.{history_spelled, bare_again}
use Rattle.jh_laws.proofs.OperationLemmas.{operation_printable, bare_keys}
use Rattle.jh_laws.proofs.ParsedOperationLemmas.{parsed_can_print}
use Rattle.jh_laws.proofs.operations.operation_lines_read_back.Goals as goal

pub returns-clause-printable : goal.returns-clause-printable
returns-clause-printable c = operation_printable

pub returns-clause-lines : goal.returns-clause-lines
returns-clause-lines c = history_spelled c.lines_read_back.ensures

pub returns-clause-parsed : goal.returns-clause-parsed
returns-clause-parsed c = parsed_can_print

pub returns-clause-bare : goal.returns-clause-bare
returns-clause-bare c = λ op none. (bare_keys op none, bare_again op none)
