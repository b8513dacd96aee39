use Rattle.std.proofs.Common.{◌≡◌, [], map, subst}
use Rattle.std.proofs.lemmas.List.Elements.{All-weaker}
use Rattle.jh_ops.specs.HistoryText.{AreParsed}
use Rattle.jh_ops.specs.OperationWritten.{value_written}
use Rattle.jh_laws.specs.HistoryLines.{CanPrint}
use Rattle.jh_laws.proofs.HistoryLemmas.{parsed_histories_print, parsed_again, bare_parsed, one_history}
use Rattle.jh_laws.proofs.operations.histories_read_back.Goals as goal

pub returns-clause-again : goal.returns-clause-again
returns-clause-again c = λ bytes history decides.
    let print = parsed_histories_print decides.0 history (c.print_laws.ensures.spelled bytes decides.0 decides.1) decides.2 in (
      map value_written history,
      (c.operation_lines_read_back.ensures.lines history print).0,
      parsed_again c.operations_read_back.ensures decides.0 history decides.2,
    )

pub returns-clause-made : goal.returns-clause-made
returns-clause-made c = λ history all.
    let print = All-weaker (λ op. CanPrint op × (op.rest ≡ [])) CanPrint (λ op h. h.0) history all in
    let bare = All-weaker (λ op. CanPrint op × (op.rest ≡ [])) (λ op. op.rest ≡ []) (λ op h. h.1) history all in
    (map value_written history, (c.operation_lines_read_back.ensures.lines history print).0, bare_parsed history bare)

pub returns-clause-one : goal.returns-clause-one
returns-clause-one c = λ bytes history others decides more.
    let same = c.spelled_once.ensures bytes more.0 decides.0 more.1 decides.1 in
    one_history decides.0 history others decides.2 (subst (λ values. AreParsed values others) same more.2)
