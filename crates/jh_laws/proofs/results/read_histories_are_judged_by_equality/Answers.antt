use Rattle.std.proofs.Common.{codes}
use Rattle.jh_ops.specs.declared.operation.Kind.{Kind}
use Rattle.jh_laws.proofs.ReadHistoryLemmas.{held_printable, read_printable}
use Rattle.jh_laws.proofs.HistoryLemmas.{parsed_histories_print}
use Rattle.jh_laws.proofs.results.read_histories_are_judged_by_equality.Goals as goal

pub returns-clause-ids : goal.returns-clause-ids
returns-clause-ids c = λ bytes history decides.
    held_printable Kind.Ok (codes "generate") history (parsed_histories_print decides.0 history (c.print_laws.ensures.spelled bytes decides.0 decides.1) decides.2)

pub returns-clause-sets : goal.returns-clause-sets
returns-clause-sets c = λ bytes history read decides shown.
    let print = parsed_histories_print decides.0 history (c.print_laws.ensures.spelled bytes decides.0 decides.1) decides.2 in
    record {
      shown = shown;
      read_printable = read_printable history read print shown;
      attempted_printable = held_printable Kind.Invoke (codes "add") history print;
      acknowledged_printable = held_printable Kind.Ok (codes "add") history print;
    }
