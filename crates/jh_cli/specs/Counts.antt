-- What a history holds for a checker (this project's own): a history of another workload breaks none of
-- its rules, and who judges it wants to know.
use Rattle.std.specs.Prelude.{not, ◌&&◌, Bool, List, count_by}
use Rattle.jh_checkers.specs.declared.checker.Checker.{Checker}
use Rattle.jh_cli.specs.Enough.{is_judged}
use Rattle.jh_cli.specs.declared.counts.HistoryCounts.{HistoryCounts}
use Rattle.jh_ops.specs.Operation.{Operation, is_client, is_kind}
use Rattle.jh_ops.specs.declared.operation.Kind.{Kind}

-- a client's invocation, of any function
abbrev pub is_client_invocation : Operation → Bool
is_client_invocation op = is_client op.process && is_kind Kind.Invoke op.kind

-- a client's invocation of a function that the checker does not judge
abbrev pub is_other_invocation : Checker → Operation → Bool
is_other_invocation checker op = is_client_invocation op && not (is_judged checker Kind.Invoke op)

-- how many operations the checker judges, and how many are of other functions
abbrev pub history_counts : Checker → List Operation → HistoryCounts
history_counts checker history = record {
  judged = count_by (is_judged checker Kind.Invoke) history;
  others = count_by (is_other_invocation checker) history;
}
