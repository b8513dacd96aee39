use Rattle.std.proofs.Common.{sym, ap, subst, take, ◌+◌, ◌++◌, [], ◌∙◌}
use Rattle.std.specs.List.{cons_option}
use Rattle.jh_ops.specs.Operation.{operations}
use Rattle.std.specs.Prelude.{None}
use Rattle.jh_ops.specs.declared.pairs.Pair.{Pair}
use Rattle.jh_check.specs.CounterInside.{IsFirstOf, earlier_error}
use Rattle.jh_check.specs.CounterResults.{errors_in}
use Rattle.jh_check.proofs.ErrorLemmas.{first_more, errors_more}
use Rattle.jh_check.proofs.pairs.first_error.Goals as goal

pub loop-pair-preserved : goal.loop-pair-preserved
loop-pair-preserved c =
    let history = operations c.args.history.now in
    let pairs = c.args.pairs.now in
    let i = c.loop-pair.pair-index in
    let none : Pair = record { invoke = 0; outcome = None } in
    let errors = errors_in history (take i pairs) in
    let more = ap (λ n. errors ++ cons_option n []) c.value_error.ensures.error ∙ sym (errors_more history pairs i none c.loop-pair-test.true) in
    subst (λ o. IsFirstOf o (errors_in history (take (i + 1) pairs))) (sym c.earlier-first.ensures)
    (subst (IsFirstOf (earlier_error c.loop-pair.first c.value_error.result)) more
    (first_more c.loop-pair.first c.value_error.result errors c.loop-pair.invariant c.value_error.ensures.kind))
