use Rattle.std.proofs.Common.{◌∙◌, ap, sym, subst}
use Rattle.std.specs.Str.{IsUtf8}
use Rattle.jh_edn.specs.View.{views}
use Rattle.jh_trials.specs.Trials.{is_ready}
use Rattle.jh_trials.proofs.TrialLemmas.{not_ready, ready_by_values}
use Rattle.jh_trials.proofs.trial.is_ready.Goals as goal

pub returns-in_default : goal.returns-in_default
returns-in_default c = not_ready c.args.line.now c.in_default.ensures.cases.0

pub returns-in-Ok-values_in_line : goal.returns-in-Ok-values_in_line
returns-in-Ok-values_in_line c =
    let same = c.in-Ok.ensures.cases.0 in
    let utf8 = subst IsUtf8 (sym same) c.in-Ok.ensures.cases.1 in
    rw c.deref.ensures.value at c.are_ready.ensures
    ∙ ready_by_values c.in-Ok.text.now (views c.in-Ok-values_in_line.values.items) utf8 c.in-Ok-values_in_line.ensures.values ∙ ap is_ready same
