use Rattle.std.proofs.Common.{◌<◌, Some, None, subst, sym}
use Rattle.jh_plots.proofs.FindLemmas.{round_is, round_some}
use Rattle.jh_plots.proofs.axes.round_up.Goals as goal

pub returns-in-Some-clause-value : goal.returns-in-Some-clause-value
returns-in-Some-clause-value c = sym (round_is c.args.number (Some c.in-Some.round) (sym c.in-Some.ensures))

pub returns-in-None-clause-value : goal.returns-in-None-clause-value
returns-in-None-clause-value c = sym (round_is c.args.number None (sym c.in-None.ensures))

pub returns-in-Some-clause-some : goal.returns-in-Some-clause-some
returns-in-Some-clause-some c = subst (λ n. 0 < n) (round_is c.args.number (Some c.in-Some.round) (sym c.in-Some.ensures)) (round_some c.args.number)
