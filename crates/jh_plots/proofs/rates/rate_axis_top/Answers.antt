use Rattle.std.proofs.Common.{◌≡◌, ◌*◌, ◌^◌, ap, rules, arith}
use Rattle.std.specs.Int.{div_ceil}
use Rattle.jh_plots.specs.Axes as axes
use Rattle.jh_plots.proofs.AxisLemmas.{rate_enough}
use Rattle.jh_plots.proofs.rates.rate_axis_top.Goals as goal

pub returns-clause-enough : goal.returns-clause-enough
returns-clause-enough c =
    let top : c.round_up.result ≡ axes.round_up (div_ceil (c.args.most * 10 ^ 9) c.args.width) = search rules in
    let enough = rate_enough c.args.most c.args.width c.requires.long c.requires.few in
    omega (arith, enough, ap (λ t. c.args.width * t) top)
