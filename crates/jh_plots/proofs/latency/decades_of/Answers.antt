use Rattle.std.proofs.Common.{◌<◌, arith}
use Rattle.jh_plots.proofs.PositionLemmas.{decades_left, decades_least, next_power}
use Rattle.jh_plots.proofs.latency.decades_of.Goals as goal

pub loop-last-preserved : goal.loop-last-preserved
loop-last-preserved c =
    let l = c.loop-last in
    let less : l.last < c.args.greatest = omega arith in
    let few = decades_left l.last l.decades c.args.greatest l.invariant.last less c.requires in
    record {
      last = next_power l.last l.decades l.invariant.last;
      some = omega arith;
      few = omega (arith, few);
      least = λ fewer some enough. decades_least l.last l.decades c.args.greatest fewer l.invariant.last less (l.invariant.least fewer some enough) enough;
    }

pub loop-last-smaller : goal.loop-last-smaller
loop-last-smaller c =
    let l = c.loop-last in
    let less : l.last < c.args.greatest = omega arith in
    let few = decades_left l.last l.decades c.args.greatest l.invariant.last less c.requires in
    omega (arith, few)
