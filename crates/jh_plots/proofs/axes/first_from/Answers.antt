use Rattle.std.proofs.Common.{nat_le, sym, arith}
use Rattle.std.proofs.lemmas.Bool.Decides.{nat_tests}
use Rattle.jh_plots.proofs.FindLemmas.{found_here, found_later, found_none}
use Rattle.jh_plots.proofs.axes.first_from.Goals as goal

pub returns-then-number-round : goal.returns-then-number-round
returns-then-number-round c =
    sym (found_here (λ round. nat_le c.args.number round) c.args.rounds.now c.loop-round.round-index c.loop-round-test.true c.loop-round.invariant (grind (arith, nat_tests, c.if-number-round.true)))

pub loop-round-preserved : goal.loop-round-preserved
loop-round-preserved c =
    found_later (λ round. nat_le c.args.number round) c.args.rounds.now c.loop-round.round-index c.loop-round-test.true c.loop-round.invariant (grind (arith, nat_tests, c.if-number-round.false))

pub returns : goal.returns
returns c = sym (found_none (λ round. nat_le c.args.number round) c.args.rounds.now c.loop-round.round-index c.loop-round-test.false c.loop-round.invariant)
