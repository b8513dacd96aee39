use Rattle.std.proofs.Common.{◌+◌, sym, ap, ◌∙◌, take, get_or, arith, rules}
use Rattle.std.proofs.lemmas.List.{take_more}
use Rattle.jh_ops.specs.Operation.{operations}
use Rattle.std.specs.Prelude.{None}
use Rattle.jh_ops.specs.declared.pairs.Pair.{Pair}
use Rattle.jh_check.specs.CounterInside.{bound_before, increase_before}
use Rattle.jh_check.proofs.SumLemmas.{bound_more}
use Rattle.jh_check.proofs.totals.amounts_of.Goals as goal

pub loop-pair-preserved : goal.loop-pair-preserved
loop-pair-preserved c =
    let history = operations c.args.history.now in
    let pairs = c.args.pairs.now in
    let i = c.loop-pair.pair-index in
    let none : Pair = record { invoke = 0; outcome = None } in
    let side = c.args.side in
    let more = take_more pairs i none c.loop-pair-test.true in
    record {
      long = search rules;
      sums = λ place le.
          c.add_at.ensures.sums place
          ∙ (λ k. c.loop-pair.invariant.sums place le k + increase_before place (c.increase_of.ensures.increase k))
          ∙ sym (bound_more side history (take i pairs) (get_or pairs i none) place)
          ∙ ap (λ w. bound_before side history w place) (sym more);
      few = omega (arith, c.add_at.ensures.whole, c.loop-pair.invariant.few);
    }
