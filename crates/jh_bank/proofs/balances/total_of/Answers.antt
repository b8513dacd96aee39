use Rattle.std.proofs.Common.{ℤ, ◌+ℤ◌, pos, FitsSigned, w64, arith, rules}
use Rattle.std.proofs.lemmas.Int.{ints}
use Rattle.std.proofs.lemmas.List.Sums.{fold_more}
use Rattle.jh_edn.specs.View.{view}
use Rattle.jh_edn.specs.declared.value.Value.{Value}
use Rattle.jh_bank.specs.Banks.{amount_of}
use Rattle.jh_bank.proofs.balances.total_of.Goals as goal

pub loop-pair-preserved : goal.loop-pair-preserved
loop-pair-preserved c =
    let add : ℤ → Value × Value → ℤ = λ total pair. total +ℤ amount_of (view pair.1) in
    let range : FitsSigned w64 c.amount_of.result = search rules in
    record {
      total = rw (fold_more add (pos 0) c.args.pairs.now c.loop-pair.pair-index c.pair-item.result c.loop-pair-test.true, ← c.pair-item.is) (omega (arith, ints, c.from-total.ensures, c.amount_of.ensures));
      low = omega (arith, ints, c.from-total.ensures);
      high = omega (arith, ints, c.from-total.ensures);
    }
