use Rattle.std.proofs.Common.{◌≡◌, ◌*◌, ◌^◌, ◌+ℤ◌, ◌≤ℤ◌, neg_ℤ, pos, fold, take}
use Rattle.jh_edn.specs.View.{view}
use Rattle.jh_bank.specs.Banks.{amount_of}
use Rattle.jh_bank.proofs.balances.total_of.Given as goal

abbrev pub invariant-loop-pair : goal.invariant-loop-pair
invariant-loop-pair l = record {
  total : l.total ≡ fold (λ total pair. total +ℤ amount_of (view pair.1)) (pos 0) (take l.pair-index l.pairs);
  low : neg_ℤ (pos (l.pair-index * 2 ^ 63)) ≤ℤ l.total;
  high : l.total ≤ℤ pos (l.pair-index * 2 ^ 63);
}
