use Rattle.std.proofs.Common.{◌≡◌, ℕ, ◌<◌, take}
use Rattle.std.specs.Prelude.{slice_index, vec_len}
use Rattle.std.specs.List.{sum}
use Rattle.jh_check.proofs.totals.sums_before.Given as goal

abbrev pub invariant-loop-amount : goal.invariant-loop-amount
invariant-loop-amount l = record {
  long : vec_len l.sums ≡ l.amount-index;
  total : l.total ≡ sum (take l.amount-index l.amounts);
  sums : (place : ℕ) → place < l.amount-index → slice_index l.sums.items place ≡ sum (take place l.amounts);
}
