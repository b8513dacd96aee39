use Rattle.std.proofs.Common.{◌≡◌, false, not, take}
use Rattle.std.specs.List.{list_any}
use Rattle.jh_edn.specs.View.{view}
use Rattle.jh_bank.specs.Banks.{is_account}
use Rattle.jh_bank.proofs.balances.has_unexpected.Given as goal

abbrev pub invariant-loop-pair : goal.invariant-loop-pair
invariant-loop-pair l = list_any (λ pair. not (is_account l.accounts (view pair.0))) (take l.pair-index l.pairs) ≡ false
