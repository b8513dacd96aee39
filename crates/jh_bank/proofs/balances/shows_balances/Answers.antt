use Rattle.std.proofs.Common.{ap, sym, false, ◌∙◌}
use Rattle.std.specs.List.{list_all}
use Rattle.std.specs.Option.{option_map_or}
use Rattle.jh_bank.specs.Banks.{balances, is_balance}
use Rattle.jh_bank.proofs.BalanceLemmas.{all_balances}
use Rattle.jh_bank.proofs.balances.shows_balances.Goals as goal

pub returns-in-Some : goal.returns-in-Some
returns-in-Some c =
    c.are_balances.ensures ∙ sym (all_balances is_balance c.in-Some.pairs.now)
    ∙ ap (λ o. option_map_or (λ pairs. list_all is_balance (balances pairs)) o false) c.in-Some.ensures
