use Rattle.std.proofs.Common.{◌≡◌, ◌∙◌, ◌&&◌, not, ap, sym}
use Rattle.std.specs.List.{list_any}
use Rattle.std.specs.Ordering.{int_eq}
use Rattle.jh_edn.specs.View.{view_pairs}
use Rattle.jh_bank.specs.BankInside.{first_error_of}
use Rattle.jh_edn.specs.Edn.{is_nil}
use Rattle.jh_bank.specs.Banks.{balances, is_account, is_negative_balance, total_of}
use Rattle.jh_bank.proofs.BalanceLemmas.{any_balance, any_key, total_held}
use Rattle.jh_bank.proofs.balances.bank_error.Goals as goal

pub returns : goal.returns
returns c =
    let bank = c.args.bank.now in
    let held = c.args.pairs.now in
    let pairs = view_pairs held in
    let unexpected : c.in_ok-unexpected.unexpected ≡ list_any (λ pair. not (is_account bank.accounts pair.0)) pairs =
    c.in_ok-unexpected.ensures ∙ sym (any_key (λ key. not (is_account bank.accounts key)) held) in
    let nil : c.has_nil-nil.result ≡ list_any is_nil (balances pairs) = c.has_nil-nil.ensures ∙ sym (any_balance is_nil held) in
    let wrong : c.has_wrong_total-wrong.result ≡ not (int_eq (total_of (balances pairs)) bank.total) =
    c.has_wrong_total-wrong.ensures ∙ ap (λ total. not (int_eq total bank.total)) (sym (total_held held)) in
    let negative : c.has_forbidden-negative.result ≡ (not bank.negative_balances && list_any is_negative_balance (balances pairs)) =
    c.has_forbidden-negative.ensures ∙ ap (λ b. not bank.negative_balances && b) (sym (any_balance is_negative_balance held)) in
    c.first_error.ensures ∙ (λ i. first_error_of (unexpected i) (nil i) (wrong i) (negative i))
