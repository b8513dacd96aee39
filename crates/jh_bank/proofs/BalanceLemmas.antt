-- Tests and sums of balances, by the pairs that a program holds.
use Rattle.std.proofs.Common.{◌≡◌, ℤ, pos, ◌+ℤ◌, Bool, ◌||◌, ◌&&◌, List, [], ◌∷◌, refl, ap, fold}
use Rattle.std.specs.List.{list_any, list_all}
use Rattle.jh_edn.specs.Edn.{Edn}
use Rattle.jh_edn.specs.View.{view, view_pairs}
use Rattle.jh_edn.specs.declared.value.Value.{Value}
use Rattle.jh_bank.specs.Banks.{amount_of, balances, total_of}

pub any_balance : (p : Edn → Bool) (pairs : List (Value × Value)) → list_any p (balances (view_pairs pairs)) ≡ list_any (λ pair. p (view pair.1)) pairs
any_balance p [] = refl
any_balance p (pair ∷ pairs) = ap (λ b. p (view pair.1) || b) (any_balance p pairs)

pub all_balances : (p : Edn → Bool) (pairs : List (Value × Value)) → list_all p (balances (view_pairs pairs)) ≡ list_all (λ pair. p (view pair.1)) pairs
all_balances p [] = refl
all_balances p (pair ∷ pairs) = ap (λ b. p (view pair.1) && b) (all_balances p pairs)

pub any_key : (p : Edn → Bool) (pairs : List (Value × Value)) → list_any (λ pair. p pair.0) (view_pairs pairs) ≡ list_any (λ pair. p (view pair.0)) pairs
any_key p [] = refl
any_key p (pair ∷ pairs) = ap (λ b. p (view pair.0) || b) (any_key p pairs)

summed : (start : ℤ) (pairs : List (Value × Value))
    → fold (λ total value. total +ℤ amount_of value) start (balances (view_pairs pairs)) ≡ fold (λ total pair. total +ℤ amount_of (view pair.1)) start pairs
summed start [] = refl
summed start (pair ∷ pairs) = summed (start +ℤ amount_of (view pair.1)) pairs

pub total_held : (pairs : List (Value × Value)) → total_of (balances (view_pairs pairs)) ≡ fold (λ total pair. total +ℤ amount_of (view pair.1)) (pos 0) pairs
total_held pairs = summed (pos 0) pairs
