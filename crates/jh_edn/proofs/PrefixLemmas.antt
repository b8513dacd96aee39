-- How many elements a list begins with that pass.
use Rattle.std.proofs.Common.{◌≡◌, ℕ, suc, ◌+◌, Bool, true, false, cond, List, [], ◌∷◌, drop, refl, subst, arith}
use Rattle.std.specs.List.{prefix_len}

-- what is so of their number, by whether the first element passes
pub prefix_len-cases : {X : Type 0} (p : X → Bool) (P : ℕ → Type 0) (x : X) (xs : List X) → (p x ≡ true → P (suc (prefix_len p xs))) → (p x ≡ false → P 0) → P (prefix_len p (x ∷ xs))
prefix_len-cases p P x xs more none =
    let step : suc (prefix_len p xs) ≡ 1 + prefix_len p xs = omega arith in
    elim (p x) as (λ b. p x ≡ b → P (cond b (1 + prefix_len p xs) 0)) [ true ↦ λ e. subst P step (more e) | false ↦ none ] refl

-- behind them, none
pub prefix_len-past : {X : Type 0} (p : X → Bool) (xs : List X) → prefix_len p (drop (prefix_len p xs) xs) ≡ 0
prefix_len-past p [] = refl
prefix_len-past p (x ∷ xs) = prefix_len-cases p (λ n. prefix_len p (drop n (x ∷ xs)) ≡ 0) x xs (λ e. prefix_len-past p xs) (λ e. rw e refl)
