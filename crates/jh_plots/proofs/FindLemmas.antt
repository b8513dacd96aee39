-- The first of a list that passes a test.
use Rattle.std.proofs.Common.{◌≡◌, ◌∙◌, ℕ, zero, suc, ◌+◌, ◌^◌, ◌<◌, ◌≤◌, Bool, true, false, cond, ◌&&◌, nat_lt, nat_le, List, [], ◌∷◌, Option, Some, None, drop, length, get_or, refl, ap, sym, arith, add-one}
use Rattle.std.proofs.Math.Seq.{drop-cons}
use Rattle.std.specs.List.{find}
use Rattle.std.specs.Cmp.{first_so, second_so}
use Rattle.std.proofs.lemmas.Bool.{ltb-true}
use Rattle.std.specs.Prelude.{unwrap_or}
use Rattle.jh_plots.specs.Axes.{round_numbers, round_up}
use Rattle.jh_plots.specs.declared.axes.TheConstants.{ROUND_NUMBERS}

find_cons : (p : ℕ → Bool) (xs : List ℕ) (i : ℕ) → i < length xs → find p (drop i xs) ≡ cond (p (get_or xs i 0)) (Some (get_or xs i 0)) (find p (drop (i + 1) xs))
find_cons p xs i less = ap (find p) (drop-cons xs i 0 less ∙ ap (λ n. get_or xs i 0 ∷ drop n xs) (sym (add-one i)))

pub found_here : (p : ℕ → Bool) (xs : List ℕ) (i : ℕ) → i < length xs → find p xs ≡ find p (drop i xs) → p (get_or xs i 0) ≡ true → find p xs ≡ Some (get_or xs i 0)
found_here p xs i less so passes = so ∙ find_cons p xs i less ∙ ap (λ b. cond b (Some (get_or xs i 0)) (find p (drop (i + 1) xs))) passes

pub found_later : (p : ℕ → Bool) (xs : List ℕ) (i : ℕ) → i < length xs → find p xs ≡ find p (drop i xs) → p (get_or xs i 0) ≡ false → find p xs ≡ find p (drop (i + 1) xs)
found_later p xs i less so fails = so ∙ find_cons p xs i less ∙ ap (λ b. cond b (Some (get_or xs i 0)) (find p (drop (i + 1) xs))) fails

pub found_none : (p : ℕ → Bool) (xs : List ℕ) (i : ℕ) → length xs ≤ i → find p xs ≡ find p (drop i xs) → find p xs ≡ None
found_none p xs i past so = so ∙ ap (find p) (all_dropped xs i past) where
  all_dropped : (ys : List ℕ) (k : ℕ) → length ys ≤ k → drop k ys ≡ []
  all_dropped [] zero h = refl
  all_dropped [] (suc k) h = refl
  all_dropped (y ∷ ys) zero h = absurd (omega arith)
  all_dropped (y ∷ ys) (suc k) h = all_dropped ys k (omega arith)

pub round_table : round_numbers ≡ ROUND_NUMBERS
unfolding round_numbers
round_table = refl

abbrev all_some : List ℕ → Bool
all_some [] = true
all_some (x ∷ xs) = nat_lt 0 x && all_some xs

found_some : (p : ℕ → Bool) (xs : List ℕ) (d : ℕ) → 0 < d → all_some xs ≡ true → 0 < unwrap_or (find p xs) d
found_some p [] d some h = some
found_some p (x ∷ xs) d some h =
    elim (p x) as (λ b. 0 < unwrap_or (cond b (Some x) (find p xs)) d) [
      | true ↦ ltb-true 0 x (first_so (nat_lt 0 x) (all_some xs) h)
      | false ↦ found_some p xs d some (second_so (nat_lt 0 x) (all_some xs) h)
    ]

pub round_some : (number : ℕ) → 0 < round_up number
unfolding round_numbers
round_some number = found_some (λ round. nat_le number round) round_numbers (10 ^ 19) (omega arith) refl

pub round_is : (number : ℕ) (found : Option ℕ) → find (λ round. nat_le number round) ROUND_NUMBERS ≡ found → round_up number ≡ unwrap_or found (10 ^ 19)
round_is number found is = ap (λ rounds. unwrap_or (find (λ round. nat_le number round) rounds) (10 ^ 19)) round_table ∙ ap (λ o. unwrap_or o (10 ^ 19)) is
