-- Counts and sums over lists with one element more in the middle.
use Rattle.std.proofs.Common.{◌≡◌, ℕ, ◌+◌, ◌≤◌, Bool, true, false, List, [], ◌∷◌, ◌++◌, refl, arith}
use Rattle.std.specs.Prelude.{if◌then◌else◌, ◌||◌, ℤ, pos, ◌+ℤ◌, fold, max, nat_lt}
use Rattle.std.specs.List.{All, list_any, sum_by, count_by}
use Rattle.std.proofs.lemmas.Bool.{lt-ltb}
use Rattle.std.proofs.lemmas.Int.{ints}
use Rattle.std.proofs.lemmas.List.Sums.{sum_by-append, sum_by-cons, fold-append}
use Rattle.std.proofs.lemmas.List.Elements.{All-nil, All-cons, All-head, All-tail}

module _ {X : Type 0} (f : X → ℕ) where
  pub sum_by-middle : (xs ys : List X) (x : X) → sum_by f (xs ++ x ∷ ys) ≡ sum_by f (xs ++ ys) + f x
  sum_by-middle xs ys x = omega (arith, sum_by-append f xs (x ∷ ys), sum_by-cons f x ys, sum_by-append f xs ys)

  -- the greatest so far is not lost
  pub max_start : (m : ℕ) (xs : List X) → m ≤ fold (λ a x. max a (f x)) m xs
  max_start m [] = omega arith
  max_start m (x ∷ xs) = omega (arith, max_start (max m (f x)) xs)

  -- what bounds each bounds the greatest
  pub max_bound : (m most : ℕ) (xs : List X) → m ≤ most → All (λ x. f x ≤ most) xs → fold (λ a x. max a (f x)) m xs ≤ most
  max_bound m most [] h all = h
  max_bound m most (x ∷ xs) h all =
      max_bound (max m (f x)) most xs (omega (arith, h, All-head (λ y. f y ≤ most) x xs all)) (All-tail (λ y. f y ≤ most) x xs all)

  -- the greatest is as great as each
  pub max_each : (m : ℕ) (xs : List X) → All (λ x. f x ≤ fold (λ a x. max a (f x)) m xs) xs
  max_each m [] = All-nil (λ x. f x ≤ m)
  max_each m (x ∷ xs) = All-cons (λ y. f y ≤ fold (λ a x. max a (f x)) (max m (f x)) xs) x xs (omega (arith, max_start (max m (f x)) xs)) (max_each (max m (f x)) xs)

module _ {X : Type 0} (f : X → ℤ) where
  -- a sum of integers from another start
  pub total_from : (z : ℤ) (xs : List X) → fold (λ a x. a +ℤ f x) z xs ≡ (z +ℤ fold (λ a x. a +ℤ f x) (pos 0) xs)
  total_from z [] = omega (arith, ints)
  total_from z (x ∷ xs) = omega (arith, ints, total_from (z +ℤ f x) xs, total_from (pos 0 +ℤ f x) xs)

  pub total-middle : (xs ys : List X) (x : X) → fold (λ a x. a +ℤ f x) (pos 0) (xs ++ x ∷ ys) ≡ (fold (λ a x. a +ℤ f x) (pos 0) (xs ++ ys) +ℤ f x)
  total-middle xs ys x =
      let s = fold (λ a x. a +ℤ f x) (pos 0) xs in
      rw (fold-append (λ a x. a +ℤ f x) (pos 0) xs (x ∷ ys), fold-append (λ a x. a +ℤ f x) (pos 0) xs ys)
      (omega (arith, ints, total_from (s +ℤ f x) ys, total_from s ys))

module _ {X : Type 0} (p : X → Bool) where
  -- something is counted just where something passes
  pub some_counted : (xs : List X) → nat_lt 0 (count_by p xs) ≡ list_any p xs
  some_counted [] = refl
  some_counted (x ∷ xs) = rw (sum_by-cons (λ y. if p y then 1 else 0) x xs) (elim (p x) as (λ s. nat_lt 0 ((if s then 1 else 0) + count_by p xs) ≡ (s || list_any p xs)) [
    | true ↦ lt-ltb 0 (1 + count_by p xs) (omega arith)
    | false ↦ let e : 0 + count_by p xs ≡ count_by p xs = omega arith in rw e (some_counted xs)
  ])
