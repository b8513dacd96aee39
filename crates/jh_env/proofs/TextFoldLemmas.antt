-- Folds over the entries that are written.
use Rattle.std.proofs.Common.{◌≡◌, ℕ, zero, suc, ◌+◌, ◌<◌, ◌≤◌, true, false, List, [], ◌∷◌, fold, filter_map, flat_map, Option, Some, None, ap, refl, sym, ◌∙◌, arith}
use Rattle.std.specs.Prelude.{if◌then◌else◌, ◌==◌}
use Rattle.std.specs.List.{range_with_len, cons_option}
use Rattle.std.specs.Option.{option_map_or}
use Rattle.std.proofs.lemmas.Bool.{eqb-true, eq-eqb}
use Rattle.std.proofs.lemmas.List.Sums.{fold-append}

-- a fold over what is kept of a list
pub fold-filter_map : {X E L : Type 0} (f : L → E → L) (h : X → Option E) (l : L) (xs : List X)
    → fold f l (filter_map h xs) ≡ fold (λ m x. option_map_or (f m) (h x) m) l xs
fold-filter_map f h l [] = refl
fold-filter_map f h l (x ∷ xs) =
    elim (h x) as (λ o. fold f l (cons_option o (filter_map h xs)) ≡ fold (λ m y. option_map_or (f m) (h y) m) (option_map_or (f l) o l) xs) [
      | None ↦ fold-filter_map f h l xs
      | Some e ↦ fold-filter_map f h (f l e) xs
    ]

-- a fold over lists that are joined
pub fold-flat_map : {X E L : Type 0} (f : L → E → L) (g : X → List E) (l : L) (xs : List X)
    → fold f l (flat_map g xs) ≡ fold (λ m x. fold f m (g x)) l xs
fold-flat_map f g l [] = refl
fold-flat_map f g l (x ∷ xs) = fold-append f l (g x) (flat_map g xs) ∙ fold-flat_map f g (fold f l (g x)) xs

-- equal steps give equal folds
pub fold-same : {X L : Type 0} (f g : L → X → L) → ((l : L) (x : X) → f l x ≡ g l x) → (l : L) (xs : List X) → fold f l xs ≡ fold g l xs
fold-same f g same l [] = refl
fold-same f g same l (x ∷ xs) = ap (λ m. fold f m xs) (same l x) ∙ fold-same f g same (g l x) xs

-- steps that change nothing
pub fold-idle : {X L : Type 0} (f : L → X → L) → ((l : L) (x : X) → f l x ≡ l) → (l : L) (xs : List X) → fold f l xs ≡ l
fold-idle f idle l [] = refl
fold-idle f idle l (x ∷ xs) = ap (λ m. fold f m xs) (idle l x) ∙ fold-idle f idle l xs

differs : (b s : ℕ) → (b ≡ s → ⊥) → (b == s) ≡ false
differs b s apart = elim (b == s) as (λ t. (b == s) ≡ t → t ≡ false) [ true ↦ λ is. absurd (apart (eqb-true b s is)) | false ↦ λ is. refl ] refl

fold-before : {L : Type 0} (k : ℕ → L → L) (b s m : ℕ) (l : L) → b < s → fold (λ n x. if b == x then k x n else n) l (range_with_len s m) ≡ l
fold-before k b s zero l below = refl
fold-before k b s (suc m) l below =
    let apart : b ≡ s → ⊥ = (λ e. absurd (omega arith)) in
    let still : b < s + 1 = omega arith in
    ap (λ t. fold (λ n x. if b == x then k x n else n) (if t then k s l else l) (range_with_len (s + 1) m)) (differs b s apart) ∙ fold-before k b (s + 1) m l still

-- a step at one place alone
pub fold-once : {L : Type 0} (k : ℕ → L → L) (b s m : ℕ) (l : L) → s ≤ b → b < s + m
    → fold (λ n x. if b == x then k x n else n) l (range_with_len s m) ≡ k b l
fold-once k b s zero l from below = absurd (omega arith)
fold-once k b s (suc m) l from below =
    elim (b == s) as (λ t. (b == s) ≡ t → fold (λ n x. if b == x then k x n else n) (if t then k s l else l) (range_with_len (s + 1) m) ≡ k b l) [
      | true ↦ λ is.
          let same : b ≡ s = eqb-true b s is in
          let before : b < s + 1 = omega arith in
          fold-before k b (s + 1) m (k s l) before ∙ ap (λ p. k p l) (sym same)
      | false ↦ λ is.
          let further : s + 1 ≤ b = omega (arith, apart b s is) in
          let below_end : b < (s + 1) + m = omega arith in
          fold-once k b (s + 1) m l further below_end
    ] refl
  where
    apart : (x y : ℕ) → (x == y) ≡ false → x ≡ y → ⊥
    apart x y is same = let e : true ≡ false = sym (eq-eqb x y same) ∙ is in absurd cc
