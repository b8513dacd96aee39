-- The first of the items that are farthest away, one item after another.
use Rattle.std.proofs.Common.{◌≡◌, ℕ, ◌<◌, ◌≤◌, List, [], ◌∷◌, ◌++◌, map, refl, sym, subst, inl, inr, arith}
use Rattle.std.specs.List.{All}
use Rattle.std.proofs.lemmas.List.Elements.{All-nil, All-cons, All-head, All-tail, All-push, All-weaker}
use Rattle.jh_bank.specs.Banks.{IsFarthest}

-- it stays where one more is no farther
pub farthest_kept : {A : Type 0} (away : A → ℕ) (xs : List A) (x z : A) → away z ≤ away x → IsFarthest away xs x → IsFarthest away (xs ++ z ∷ []) x
farthest_kept away [] x z le h = absurd h
farthest_kept away (y ∷ ys) x z le h = elim h [
  | inl here ↦ inl (here.0, All-push (λ other. away other ≤ away x) ys z here.1 le)
  | inr later ↦ inr (later.0, farthest_kept away ys x z le later.1)
]

pub behind_nearer : {A : Type 0} (away : A → ℕ) (xs : List A) (z : A) → All (λ other. away other < away z) xs → IsFarthest away (xs ++ z ∷ []) z
behind_nearer away [] z nearer = inl (refl, All-nil (λ other. away other ≤ away z))
behind_nearer away (x ∷ xs) z nearer =
    inr (All-head (λ other. away other < away z) x xs nearer, behind_nearer away xs z (All-tail (λ other. away other < away z) x xs nearer))

-- one more is it where it is farther
pub farthest_taken : {A : Type 0} (away : A → ℕ) (xs : List A) (x z : A) → away x < away z → IsFarthest away xs x → IsFarthest away (xs ++ z ∷ []) z
farthest_taken away [] x z less h = absurd h
farthest_taken {A} away (y ∷ ys) x z less h = elim h [
  | inl here ↦
      let first : away y < away z = subst (λ (w : A). away w < away z) (sym here.0) less in
      inr (first, behind_nearer away ys z (All-weaker (λ other. away other ≤ away x) (λ other. away other < away z) (λ other le. omega (arith, le, less)) ys here.1))
  | inr later ↦
      let first : away y < away z = omega (arith, later.0, less) in
      inr (first, farthest_taken away ys x z less later.1)
]

all_unmapped : {A B : Type 0} (P : B → Type 0) (f : A → B) (xs : List A) → All P (map f xs) → All (λ x. P (f x)) xs
all_unmapped P f [] all = All-nil (λ x. P (f x))
all_unmapped P f (x ∷ xs) all =
    All-cons (λ y. P (f y)) x xs (All-head P (f x) (map f xs) all) (all_unmapped P f xs (All-tail P (f x) (map f xs) all))

-- that of what stands for the items is it of the items
pub farthest_unmapped : {A B : Type 0} (f : A → B) (away : B → ℕ) (xs : List A) (y : B) → IsFarthest away (map f xs) y → (x : A) × (f x ≡ y) × IsFarthest (λ w. away (f w)) xs x
farthest_unmapped f away [] y h = absurd h
farthest_unmapped {A} {B} f away (x ∷ xs) y h = elim h [
  | inl here ↦
      (x, here.0, inl (refl, all_unmapped (λ other. away other ≤ away (f x)) f xs (subst (λ (w : B). All (λ other. away other ≤ away w) (map f xs)) (sym here.0) here.1)))
  | inr later ↦
      let found = farthest_unmapped f away xs y later.1 in
      (found.0, found.1, inr (subst (λ (w : B). away (f x) < away w) (sym found.1) later.0, found.2))
]

-- what is true of all is true of it
pub farthest_has : {A : Type 0} (P : A → Type 0) (away : A → ℕ) (xs : List A) (x : A) → All P xs → IsFarthest away xs x → P x
farthest_has P away [] x all h = absurd h
farthest_has P away (y ∷ ys) x all h = elim h [
  | inl here ↦ subst P here.0 (All-head P y ys all)
  | inr later ↦ farthest_has P away ys x (All-tail P y ys all) later.1
]
