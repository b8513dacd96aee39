-- What is left of a list when elements are taken out, and when more are taken out of that.
use Rattle.std.proofs.Common.{◌≡◌, ℕ, zero, suc, ◌≤◌, List, [], ◌∷◌, length, drop, refl, inl, inr, ◌∙◌, sym, subst, arith}
use Rattle.std.specs.List.{remove, remove_range}
use Rattle.std.proofs.lemmas.Bool.{cases_lt}
use Rattle.std.specs.Prelude.{Bool, false, Option, Some}
use Rattle.jh_simnode.specs.declared.schedule.Entry.{Entry}
use Rattle.jh_shrink.specs.declared.shrinking.Halt.{Halt}
use Rattle.jh_shrink.specs.Shrunk.{IsSubsequence, IsFailing, NeedsEach}
use Rattle.jh_shrink.specs.ShrinkingInside.{HaltsWork, NeedsThose}

pub sub_self : {X : Type 0} (xs : List X) → IsSubsequence xs xs
sub_self [] = tt
sub_self (x ∷ xs) = inl (refl, sub_self xs)

pub sub_later : {X : Type 0} (xs : List X) (y : X) (ys : List X) → IsSubsequence xs ys → IsSubsequence xs (y ∷ ys)
sub_later [] y ys s = tt
sub_later (x ∷ xs) y ys s = inr s

pub sub_trans : {X : Type 0} (xs ys zs : List X) → IsSubsequence xs ys → IsSubsequence ys zs → IsSubsequence xs zs
sub_trans [] ys zs s t = tt
sub_trans (x ∷ xs) [] zs s t = absurd s
sub_trans (x ∷ xs) (y ∷ ys) [] s t = absurd t
sub_trans (x ∷ xs) (y ∷ ys) (z ∷ zs) s (inr t) = inr (sub_trans (x ∷ xs) (y ∷ ys) zs s t)
sub_trans (x ∷ xs) (y ∷ ys) (z ∷ zs) (inl s) (inl t) = inl (s.0 ∙ t.0, sub_trans xs ys zs s.1 t.1)
sub_trans (x ∷ xs) (y ∷ ys) (z ∷ zs) (inr s) (inl t) = inr (sub_trans (x ∷ xs) ys zs s t.1)

sub_drop : {X : Type 0} (xs : List X) (n : ℕ) → IsSubsequence (drop n xs) xs
sub_drop xs zero = sub_self xs
sub_drop [] (suc n) = tt
sub_drop (x ∷ xs) (suc n) = sub_later (drop n xs) x xs (sub_drop xs n)

-- a range is taken out
pub sub_cut : {X : Type 0} (xs : List X) (i j : ℕ) → i ≤ j → IsSubsequence (remove_range xs i j) xs
sub_cut xs zero j le = sub_drop xs j
sub_cut xs (suc i) zero le = absurd (omega (arith, le))
sub_cut [] (suc i) (suc j) le = tt
sub_cut (x ∷ xs) (suc i) (suc j) le = inl (refl, sub_cut xs i j (omega (arith, le)))

-- ---- what is known of a part is known of the whole

pub halts_of : (A : List Entry → Option Bool → Type 0) (given part : List Entry) (left : ℕ) (halt : Halt) → IsSubsequence part given
    → HaltsWork A part left halt → HaltsWork A given left halt
halts_of A given part left Halt.Judge sub h = (h.0, sub_trans h.0 part given h.1 sub, h.2)
halts_of A given part left Halt.Budget sub h = h
halts_of A given part left Halt.OutOfMemory sub h = tt

pub failing_of : (A : List Entry → Option Bool → Type 0) (given part rest : List Entry) → IsSubsequence part given
    → IsFailing A part rest → IsFailing A given rest
failing_of A given part rest sub failing = (sub_trans rest part given failing.0 sub, failing.1)

-- one entry more is needed
pub needs_more : (A : List Entry → Option Bool → Type 0) (s : List Entry) (place end : ℕ) → end ≡ suc place → NeedsThose A s place
    → A (remove_range s place end) (Some false) → NeedsThose A s end
needs_more A s place end is those one p low within =
    elim (cases_lt p place) [
      | inl lower ↦ those p lower within
      | inr upper ↦
          let same : p ≡ place = omega (arith, upper, low, is) in
          subst (λ q. A (remove s q) (Some false)) (sym same) (subst (λ e. A (remove_range s place e) (Some false)) is one)
    ]

pub needs_all : (A : List Entry → Option Bool → Type 0) (s : List Entry) (place : ℕ) → length s ≤ place → NeedsThose A s place → NeedsEach A s
needs_all A s place over those p within = those p (omega (arith, over, within)) within
