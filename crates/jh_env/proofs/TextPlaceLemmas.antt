-- Where a name stands among good names.
use Rattle.std.proofs.Common.{◌≡◌, ℕ, zero, suc, ◌+◌, Bool, true, false, List, [], ◌∷◌, ◌++◌, length, take, drop, bytes_eq, Some, None, ap, refl, sym, ◌∙◌, arith, drop-cons}
use Rattle.std.specs.Prelude.{cond, not, nat_lt, ◌||◌, slice_get}
use Rattle.std.specs.List.{list_any, prefix_len}
use Rattle.std.proofs.lemmas.Bool.{lt-ltb}
use Rattle.std.proofs.lemmas.List.{take-append-drop}
use Rattle.std.proofs.lemmas.Option.{slice_get_within, get_or_from_slice_get}
use Rattle.std.proofs.lemmas.Slice.Eq.{bytes_eq-Decides}
use Rattle.jh_env.specs.Names.{AreNodeNames}
use Rattle.jh_env.specs.TextErrors.{place_of}

-- the first place at which a test passes
first_place : {A : Type 0} (p : A → Bool) (xs : List A) (i : ℕ) (x : A) → slice_get xs i ≡ Some x → p x ≡ true → list_any p (take i xs) ≡ false
    → prefix_len (λ y. not (p y)) xs ≡ i
first_place p [] i x at passes before = absurd cc
first_place p (y ∷ ys) zero x at passes before =
    let same : y ≡ x = cc in
    ap (λ t. cond (not t) (1 + prefix_len (λ z. not (p z)) ys) 0) (ap p same ∙ passes)
first_place p (y ∷ ys) (suc i) x at passes before =
    elim (p y) as (λ t. (t || list_any p (take i ys)) ≡ false → cond (not t) (1 + prefix_len (λ z. not (p z)) ys) 0 ≡ suc i) [
      | true ↦ λ e. absurd cc
      | false ↦ λ e. let rest = first_place p ys i x at passes e in omega (arith, rest)
    ] before

-- each good name stands at its own place
pub place_of-at : (names : List (List ℕ)) (a : ℕ) (name : List ℕ) → AreNodeNames names → slice_get names a ≡ Some name → place_of names name ≡ Some a
place_of-at names a name good at =
    let below = slice_get_within names a name at in
    let here = get_or_from_slice_get names a name [] at in
    let split : names ≡ take a names ++ (name ∷ drop (suc a) names) =
    sym (take-append-drop a names) ∙ ap (λ r. take a names ++ r) (drop-cons names a [] below ∙ ap (λ x. x ∷ drop (suc a) names) here) in
    let first = first_place (bytes_eq name) names a name at ((bytes_eq-Decides name name).1 refl) (good (take a names) (drop (suc a) names) name split).1 in
    ap (λ i. cond (nat_lt i (length names)) (Some i) None) first ∙ ap (λ t. cond t (Some a) None) (lt-ltb a (length names) below)
