-- What stands side by side with the same key, where the keys ascend: all that has the key.
use Rattle.std.proofs.Common.{◌≡◌, ℕ, true, false, cond, not, List, [], ◌∷◌, ◌++◌, map, refl, sym, ap, ◌∙◌, append_assoc, append-nil}
use Rattle.jh_edn.specs.Edn.{Edn}
use Rattle.jh_check.specs.Distinct.{is_same, distinct_values, IsLeast, Ascends}
use Rattle.jh_check.proofs.DistinctLemmas.{Apart, apart_above, others, others_apart, others_twice, apart_once, same_along, same_back, same_itself}
use Rattle.jh_independent.specs.SplitInside.{keys_of_keyed, places_in, groups_in}

-- the groups of a list behind a key and so many of its places
abbrev pub runs : Edn → List ℕ → List (Edn × ℕ) → List (Edn × List ℕ)
runs key places [] = (key, places) ∷ []
runs key places (one ∷ rest) =
    cond (is_same key one.0) (runs key (places ++ one.1 ∷ []) rest) ((key, places) ∷ runs one.0 (one.1 ∷ []) rest)

abbrev group_in : List (Edn × ℕ) → Edn → Edn × List ℕ
group_in keyed key = (key, places_in key keyed)

places_apart : (x : Edn) (ys : List (Edn × ℕ)) → Apart x (keys_of_keyed ys) → places_in x ys ≡ []
places_apart x [] a = refl
places_apart x (y ∷ ys) a = rw a.0 (places_apart x ys a.1)

places_here : (x : Edn) (y : Edn × ℕ) (ys : List (Edn × ℕ)) → is_same x y.0 ≡ true → places_in x (y ∷ ys) ≡ y.1 ∷ places_in x ys
places_here x y ys e = rw e refl

places_else : (x : Edn) (y : Edn × ℕ) (ys : List (Edn × ℕ)) → is_same x y.0 ≡ false → places_in x (y ∷ ys) ≡ places_in x ys
places_else x y ys e = rw e refl

-- what is not x has the same places without x
places_others : (x : Edn) (y : Edn × ℕ) (ys : List (Edn × ℕ)) (zs : List Edn) → is_same x y.0 ≡ true → map (group_in ys) (others x zs) ≡ map (group_in (y ∷ ys)) (others x zs)
places_others x y ys [] h = refl
places_others x y ys (z ∷ zs) h =
    elim (is_same x z) as (λ b. is_same x z ≡ b → map (group_in ys) (cond (not b) (z ∷ others x zs) (others x zs)) ≡ map (group_in (y ∷ ys)) (cond (not b) (z ∷ others x zs) (others x zs))) [
      | true ↦ λ e. places_others x y ys zs h
      | false ↦ λ e.
          let other : is_same z y.0 ≡ false = same_back z y.0 ∙ sym (same_along x y.0 z h) ∙ e in
          let more : places_in z (y ∷ ys) ≡ places_in z ys = places_else z y ys other in
          λ i. (z, sym more i) ∷ places_others x y ys zs h i
    ] refl

runs_grouped : (k : Edn) (ps : List ℕ) (xs : List (Edn × ℕ)) → IsLeast k (keys_of_keyed xs) → Ascends (keys_of_keyed xs)
    → runs k ps xs ≡ (k, ps ++ places_in k xs) ∷ map (group_in xs) (others k (distinct_values (keys_of_keyed xs)))
runs_grouped k ps [] least a = let e : ps ≡ ps ++ [] = sym (append-nil ps) in λ i. (k, e i) ∷ []
runs_grouped k ps (x ∷ xs) least a =
    elim (is_same k x.0) as (λ b. is_same k x.0 ≡ b → cond b (runs k (ps ++ x.1 ∷ []) xs) ((k, ps) ∷ runs x.0 (x.1 ∷ []) xs) ≡ (k, ps ++ places_in k (x ∷ xs)) ∷ map (group_in (x ∷ xs)) (others k (distinct_values (keys_of_keyed (x ∷ xs))))) [
      | true ↦ λ e.
          let all : (ps ++ x.1 ∷ []) ++ places_in k xs ≡ ps ++ places_in k (x ∷ xs) =
          append_assoc ps (x.1 ∷ []) (places_in k xs) ∙ ap (λ (w : List ℕ). ps ++ w) (sym (places_here k x xs e)) in
          let rest : others k (distinct_values (keys_of_keyed xs)) ≡ others k (distinct_values (keys_of_keyed (x ∷ xs))) = sym ((rw e refl) ∙ others_twice k x.0 e (distinct_values (keys_of_keyed xs))) in
          runs_grouped k (ps ++ x.1 ∷ []) xs least.1 a.1
          ∙ (λ i. (k, all i) ∷ places_others k x xs (distinct_values (keys_of_keyed xs)) e i)
          ∙ ap (λ w. (k, ps ++ places_in k (x ∷ xs)) ∷ map (group_in (x ∷ xs)) w) rest
      | false ↦ λ e.
          let apart : Apart k (keys_of_keyed (x ∷ xs)) = (e, apart_above k x.0 (keys_of_keyed xs) least.0 e a.0) in
          let none : ps ≡ ps ++ places_in k (x ∷ xs) = sym (ap (λ (w : List ℕ). ps ++ w) (places_apart k (x ∷ xs) apart) ∙ append-nil ps) in
          let first : x.1 ∷ places_in x.0 xs ≡ places_in x.0 (x ∷ xs) = sym (places_here x.0 x xs (same_itself x.0)) in
          let whole : distinct_values (keys_of_keyed (x ∷ xs)) ≡ others k (distinct_values (keys_of_keyed (x ∷ xs))) = sym (others_apart k (distinct_values (keys_of_keyed (x ∷ xs))) (apart_once k (keys_of_keyed (x ∷ xs)) apart)) in
          (λ i. (k, none i) ∷ runs_grouped x.0 (x.1 ∷ []) xs a.0 a.1 i)
          ∙ (λ i. (k, ps ++ places_in k (x ∷ xs)) ∷ (x.0, first i) ∷ places_others x.0 x xs (distinct_values (keys_of_keyed xs)) (same_itself x.0) i)
          ∙ ap (λ w. (k, ps ++ places_in k (x ∷ xs)) ∷ map (group_in (x ∷ xs)) w) whole
    ] refl

-- the groups of what ascends
pub runs_are_groups : (x : Edn × ℕ) (xs : List (Edn × ℕ)) → Ascends (keys_of_keyed (x ∷ xs)) → runs x.0 (x.1 ∷ []) xs ≡ groups_in (x ∷ xs)
runs_are_groups x xs a =
    let first : x.1 ∷ places_in x.0 xs ≡ places_in x.0 (x ∷ xs) = sym (places_here x.0 x xs (same_itself x.0)) in
    runs_grouped x.0 (x.1 ∷ []) xs a.0 a.1
    ∙ (λ i. (x.0, first i) ∷ places_others x.0 x xs (distinct_values (keys_of_keyed xs)) (same_itself x.0) i)
