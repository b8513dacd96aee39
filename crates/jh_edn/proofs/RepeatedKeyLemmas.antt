-- Looking each key up among those before.
use Rattle.std.proofs.Common.{◌≡◌, ℕ, ◌+◌, ◌<◌, Bool, true, false, cond, List, [], ◌∷◌, ◌++◌, length, take, drop, get_or, refl, ap, ◌∙◌, Vec, Global}
use Rattle.std.specs.Prelude.{◌||◌}
use Rattle.std.specs.Ordering.{is_eq}
use Rattle.std.proofs.lemmas.List.{take_more, drop_more, map_push}
use Rattle.jh_edn.specs.declared.key.Part.{Part}
use Rattle.jh_edn.specs.Key.{KeyPart, key_parts, keys_in, key_cmp, is_in, has_twice_after}

pub is_in-push : (k : List KeyPart) (bs : List (List KeyPart)) (b : List KeyPart) → is_in k (bs ++ b ∷ []) ≡ cond (is_eq (key_cmp b k)) true (is_in k bs)
is_in-push k [] b = elim (is_eq (key_cmp b k)) as (λ t. (t || false) ≡ cond t true false) [ true ↦ refl | false ↦ refl ]
is_in-push k (c ∷ bs) b =
    ap (λ t. is_eq (key_cmp c k) || t) (is_in-push k bs b)
    ∙ elim (is_eq (key_cmp c k)) as (λ t. (t || cond (is_eq (key_cmp b k)) true (is_in k bs)) ≡ cond (is_eq (key_cmp b k)) true (t || is_in k bs)) [
      | true ↦ elim (is_eq (key_cmp b k)) as (λ u. true ≡ cond u true true) [ true ↦ refl | false ↦ refl ]
      | false ↦ refl
    ]

module _ (ks : List (Vec Part Global)) (i : ℕ) (d : Vec Part Global) (lt : i < length ks) where
  abbrev key : List KeyPart
  key = key_parts (get_or ks i d).items

  pub taken : keys_in (take (i + 1) ks) ≡ keys_in (take i ks) ++ key ∷ []
  taken = ap keys_in (take_more ks i d lt) ∙ map_push (λ v. key_parts v.items) (take i ks) (get_or ks i d)

  here : has_twice_after (keys_in (take i ks)) (keys_in (drop i ks)) ≡ (is_in key (keys_in (take i ks)) || has_twice_after (keys_in (take i ks) ++ key ∷ []) (keys_in (drop (i + 1) ks)))
  here = ap (λ (w : List (Vec Part Global)). has_twice_after (keys_in (take i ks)) (keys_in w)) (drop_more ks i d lt)

  pub is_old : is_in key (keys_in (take i ks)) ≡ true → has_twice_after (keys_in (take i ks)) (keys_in (drop i ks)) ≡ true
  is_old e = here ∙ rw e refl

  pub is_new : is_in key (keys_in (take i ks)) ≡ false → has_twice_after (keys_in (take i ks)) (keys_in (drop i ks)) ≡ has_twice_after (keys_in (take (i + 1) ks)) (keys_in (drop (i + 1) ks))
  is_new e = here ∙ rw (e, taken) refl

pub cond_then : (a b x y : Bool) → a ≡ b → x ≡ y → cond a true x ≡ cond b true y
cond_then a b x y e f = rw (e, f) refl
