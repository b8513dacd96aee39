-- What a contract sees of the keys of the table of numbers: an owner with a value for each.
use Rattle.std.proofs.Common.{◌≡◌, ◌∙◌, ℕ, zero, suc, Bool, true, false, List, [], ◌∷◌, ◌++◌, Option, Some, None, slice_get, map, refl, sym, ap, cond}
use Rattle.std.proofs.Math.Bool.{or-true}
use Rattle.std.specs.List.{AllByRecursion, IsDistinct, find, list_any}
use Rattle.std.specs.Prelude.{◌||◌, if◌then◌else◌}
use Rattle.indexmap.specs.IndexSet.{insert_key}
use Rattle.jh_numbers.specs.declared.owned.OwnedValue.{OwnedValue}
use Rattle.jh_edn.specs.Edn.{Edn}
use Rattle.jh_numbers.specs.Numbers.{HasNumber, is_same_owned, with_value}
use Rattle.jh_numbers.specs.View.{view_owned}

abbrev same_keys : OwnedValue → OwnedValue → Bool
same_keys a b = is_same_owned (view_owned a) (view_owned b)

pub listed : (keys : List OwnedValue) (n : ℕ) (key : OwnedValue) → slice_get keys n ≡ Some key → slice_get (map view_owned keys) n ≡ Some (view_owned key)
listed [] n key e = absurd (let none : ◌≡◌ {A = Option OwnedValue} None (Some key) = e in cc)
listed (k ∷ keys) zero key e = ap (λ k. Some (view_owned k)) (let same : Some k ≡ Some key = e in cc)
listed (k ∷ keys) (suc n) key e = listed keys n key e

any_listed : (keys : List OwnedValue) (key : OwnedValue) → list_any (same_keys key) keys ≡ list_any (is_same_owned (view_owned key)) (map view_owned keys)
any_listed [] key = refl
any_listed (k ∷ keys) key = ap (λ b. same_keys key k || b) (any_listed keys key)

pushed : (keys : List OwnedValue) (key : OwnedValue) → map view_owned (keys ++ key ∷ []) ≡ map view_owned keys ++ view_owned key ∷ []
pushed [] key = refl
pushed (k ∷ keys) key = ap (λ xs. view_owned k ∷ xs) (pushed keys key)

pub inserted : (keys : List OwnedValue) (key : OwnedValue) → map view_owned (insert_key same_keys keys key) ≡ with_value (map view_owned keys) (view_owned key)
inserted keys key = with_is (list_any (same_keys key) keys) ∙ ap (λ b. if b then map view_owned keys else map view_owned keys ++ view_owned key ∷ []) (any_listed keys key)
  where
    with_is : (b : Bool) → map view_owned (if b then keys else keys ++ key ∷ []) ≡ (if b then map view_owned keys else map view_owned keys ++ view_owned key ∷ [])
    with_is true = refl
    with_is false = pushed keys key

apart_listed : (keys : List OwnedValue) (key : OwnedValue) → AllByRecursion (λ k. same_keys key k ≡ false) keys → AllByRecursion (λ x. is_same_owned (view_owned key) x ≡ false) (map view_owned keys)
apart_listed [] key all = all
apart_listed (k ∷ keys) key all = (all.0, apart_listed keys key all.1)

pub distinct_listed : (keys : List OwnedValue) → IsDistinct same_keys keys → IsDistinct is_same_owned (map view_owned keys)
unfolding IsDistinct
distinct_listed [] d = d
distinct_listed (k ∷ keys) d = (apart_listed keys k d.0, distinct_listed keys d.1)

-- what a look by a test finds passes it
pub found_passes : {K : Type 0} (test : K → Bool) (keys : List K) (key : K) → find test keys ≡ Some key → test key ≡ true
found_passes {K} test [] key e = absurd (let none : ◌≡◌ {A = Option K} None (Some key) = e in cc)
found_passes {K} test (k ∷ keys) key e = by_first (test k) refl (found_passes test keys key)
  where
    by_first : (b : Bool) → test k ≡ b → (find test keys ≡ Some key → test key ≡ true) → test key ≡ true
    by_first true first later = ap test (let same : Some k ≡ Some key = sym (ap (λ b. cond b (Some k) (find test keys)) first) ∙ e in sym cc) ∙ first
    by_first false first later = later (sym (ap (λ b. cond b (Some k) (find test keys)) first) ∙ e)

-- where one has a number, nothing is added
pub known_stays : (values : List (ℕ × Edn)) (one : ℕ × Edn) (number : ℕ) → HasNumber values one number → values ≡ with_value values one
known_stays values one number h = ap (λ b. if b then values else values ++ one ∷ []) (sym (any_at values one number h.0 h.1 h.2))
  where
    any_at : (values : List (ℕ × Edn)) (one : ℕ × Edn) (n : ℕ) (value : ℕ × Edn) → slice_get values n ≡ Some value → is_same_owned one value ≡ true → list_any (is_same_owned one) values ≡ true
    any_at [] one n value e s = absurd (let none : ◌≡◌ {A = Option (ℕ × Edn)} None (Some value) = e in cc)
    any_at (v ∷ values) one zero value e s = ap (λ b. b || list_any (is_same_owned one) values) (ap (is_same_owned one) (let same : Some v ≡ Some value = e in cc) ∙ s)
    any_at (v ∷ values) one (suc n) value e s = ap (λ b. is_same_owned one v || b) (any_at values one n value e s) ∙ or-true (is_same_owned one v)
