-- Lists that the code makes one by one.
use Rattle.std.proofs.Common.{◌≡◌, ℕ, zero, suc, ◌+◌, ◌<◌, List, [], ◌∷◌, ◌++◌, length, get_or}
use Rattle.std.proofs.Common.{take, map, refl, sym, ap, ap₂, ◌∙◌, arith, add-one}
use Rattle.std.specs.Prelude.{Option, None, Some, option_map, slice_get, slice_index_or}
use Rattle.std.specs.Option.{unwrap_or}
use Rattle.std.proofs.lemmas.List.{map-append, take_more}
use Rattle.std.proofs.lemmas.Option.{get_or_from_slice_get}
use Rattle.jh_edn.specs.Edn.{Edn}
use Rattle.jh_edn.specs.View.{view, views}
use Rattle.jh_edn.specs.declared.value.Value.{Value}
use Rattle.jh_test_parts.specs.Transactions.{slots_from}
use Rattle.jh_test_parts.specs.declared.transactions.Slot.{Slot}

-- the name at a place, or an empty one

none_at : (names : List (List ℕ)) (k : ℕ) → slice_get names k ≡ None → slice_index_or names k [] ≡ []
none_at [] k e = refl
none_at (x ∷ names) zero e = absurd (cc e)
none_at (x ∷ names) (suc k) e = none_at names k e

pub named : {A : Type 0} (now : A → List ℕ) (o : Option A) (d : A) (names : List (List ℕ)) (k : ℕ) → now d ≡ [] → option_map now o ≡ slice_get names k → now (unwrap_or o d) ≡ slice_index_or names k []
named now None d names k e f = e ∙ sym (none_at names k (sym f))
named now (Some x) d names k e f = sym (get_or_from_slice_get names k (now x) [] (sym f))

-- slots

slots_more : (n key : ℕ) → slots_from key n ++ (record { key = key + n; appends = 0 }) ∷ [] ≡ slots_from key (suc n)
slots_more zero key = ap (λ k. let s : Slot = record { key = k; appends = 0 } in s ∷ []) (let e : key + 0 ≡ key = omega arith in e)
slots_more (suc n) key =
    let on : key + suc n ≡ key + 1 + n = omega arith in
    let first : Slot = record { key = key; appends = 0 } in
    ap (λ l. first ∷ l) (ap (λ k. let s : Slot = record { key = k; appends = 0 } in slots_from (key + 1) n ++ s ∷ []) on ∙ slots_more n (key + 1))

pub slots_next : (n : ℕ) → slots_from 0 n ++ (record { key = n; appends = 0 }) ∷ [] ≡ slots_from 0 (n + 1)
slots_next n =
    ap (λ k. let s : Slot = record { key = k; appends = 0 } in slots_from 0 n ++ s ∷ []) (let e : n ≡ 0 + n = omega arith in e) ∙ slots_more n 0 ∙ ap (slots_from 0) (sym (add-one n))

-- values

pub values_more : {A : Type 0} (f : A → Edn) (xs : List A) (i : ℕ) (x : A) (values next : List Value) (v : Value) → i < length xs → x ≡ get_or xs i x
    → views values ≡ map f (take i xs) → view v ≡ f x → next ≡ values ++ v ∷ [] → views next ≡ map f (take (i + 1) xs)
values_more f xs i x values next v less item so_far is added =
    ap views added ∙ map-append view values (v ∷ [])
    ∙ ap₂ (λ l y. l ++ y ∷ []) so_far (is ∙ ap f item)
    ∙ sym (map-append f (take i xs) (get_or xs i x ∷ []))
    ∙ ap (map f) (sym (take_more xs i x less))
