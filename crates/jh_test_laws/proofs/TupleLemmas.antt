-- What equals a tuple is one, with an equal key.
use Rattle.std.proofs.Common.{◌≡◌, true, [], ◌∷◌, refl}
use Rattle.std.specs.Prelude.{Some}
use Rattle.std.proofs.lemmas.Bool.{false≢true}
use Rattle.std.specs.Ordering.{is_eq, ordering_then}
use Rattle.std.specs.declared.cmp.Ordering.{Ordering}
use Rattle.std.specs.declared.cmp.Ordering.TheVariants.{Less, Equal, Greater}
use Rattle.jh_edn.specs.Edn.{Edn, nil, boolean, int, char, str, keyword, symbol, list, vector, mapping, set, tagged, Items, no_items, item, items_of, list_of}
use Rattle.jh_edn.specs.Normal.{normal, normal_list}
use Rattle.jh_edn.specs.Order.{edn_cmp, items_cmp}
use Rattle.jh_edn.specs.Parts.{vector_of}
use Rattle.jh_independent.specs.Keys.{tuple_of, two_of}
use Rattle.jh_txn_histories.specs.Written.{is_equal}

-- the tuple that equals one with this key
pub record IsTupleWith (key : Edn) (value : Edn) : Type 0 where
  pub tuple : Edn × Edn
  pub is : tuple_of value ≡ Some tuple
  pub same : is_equal key tuple.0 ≡ true

pub equal_is : (o : Ordering) → is_eq o ≡ true → o ≡ Equal
equal_is Less e = absurd (false≢true e)
equal_is Equal e = refl
equal_is Greater e = absurd (false≢true e)

first_equal : (a b : Ordering) → is_eq (ordering_then a b) ≡ true → is_eq a ≡ true
first_equal Less b e = e
first_equal Equal b e = refl
first_equal Greater b e = e

never_less : (a : Ordering) → is_eq (ordering_then a Less) ≡ true → ⊥
never_less Less e = absurd cc
never_less Equal e = absurd cc
never_less Greater e = absurd cc

never_greater : (a : Ordering) → is_eq (ordering_then a Greater) ≡ true → ⊥
never_greater Less e = absurd cc
never_greater Equal e = absurd cc
never_greater Greater e = absurd cc

second_equal : (a b : Ordering) → is_eq (ordering_then a b) ≡ true → is_eq b ≡ true
second_equal Less b e = absurd cc
second_equal Equal b e = e
second_equal Greater b e = absurd cc

-- the elements of a sequence
module _ (key value : Edn) where
  abbrev Two : Items → Type 0
  Two xs = (tuple : Edn × Edn) × (two_of (list_of xs) ≡ Some tuple) × (is_equal key tuple.0 ≡ true)

  two : (xs : Items) → is_eq (items_cmp (item (normal key) (item (normal value) no_items)) (items_of (normal_list xs))) ≡ true → Two xs
  two no_items e = absurd cc
  two (item x no_items) e = absurd (never_greater (edn_cmp (normal key) (normal x)) e)
  two (item x (item y no_items)) e = ((x, y), refl, first_equal (edn_cmp (normal key) (normal x)) _ e)
  two (item x (item y (item z zs))) e = absurd (never_less (edn_cmp (normal value) (normal y)) (second_equal (edn_cmp (normal key) (normal x)) _ e))

  pub is_tuple : (other : Edn) → is_equal (vector_of (key ∷ value ∷ [])) other ≡ true → IsTupleWith key other
  is_tuple nil e = absurd cc
  is_tuple (boolean b) e = absurd cc
  is_tuple (int z) e = absurd cc
  is_tuple (char c) e = absurd cc
  is_tuple (str s) e = absurd cc
  is_tuple (keyword s) e = absurd cc
  is_tuple (symbol s) e = absurd cc
  is_tuple (list xs) e = let t = two xs e in record { tuple = t.0; is = t.1; same = t.2 }
  is_tuple (vector xs) e = let t = two xs e in record { tuple = t.0; is = t.1; same = t.2 }
  is_tuple (mapping ms) e = absurd cc
  is_tuple (set xs) e = absurd cc
  is_tuple (tagged tag x) e = absurd cc
