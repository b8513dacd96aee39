-- Appends that are noted in tables, and which of them were there before.
use Rattle.std.proofs.Common.{◌≡◌, ◌∙◌, ℕ, ◌+◌, ◌<◌, Bool, true, false, eqb, get_or, take, List, [], ◌∷◌, ◌++◌, Some, None, length, refl, sym, ap, subst, inl, inr, arith, append_assoc, append-nil, eq-eqb}
use Rattle.std.specs.Prelude.{◌⊎◌, ◌||◌, if◌then◌else◌}
use Rattle.std.specs.List.{Contains, IsDistinct, list_any}
use Rattle.std.specs.Option.{option_map_or}
use Rattle.std.specs.Cmp.{partial_equiv_from_equiv}
use Rattle.std.specs.Ordering.{is_eq}
use Rattle.std.proofs.lemmas.Bool.{and_parts, and_from, eqb-true, ne_eqb}
use Rattle.std.proofs.lemmas.List.Concat.{flat_map-append}
use Rattle.std.proofs.lemmas.List.Elements.{Contains-append_left, Contains-push, Contains-push_cases}
use Rattle.std.proofs.lemmas.List.Folds.{Any-from_list_any, list_any-from_Any}
use Rattle.jh_edn.specs.Edn.{Edn}
use Rattle.jh_edn.specs.Normal.{normal}
use Rattle.jh_edn.specs.Order.{edn_cmp}
use Rattle.jh_numbers.proofs.NumberLemmas.{told, alike}
use Rattle.jh_numbers.specs.Numbers.{HasNumber, is_same_owned, with_value}
use Rattle.jh_numbers.specs.SameInside.{same_equiv}
use Rattle.jh_ops.specs.Operation.{Operation}
use Rattle.jh_ops.specs.declared.pairs.Pair.{Pair}
use Rattle.jh_txn_histories.specs.Histories.{appends_of_pair, appends_of_pairs, txn_asked}
use Rattle.jh_txn_histories.specs.ReadingInside.{AreNoted, IsAppended, IsInTables, NotesAppends, NotesPair, Stays, written, written_ops}
use Rattle.jh_txn_histories.specs.Written.{Written, appends_of, is_equal, is_same_append, has_repeat}
use Rattle.jh_txn_histories.specs.Written.{append, read}
use Rattle.jh_txn_histories.specs.declared.tables.Tables.{Tables}
use Rattle.jh_txn_histories.specs.declared.written.WrittenOp.{WrittenOp}
use Rattle.std.proofs.lemmas.List.{map-append, take_more}

pub any_out : {X : Type 0} (p : X → Bool) (xs : List X) → list_any p xs ≡ true → (x : X) × Contains xs x × (p x ≡ true)
any_out p xs h = let a = Any-from_list_any p xs h in (a.1, (a.0, a.2, a.3), a.4)

pub any_in : {X : Type 0} (p : X → Bool) (xs : List X) (x : X) → Contains xs x → p x ≡ true → list_any p xs ≡ true
any_in p xs x c h = list_any-from_Any p xs (c.0, x, c.1, c.2, h)

same_bool : (a b : Bool) → (a ≡ true → b ≡ true) → (b ≡ true → a ≡ true) → a ≡ b
same_bool true b f g = sym (f refl)
same_bool false true f g = g refl
same_bool false false f g = refl

pub same_trans : (a b c : ℕ × Edn) → is_same_owned a b ≡ true → is_same_owned b c ≡ true → is_same_owned a c ≡ true
same_trans a b c h k = (partial_equiv_from_equiv same_equiv).trans a b c h k

pub same_itself : (a : ℕ × Edn) → is_same_owned a a ≡ true
same_itself a = same_equiv.refl a

-- A table with one more value, where it had none of it.
module _ (xs : List (ℕ × Edn)) (e : ℕ × Edn) where
  abbrev with : Bool → List (ℕ × Edn)
  with b = if b then xs else xs ++ e ∷ []

  with_kept : (b : Bool) (x : ℕ × Edn) → Contains xs x → Contains (with b) x
  with_kept true x h = h
  with_kept false x h = Contains-append_left xs (e ∷ []) x h

  with_there : (b : Bool) → list_any (is_same_owned e) xs ≡ b → list_any (is_same_owned e) (with b) ≡ true
  with_there true h = h
  with_there false h = any_in (is_same_owned e) (xs ++ e ∷ []) e (Contains-push xs e) (same_itself e)

  with_cases : (b : Bool) (x : ℕ × Edn) → Contains (with b) x → Contains xs x ⊎ (e ≡ x)
  with_cases true x h = inl h
  with_cases false x h = Contains-push_cases xs e x h

  pub with_grown : (b : Bool) → eqb (length (with b)) (length xs) ≡ b
  with_grown true = eq-eqb (length xs) (length xs) refl
  with_grown false = ne_eqb (length (xs ++ e ∷ [])) (length xs) (λ same. absurd (omega (arith, same, longer xs)))
    where
      longer : (ys : List (ℕ × Edn)) → length (ys ++ e ∷ []) ≡ length ys + 1
      longer [] = refl
      longer (y ∷ ys) = omega (arith, longer ys)

-- One append, with the number of its key.
module _ (old new : Tables) (front : List (Edn × Edn)) (key element : Edn) (k : ℕ) where
  abbrev one : Edn × Edn
  one = (key, element)

  abbrev entry : ℕ × Edn
  entry = (k, normal element)

  abbrev is_old : Bool
  is_old = list_any (is_same_owned entry) old.elements

  module _ (are : AreNoted old front) (keys_stay : Stays old.keys new.keys) (distinct : IsDistinct is_same_owned new.keys) (number : HasNumber new.keys (0, normal key) k) (values : new.elements ≡ with_value old.elements entry) where
    hit : is_old ≡ true → list_any (is_same_append one) front ≡ true
    hit h =
        let found = any_out (is_same_owned entry) old.elements h in
        let from = are.only found.0 found.1 in
        let parts = and_parts (eqb k found.0.0) (is_eq (edn_cmp (normal element) found.0.1)) found.2 in
        let same_key : k ≡ found.0.0 = eqb-true k found.0.0 parts.0 in
        let other = subst (λ n. HasNumber new.keys (0, normal from.0.0) n) (sym same_key) (keys_stay (0, normal from.0.0) found.0.0 from.2) in
        let keys_equal : is_equal key from.0.0 ≡ true = told new.keys (0, normal key) (0, normal from.0.0) k number other in
        let elements_equal : is_equal element from.0.1 ≡ true = subst (λ x. is_eq (edn_cmp (normal element) x) ≡ true) (sym from.3) parts.1 in
        any_in (is_same_append one) front from.0 from.1 (and_from (is_equal key from.0.0) (is_equal element from.0.1) keys_equal elements_equal)

    seen : list_any (is_same_append one) front ≡ true → is_old ≡ true
    seen h =
        let found = any_out (is_same_append one) front h in
        let other = found.0 in
        let parts = and_parts (is_equal key other.0) (is_equal element other.1) found.2 in
        let noted = are.noted other found.1 in
        let same_key : k ≡ noted.0 = alike new.keys (0, normal key) (0, normal other.0) k noted.0 distinct number (keys_stay (0, normal other.0) noted.0 noted.1) parts.0 in
        let there = any_out (is_same_owned (noted.0, normal other.1)) old.elements noted.2 in
        let alike_entry : is_same_owned entry (noted.0, normal other.1) ≡ true = and_from (eqb k noted.0) (is_equal element other.1) (eq-eqb k noted.0 same_key) parts.1 in
        any_in (is_same_owned entry) old.elements there.0 there.1 (same_trans entry (noted.0, normal other.1) there.0 alike_entry there.2)

    told_again : is_old ≡ list_any (is_same_append one) front
    told_again = same_bool is_old (list_any (is_same_append one) front) hit seen

    kept : (x : ℕ × Edn) → Contains old.elements x → Contains new.elements x
    kept x h = subst (λ xs. Contains xs x) (sym values) (with_kept old.elements entry is_old x h)

    all_noted : (other : Edn × Edn) → Contains (front ++ one ∷ []) other → IsInTables new other
    all_noted other h = elim (Contains-push_cases front one other h) as (λ _. IsInTables new other) [
      | inl before ↦
          let noted = are.noted other before in
          let there = any_out (is_same_owned (noted.0, normal other.1)) old.elements noted.2 in
          (noted.0, keys_stay (0, normal other.0) noted.0 noted.1, any_in (is_same_owned (noted.0, normal other.1)) new.elements there.0 (kept there.0 there.1) there.2)
      | inr this ↦ subst (IsInTables new) this (k, number, subst (λ xs. list_any (is_same_owned entry) xs ≡ true) (sym values) (with_there old.elements entry is_old refl))
    ]

    only_these : (x : ℕ × Edn) → Contains new.elements x → IsAppended new.keys (front ++ one ∷ []) x
    only_these x h = elim (with_cases old.elements entry is_old x (subst (λ xs. Contains xs x) values h)) as (λ _. IsAppended new.keys (front ++ one ∷ []) x) [
      | inl before ↦
          let from = are.only x before in
          (from.0, Contains-append_left front (one ∷ []) from.0 from.1, keys_stay (0, normal from.0.0) x.0 from.2, from.3)
      | inr this ↦ subst (IsAppended new.keys (front ++ one ∷ [])) this (one, Contains-push front one, number, refl)
    ]

    or_false : (b : Bool) → (b || false) ≡ b
    or_false true = refl
    or_false false = refl

    -- noted, and told by the length of the table of elements
    pub noted_one : (eqb (length new.elements) (length old.elements) ≡ has_repeat front (one ∷ [])) × AreNoted new (front ++ one ∷ [])
    noted_one = (
      ap (λ xs. eqb (length xs) (length old.elements)) values ∙ with_grown old.elements entry is_old ∙ told_again ∙ sym (or_false (list_any (is_same_append one) front)),
      record { distinct = distinct; noted = all_noted; only = only_these },
    )

-- Appends one after another.

or_assoc : (a b c : Bool) → (a || (b || c)) ≡ ((a || b) || c)
or_assoc true b c = refl
or_assoc false b c = refl

pub repeats_append : (front xs ys : List (Edn × Edn)) → has_repeat front (xs ++ ys) ≡ (has_repeat front xs || has_repeat (front ++ xs) ys)
repeats_append front [] ys = ap (λ f. has_repeat f ys) (sym (append-nil front))
repeats_append front (x ∷ xs) ys =
    ap (λ t. list_any (is_same_append x) front || t) (repeats_append (front ++ x ∷ []) xs ys)
    ∙ ap (λ f. list_any (is_same_append x) front || (has_repeat (front ++ x ∷ []) xs || has_repeat f ys)) (append_assoc front (x ∷ []) xs)
    ∙ or_assoc (list_any (is_same_append x) front) (has_repeat (front ++ x ∷ []) xs) (has_repeat (front ++ x ∷ xs) ys)

pub notes_none : (tables : Tables) → NotesAppends tables tables [] false
notes_none tables = λ front are. (refl, subst (AreNoted tables) (sym (append-nil front)) are)

pub notes_then : (a b c : Tables) (xs ys : List (Edn × Edn)) (first second : Bool) → NotesAppends a b xs first → NotesAppends b c ys second → NotesAppends a c (xs ++ ys) (first || second)
notes_then a b c xs ys first second h k = λ front are.
    let one = h front are in
    let two = k (front ++ xs) one.1 in (
      ap (λ t. t || second) one.0 ∙ ap (λ t. has_repeat front xs || t) two.0 ∙ sym (repeats_append front xs ys),
      subst (AreNoted c) (append_assoc front xs ys) two.1,
    )

pub appends_of-append : (xs ys : List Written) → appends_of (xs ++ ys) ≡ appends_of xs ++ appends_of ys
appends_of-append [] ys = refl
appends_of-append (append key element ∷ xs) ys = ap (λ zs. (key, element) ∷ zs) (appends_of-append xs ys)
appends_of-append (read key seen ∷ xs) ys = appends_of-append xs ys

-- Pairs one after another.
module _ (history : List Operation) where
  pub appends_of_pairs-push : (front : List Pair) (pair : Pair) → appends_of_pairs history (front ++ pair ∷ []) ≡ appends_of_pairs history front ++ appends_of_pair history pair
  appends_of_pairs-push front pair =
      flat_map-append (appends_of_pair history) front (pair ∷ []) ∙ ap (λ xs. appends_of_pairs history front ++ xs) (append-nil (appends_of_pair history pair))

  pub notes_pair : (old new : Tables) (pair : Pair) (ops : List Written) (again : Bool) → txn_asked history pair ≡ Some ops → NotesAppends old new (appends_of ops) again → NotesPair history old new pair (if again then Some pair.invoke else None)
  notes_pair old new pair ops again is notes = λ front are.
      let these : appends_of_pair history pair ≡ appends_of ops = ap (λ o. option_map_or appends_of o []) is in
      let h = notes (appends_of_pairs history front) are in (
        ap (λ b. if b then Some pair.invoke else None) h.0 ∙ ap (λ xs. if has_repeat (appends_of_pairs history front) xs then Some pair.invoke else None) (sym these),
        subst (AreNoted new) (ap (λ xs. appends_of_pairs history front ++ xs) (sym these) ∙ sym (appends_of_pairs-push front pair)) h.1,
      )

  pub notes_nothing : (tables : Tables) (pair : Pair) → txn_asked history pair ≡ None → NotesPair history tables tables pair None
  notes_nothing tables pair is = λ front are.
      let these : appends_of_pair history pair ≡ [] = ap (λ o. option_map_or appends_of o []) is in (
        ap (λ xs. if has_repeat (appends_of_pairs history front) xs then Some pair.invoke else None) (sym these),
        subst (AreNoted tables) (sym (append-nil (appends_of_pairs history front)) ∙ ap (λ xs. appends_of_pairs history front ++ xs) (sym these) ∙ sym (appends_of_pairs-push front pair)) are,
      )

none_twice : IsDistinct is_same_owned []
unfolding IsDistinct
none_twice = tt

-- nothing is noted in empty tables
pub none_noted : (tables : Tables) → tables.keys ≡ [] → tables.elements ≡ [] → AreNoted tables []
none_noted tables no_keys no_elements = record {
  distinct = subst (IsDistinct is_same_owned) (sym no_keys) none_twice;
  noted = λ one h. absurd (omega (arith, h.1));
  only = λ entry h. absurd (let here = subst (λ xs. Contains xs entry) no_elements h in omega (arith, here.1));
}

-- one more micro-operation
pub appends_more : (ops : List WrittenOp) (i : ℕ) (op : WrittenOp) → i < length ops → op ≡ get_or ops i op → appends_of (written_ops (take (i + 1) ops)) ≡ appends_of (written_ops (take i ops)) ++ appends_of (written op ∷ [])
appends_more ops i op low is =
    ap (λ xs. appends_of (written_ops xs)) (take_more ops i op low ∙ ap (λ x. take i ops ++ x ∷ []) (sym is))
    ∙ ap appends_of (map-append written (take i ops) (op ∷ []))
    ∙ appends_of-append (written_ops (take i ops)) (written op ∷ [])
