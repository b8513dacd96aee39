-- Appends with their numbers: those of micro-operations, and what it means that none is there twice.
use Rattle.std.proofs.Common.{◌≡◌, ◌∙◌, ℕ, zero, suc, ◌<◌, Bool, true, false, eqb, List, [], ◌∷◌, ◌++◌, length, refl, sym, ap, subst, inl, inr, arith, eq-eqb}
use Rattle.std.specs.Prelude.{◌&&◌, if◌then◌else◌, slice_index_or}
use Rattle.std.specs.List.{AllZip, Contains, flat_map, list_any}
use Rattle.std.proofs.lemmas.Bool.{and_from, and_parts, eqb-true, false≢true, or_parts, true≢false}
use Rattle.std.proofs.lemmas.List.Elements.{Contains-append_left, Contains-append_right, Contains-push}
use Rattle.jh_edn.specs.Edn.{Edn}
use Rattle.jh_edn.specs.Normal.{normal}
use Rattle.jh_numbers.proofs.NumberLemmas.{told}
use Rattle.jh_numbers.specs.Numbers.{HasNumber, is_same_owned}
use Rattle.jh_txn.proofs.ListLemmas.{before_itself, includes_cons, none_twice, once_if}
use Rattle.jh_txn.specs.Transactions.{HasNoRepeat, appended, includes}
use Rattle.jh_txn.specs.declared.txn.MicroOp.{MicroOp}
use Rattle.jh_txn.specs.declared.txn.MicroOp.TheVariants.{Append, Read}
use Rattle.jh_txn_histories.specs.Histories.{IsNumbered}
use Rattle.jh_txn_histories.specs.Written.{Written, append, read, appends_of, are_answers, is_equal, is_same_append, has_repeat}
use Rattle.jh_txn_histories.proofs.NoteLemmas.{any_in, same_trans}

pub contains_head : {X : Type 0} (x : X) (xs : List X) → Contains (x ∷ xs) x
contains_head x xs = (0, omega arith, refl)

pub contains_tail : {X : Type 0} (y : X) (xs : List X) (x : X) → Contains xs x → Contains (y ∷ xs) x
contains_tail y xs x h = (suc h.0, omega (arith, h.1), h.2)

pub contains_flat : {X Y : Type 0} (f : X → List Y) (xs : List X) (x : X) (y : Y) (i : ℕ) → i < length xs → slice_index_or xs i x ≡ x → Contains (f x) y → Contains (flat_map f xs) y
contains_flat f [] x y i low at h = absurd (omega (arith, low))
contains_flat f (z ∷ xs) x y zero low at h = Contains-append_left (f z) (flat_map f xs) y (subst (λ w. Contains (f w) y) (sym at) h)
contains_flat f (z ∷ xs) x y (suc i) low at h = Contains-append_right (f z) (flat_map f xs) y (contains_flat f xs x y i (omega (arith, low)) at h)

-- each append of micro-operations, a key with an element
abbrev pub placed : List MicroOp → List (ℕ × ℕ)
placed [] = []
placed (Append key element ∷ ops) = (key, element) ∷ placed ops
placed (Read key seen ∷ ops) = placed ops

-- no append was there before: neither in front, nor among these
pub no_clash : (front xs : List (Edn × Edn)) (x y : Edn × Edn) (i : ℕ) → has_repeat front xs ≡ false → Contains front x → i < length xs → slice_index_or xs i y ≡ y → is_same_append y x ≡ true → ⊥
no_clash front [] x y i none before low at same = absurd (omega (arith, low))
no_clash front (z ∷ xs) x y zero none before low at same =
    let parts = or_parts (list_any (is_same_append z) front) (has_repeat (front ++ z ∷ []) xs) none in
    let hit = any_in (is_same_append z) front x before (subst (λ w. is_same_append w x ≡ true) (sym at) same) in
    true≢false (sym hit ∙ parts.0)
no_clash front (z ∷ xs) x y (suc i) none before low at same =
    let parts = or_parts (list_any (is_same_append z) front) (has_repeat (front ++ z ∷ []) xs) none in
    no_clash (front ++ z ∷ []) xs x y i parts.1 (Contains-append_left front (z ∷ []) x before) (omega (arith, low)) at same

module _ (keys elements : List (ℕ × Edn)) where
  -- the numbers of an append
  abbrev pub HasBoth : Edn × Edn → ℕ × ℕ → Type 0
  HasBoth one numbers = HasNumber keys (0, normal one.0) numbers.0 × HasNumber elements (numbers.0, normal one.1) numbers.1

  -- appends with the same numbers are the same
  pub same_numbers : (one other : Edn × Edn) (numbers : ℕ × ℕ) → HasBoth one numbers → HasBoth other numbers → is_same_append one other ≡ true
  same_numbers one other numbers h k =
      let key : is_equal one.0 other.0 ≡ true = told keys (0, normal one.0) (0, normal other.0) numbers.0 h.0 k.0 in
      let element = told elements (numbers.0, normal one.1) (numbers.0, normal other.1) numbers.1 h.1 k.1 in
      and_from (is_equal one.0 other.0) (is_equal one.1 other.1) key (and_parts (eqb numbers.0 numbers.0) (is_equal one.1 other.1) element).1

  number_of_same : (values : List (ℕ × Edn)) (one other : ℕ × Edn) (n : ℕ) → is_same_owned one other ≡ true → HasNumber values other n → HasNumber values one n
  number_of_same values one other n same h = (h.0, h.1, same_trans one other h.0 same h.2)

  pub said_zip : (said : List Written) (ops : List MicroOp) → AllZip (IsNumbered keys elements) said ops → AllZip HasBoth (appends_of said) (placed ops)
  said_zip [] [] h = tt
  said_zip [] (m ∷ ms) h = absurd h
  said_zip (w ∷ ws) [] h = absurd h
  said_zip (append key element ∷ ws) (Append k e ∷ ms) h = (h.0, said_zip ws ms h.1)
  said_zip (append key element ∷ ws) (Read k es ∷ ms) h = absurd h.0
  said_zip (read key seen ∷ ws) (Append k e ∷ ms) h = absurd h.0
  said_zip (read key seen ∷ ws) (Read k es ∷ ms) h = said_zip ws ms h.1

  pub asked_zip : (asked said : List Written) (numbers : List (ℕ × ℕ)) → are_answers asked said ≡ true → AllZip HasBoth (appends_of said) numbers → AllZip HasBoth (appends_of asked) numbers
  asked_zip [] [] numbers is h = h
  asked_zip [] (b ∷ bs) numbers is h = absurd (false≢true is)
  asked_zip (a ∷ xs) [] numbers is h = absurd (no_answer a xs is)
    where
      no_answer : (a : Written) (xs : List Written) → are_answers (a ∷ xs) [] ≡ true → ⊥
      no_answer (append key element) xs is = false≢true is
      no_answer (read key seen) xs is = false≢true is
  asked_zip (append key element ∷ xs) (append other more ∷ ys) [] is h = absurd h
  asked_zip (append key element ∷ xs) (append other more ∷ ys) (n ∷ ns) is h =
      let parts = and_parts (is_equal key other && is_equal element more) (are_answers xs ys) is in
      let both = and_parts (is_equal key other) (is_equal element more) parts.0 in
      let same_element : is_same_owned (n.0, normal element) (n.0, normal more) ≡ true = and_from (eqb n.0 n.0) (is_equal element more) (eq-eqb n.0 n.0 refl) both.1 in (
        (number_of_same keys (0, normal key) (0, normal other) n.0 both.0 h.0.0, number_of_same elements (n.0, normal element) (n.0, normal more) n.1 same_element h.0.1),
        asked_zip xs ys ns parts.1 h.1,
      )
  asked_zip (append key element ∷ xs) (read other seen ∷ ys) numbers is h = absurd (false≢true is)
  asked_zip (read key seen ∷ xs) (append other more ∷ ys) numbers is h = absurd (false≢true is)
  asked_zip (read key seen ∷ xs) (read other more ∷ ys) numbers is h =
      asked_zip xs ys numbers (and_parts (is_equal key other) (are_answers xs ys) is).1 h

  -- the append that has these numbers
  pub zip_find : (xs : List (Edn × Edn)) (ns : List (ℕ × ℕ)) (i : ℕ) (n : ℕ × ℕ) → AllZip HasBoth xs ns → i < length ns → slice_index_or ns i n ≡ n → (x : Edn × Edn) × Contains xs x × HasBoth x n
  zip_find [] [] i n h low at = absurd (omega (arith, low))
  zip_find [] (m ∷ ns) i n h low at = absurd h
  zip_find (x ∷ xs) [] i n h low at = absurd h
  zip_find (x ∷ xs) (m ∷ ns) zero n h low at = (x, contains_head x xs, subst (HasBoth x) at h.0)
  zip_find (x ∷ xs) (m ∷ ns) (suc i) n h low at = let r = zip_find xs ns i n h.1 (omega (arith, low)) at in (r.0, contains_tail x xs r.0 r.1, r.2)

  -- what is appended to a key is one of the appends
  pub appended_in : (ops : List MicroOp) (key element : ℕ) → includes (appended key ops) element ≡ true → Contains (placed ops) (key, element)
  appended_in [] key element h = absurd (false≢true h)
  appended_in (Read k seen ∷ ops) key element h = appended_in ops key element h
  appended_in (Append k e ∷ ops) key element h = by_key (eqb k key) refl h (λ there. appended_in ops key element there)
    where
      by_key : (b : Bool) → eqb k key ≡ b → includes (if b then e ∷ appended key ops else appended key ops) element ≡ true → (includes (appended key ops) element ≡ true → Contains (placed ops) (key, element)) → Contains ((k, e) ∷ placed ops) (key, element)
      by_key false other there rest = contains_tail (k, e) (placed ops) (key, element) (rest there)
      by_key true same there rest = elim (includes_cons e (appended key ops) element there) as (λ _. Contains ((k, e) ∷ placed ops) (key, element)) [
        | inl is ↦
            let this : ◌≡◌ {A = ℕ × ℕ} (k, e) (key, element) = ap (λ n. (n, e)) (eqb-true k key same) ∙ ap (λ n. (key, n)) is in
            subst (Contains ((k, e) ∷ placed ops)) this (contains_head (k, e) (placed ops))
        | inr later ↦ contains_tail (k, e) (placed ops) (key, element) (rest later)
      ]

  once_more : (front : List (Edn × Edn)) (x : Edn × Edn) (xs : List (Edn × Edn)) (k e key : ℕ) (ops : List MicroOp) → has_repeat (front ++ x ∷ []) xs ≡ false → HasBoth x (k, e) → AllZip HasBoth xs (placed ops) → HasNoRepeat (appended key ops) → HasNoRepeat (appended key (Append k e ∷ ops))
  once_more front x xs k e key ops none this zipped rest = by_key (eqb k key) refl
    where
      again : k ≡ key → includes (appended key ops) e ≡ true → ⊥
      again same there =
          let at = appended_in ops key e there in
          let other = zip_find xs (placed ops) at.0 (key, e) zipped at.1 at.2 in
          let here : HasBoth x (key, e) = subst (λ n. HasBoth x (n, e)) same this in
          no_clash (front ++ x ∷ []) xs x other.0 other.1.0 none (Contains-push front x) other.1.1 other.1.2 (same_numbers other.0 x (key, e) other.2 here)

      by_key : (b : Bool) → eqb k key ≡ b → HasNoRepeat (if b then e ∷ appended key ops else appended key ops)
      by_key false other = rest
      by_key true same = once_if (e ∷ appended key ops) (λ a twice. elim twice as (λ _. ⊥) [
        | inl here ↦ again (eqb-true k key same) (subst (λ n. includes (appended key ops) n ≡ true) (sym here.0) here.1)
        | inr there ↦ before_itself (appended key ops) a rest there
      ])

  -- where no append was there before, no element is appended to a key twice
  pub once_in : (front xs : List (Edn × Edn)) (ops : List MicroOp) (key : ℕ) → has_repeat front xs ≡ false → AllZip HasBoth xs (placed ops) → HasNoRepeat (appended key ops)
  once_in front xs [] key none h = none_twice
  once_in front xs (Read k seen ∷ ops) key none h = once_in front xs ops key none h
  once_in front [] (Append k e ∷ ops) key none h = absurd h
  once_in front (x ∷ xs) (Append k e ∷ ops) key none h =
      let parts = or_parts (list_any (is_same_append x) front) (has_repeat (front ++ x ∷ []) xs) none in
      once_more front x xs k e key ops parts.1 h.0 h.1 (once_in (front ++ x ∷ []) xs ops key parts.1 h.1)
