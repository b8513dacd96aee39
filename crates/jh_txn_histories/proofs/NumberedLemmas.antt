-- What the numbers of transactions owe: they are below the lengths of the tables, and no element is
-- appended twice.
use Rattle.std.proofs.Common.{◌≡◌, ◌∙◌, ℕ, zero, suc, ◌<◌, Bool, true, false, eqb, take, List, [], ◌∷◌, ◌++◌, Option, Some, None, length, refl, sym, ap, subst, inl, inr, arith}
use Rattle.std.specs.Prelude.{◌⊎◌, if◌then◌else◌, option_and_then, slice_get}
use Rattle.std.specs.List.{All, AllZip, Contains}
use Rattle.std.specs.Option.{option_map_or}
use Rattle.std.specs.Ordering.{is_eq}
use Rattle.std.proofs.lemmas.Bool.{and_parts, cases_order, eqb-true, false≢true, false_from_ne_true}
use Rattle.std.proofs.lemmas.List.Elements.{All-cons, All-head, All-nil, All-tail}
use Rattle.std.proofs.lemmas.Option.{slice_get_within}
use Rattle.jh_edn.specs.Edn.{Edn}
use Rattle.jh_edn.specs.Normal.{normal}
use Rattle.jh_edn.specs.Order.{edn_cmp}
use Rattle.jh_numbers.proofs.NumberLemmas.{told}
use Rattle.jh_numbers.specs.Numbers.{HasNumber}
use Rattle.jh_ops.specs.Operation.{Operation}
use Rattle.jh_ops.specs.declared.pairs.Pair.{Pair}
use Rattle.jh_txn.specs.Transactions.{AppendOnce, Appends, AreKeysBelow, HasNoRepeat, IsKeyBelow, appended, ops_at}
use Rattle.jh_txn.specs.Transactions.{appends_at as numbers_at}
use Rattle.jh_txn.specs.declared.txn.MicroOp.{MicroOp}
use Rattle.jh_txn.specs.declared.txn.MicroOp.TheVariants.{Append, Read}
use Rattle.jh_txn.specs.declared.txn.Txn.{Txn}
use Rattle.jh_txn.proofs.ListLemmas.{none_twice}
use Rattle.jh_txn_histories.specs.Histories.{IsNumbered, IsRepeatedAt, IsTxnOf, txn_answer, appends_of_pair, appends_of_pairs, txn_asked, bad_value_place, is_txn_at, place_if_bad, value_if_ok}
use Rattle.jh_txn_histories.specs.Written.{Written, append, read, answers, appends_of, are_answers, micro_ops_of, has_repeat}
use Rattle.jh_txn_histories.specs.declared.written.Stage.TheVariants.{Answered}
use Rattle.jh_txn_histories.proofs.AppendLemmas.{HasBoth, appended_in, asked_zip, contains_flat, no_clash, once_in, placed, said_zip, same_numbers, zip_find}
use Rattle.jh_txn_writers.specs.Numbers.{AppendToOneKey, AreElementsBelow, AreElementsOfBelow, AreNumbersOf}

has_below : (values : List (ℕ × Edn)) (one : ℕ × Edn) (n : ℕ) → HasNumber values one n → n < length values
has_below values one n h = slice_get_within values n h.0 h.1

-- what holds of each on the right of what is zipped
zip_right : {A B : Type 0} (R : A → B → Type 0) (P : B → Type 0) → ((x : A) (y : B) → R x y → P y) → (xs : List A) (ys : List B) → AllZip R xs ys → All P ys
zip_right R P so [] [] h = All-nil P
zip_right R P so [] (y ∷ ys) h = absurd h
zip_right R P so (x ∷ xs) [] h = absurd h
zip_right R P so (x ∷ xs) (y ∷ ys) h = All-cons P y ys (so x y h.0) (zip_right R P so xs ys h.1)

-- an element and what stands before it
cut_get : {X : Type 0} (xs : List X) (n : ℕ) (x : X) → slice_get xs n ≡ Some x → (back : List X) × (xs ≡ take n xs ++ x ∷ back)
cut_get {X} [] n x e = absurd (let none : ◌≡◌ {A = Option X} None (Some x) = e in cc)
cut_get (y ∷ xs) zero x e = (xs, ap (λ z. z ∷ xs) (let same : Some y ≡ Some x = e in cc))
cut_get (y ∷ xs) (suc n) x e = let r = cut_get xs n x e in (r.0, ap (λ zs. y ∷ zs) r.1)

-- what stands at an earlier place
earlier : {X : Type 0} (xs : List X) (n m : ℕ) (x : X) → n < m → slice_get xs n ≡ Some x → Contains (take m xs) x
earlier {X} [] n m x less e = absurd (let none : ◌≡◌ {A = Option X} None (Some x) = e in cc)
earlier (y ∷ xs) n zero x less e = absurd (omega (arith, less))
earlier (y ∷ xs) zero (suc m) x less e = (0, omega arith, (let same : Some y ≡ Some x = e in cc))
earlier (y ∷ xs) (suc n) (suc m) x less e = let r = earlier xs n m x (omega (arith, less)) e in (suc r.0, omega (arith, r.1), r.2)

module _ (history : List Operation) (keys elements : List (ℕ × Edn)) where
  op_key_below : (op : Written) (m : MicroOp) → IsNumbered keys elements op m → IsKeyBelow (length keys) m
  op_key_below (append key element) (Append k e) h = has_below keys (0, normal key) k h.0
  op_key_below (append key element) (Read k es) h = absurd h
  op_key_below (read key seen) (Append k e) h = absurd h
  op_key_below (read key seen) (Read k es) h = has_below keys (0, normal key) k h.0

  op_elements_below : (op : Written) (m : MicroOp) → IsNumbered keys elements op m → AreElementsOfBelow (length elements) m
  op_elements_below (append key element) (Append k e) h = has_below elements (k, normal element) e h.1
  op_elements_below (append key element) (Read k es) h = absurd h
  op_elements_below (read key seen) (Append k e) h = absurd h
  op_elements_below (read key seen) (Read k es) h = zip_right (λ x n. HasNumber elements (k, normal x) n) (λ n. n < length elements) (λ x n. has_below elements (k, normal x) n) seen es h.1

  pub keys_below : (pairs : List Pair) (txns : List Txn) → AllZip (IsTxnOf history keys elements) pairs txns → AreKeysBelow (length keys) txns
  keys_below pairs txns are = zip_right (IsTxnOf history keys elements) (λ txn. All (IsKeyBelow (length keys)) txn.ops) (λ pair txn is. zip_right (IsNumbered keys elements) (IsKeyBelow (length keys)) op_key_below is.ops.0 txn.ops is.ops.2) pairs txns are

  pub elements_below : (pairs : List Pair) (txns : List Txn) → AllZip (IsTxnOf history keys elements) pairs txns → AreElementsBelow (length elements) txns
  elements_below pairs txns are = zip_right (IsTxnOf history keys elements) (λ txn. All (AreElementsOfBelow (length elements)) txn.ops) (λ pair txn is. zip_right (IsNumbered keys elements) (AreElementsOfBelow (length elements)) op_elements_below is.ops.0 txn.ops is.ops.2) pairs txns are

  -- the appends that a pair asks for have the numbers of its transaction
  abbrev AppendsZip : Pair → Txn → Type 0
  AppendsZip pair txn = AllZip (HasBoth keys elements) (appends_of_pair history pair) (placed txn.ops)

  -- an answer stands at a completion
  no_answer : (pair : Pair) (value : Edn) → txn_answer history pair ≡ Some value → pair.outcome ≡ None → ⊥
  no_answer pair value is none = by_txn (is_txn_at history pair.invoke) (sym (ap (λ o. if is_txn_at history pair.invoke then option_and_then (λ op. value_if_ok op.kind op.value) (option_and_then (λ place. slice_get history place) o) else None) none) ∙ is)
    where
      by_txn : (b : Bool) → ◌≡◌ {A = Option Edn} (if b then None else None) (Some value) → ⊥
      by_txn true e = absurd (let nothing : ◌≡◌ {A = Option Edn} None (Some value) = e in cc)
      by_txn false e = absurd (let nothing : ◌≡◌ {A = Option Edn} None (Some value) = e in cc)

  module _ (pair : Pair) (said : List Written) (numbers : List (ℕ × ℕ)) (zipped : AllZip (HasBoth keys elements) (appends_of said) numbers) where
    by_parts : (asked : Option (List Written)) (answer : Option Edn) → ((value : Edn) → answer ≡ Some value → pair.outcome ≡ None → ⊥)
        → place_if_bad pair asked answer ≡ None → option_map_or (micro_ops_of Answered) answer asked ≡ Some said
        → AllZip (HasBoth keys elements) (option_map_or appends_of asked []) numbers
    by_parts None answer completed good is = absurd (let bad : ◌≡◌ {A = Option ℕ} (Some pair.invoke) None = good in cc)
    by_parts (Some asked) None completed good is =
        let same : asked ≡ said = (let both : Some asked ≡ Some said = is in cc) in
        subst (λ ops. AllZip (HasBoth keys elements) (appends_of ops) numbers) (sym same) zipped
    by_parts (Some asked) (Some value) completed good is = by_answer (answers asked value) refl good
      where
        by_answer : (b : Bool) → answers asked value ≡ b → (if b then None else pair.outcome) ≡ None → AllZip (HasBoth keys elements) (appends_of asked) numbers
        by_answer false wrong none = absurd (completed value refl none)
        by_answer true right none = asked_zip keys elements asked said numbers (sym (ap (λ o. option_map_or (are_answers asked) o false) is) ∙ right) zipped

  appends_zip : (pair : Pair) (txn : Txn) → bad_value_place history pair ≡ None → IsTxnOf history keys elements pair txn → AppendsZip pair txn
  appends_zip pair txn good is =
      by_parts pair is.ops.0 (placed txn.ops) (said_zip keys elements is.ops.0 txn.ops is.ops.2) (txn_asked history pair) (txn_answer history pair) (no_answer pair) good is.ops.1

  all_zip : (pairs : List Pair) (txns : List Txn) → All (λ pair. bad_value_place history pair ≡ None) pairs → AllZip (IsTxnOf history keys elements) pairs txns → AllZip AppendsZip pairs txns
  all_zip [] [] good are = tt
  all_zip [] (t ∷ ts) good are = absurd are
  all_zip (p ∷ ps) [] good are = absurd are
  all_zip (p ∷ ps) (t ∷ ts) good are = (
    appends_zip p t (All-head (λ pair. bad_value_place history pair ≡ None) p ps good) are.0,
    all_zip ps ts (All-tail (λ pair. bad_value_place history pair ≡ None) p ps good) are.1,
  )

  -- the append that has these numbers, at a place
  find_append : (pairs : List Pair) (txns : List Txn) → AllZip AppendsZip pairs txns → (key element place : ℕ) → Appends txns key element place
      → (pair : Pair) × (slice_get pairs place ≡ Some pair) × (one : Edn × Edn) × Contains (appends_of_pair history pair) one × HasBoth keys elements one (key, element)
  find_append [] [] zipped key element place h = absurd (false≢true h)
  find_append [] (t ∷ ts) zipped key element place h = absurd zipped
  find_append (p ∷ ps) [] zipped key element place h = absurd zipped
  find_append (p ∷ ps) (t ∷ ts) zipped key element zero h =
      let at = appended_in keys elements t.ops key element h in
      let one = zip_find keys elements (appends_of_pair history p) (placed t.ops) at.0 (key, element) zipped.0 at.1 at.2 in
      (p, refl, one.0, one.1, one.2)
  find_append (p ∷ ps) (t ∷ ts) zipped key element (suc place) h = find_append ps ts zipped.1 key element place h

  module _ (pairs : List Pair) (once : (place : ℕ) → IsRepeatedAt history pairs place → ⊥) where
    -- nothing is appended again
    none_again : (place : ℕ) (pair : Pair) → slice_get pairs place ≡ Some pair → has_repeat (appends_of_pairs history (take place pairs)) (appends_of_pair history pair) ≡ false
    none_again place pair at = false_from_ne_true (has_repeat (appends_of_pairs history (take place pairs)) (appends_of_pair history pair)) (λ again.
        let cut = cut_get pairs place pair at in
        once pair.invoke (take place pairs, cut.0, pair, cut.1, ap (λ b. if b then Some pair.invoke else None) again))

    module _ (txns : List Txn) (zipped : AllZip AppendsZip pairs txns) where
      not_later : (key element first second : ℕ) → first < second → Appends txns key element first → Appends txns key element second → ⊥
      not_later key element first second less h k =
          let one = find_append pairs txns zipped key element first h in
          let other = find_append pairs txns zipped key element second k in
          let there = earlier pairs first second one.0 less one.1 in
          let before = contains_flat (appends_of_pair history) (take second pairs) one.0 one.2 there.0 there.1 there.2 one.3 in
          no_clash (appends_of_pairs history (take second pairs)) (appends_of_pair history other.0) one.2 other.2 other.3.0 (none_again second other.0 other.1) before other.3.1 other.3.2
          (same_numbers keys elements other.2 one.2 (key, element) other.4 one.4)

      apart : (key element first second : ℕ) → Appends txns key element first → Appends txns key element second → first ≡ second
      apart key element first second h k = elim (cases_order first second) as (λ _. first ≡ second) [
        | inl same ↦ same
        | inr differ ↦ elim differ as (λ _. first ≡ second) [
          | inl less ↦ absurd (not_later key element first second less h k)
          | inr more ↦ absurd (not_later key element second first more k h)
        ]
      ]

      one_key : AppendToOneKey txns
      one_key one other element first second h k =
          let a = find_append pairs txns zipped one element first h in
          let b = find_append pairs txns zipped other element second k in
          let same = told elements (one, normal a.2.1) (other, normal b.2.1) element a.4.1 b.4.1 in
          eqb-true one other (and_parts (eqb one other) (is_eq (edn_cmp (normal a.2.1) (normal b.2.1))) same).0

  -- the appends of the transaction at a place
  zip_at : (pairs : List Pair) (txns : List Txn) → AllZip AppendsZip pairs txns → (place : ℕ)
      → (ops_at txns place ≡ []) ⊎ ((pair : Pair) × (slice_get pairs place ≡ Some pair) × AllZip (HasBoth keys elements) (appends_of_pair history pair) (placed (ops_at txns place)))
  zip_at [] [] zipped place = inl refl
  zip_at [] (t ∷ ts) zipped place = absurd zipped
  zip_at (p ∷ ps) [] zipped place = absurd zipped
  zip_at (p ∷ ps) (t ∷ ts) zipped zero = inr (p, refl, zipped.0)
  zip_at (p ∷ ps) (t ∷ ts) zipped (suc place) = zip_at ps ts zipped.1 place

  module _ (pairs : List Pair) (once : (place : ℕ) → IsRepeatedAt history pairs place → ⊥) (txns : List Txn) (zipped : AllZip AppendsZip pairs txns) where
    within : (key place : ℕ) → HasNoRepeat (numbers_at txns key place)
    within key place = elim (zip_at pairs txns zipped place) as (λ _. HasNoRepeat (appended key (ops_at txns place))) [
      | inl none ↦ subst (λ ops. HasNoRepeat (appended key ops)) (sym none) none_twice
      | inr here ↦ once_in keys elements (appends_of_pairs history (take place pairs)) (appends_of_pair history here.0) (ops_at txns place) key (none_again pairs once place here.0 here.1) here.2
    ]

    append_once : AppendOnce txns
    append_once = record { within = within; apart = apart pairs once txns zipped }

  pub are_numbered : (pairs : List Pair) (txns : List Txn) → ((place : ℕ) → IsRepeatedAt history pairs place → ⊥) → All (λ pair. bad_value_place history pair ≡ None) pairs → AllZip (IsTxnOf history keys elements) pairs txns → AreNumbersOf txns (length keys) (length elements)
  are_numbered pairs txns once good are =
      let zipped = all_zip pairs txns good are in
      record {
        keys_below = keys_below pairs txns are;
        elements_below = elements_below pairs txns are;
        once = append_once pairs once txns zipped;
        one_key = one_key pairs once txns zipped;
      }
