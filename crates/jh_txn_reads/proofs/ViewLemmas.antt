-- Views of keys, behind what transactions do.
use Rattle.std.proofs.Common.{◌≡◌, ◌<◌, ◌≤◌, ◌+◌, ℕ, zero, suc, Option, Some, None, Bool, true, false, eqb, List, [], ◌∷◌, ◌++◌, length, take, get_or, set, refl, sym, ap, subst, ◌∙◌, inl, inr, arith, append_assoc, IfOk, Ok, Err, MatchOption}
use Rattle.std.specs.Prelude.{◌⊎◌, Result, option_and_then, option_map, slice_get, unwrap_or}
use Rattle.std.specs.declared.alloc.AllocError.{AllocError}
use Rattle.std.proofs.lemmas.Bool.{cases_lt, cond-false, cond-true, cond_both, eq-eqb, false≢true, false_from_ne_true, ne_eqb}
use Rattle.std.proofs.lemmas.List.{append-nil, take_more}
use Rattle.std.proofs.lemmas.Option.{get_or_from_slice_get, slice_get_cases, slice_get_read, slice_get_within}
use Rattle.jh_txn.specs.declared.anomaly.BadRead.{BadRead}
use Rattle.jh_txn.specs.declared.anomaly.BadRead.TheVariants.{AbortedRead, DuplicateElements, GarbageRead, IntermediateRead, Internal, OutOfOrder}
use Rattle.jh_txn.specs.declared.txn.MicroOp.{MicroOp}
use Rattle.jh_txn.specs.declared.txn.MicroOp.TheVariants.{Append, Read}
use Rattle.jh_txn.specs.declared.txn.Outcome.TheVariants.{Done, Failed}
use Rattle.jh_txn.specs.declared.txn.Txn.{Txn}
use Rattle.jh_txn.specs.BadReads.{IsBadRead, IsWrong}
use Rattle.jh_txn.specs.Transactions.{AppendOnce, AreKeysBelow, ComesBefore, HasNoRepeat, IsDoneAt, Saw, appended, appends_before, includes, ops_at, read_content}
use Rattle.jh_txn.proofs.ExplainedLemmas.{ends_cases}
use Rattle.jh_txn.proofs.ListLemmas.{before_left, eqb_self, includes_cases, includes_left, none_twice, not_both, once_left}
use Rattle.jh_txn.proofs.OrderCheckLemmas.{key_of_read, read_inside, same_read}
use Rattle.jh_txn.proofs.StartLemmas.{keys_of_ops, ops_is}
use Rattle.jh_txn.proofs.TransactionLemmas.{appended_append, appends_from_before}
use Rattle.jh_txn_reads.specs.declared.views.View.{View}
use Rattle.jh_txn_reads.specs.Inside.{AreEmptyFrom, AreViewsAt, IsSoundKey, IsSoundRead, IsSoundTxn, IsListAt, IsSoundBase, IsViewWith, IsWrongBase, IsWrongRead, is_known_for, list_for}

-- Elements of lists that were written.

get_push : (xs : List View) (x : View) (k : ℕ) (y : View) → slice_get (xs ++ x ∷ []) k ≡ Some y → (slice_get xs k ≡ Some y) ⊎ (x ≡ y)
get_push [] x zero y h = inr (let same : x ≡ y = cc in same)
get_push [] x (suc k) y h = absurd (let bad : ◌≡◌ {A = Option View} None (Some y) = h in cc)
get_push (z ∷ xs) x zero y h = inl h
get_push (z ∷ xs) x (suc k) y h = get_push xs x k y h

get_set : (xs : List View) (k : ℕ) (x : View) (j : ℕ) (y : View) → slice_get (set xs k x) j ≡ Some y → ((j ≡ k) × (x ≡ y)) ⊎ ((j ≡ k → ⊥) × (slice_get xs j ≡ Some y))
get_set [] k x j y h = absurd (let bad : ◌≡◌ {A = Option View} None (Some y) = h in cc)
get_set (z ∷ xs) zero x zero y h = inl (refl, let same : x ≡ y = cc in same)
get_set (z ∷ xs) zero x (suc j) y h = inr (λ e. absurd (omega (arith, e)), h)
get_set (z ∷ xs) (suc k) x zero y h = inr (λ e. absurd (omega (arith, e)), h)
get_set (z ∷ xs) (suc k) x (suc j) y h = elim (get_set xs k x j y h) as (λ _. ((suc j ≡ suc k) × (x ≡ y)) ⊎ ((suc j ≡ suc k → ⊥) × (slice_get xs j ≡ Some y))) [
  | inl e ↦ inl (ap suc e.0, e.1)
  | inr e ↦ inr (λ same. e.0 (omega (arith, same)), e.1)
]

-- What views stand for.

pub new_view : (v : View) → v.is_known ≡ false → v.list.items ≡ [] → (later : ℕ) → (is_known_for v later ≡ false) × (list_for v later ≡ [])
new_view v none empty later = (
  cond_both (eqb v.place later) v.is_known false (λ b. b ≡ false) (λ _. none) (λ _. refl),
  cond_both (eqb v.place later) v.list.items [] (λ xs. xs ≡ []) (λ _. empty) (λ _. refl),
)

old_view : (v : View) (place later : ℕ) → v.place ≡ place → place < later → (is_known_for v later ≡ false) × (list_for v later ≡ [])
old_view v place later is low =
    let differ : eqb v.place later ≡ false = ne_eqb v.place later (λ e. absurd (omega (arith, e, is, low))) in
    (cond-false (eqb v.place later) v.is_known false differ, cond-false (eqb v.place later) v.list.items [] differ)

known_is : (v : View) (place : ℕ) → v.place ≡ place → is_known_for v place ≡ v.is_known
known_is v place is = cond-true (eqb v.place place) v.is_known false (eq-eqb v.place place is)

list_is : (v : View) (place : ℕ) → v.place ≡ place → list_for v place ≡ v.list.items
list_is v place is = cond-true (eqb v.place place) v.list.items [] (eq-eqb v.place place is)

pub new_push : (views : List View) (v : View) → AreEmptyFrom 0 views → v.is_known ≡ false → v.list.items ≡ [] → AreEmptyFrom 0 (views ++ v ∷ [])
new_push views v new none empty key view is later low = elim (get_push views v key view is) as (λ _. (is_known_for view later ≡ false) × (list_for view later ≡ [])) [
  | inl there ↦ new key view there later low
  | inr last ↦ subst (λ w. (is_known_for w later ≡ false) × (list_for w later ≡ [])) last (new_view v none empty later)
]

pub new_set : (views : List View) (key place : ℕ) (v : View) → v.place ≡ place → AreEmptyFrom (place + 1) views → AreEmptyFrom (place + 1) (set views key v)
new_set views key place v is new other view at later low = elim (get_set views key v other view at) as (λ _. (is_known_for view later ≡ false) × (list_for view later ≡ [])) [
  | inr there ↦ new other view there.1 later low
  | inl here ↦ subst (λ w. (is_known_for w later ≡ false) × (list_for w later ≡ [])) here.1 (old_view v place later is (omega (arith, low)))
]

pub new_later : (views : List View) (place : ℕ) → AreEmptyFrom place views → AreEmptyFrom (place + 1) views
new_later views place new key view is later low = new key view is later (omega (arith, low))

pub views_begin : (txns : List Txn) (place : ℕ) (views : List View) → AreEmptyFrom place views → AreViewsAt txns place 0 views
views_begin txns place views new key view is =
    let n = new key view is place (omega arith) in
    let fresh : IsListAt txns place 0 key false [] = (refl, λ earlier seen low. absurd (omega (arith, low))) in
    subst (λ xs. IsListAt txns place 0 key (is_known_for view place) xs) (sym n.1) (subst (λ b. IsListAt txns place 0 key b []) (sym n.0) fresh)

-- a view that has this list
has_list : (txns : List Txn) (place index key : ℕ) (v : View) (known : Bool) (list : List ℕ) → IsViewWith v place known list → IsListAt txns place index key known list → IsListAt txns place index key (is_known_for v place) (list_for v place)
has_list txns place index key v known list with_ h =
    subst (λ xs. IsListAt txns place index key (is_known_for v place) xs) (sym (list_is v place with_.place ∙ with_.list)) (subst (λ b. IsListAt txns place index key b list) (sym (known_is v place with_.place ∙ with_.known)) h)

-- One micro-operation of a transaction.
module _ (txns : List Txn) (place index : ℕ) (op : MicroOp) (at : slice_get (ops_at txns place) index ≡ Some op) where
  more : (key : ℕ) → appends_before txns key place (index + 1) ≡ appends_before txns key place index ++ appended key (op ∷ [])
  more key =
      let ops = ops_at txns place in
      let low : index < length ops = slice_get_within ops index op at in
      ap (appended key) (take_more ops index op low ∙ ap (λ o. take index ops ++ o ∷ []) (get_or_from_slice_get ops index op op at)) ∙ appended_append key (take index ops) (op ∷ [])

  read_of : (key : ℕ) (seen : List ℕ) → Saw txns place index key seen → ◌≡◌ {A = Option (ℕ × List ℕ)} (read_content op) (Some (key, seen))
  read_of key seen saw = ap (λ o. option_and_then read_content o) (sym at) ∙ saw.1

  -- of those before, and this one
  with_this : (key : ℕ) (P : ℕ → List ℕ → Type 0) → ((earlier : ℕ) (seen : List ℕ) → earlier < index → Saw txns place earlier key seen → P earlier seen) → ((seen : List ℕ) → Saw txns place index key seen → P index seen)
      → (earlier : ℕ) (seen : List ℕ) → earlier < index + 1 → Saw txns place earlier key seen → P earlier seen
  with_this key P before here earlier seen low saw = elim (cases_lt earlier index) as (λ _. P earlier seen) [
    | inl lt ↦ before earlier seen lt saw
    | inr ge ↦
        let same : earlier ≡ index = omega (arith, low, ge) in
        subst (λ k. P k seen) (sym same) (here seen (subst (λ k. Saw txns place k key seen) same saw))
  ]

  -- a key that it does not read
  keep : (key : ℕ) (known : Bool) (list : List ℕ) → ((seen : List ℕ) → ◌≡◌ {A = Option (ℕ × List ℕ)} (read_content op) (Some (key, seen)) → ⊥) → IsListAt txns place index key known list → IsListAt txns place (index + 1) key known (list ++ appended key (op ∷ []))
  keep key true list not h = record {
    base = h.base;
    sound = h.sound;
    is = ap (λ xs. xs ++ appended key (op ∷ [])) h.is ∙ append_assoc h.base (appends_before txns key place index) (appended key (op ∷ [])) ∙ ap (λ xs. h.base ++ xs) (sym (more key));
    reads = with_this key (λ earlier seen. seen ≡ h.base ++ appends_before txns key place earlier) h.reads (λ seen saw. absurd (not seen (read_of key seen saw)));
    first = (h.first.0, omega (arith, h.first.1), h.first.2);
  }
  keep key false list not h = (
    ap (λ xs. xs ++ appended key (op ∷ [])) h.0 ∙ sym (more key),
    with_this key (λ earlier seen. ⊥) h.1 (λ seen saw. not seen (read_of key seen saw)),
  )

  keep_same : (key : ℕ) (known : Bool) (list : List ℕ) → appended key (op ∷ []) ≡ [] → ((seen : List ℕ) → ◌≡◌ {A = Option (ℕ × List ℕ)} (read_content op) (Some (key, seen)) → ⊥) → IsListAt txns place index key known list → IsListAt txns place (index + 1) key known list
  keep_same key known list none not h = subst (λ xs. IsListAt txns place (index + 1) key known xs) (ap (λ xs. list ++ xs) none ∙ append-nil list) (keep key known list not h)

  -- An append.
  module _ (key element : ℕ) (is : op ≡ Append key element) where
    no_read : (other : ℕ) (seen : List ℕ) → ◌≡◌ {A = Option (ℕ × List ℕ)} (read_content op) (Some (other, seen)) → ⊥
    no_read other seen h = let bad : ◌≡◌ {A = Option (ℕ × List ℕ)} None (Some (other, seen)) = ap read_content (sym is) ∙ h in cc

    appended_here : appended key (op ∷ []) ≡ element ∷ []
    appended_here = ap (λ o. appended key (o ∷ [])) is ∙ cond-true (eqb key key) (element ∷ []) [] (eqb_self key)

    appended_there : (other : ℕ) → (other ≡ key → ⊥) → appended other (op ∷ []) ≡ []
    appended_there other differ = ap (λ o. appended other (o ∷ [])) is ∙ cond-false (eqb key other) (element ∷ []) [] (ne_eqb key other (λ e. differ (sym e)))

    pub views_appended : (views : List View) (old new : View) → slice_get views key ≡ Some old → IsViewWith new place (is_known_for old place) (list_for old place ++ element ∷ []) → AreViewsAt txns place index views → AreViewsAt txns place (index + 1) (set views key new)
    views_appended views old new there with_ are other view found = elim (get_set views key new other view found) as (λ _. IsListAt txns place (index + 1) other (is_known_for view place) (list_for view place)) [
      | inr e ↦ keep_same other (is_known_for view place) (list_for view place) (appended_there other e.0) (no_read other) (are other view e.1)
      | inl e ↦
          let kept : IsListAt txns place (index + 1) key (is_known_for old place) (list_for old place ++ appended key (op ∷ [])) = keep key (is_known_for old place) (list_for old place) (no_read key) (are key old there) in
          let list : IsListAt txns place (index + 1) key (is_known_for old place) (list_for old place ++ element ∷ []) = subst (λ xs. IsListAt txns place (index + 1) key (is_known_for old place) (list_for old place ++ xs)) appended_here kept in
          let here : IsListAt txns place (index + 1) key (is_known_for new place) (list_for new place) = has_list txns place (index + 1) key new (is_known_for old place) (list_for old place ++ element ∷ []) with_ list in
          subst (λ v. IsListAt txns place (index + 1) other (is_known_for v place) (list_for v place)) e.1 (subst (λ k. IsListAt txns place (index + 1) k (is_known_for new place) (list_for new place)) (sym e.0) here)
    ]

  -- A read.
  module _ (key : ℕ) (seen : List ℕ) (is : op ≡ Read key seen) (done : IsDoneAt txns place) where
    saw_here : Saw txns place index key seen
    saw_here = (done, ap (λ o. option_and_then read_content o) at ∙ ap read_content is)

    unchanged : (other : ℕ) → appended other (op ∷ []) ≡ []
    unchanged other = ap (λ o. appended other (o ∷ [])) is

    own_same : appends_before txns key place (index + 1) ≡ appends_before txns key place index
    own_same = more key ∙ ap (λ xs. appends_before txns key place index ++ xs) (unchanged key) ∙ append-nil (appends_before txns key place index)

    only_this : (other : ℕ) (xs : List ℕ) → ◌≡◌ {A = Option (ℕ × List ℕ)} (read_content op) (Some (other, xs)) → (key ≡ other) × (seen ≡ xs)
    only_this other xs h = same_read key other seen xs (ap read_content (sym is) ∙ h)

    learnt : (known : Bool) (list : List ℕ) → IsListAt txns place index key known list → IsSoundRead txns place key known list seen → IsListAt txns place (index + 1) key true seen
    learnt true list h sound = record {
      base = h.base;
      sound = h.sound;
      is = sound ∙ h.is ∙ ap (λ xs. h.base ++ xs) (sym own_same);
      reads = with_this key (λ earlier xs. xs ≡ h.base ++ appends_before txns key place earlier) h.reads (λ xs saw. sym (only_this key xs (read_of key xs saw)).1 ∙ sound ∙ h.is);
      first = (h.first.0, omega (arith, h.first.1), h.first.2);
    }
    learnt false list h sound =
        let cut : seen ≡ sound.0 ++ appends_before txns key place index = sound.1 ∙ ap (λ xs. sound.0 ++ xs) h.0 in
        record {
          base = sound.0;
          sound = sound.2;
          is = cut ∙ ap (λ xs. sound.0 ++ xs) (sym own_same);
          reads = with_this key (λ earlier xs. xs ≡ sound.0 ++ appends_before txns key place earlier) (λ earlier xs low saw. absurd (h.1 earlier xs low saw)) (λ xs saw. sym (only_this key xs (read_of key xs saw)).1 ∙ cut);
          first = (index, omega arith, subst (λ xs. Saw txns place index key xs) cut saw_here);
        }

    pub views_read : (views : List View) (old new : View) → slice_get views key ≡ Some old → IsSoundRead txns place key (is_known_for old place) (list_for old place) seen → IsViewWith new place true seen → AreViewsAt txns place index views → AreViewsAt txns place (index + 1) (set views key new)
    views_read views old new there sound with_ are other view found = elim (get_set views key new other view found) as (λ _. IsListAt txns place (index + 1) other (is_known_for view place) (list_for view place)) [
      | inr e ↦ keep_same other (is_known_for view place) (list_for view place) (unchanged other) (λ xs h. e.0 (sym (only_this other xs h).0)) (are other view e.1)
      | inl e ↦
          let here : IsListAt txns place (index + 1) key (is_known_for new place) (list_for new place) = has_list txns place (index + 1) key new true seen with_ (learnt (is_known_for old place) (list_for old place) (are key old there) sound) in
          subst (λ v. IsListAt txns place (index + 1) other (is_known_for v place) (list_for v place)) e.1 (subst (λ k. IsListAt txns place (index + 1) k (is_known_for new place) (list_for new place)) (sym e.0) here)
    ]

    wrong_of_base : AppendOnce txns → (base : List ℕ) → seen ≡ base ++ appends_before txns key place index → (kind : BadRead) → IsWrongBase txns place key base kind → IsWrong txns place index key seen kind
    wrong_of_base once base cut Internal wrong = inr (inr (base, wrong.0, subst (λ xs. Saw txns place index key xs) cut saw_here, wrong.1, wrong.2))
    wrong_of_base once base cut DuplicateElements wrong = λ apart. wrong (once_left base (appends_before txns key place index) (subst HasNoRepeat cut apart))
    wrong_of_base once base cut GarbageRead wrong = (wrong.0, subst (λ xs. includes xs wrong.0 ≡ true) (sym cut) (includes_left base (appends_before txns key place index) wrong.0 wrong.1), wrong.2)
    wrong_of_base once base cut AbortedRead wrong = (wrong.0, wrong.1, subst (λ xs. includes xs wrong.0 ≡ true) (sym cut) (includes_left base (appends_before txns key place index) wrong.0 wrong.2), wrong.3, wrong.4)
    wrong_of_base once base cut IntermediateRead wrong =
        let lacks : includes seen wrong.1 ≡ false = false_from_ne_true _ (λ h. elim (includes_cases base (appends_before txns key place index) wrong.1 (subst (λ xs. includes xs wrong.1 ≡ true) cut h)) as (λ _. ⊥) [
          | inl e ↦ not_both _ e wrong.7
          | inr e ↦ wrong.3 (once.apart key wrong.1 wrong.2 place wrong.5 (appends_from_before txns key place index wrong.1 e))
        ]) in
        (wrong.0, wrong.1, wrong.2, wrong.3, wrong.4, wrong.5, subst (λ xs. includes xs wrong.0 ≡ true) (sym cut) (includes_left base (appends_before txns key place index) wrong.0 wrong.6), lacks)
    wrong_of_base once base cut OutOfOrder wrong = (wrong.0, wrong.1, wrong.2, wrong.3, subst (λ xs. ComesBefore xs wrong.1 wrong.0) (sym cut) (before_left base (appends_before txns key place index) wrong.1 wrong.0 wrong.4))

    internal : IsWrong txns place index key seen Internal → (kind : BadRead) → kind ≡ Internal → IsBadRead txns place index kind
    internal wrong kind same = subst (λ k. IsBadRead txns place index k) (sym same) (key, seen, saw_here, wrong)

    pub bad_if : AppendOnce txns → (known : Bool) (list : List ℕ) (kind : BadRead) → IsListAt txns place index key known list → IsWrongRead txns place key known list seen kind → IsBadRead txns place index kind
    bad_if once true list kind h wrong = elim (ends_cases seen (appends_before txns key place index)) as (λ _. IsBadRead txns place index kind) [
      | inr none ↦ internal (inl none) kind wrong.0
      | inl r ↦ internal (inr (inl (r.0, h.base, h.first.0, h.first.1, subst (λ xs. Saw txns place index key xs) r.1 saw_here, h.first.2, λ e. wrong.1 (r.1 ∙ ap (λ xs. xs ++ appends_before txns key place index) e ∙ sym h.is)))) kind wrong.0
    ]
    bad_if once false list kind h wrong = elim wrong as (λ _. IsBadRead txns place index kind) [
      | inl end ↦ internal (inl (λ base e. end.1 base (e ∙ ap (λ xs. base ++ xs) (sym h.0)))) kind end.0
      | inr of_base ↦ (key, seen, saw_here, wrong_of_base once of_base.0 (of_base.1 ∙ ap (λ xs. of_base.0 ++ xs) h.0) kind of_base.2)
    ]

-- What is known behind the last micro-operation.

sound_nothing : (txns : List Txn) (place key : ℕ) → IsSoundBase txns place key []
sound_nothing txns place key = record { distinct = none_twice; elements = λ element h. absurd (false≢true h); in_turn = λ one other writer pair h. h }

pub sound_txn : (txns : List Txn) (place keys : ℕ) (views : List View) → AreKeysBelow keys txns → keys ≡ length views → (index : ℕ) → length (ops_at txns place) ≤ index → AreViewsAt txns place index views → IsSoundTxn txns place
sound_txn txns place keys views below count index past are key = elim (slice_get_cases views key).1 as (λ _. IsSoundKey txns place key) [
  | inl there ↦ by_list (is_known_for there.0 place) (list_for there.0 place) (are key there.0 there.2)
  | inr none ↦ ([], sound_nothing txns place key, λ m seen saw. absurd (omega (arith, none.0, count, key_of_read keys (ops_at txns place) m key seen (keys_of_ops keys txns place below) saw.1)))
] where
  low : (m : ℕ) (seen : List ℕ) → Saw txns place m key seen → m < index
  low m seen saw = omega (arith, past, read_inside (ops_at txns place) m key seen saw.1)

  by_list : (known : Bool) (list : List ℕ) → IsListAt txns place index key known list → IsSoundKey txns place key
  by_list true list h = (h.base, h.sound, λ m seen saw. h.reads m seen (low m seen saw) saw)
  by_list false list h = ([], sound_nothing txns place key, λ m seen saw. absurd (h.1 m seen (low m seen saw) saw))

pub sound_if_not_done : (txns : List Txn) (place : ℕ) → (IsDoneAt txns place → ⊥) → IsSoundTxn txns place
sound_if_not_done txns place none key = ([], sound_nothing txns place key, λ m seen saw. absurd (none saw.0))

-- the answer about a read, as one about its micro-operation
pub judged_then : (r : Result (Option BadRead) AllocError) (P N : Type 0) (Q : BadRead → Type 0) (P' : Type 0) (Q' : BadRead → Type 0) → IfOk r (λ found. MatchOption found P Q) → IfOk r (λ found. found ≡ None → N) → (P → N → P') → ((kind : BadRead) → Q kind → Q' kind) → IfOk r (λ found. MatchOption found P' Q')
judged_then (Ok None) P N Q P' Q' h n f g = f h (n refl)
judged_then (Ok (Some kind)) P N Q P' Q' h n f g = g kind h
judged_then (Err e) P N Q P' Q' h n f g = h

pub none_then : (r : Result (Option BadRead) AllocError) (N N' : Type 0) → IfOk r (λ found. found ≡ None → N) → (N → N') → IfOk r (λ found. found ≡ None → N')
none_then (Ok found) N N' n f = λ e. f (n e)
none_then (Err e) N N' n f = n

-- the transaction at a place
module _ (txns : List Txn) (place : ℕ) (txn : Txn) (is : slice_get txns place ≡ Some txn) where
  pub op_at : (items : List MicroOp) (i : ℕ) (op : MicroOp) → items ≡ txn.ops → i < length items → op ≡ get_or items i op → slice_get (ops_at txns place) i ≡ Some op
  op_at items i op same low read = subst (λ ops. slice_get ops i ≡ Some op) (same ∙ sym (ops_is txns place txn is)) (slice_get_read items (length items) i op refl low read)

  pub all_passed : (items : List MicroOp) (i : ℕ) → items ≡ txn.ops → length items ≤ i → length (ops_at txns place) ≤ i
  all_passed items i same past = omega (arith, past, ap length same, ap length (ops_is txns place txn is))

  pub not_done_at : (txn.outcome ≡ Done → ⊥) → IsDoneAt txns place → ⊥
  not_done_at none done = none (sym (ap (λ o. unwrap_or (option_map (λ (t : Txn). t.outcome) o) Failed) is) ∙ done)
