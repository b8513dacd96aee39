-- How a table of writers grows.
use Rattle.std.proofs.Common.{◌≡◌, ℕ, zero, suc, ◌+◌, ◌-◌, ◌<◌, ◌≤◌, true, false, cond, eqb, ltb, Option, Some, None, List, [], ◌∷◌, ◌++◌, length, get_or, take, drop, set, replicate, refl, sym, ap, subst, ◌∙◌, inl, inr, arith, append_assoc, eq-eqb}
use Rattle.std.specs.Prelude.{◌≢◌, ◌⊎◌, IfSome, MatchOption, option_map}
use Rattle.std.specs.List.{All}
use Rattle.std.proofs.lemmas.Bool.{false≢true, cases_eq, cases_lt, lt-ltb, false_from_ne_true, eqb-true, ltb-true}
use Rattle.std.proofs.lemmas.List.{get_or-set_same, get_or-set_other, length-set, length-append, get_or_at, take_more, drop_more, append-nil}
use Rattle.jh_txn.specs.declared.txn.MicroOp.{MicroOp}
use Rattle.jh_txn.specs.declared.txn.MicroOp.TheVariants.{Append, Read}
use Rattle.jh_txn.specs.declared.txn.Txn.{Txn}
use Rattle.jh_txn.specs.Transactions.{Appends, HasNoRepeat, IsKeyBelow, appended, appends_at, appends_before, includes, ops_at}
use Rattle.jh_txn.proofs.ListLemmas.{includes_left, includes_cases, includes_middle, one_is, not_in_front}
use Rattle.jh_txn.proofs.TransactionLemmas.{appended_append, appends_from_before, appends_split}
use Rattle.jh_txn_writers.specs.declared.writer.Writer.{Writer}
use Rattle.jh_txn_writers.specs.Numbers.{AreElementsOfBelow, AreNumbersOf}
use Rattle.jh_txn_writers.specs.TableInside.{AreEntriesOf, AreNoneLast, IsEnterable, IsWriterEntry, appends_up_to, last_at, last_behind, last_appended, table_behind, table_with, with_next, with_next_of, writer_with}
use Rattle.jh_txn_writers.specs.Writers.{AreNeighbours, AreWriters, BeginsWith, EndsWith, writer_at}

-- Lists that get one element more.

pub first_more : (xs ys : List ℕ) (x : ℕ) → BeginsWith xs x → BeginsWith (xs ++ ys) x
first_more xs ys x first = (first.0 ++ ys, ap (λ zs. zs ++ ys) first.1)

pub near_more : (xs ys : List ℕ) (a b : ℕ) → AreNeighbours xs a b → AreNeighbours (xs ++ ys) a b
near_more xs ys a b near = (near.0, near.1 ++ ys, ap (λ zs. zs ++ ys) near.2 ∙ append_assoc near.0 (a ∷ b ∷ near.1) ys)

pub last_near : (xs : List ℕ) (a b : ℕ) → EndsWith xs a → AreNeighbours (xs ++ b ∷ []) a b
last_near xs a b last = (last.0, [], ap (λ zs. zs ++ b ∷ []) last.1 ∙ append_assoc last.0 (a ∷ []) (b ∷ []))

pub last_there : (xs : List ℕ) (a : ℕ) → EndsWith xs a → includes xs a ≡ true
last_there xs a last = subst (λ zs. includes zs a ≡ true) (sym last.1) (includes_middle last.0 [] a)

last_is : (xs : List ℕ) (a : ℕ) → EndsWith xs a → get_or xs (length xs - 1) 0 ≡ a
last_is xs a last = ap (λ zs. get_or zs (length zs - 1) 0) last.1 ∙ get_or_at last.0 a [] 0 (length (last.0 ++ a ∷ []) - 1) (omega (arith, length-append last.0 (a ∷ [])))

pub last_one : (xs : List ℕ) (a b : ℕ) → EndsWith xs a → EndsWith xs b → a ≡ b
last_one xs a b one other = sym (last_is xs a one) ∙ last_is xs b other

match_map : {X : Type 0} {P P' : Type 0} {Q Q' : X → Type 0} (r : Option X) → (P → P') → ((x : X) → Q x → Q' x) → MatchOption r P Q → MatchOption r P' Q'
match_map None f g h = f h
match_map (Some x) f g h = g x h

entry_more : (xs ys : List ℕ) (q : ℕ) (w : Writer) → IsWriterEntry xs q w → (EndsWith xs q → ⊥) → IsWriterEntry (xs ++ ys) q w
entry_more xs ys q w entry not_last = record {
  there = includes_left xs ys q entry.there;
  previous = match_map {P = BeginsWith xs q} {Q = λ other. AreNeighbours xs other q} w.previous (first_more xs ys q) (λ other near. near_more xs ys other q near) entry.previous;
  next = match_map {P = EndsWith xs q} {Q = λ other. AreNeighbours xs q other} w.next (λ last. absurd (not_last last)) (λ other near. near_more xs ys q other near) entry.next;
}

entry_next : (xs : List ℕ) (q e : ℕ) (w : Writer) → IsWriterEntry xs q w → EndsWith xs q → IsWriterEntry (xs ++ e ∷ []) q (writer_with w e)
entry_next xs q e w entry last = record {
  there = includes_left xs (e ∷ []) q entry.there;
  previous = match_map {P = BeginsWith xs q} {Q = λ other. AreNeighbours xs other q} w.previous (first_more xs (e ∷ []) q) (λ other near. near_more xs (e ∷ []) other q near) entry.previous;
  next = last_near xs q e last;
}

entry_new : (xs : List ℕ) (e key place : ℕ) (r : Option ℕ) → MatchOption r (xs ≡ []) (EndsWith xs) → IsWriterEntry (xs ++ e ∷ []) e (last_appended key place r)
entry_new xs e key place r holds = record {
  there = includes_middle xs [] e;
  previous = match_map {P = xs ≡ []} {Q = EndsWith xs} r (λ none. ([], ap (λ zs. zs ++ e ∷ []) none)) (λ other last. last_near xs other e last) holds;
  next = (xs, refl);
}

-- One append more.
module _ (lists lists' : ℕ → ℕ → List ℕ) (k p e : ℕ) (table : List (Option Writer)) (last : List (Option ℕ)) (old : AreEntriesOf lists p table last)
    (more : lists' k p ≡ lists k p ++ e ∷ []) (same : (key other : ℕ) → (key ≢ k) ⊎ (other ≢ p) → lists' key other ≡ lists key other)
    (new : (key other : ℕ) → includes (lists key other) e ≡ true → ⊥) (low : e < length table) (key_low : k < length last) where
  abbrev grown : Option ℕ → List (Option Writer)
  grown r = table_with table p k e r

  abbrev Ends : Option ℕ → Type 0
  Ends r = MatchOption r (lists k p ≡ []) (EndsWith (lists k p))

  more_at : (w : Writer) → w.key ≡ k → w.place ≡ p → lists' w.key w.place ≡ lists w.key w.place ++ e ∷ []
  more_at w is_k is_p =
      ap (λ n. lists' n w.place) is_k ∙ ap (lists' k) is_p ∙ more ∙ ap (λ xs. xs ++ e ∷ []) (sym (ap (λ n. lists n w.place) is_k ∙ ap (lists k) is_p))

  carry : (q : ℕ) (w : Writer) → IsWriterEntry (lists w.key w.place) q w → (EndsWith (lists k p) q → ⊥) → IsWriterEntry (lists' w.key w.place) q w
  carry q w entry not_last = elim (cases_eq w.key k) as (λ _. IsWriterEntry (lists' w.key w.place) q w) [
    | inl is_k ↦ elim (cases_eq w.place p) as (λ _. IsWriterEntry (lists' w.key w.place) q w) [
      | inl is_p ↦ subst (λ xs. IsWriterEntry xs q w) (sym (more_at w is_k is_p)) (entry_more (lists w.key w.place) (e ∷ []) q w entry (λ ends. not_last (subst (λ xs. EndsWith xs q) (ap (λ n. lists n w.place) is_k ∙ ap (lists k) is_p) ends)))
      | inr other ↦ subst (λ xs. IsWriterEntry xs q w) (sym (same w.key w.place (inr other))) entry
    ]
    | inr other ↦ subst (λ xs. IsWriterEntry xs q w) (sym (same w.key w.place (inl other))) entry
  ]

  inside : (q : ℕ) (w : Writer) → writer_at table q ≡ Some w → q < length table
  inside q w at = within table q at where
    within : (rows : List (Option Writer)) (n : ℕ) → writer_at rows n ≡ Some w → n < length rows
    within [] n h = absurd (let bad : ◌≡◌ {A = Option Writer} None (Some w) = h in cc)
    within (row ∷ rows) zero h = omega arith
    within (row ∷ rows) (suc n) h = omega (arith, within rows n h)

  kept_of : (r : Option ℕ) → Ends r → (q : ℕ) (w : Writer) → writer_at (with_next_of table r e) q ≡ Some w → IsWriterEntry (lists' w.key w.place) q w
  kept_of None none q w at = carry q w (old.right q w at) (λ ends. false≢true (subst (λ xs. includes xs q ≡ true) none (last_there (lists k p) q ends)))
  kept_of (Some o) ends q w at = elim (cases_eq q o) as (λ _. IsWriterEntry (lists' w.key w.place) q w) [
    | inl is ↦
        let found = old.whole k p o (last_there (lists k p) o ends) in
        let before : Writer = found.0 in
        let got : writer_at (with_next table o e) o ≡ Some (writer_with before e) =
        get_or-set_same table o (option_map (λ v. writer_with v e) (writer_at table o)) None (inside o before found.1) ∙ ap (option_map (λ v. writer_with v e)) found.1 in
        let both : ◌≡◌ {A = Option Writer} (Some (writer_with before e)) (Some w) = sym got ∙ subst (λ n. writer_at (with_next table o e) n ≡ Some w) is at in
        let one : writer_with before e ≡ w = cc in
        let entry : IsWriterEntry (lists before.key before.place) o before = old.right o before found.1 in
        let its : lists before.key before.place ≡ lists k p = ap (λ n. lists n before.place) found.2 ∙ ap (lists k) found.3 in
        let next : IsWriterEntry (lists' before.key before.place) o (writer_with before e) = subst (λ xs. IsWriterEntry xs o (writer_with before e)) (sym (more_at before found.2 found.3)) (entry_next (lists before.key before.place) o e before entry (subst (λ xs. EndsWith xs o) (sym its) ends)) in
        subst (λ n. IsWriterEntry (lists' w.key w.place) n w) (sym is) (subst (λ v. IsWriterEntry (lists' v.key v.place) o v) one next)
    | inr other ↦
        let at_old : writer_at table q ≡ Some w = sym (get_or-set_other table o q (option_map (λ v. writer_with v e) (writer_at table o)) None other) ∙ at in
        carry q w (old.right q w at_old) (λ ends_too. other (last_one (lists k p) q o ends_too ends))
  ]

  length_next : (r : Option ℕ) → length (with_next_of table r e) ≡ length table
  length_next None = refl
  length_next (Some o) = length-set table o (option_map (λ v. writer_with v e) (writer_at table o))

  at_new : (r : Option ℕ) → writer_at (grown r) e ≡ Some (last_appended k p r)
  at_new r = get_or-set_same (with_next_of table r e) e (Some (last_appended k p r)) None (omega (arith, length_next r, low))

  right_of : (r : Option ℕ) → Ends r → (q : ℕ) (w : Writer) → writer_at (grown r) q ≡ Some w → IsWriterEntry (lists' w.key w.place) q w
  right_of r ends q w at = elim (cases_eq q e) as (λ _. IsWriterEntry (lists' w.key w.place) q w) [
    | inl is ↦
        let both : ◌≡◌ {A = Option Writer} (Some (last_appended k p r)) (Some w) = sym (at_new r) ∙ subst (λ n. writer_at (grown r) n ≡ Some w) is at in
        let one : last_appended k p r ≡ w = cc in
        let entry : IsWriterEntry (lists' k p) e (last_appended k p r) = subst (λ xs. IsWriterEntry xs e (last_appended k p r)) (sym more) (entry_new (lists k p) e k p r ends) in
        subst (λ n. IsWriterEntry (lists' w.key w.place) n w) (sym is) (subst (λ v. IsWriterEntry (lists' v.key v.place) e v) one entry)
    | inr other ↦ kept_of r ends q w (sym (get_or-set_other (with_next_of table r e) e q (Some (last_appended k p r)) None other) ∙ at)
  ]

  abbrev Found : Option ℕ → ℕ → ℕ → ℕ → Type 0
  Found r key other q = (w : Writer) × (writer_at (grown r) q ≡ Some w) × (w.key ≡ key) × (w.place ≡ other)

  keep : (r : Option ℕ) (key other q : ℕ) → (w : Writer) → writer_at table q ≡ Some w → w.key ≡ key → w.place ≡ other → (q ≡ e → ⊥) → Found r key other q
  keep None key other q w at is_key is_place apart = (w, get_or-set_other table e q (Some (last_appended k p None)) None apart ∙ at, is_key, is_place)
  keep (Some o) key other q w at is_key is_place apart =
      let outer : writer_at (grown (Some o)) q ≡ writer_at (with_next table o e) q = get_or-set_other (with_next table o e) e q (Some (last_appended k p (Some o))) None apart in
      elim (cases_eq q o) as (λ _. Found (Some o) key other q) [
        | inl is ↦
            let at_o : writer_at table o ≡ Some w = subst (λ n. writer_at table n ≡ Some w) is at in
            let got : writer_at (with_next table o e) o ≡ Some (writer_with w e) =
            get_or-set_same table o (option_map (λ v. writer_with v e) (writer_at table o)) None (inside o w at_o) ∙ ap (option_map (λ v. writer_with v e)) at_o in
            (writer_with w e, outer ∙ ap (writer_at (with_next table o e)) is ∙ got, is_key, is_place)
        | inr differ ↦ (w, outer ∙ get_or-set_other table o q (option_map (λ v. writer_with v e) (writer_at table o)) None differ ∙ at, is_key, is_place)
      ]

  -- what was entered stays
  stays : (r : Option ℕ) (key other q : ℕ) → includes (lists key other) q ≡ true → Found r key other q
  stays r key other q h =
      let found = old.whole key other q h in
      keep r key other q found.0 found.1 found.2 found.3 (λ is. new key other (subst (λ n. includes (lists key other) n ≡ true) is h))

  whole_of : (r : Option ℕ) (key other q : ℕ) → includes (lists' key other) q ≡ true → Found r key other q
  whole_of r key other q h = elim (cases_eq key k) as (λ _. Found r key other q) [
    | inl is_k ↦ elim (cases_eq other p) as (λ _. Found r key other q) [
      | inl is_p ↦
          let there : includes (lists k p ++ e ∷ []) q ≡ true = subst (λ xs. includes xs q ≡ true) (ap (λ n. lists' n other) is_k ∙ ap (lists' k) is_p ∙ more) h in
          elim (includes_cases (lists k p) (e ∷ []) q there) as (λ _. Found r key other q) [
            | inl before ↦ stays r key other q (subst (λ xs. includes xs q ≡ true) (sym (ap (λ n. lists n other) is_k ∙ ap (lists k) is_p)) before)
            | inr own ↦ (last_appended k p r, ap (writer_at (grown r)) (sym (one_is e q own)) ∙ at_new r, sym is_k, sym is_p)
          ]
      | inr differ ↦ stays r key other q (subst (λ xs. includes xs q ≡ true) (same key other (inr differ)) h)
    ]
    | inr differ ↦ stays r key other q (subst (λ xs. includes xs q ≡ true) (same key other (inl differ)) h)
  ]

  lasts_of : (key : ℕ) → MatchOption (last_at (set last k (Some e)) key) (lists' key p ≡ []) (EndsWith (lists' key p))
  lasts_of key = elim (cases_eq key k) as (λ _. MatchOption (last_at (set last k (Some e)) key) (lists' key p ≡ []) (EndsWith (lists' key p))) [
    | inl is ↦
        let got : last_at (set last k (Some e)) key ≡ Some e = ap (last_at (set last k (Some e))) is ∙ get_or-set_same last k (Some e) None key_low in
        subst (λ r. MatchOption r (lists' key p ≡ []) (EndsWith (lists' key p))) (sym got) (lists k p, ap (λ n. lists' n p) is ∙ more)
    | inr differ ↦
        subst (λ r. MatchOption r (lists' key p ≡ []) (EndsWith (lists' key p))) (sym (get_or-set_other last k key (Some e) None differ))
        (subst (λ xs. MatchOption (last_at last key) (xs ≡ []) (EndsWith xs)) (sym (same key p (inl differ))) (old.lasts key))
  ]

  pub entered : AreEntriesOf lists' p (table_with table p k e (last_at last k)) (set last k (Some e))
  entered = record {
    right = right_of (last_at last k) (old.lasts k);
    whole = whole_of (last_at last k);
    lasts = lasts_of;
  }

-- Of the same lists.
pub same_entries : (lists lists' : ℕ → ℕ → List ℕ) (p p' : ℕ) (table : List (Option Writer)) (last last' : List (Option ℕ)) → ((key other : ℕ) → lists' key other ≡ lists key other) → AreEntriesOf lists p table last → ((key : ℕ) → MatchOption (last_at last' key) (lists' key p' ≡ []) (EndsWith (lists' key p'))) → AreEntriesOf lists' p' table last'
same_entries lists lists' p p' table last last' same old lasts = record {
  right = λ q w at. subst (λ xs. IsWriterEntry xs q w) (sym (same w.key w.place)) (old.right q w at);
  whole = λ key other q h. old.whole key other q (subst (λ xs. includes xs q ≡ true) (same key other) h);
  lasts = lasts;
}

-- What was appended so far.
module _ (txns : List Txn) where
  pub up_to_here : (place index key : ℕ) → appends_up_to txns place index key place ≡ appends_before txns key place index
  up_to_here place index key = ap (λ b. cond b (appends_before txns key place index) (cond (ltb place place) (appends_at txns key place) [])) (eq-eqb place place refl)

  up_to_other : (place index key other : ℕ) → (other ≡ place → ⊥) → appends_up_to txns place index key other ≡ cond (ltb other place) (appends_at txns key other) []
  up_to_other place index key other differ = ap (λ b. cond b (appends_before txns key place index) (cond (ltb other place) (appends_at txns key other) [])) (false_from_ne_true (eqb other place) (λ e. differ (eqb-true other place e)))

  up_to_before : (place index key other : ℕ) → other < place → appends_up_to txns place index key other ≡ appends_at txns key other
  up_to_before place index key other low =
      up_to_other place index key other (λ is. absurd (omega (arith, low, is))) ∙ ap (λ b. cond b (appends_at txns key other) []) (lt-ltb other place low)

  up_to_behind : (place index key other : ℕ) → place < other → appends_up_to txns place index key other ≡ []
  up_to_behind place index key other high =
      up_to_other place index key other (λ is. absurd (omega (arith, high, is))) ∙ ap (λ b. cond b (appends_at txns key other) []) (false_from_ne_true (ltb other place) (λ e. absurd (omega (arith, ltb-true other place e, high))))

  pub up_to_appends : (place index key other e : ℕ) → includes (appends_up_to txns place index key other) e ≡ true → Appends txns key e other
  up_to_appends place index key other e h = elim (cases_eq other place) as (λ _. Appends txns key e other) [
    | inl is ↦ appends_from_before txns key other index e (subst (λ xs. includes xs e ≡ true) (ap (appends_up_to txns place index key) is ∙ up_to_here place index key ∙ ap (λ n. appends_before txns key n index) (sym is)) h)
    | inr differ ↦ elim (cases_lt other place) as (λ _. Appends txns key e other) [
      | inl low ↦ subst (λ xs. includes xs e ≡ true) (up_to_before place index key other low) h
      | inr high ↦ absurd (false≢true (subst (λ xs. includes xs e ≡ true) (up_to_behind place index key other (above high differ)) h))
    ]
  ] where
    above : place ≤ other → (other ≡ place → ⊥) → place < other
    above high differ = elim (cases_lt place other) as (λ _. place < other) [ inl lt ↦ lt | inr ge ↦ absurd (differ (omega (arith, high, ge))) ]

  -- the whole of one transaction is what is before the next one
  pub up_to_next : (place key other : ℕ) → appends_up_to txns (place + 1) 0 key other ≡ appends_up_to txns place (length (ops_at txns place)) key other
  up_to_next place key other = elim (cases_lt other place) as (λ _. appends_up_to txns (place + 1) 0 key other ≡ appends_up_to txns place (length (ops_at txns place)) key other) [
    | inl low ↦ up_to_before (place + 1) 0 key other (omega (arith, low)) ∙ sym (up_to_before place (length (ops_at txns place)) key other low)
    | inr high ↦ elim (cases_eq other place) as (λ _. appends_up_to txns (place + 1) 0 key other ≡ appends_up_to txns place (length (ops_at txns place)) key other) [
      | inl is ↦
          up_to_before (place + 1) 0 key other (omega (arith, is))
          ∙ ap (appends_at txns key) is
          ∙ ap (appended key) (sym (take_whole (ops_at txns place)))
          ∙ sym (up_to_here place (length (ops_at txns place)) key)
          ∙ ap (appends_up_to txns place (length (ops_at txns place)) key) (sym is)
      | inr differ ↦ elim (cases_eq other (place + 1)) as (λ _. appends_up_to txns (place + 1) 0 key other ≡ appends_up_to txns place (length (ops_at txns place)) key other) [
        | inl is ↦ ap (appends_up_to txns (place + 1) 0 key) is ∙ up_to_here (place + 1) 0 key ∙ sym (up_to_behind place (length (ops_at txns place)) key other (omega (arith, is)))
        | inr more ↦ up_to_behind (place + 1) 0 key other (let h = above (above high differ) more in omega (arith, h)) ∙ sym (up_to_behind place (length (ops_at txns place)) key other (let h = above high differ in omega (arith, h)))
      ]
    ]
  ] where
    take_whole : {X : Type 0} → (xs : List X) → take (length xs) xs ≡ xs
    take_whole [] = refl
    take_whole (x ∷ xs) = ap (λ ys. x ∷ ys) (take_whole xs)

    above : {m n : ℕ} → m ≤ n → (n ≡ m → ⊥) → m + 1 ≤ n
    above {m} {n} high differ = elim (cases_lt m n) as (λ _. m + 1 ≤ n) [ inl lt ↦ omega (arith, lt) | inr ge ↦ absurd (differ (omega (arith, high, ge))) ]

  pub up_to_none : (key other : ℕ) → appends_up_to txns 0 0 key other ≡ []
  up_to_none key zero = up_to_here 0 0 key
  up_to_none key (suc other) = up_to_behind 0 0 key (suc other) (omega arith)

  pub up_to_all : (place key other : ℕ) → length txns ≤ place → appends_up_to txns place 0 key other ≡ appends_at txns key other
  up_to_all place key other over = elim (cases_lt other place) as (λ _. appends_up_to txns place 0 key other ≡ appends_at txns key other) [
    | inl low ↦ up_to_before place 0 key other low
    | inr high ↦ elim (cases_eq other place) as (λ _. appends_up_to txns place 0 key other ≡ appends_at txns key other) [
      | inl is ↦ ap (appends_up_to txns place 0 key) is ∙ up_to_here place 0 key ∙ sym (past other (omega (arith, over, high)))
      | inr differ ↦ up_to_behind place 0 key other (above high differ) ∙ sym (past other (omega (arith, over, high)))
    ]
  ] where
    no_ops : (ts : List Txn) (m : ℕ) → length ts ≤ m → ops_at ts m ≡ []
    no_ops [] m h = refl
    no_ops (t ∷ ts) zero h = absurd (omega (arith, h))
    no_ops (t ∷ ts) (suc m) h = no_ops ts m (omega (arith, h))

    past : (n : ℕ) → length txns ≤ n → appends_at txns key n ≡ []
    past n far = ap (appended key) (no_ops txns n far)

    above : place ≤ other → (other ≡ place → ⊥) → place < other
    above high differ = elim (cases_lt place other) as (λ _. place < other) [ inl lt ↦ lt | inr ge ↦ absurd (differ (omega (arith, high, ge))) ]

pub ops_all : (P : MicroOp → Type 0) (txns : List Txn) → All (λ txn. All P txn.ops) txns → (place : ℕ) → All P (ops_at txns place)
ops_all P [] h place k d low = absurd (omega (arith, low))
ops_all P (txn ∷ txns) h zero k d low = h 0 txn (omega arith) k d low
ops_all P (txn ∷ txns) h (suc place) k d low = ops_all P txns (λ n e inside. h (suc n) e (omega (arith, inside))) place k d low

appended_below : (key n : ℕ) (ops : List MicroOp) → All (AreElementsOfBelow n) ops → (x : ℕ) → includes (appended key ops) x ≡ true → x < n
appended_below key n [] all x h = absurd (false≢true h)
appended_below key n (Append k e ∷ ops) all x h =
    elim (eqb k key) as (λ b. includes (cond b (e ∷ appended key ops) (appended key ops)) x ≡ true → x < n) [
      | true ↦ λ there. elim (includes_cases (e ∷ []) (appended key ops) x there) as (λ _. x < n) [
        | inl own ↦ subst (λ z. z < n) (one_is e x own) (all 0 (Append k e) (omega arith))
        | inr later ↦ appended_below key n ops (λ m d inside. all (suc m) d (omega (arith, inside))) x later
      ]
      | false ↦ λ there. appended_below key n ops (λ m d inside. all (suc m) d (omega (arith, inside))) x there
    ] h
appended_below key n (Read k seen ∷ ops) all x h = appended_below key n ops (λ m d inside. all (suc m) d (omega (arith, inside))) x h

-- One micro-operation more.
module _ (txns : List Txn) (place i : ℕ) where
  pub before_more : (op : MicroOp) → i < length (ops_at txns place) → get_or (ops_at txns place) i op ≡ op → (key : ℕ) → appends_before txns key place (i + 1) ≡ appends_before txns key place i ++ appended key (op ∷ [])
  before_more op low is key =
      ap (appended key) (take_more (ops_at txns place) i op low)
      ∙ appended_append key (take i (ops_at txns place)) (get_or (ops_at txns place) i op ∷ [])
      ∙ ap (λ o. appends_before txns key place i ++ appended key (o ∷ [])) is

  pub same_up_to : (op : MicroOp) → i < length (ops_at txns place) → get_or (ops_at txns place) i op ≡ op → (key other : ℕ) → (appended key (op ∷ []) ≡ []) ⊎ (other ≢ place) → appends_up_to txns place (i + 1) key other ≡ appends_up_to txns place i key other
  same_up_to op low is key other either = elim (cases_eq other place) as (λ _. appends_up_to txns place (i + 1) key other ≡ appends_up_to txns place i key other) [
    | inl here ↦ elim either as (λ _. appends_up_to txns place (i + 1) key other ≡ appends_up_to txns place i key other) [
      | inl none ↦
          ap (appends_up_to txns place (i + 1) key) here ∙ up_to_here txns place (i + 1) key ∙ before_more op low is key
          ∙ ap (λ xs. appends_before txns key place i ++ xs) none ∙ append-nil (appends_before txns key place i)
          ∙ sym (up_to_here txns place i key) ∙ ap (appends_up_to txns place i key) (sym here)
      | inr differ ↦ absurd (differ here)
    ]
    | inr differ ↦ up_to_other txns place (i + 1) key other differ ∙ sym (up_to_other txns place i key other differ)
  ]

  module _ (keys elements : ℕ) (numbered : AreNumbersOf txns keys elements) (table : List (Option Writer)) (last : List (Option ℕ)) (key_count : length last ≡ keys) (count : length table ≡ elements) (old : AreEntriesOf (appends_up_to txns place i) place table last) where
    key_of : (op : MicroOp) → i < length (ops_at txns place) → get_or (ops_at txns place) i op ≡ op → IsKeyBelow keys op
    key_of op low is = subst (IsKeyBelow keys) is (ops_all (IsKeyBelow keys) txns numbered.keys_below place i op low)

    elements_of : (op : MicroOp) → i < length (ops_at txns place) → get_or (ops_at txns place) i op ≡ op → AreElementsOfBelow elements op
    elements_of op low is = subst (AreElementsOfBelow elements) is (ops_all (AreElementsOfBelow elements) txns numbered.elements_below place i op low)

    pub enterable : (op : MicroOp) → i < length (ops_at txns place) → get_or (ops_at txns place) i op ≡ op → IsEnterable table last op
    enterable (Append k e) low is = (
      (let h : k < keys = key_of (Append k e) low is in omega (arith, h, key_count)),
      (let h : e < elements = elements_of (Append k e) low is in omega (arith, h, count)),
      previous (last_at last k) (old.lasts k),
    ) where
      previous : (r : Option ℕ) → MatchOption r (appends_up_to txns place i k place ≡ []) (EndsWith (appends_up_to txns place i k place)) → IfSome r (λ other. other < length table)
      previous None h = tt
      previous (Some other) h =
          let there : Appends txns k other place = up_to_appends txns place i k place other (last_there (appends_up_to txns place i k place) other h) in
          let inside : other < elements = appended_below k elements (ops_at txns place) (ops_all (AreElementsOfBelow elements) txns numbered.elements_below place) other there in
          omega (arith, inside, count)
    enterable (Read k seen) low is = tt

    pub behind : (op : MicroOp) → i < length (ops_at txns place) → get_or (ops_at txns place) i op ≡ op → AreEntriesOf (appends_up_to txns place (i + 1)) place (table_behind table last place op) (last_behind last op)
    behind (Append k e) low is = entered (appends_up_to txns place i) (appends_up_to txns place (i + 1)) k place e table last old more same new
        (let h : e < elements = elements_of (Append k e) low is in omega (arith, h, count))
        (let h : k < keys = key_of (Append k e) low is in omega (arith, h, key_count)) where
          own : appended k (Append k e ∷ []) ≡ e ∷ []
          own = ap (λ b. cond b (e ∷ []) []) (eq-eqb k k refl)

          more : appends_up_to txns place (i + 1) k place ≡ appends_up_to txns place i k place ++ e ∷ []
          more =
              up_to_here txns place (i + 1) k ∙ before_more (Append k e) low is k ∙ ap (λ xs. appends_before txns k place i ++ xs) own
              ∙ ap (λ xs. xs ++ e ∷ []) (sym (up_to_here txns place i k))

          same : (key other : ℕ) → (key ≢ k) ⊎ (other ≢ place) → appends_up_to txns place (i + 1) key other ≡ appends_up_to txns place i key other
          same key other either = same_up_to (Append k e) low is key other (elim either as (λ _. (appended key (Append k e ∷ []) ≡ []) ⊎ (other ≢ place)) [
            | inl differ ↦ inl (ap (λ b. cond b (e ∷ []) []) (false_from_ne_true (eqb k key) (λ h. differ (sym (eqb-true k key h)))))
            | inr differ ↦ inr differ
          ])

          whole : appends_at txns k place ≡ appends_before txns k place i ++ e ∷ appended k (drop (i + 1) (ops_at txns place))
          whole =
              appends_split txns k place i
              ∙ ap (λ ops. appends_before txns k place i ++ appended k ops) (drop_more (ops_at txns place) i (Append k e) low)
              ∙ ap (λ o. appends_before txns k place i ++ appended k (o ∷ drop (i + 1) (ops_at txns place))) is
              ∙ ap (λ b. appends_before txns k place i ++ cond b (e ∷ appended k (drop (i + 1) (ops_at txns place))) (appended k (drop (i + 1) (ops_at txns place)))) (eq-eqb k k refl)

          here : Appends txns k e place
          here = subst (λ xs. includes xs e ≡ true) (sym whole) (includes_middle (appends_before txns k place i) (appended k (drop (i + 1) (ops_at txns place))) e)

          new : (key other : ℕ) → includes (appends_up_to txns place i key other) e ≡ true → ⊥
          new key other h =
              let there : Appends txns key e other = up_to_appends txns place i key other e h in
              let is_key : key ≡ k = numbered.one_key key k e other place there here in
              let also : Appends txns k e other = subst (λ n. Appends txns n e other) is_key there in
              let is_place : other ≡ place = numbered.once.apart k e other place also here in
              let front : includes (appends_before txns k place i) e ≡ true = subst (λ xs. includes xs e ≡ true) (ap (λ n. appends_up_to txns place i n other) is_key ∙ ap (appends_up_to txns place i k) is_place ∙ up_to_here txns place i k) h in
              not_in_front (appends_before txns k place i) (appended k (drop (i + 1) (ops_at txns place))) e (subst HasNoRepeat whole (numbered.once.within k place)) front
    behind (Read k seen) low is = same_entries (appends_up_to txns place i) (appends_up_to txns place (i + 1)) place place table last last same old
        (λ key. subst (λ xs. MatchOption (last_at last key) (xs ≡ []) (EndsWith xs)) (sym (same key place)) (old.lasts key)) where
          same : (key other : ℕ) → appends_up_to txns place (i + 1) key other ≡ appends_up_to txns place i key other
          same key other = same_up_to (Read k seen) low is key other (inl refl)

-- Behind a transaction.

none_last : (P : Type 0) (xs : List ℕ) → xs ≡ [] → (r : Option ℕ) → MatchOption r P (EndsWith xs) → r ≡ None
none_last P xs empty None h = refl
none_last P xs empty (Some other) h = absurd (false≢true (subst (λ ys. includes ys other ≡ true) empty (last_there xs other h)))

module _ (txns : List Txn) (place : ℕ) (table : List (Option Writer)) (last : List (Option ℕ)) (old : AreEntriesOf (appends_up_to txns place (length (ops_at txns place))) place table last) where
  pub last_none : (key : ℕ) → appended key (ops_at txns place) ≡ [] → last_at last key ≡ None
  last_none key none =
      let all : appends_up_to txns place (length (ops_at txns place)) key place ≡ appends_at txns key place = sym (up_to_next txns place key place) ∙ up_to_before txns (place + 1) 0 key place (omega arith) in
      none_last (appends_up_to txns place (length (ops_at txns place)) key place ≡ []) (appends_up_to txns place (length (ops_at txns place)) key place) (all ∙ none) (last_at last key) (old.lasts key)

  pub next_begun : (last' : List (Option ℕ)) → AreNoneLast last' → AreEntriesOf (appends_up_to txns (place + 1) 0) (place + 1) table last'
  next_begun last' none = same_entries (appends_up_to txns place (length (ops_at txns place))) (appends_up_to txns (place + 1) 0) place (place + 1) table last last' (up_to_next txns place) old
      (λ key. subst (λ r. MatchOption r (appends_up_to txns (place + 1) 0 key (place + 1) ≡ []) (EndsWith (appends_up_to txns (place + 1) 0 key (place + 1)))) (sym (none key)) (up_to_here txns (place + 1) 0 key))

pub length_last : (last : List (Option ℕ)) (op : MicroOp) → length (last_behind last op) ≡ length last
length_last last (Append k e) = length-set last k (Some e)
length_last last (Read k seen) = refl

pub length_table : (table : List (Option Writer)) (last : List (Option ℕ)) (place : ℕ) (op : MicroOp) → length (table_behind table last place op) ≡ length table
length_table table last place (Append k e) =
    length-set (with_next_of table (last_at last k) e) e (Some (last_appended k place (last_at last k))) ∙ length_next (last_at last k) where
      length_next : (r : Option ℕ) → length (with_next_of table r e) ≡ length table
      length_next None = refl
      length_next (Some o) = length-set table o (option_map (λ v. writer_with v e) (writer_at table o))
length_table table last place (Read k seen) = refl

-- The first table and the last one.

all_none : {X : Type 0} (n k : ℕ) → get_or (replicate {A = Option X} n None) k None ≡ None
all_none zero k = refl
all_none (suc n) zero = refl
all_none (suc n) (suc k) = all_none n k

pub none_entered : (txns : List Txn) (keys elements : ℕ) (table : List (Option Writer)) (last : List (Option ℕ)) → table ≡ replicate elements None → last ≡ replicate keys None → AreEntriesOf (appends_up_to txns 0 0) 0 table last
none_entered txns keys elements table last no_table no_last = record {
  right = λ q w at. absurd (let bad : ◌≡◌ {A = Option Writer} None (Some w) = sym (ap (λ rows. writer_at rows q) no_table ∙ all_none elements q) ∙ at in cc);
  whole = λ key other q h. absurd (false≢true (subst (λ xs. includes xs q ≡ true) (up_to_none txns key other) h));
  lasts = λ key. subst (λ r. MatchOption r (appends_up_to txns 0 0 key 0 ≡ []) (EndsWith (appends_up_to txns 0 0 key 0))) (sym (ap (λ rows. last_at rows key) no_last ∙ all_none keys key)) (up_to_none txns key 0);
}

pub are_writers : (txns : List Txn) (elements place : ℕ) (table : List (Option Writer)) (last : List (Option ℕ)) → length txns ≤ place → length table ≡ elements → AreEntriesOf (appends_up_to txns place 0) place table last → AreWriters txns elements table
are_writers txns elements place table last over count entries = record {
  count = count;
  right = λ q w at. let entry : IsWriterEntry (appends_at txns w.key w.place) q w = subst (λ xs. IsWriterEntry xs q w) (up_to_all txns place w.key w.place over) (entries.right q w at) in
      record { appends = entry.there; previous = entry.previous; next = entry.next };
  whole = λ key element other h. entries.whole key other element (subst (λ xs. includes xs element ≡ true) (sym (up_to_all txns place key other over)) h);
}
