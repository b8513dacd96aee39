-- What checking an order needs.
use Rattle.std.proofs.Common.{◌≡◌, ◌↔◌, Result, Ok, Err, IfOk, ℕ, zero, suc, ◌+◌, ◌<◌, ◌≤◌, Bool, true, false, Option, Some, None, List, [], ◌∷◌, ◌++◌, length, take, drop, get_or, set, replicate, refl, sym, ap, subst, ◌∙◌, inl, inr, arith, max, IsTrue}
use Rattle.std.specs.Prelude.{slice_get, option_and_then, option_map, unwrap_or, Vec}
use Rattle.std.specs.List.{All}
use Rattle.std.specs.Option.{IsSomeAnd}
use Rattle.std.specs.Bool.{Decides}
use Rattle.std.specs.declared.alloc.Global.{Global}
use Rattle.std.specs.declared.alloc.AllocError.{AllocError}
use Rattle.std.proofs.lemmas.Bool.{cases_lt, cases_eq, cases_Bool}
use Rattle.std.proofs.lemmas.List.{take_more, get_or-replicate, get_or-set_same, get_or-set_other, length-set, length-replicate, take_at, get_or_at, append_assoc, append-nil, length-append}
use Rattle.std.proofs.lemmas.List.Concat.{flat_map-append}
use Rattle.std.proofs.lemmas.Option.{slice_get_within, get_or_from_slice_get}
use Rattle.jh_txn.specs.declared.txn.MicroOp.{MicroOp}
use Rattle.jh_txn.specs.declared.txn.MicroOp.TheVariants.{Append, Read}
use Rattle.jh_txn.specs.declared.txn.Outcome.TheVariants.{Done, Failed}
use Rattle.jh_txn.specs.declared.txn.Txn.{Txn}
use Rattle.jh_txn.specs.OrderCheckInside.{AreAfter, AreListsAfter, AreMarks, ComesUpTo, IsNoneTooLate, SawList, SawListAt, list_at}
use Rattle.jh_txn.specs.RealTime.{IsDoneBefore, completed_at, invoked_at}
use Rattle.jh_txn.specs.SerialOrders.{ExplainsReads, IncludesAllDone, IsExplainedBy, IsSerialOrderFor, KeepsRealTime}
use Rattle.jh_txn.specs.Transactions.{AreKeysBelow, ComesBefore, HasNoRepeat, IsDoneAt, IsKeyBelow, IsPossibleAt, appended, appends_at, includes, list_after, ops_at, outcome_at, read_content}
use Rattle.jh_txn.proofs.ListLemmas.{not_both, includes_left, includes_head, includes_cases, includes_middle, one_is, before_push, before_first, before_trans, before_itself, before_total, before_across, cut_at, once_push}
use Rattle.jh_txn.proofs.TransactionLemmas.{appended_append}

-- Marks.

pub no_marks : (count : ℕ) (marks : List Bool) → marks ≡ replicate count false → AreMarks count [] marks
no_marks count marks is = (ap length is ∙ length-replicate count false, λ p low. ap (λ bs. get_or bs p false) is ∙ get_or-replicate count p false false low)

-- one place more
pub marks_push : (count : ℕ) (places : List ℕ) (marks : List Bool) (place : ℕ) → place < count → AreMarks count places marks → AreMarks count (places ++ place ∷ []) (set marks place true)
marks_push count places marks place there are = (length-set marks place true ∙ are.0, at) where
  more : (p : ℕ) → (p ≡ place → ⊥) → includes (places ++ place ∷ []) p ≡ includes places p
  more p other = elim (cases_Bool (includes places p)) as (λ _. includes (places ++ place ∷ []) p ≡ includes places p) [
    | inl is ↦ includes_left places (place ∷ []) p is ∙ sym is
    | inr lacks ↦ elim (cases_Bool (includes (places ++ place ∷ []) p)) as (λ _. includes (places ++ place ∷ []) p ≡ includes places p) [
      | inl is ↦ absurd (elim (includes_cases places (place ∷ []) p is) as (λ _. ⊥) [ inl e ↦ not_both _ e lacks | inr e ↦ other (sym (one_is _ p e)) ])
      | inr same ↦ same ∙ sym lacks
    ]
  ]

  at : (p : ℕ) → p < count → get_or (set marks place true) p false ≡ includes (places ++ place ∷ []) p
  at p inside = elim (cases_eq p place) as (λ _. get_or (set marks place true) p false ≡ includes (places ++ place ∷ []) p) [
    | inl same ↦
        ap (λ q. get_or (set marks place true) q false) same
        ∙ get_or-set_same marks place true false (omega (arith, are.0, there))
        ∙ sym (subst (λ q. includes (places ++ place ∷ []) q ≡ true) (sym same) (includes_middle places [] place))
    | inr other ↦ get_or-set_other marks place p true false other ∙ are.1 p inside ∙ sym (more p other)
  ]

module _ (count : ℕ) (order : List ℕ) (marks : List Bool) (i : ℕ) (low : i < length order) (there : get_or order i 0 < count) (are : AreMarks count (take i order) marks) where
  pub is_marked : (b : Bool) → b ≡ get_or marks (get_or order i 0) b → b ≡ includes (take i order) (get_or order i 0)
  is_marked b read = read ∙ at_default marks (get_or order i 0) b false (let l : get_or order i 0 < length marks = omega (arith, are.0) in l) ∙ are.1 (get_or order i 0) there where
    at_default : (bs : List Bool) (p : ℕ) (d e : Bool) → p < length bs → get_or bs p d ≡ get_or bs p e
    at_default [] p d e h = absurd (omega arith)
    at_default (x ∷ bs) zero d e h = refl
    at_default (x ∷ bs) (suc p) d e h = at_default bs p d e (omega (arith, h))

  pub marks_more : AreMarks count (take (i + 1) order) (set marks (get_or order i 0) true)
  marks_more = subst (λ xs. AreMarks count xs (set marks (get_or order i 0) true)) (sym (take_more order i 0 low)) (marks_push count (take i order) marks (get_or order i 0) there are)

  pub distinct_more : HasNoRepeat (take i order) → includes (take i order) (get_or order i 0) ≡ false → HasNoRepeat (take (i + 1) order)
  distinct_more once new = subst HasNoRepeat (sym (take_more order i 0 low)) (once_push (take i order) (get_or order i 0) once (λ h. not_both _ h new))

-- Real time.

pub not_at_zero : (end : Option ℕ) (at : ℕ) → IsSomeAnd end (λ completed. completed < at) → 0 < at
not_at_zero None at h = absurd h
not_at_zero (Some end) at h = omega (arith, h)

pub ends_later : (end : Option ℕ) (a b : ℕ) → IsSomeAnd end (λ completed. completed < a) → a ≤ b → IsSomeAnd end (λ completed. completed < b)
ends_later None a b h le = h
ends_later (Some end) a b h le = omega (arith, h, le)

-- with one place more, and the latest invocation among those up to it
module _ (txns : List Txn) (order : List ℕ) (i latest : ℕ) (low : i < length order) where
  pub late_at : (0 < latest → (place : ℕ) × (includes (take (i + 1) order) place ≡ true) × (invoked_at txns place ≡ latest)) → IsDoneBefore txns (get_or order i 0) latest → IsNoneTooLate txns order → ⊥
  late_at reached over none =
      let p = get_or order i 0 in
      let w = reached (not_at_zero _ latest over.1) in
      let upto : ComesUpTo order w.0 p = subst (λ xs. ComesUpTo xs w.0 p) (sym (cut_at order i low)) (elim (includes_cases (take i order) (p ∷ []) w.0 (subst (λ xs. includes xs w.0 ≡ true) (take_more order i 0 low) w.1)) as (λ _. ComesUpTo (take i order ++ p ∷ drop (i + 1) order) w.0 p) [
        | inl front ↦ inl (before_across (take i order) (p ∷ drop (i + 1) order) w.0 p front (includes_head p (drop (i + 1) order)))
        | inr own ↦ let same : p ≡ w.0 = one_is p w.0 own in inr (sym same, subst (λ q. includes (take i order ++ p ∷ drop (i + 1) order) q ≡ true) same (includes_middle (take i order) (drop (i + 1) order) p))
      ]) in
      none p w.0 (subst (λ at. IsDoneBefore txns p at) (sym w.2) over) upto

  pub none_more : IsNoneTooLate txns (take i order) → ((place : ℕ) → includes (take (i + 1) order) place ≡ true → invoked_at txns place ≤ latest) → (IsDoneBefore txns (get_or order i 0) latest → ⊥) → IsNoneTooLate txns (take (i + 1) order)
  none_more none high in_time first second late upto = elim upto as (λ _. ⊥) [
    | inl stands ↦ elim (before_push (take i order) (get_or order i 0) second first (subst (λ xs. ComesBefore xs second first) (take_more order i 0 low) stands)) as (λ _. ⊥) [
      | inl before ↦ none first second late (inl before)
      | inr last ↦ too_late (sym last.1) (before_first (take (i + 1) order) second first stands)
    ]
    | inr same ↦ elim (includes_cases (take i order) (get_or order i 0 ∷ []) second (subst (λ xs. includes xs second ≡ true) (take_more order i 0 low) same.1)) as (λ _. ⊥) [
      | inl before ↦ none first second late (inr (same.0, before))
      | inr own ↦ too_late (sym (one_is (get_or order i 0) second own ∙ same.0)) same.1
    ]
  ] where
    too_late : first ≡ get_or order i 0 → includes (take (i + 1) order) second ≡ true → ⊥
    too_late is there =
        let over : IsDoneBefore txns (get_or order i 0) (invoked_at txns second) = subst (λ p. IsDoneBefore txns p (invoked_at txns second)) is late in
        in_time (over.0, ends_later (completed_at txns (get_or order i 0)) (invoked_at txns second) latest over.1 (high second there))

-- with the places so far and the latest invocation among them
module _ (txns : List Txn) (order : List ℕ) (i latest : ℕ) (low : i < length order) where
  pub high_more : (next at : ℕ) → at ≡ invoked_at txns (get_or order i 0) → next ≡ max latest at → ((place : ℕ) → includes (take i order) place ≡ true → invoked_at txns place ≤ latest) → (place : ℕ) → includes (take (i + 1) order) place ≡ true → invoked_at txns place ≤ next
  high_more next at is most high place h =
      elim (includes_cases (take i order) (get_or order i 0 ∷ []) place (subst (λ xs. includes xs place ≡ true) (take_more order i 0 low) h)) as (λ _. invoked_at txns place ≤ next) [
        | inl e ↦ omega (arith, most, high place e)
        | inr e ↦ let here : at ≡ invoked_at txns place = is ∙ ap (invoked_at txns) (one_is (get_or order i 0) place e) in omega (arith, most, here)
      ]

  pub reached_more : (next at : ℕ) → at ≡ invoked_at txns (get_or order i 0) → next ≡ max latest at → (0 < latest → (place : ℕ) × (includes (take i order) place ≡ true) × (invoked_at txns place ≡ latest)) → 0 < next → (place : ℕ) × (includes (take (i + 1) order) place ≡ true) × (invoked_at txns place ≡ next)
  reached_more next at is most reached positive =
      elim (cases_lt latest at) as (λ _. (place : ℕ) × (includes (take (i + 1) order) place ≡ true) × (invoked_at txns place ≡ next)) [
        | inl lt ↦ let same : at ≡ next = omega (arith, most, lt) in (get_or order i 0, subst (λ xs. includes xs (get_or order i 0) ≡ true) (sym (take_more order i 0 low)) (includes_middle (take i order) [] (get_or order i 0)), sym is ∙ same)
        | inr ge ↦
            let same : latest ≡ next = omega (arith, most, ge) in
            let w = reached (omega (arith, same, positive)) in
            (w.0, subst (λ xs. includes xs w.0 ≡ true) (sym (take_more order i 0 low)) (includes_left (take i order) (get_or order i 0 ∷ []) w.0 w.1), w.2 ∙ same)
      ]

module _ (txns : List Txn) (order : List ℕ) (once : HasNoRepeat order) where
  pub late_if : KeepsRealTime txns order → IsNoneTooLate txns order
  late_if keeps first second late upto = elim upto as (λ _. ⊥) [
    | inl stands ↦ before_itself order first once (before_trans order first second first once (keeps first second late (before_first order second first stands)) stands)
    | inr same ↦ before_itself order first once (subst (λ p. ComesBefore order first p) same.0 (keeps first second late same.1))
  ]

  pub keeps_if : IncludesAllDone txns order → IsNoneTooLate txns order → KeepsRealTime txns order
  keeps_if whole none first second late there =
      elim (before_total order first second (whole first late.0) there) as (λ _. ComesBefore order first second) [
        | inl same ↦ absurd (none first second late (inr (sym same, there)))
        | inr apart ↦ elim apart as (λ _. ComesBefore order first second) [ inl before ↦ before | inr behind ↦ absurd (none first second late (inl behind)) ]
      ]

-- Reads.

pub same_read : (k key : ℕ) (xs seen : List ℕ) → ◌≡◌ {A = Option (ℕ × List ℕ)} (Some (k, xs)) (Some (key, seen)) → (k ≡ key) × (xs ≡ seen)
same_read k key xs seen h =
    let pair : ◌≡◌ {A = ℕ × List ℕ} (k, xs) (key, seen) = cc in
    (ap (λ (p : ℕ × List ℕ). p.0) pair, ap (λ (p : ℕ × List ℕ). p.1) pair)

pub sees_if : (lists : List (Vec ℕ Global)) (op : MicroOp) (key : ℕ) (seen : List ℕ) (list : Vec ℕ Global) (b : Bool) → op ≡ Read key seen → slice_get lists key ≡ Some list → Decides b (list.items ≡ seen) → (IsTrue b → SawList lists op) × (SawList lists op → IsTrue b)
sees_if lists op key seen list b is at decides =
    let here : list_at lists key ≡ list.items = ap (λ o. unwrap_or (option_map (λ v. v.items) o) []) at in
    (λ yes. subst (SawList lists) (sym is) (sym (decides.0 yes) ∙ sym here), λ sees. decides.1 (sym here ∙ sym (subst (SawList lists) is sees)))

module _ (keys : ℕ) where
  pub key_of_read : (ops : List MicroOp) (m key : ℕ) (seen : List ℕ) → All (IsKeyBelow keys) ops → option_and_then read_content (slice_get ops m) ≡ Some (key, seen) → key < keys
  key_of_read ops m key seen all is = at (slice_get ops m) refl is where
    at : (found : Option MicroOp) → slice_get ops m ≡ found → option_and_then read_content found ≡ Some (key, seen) → key < keys
    at None e h = absurd (let no' : None ≡ Some (key, seen) = h in cc)
    at (Some (Append k element)) e h = absurd (let no' : None ≡ Some (key, seen) = h in cc)
    at (Some (Read k list)) e h =
        let inside : m < length ops = slice_get_within ops m (Read k list) e in
        let below : IsKeyBelow keys (Read k list) = subst (IsKeyBelow keys) (get_or_from_slice_get ops m (Read k list) (Read k list) e) (all m (Read k list) inside) in
        subst (λ n. n < keys) (same_read k key list seen h).0 below

  -- one more micro-operation, which sees the lists behind those before it
  pub read_more : (ops : List MicroOp) (old mid : List (Vec ℕ Global)) (i : ℕ) (op : MicroOp) → All (IsKeyBelow keys) ops → length old ≡ keys → slice_get ops i ≡ Some op → AreAfter (take i ops) old mid → SawList mid op → SawListAt old ops i
  read_more ops old mid i op all count is after sees key seen h =
      let below : key < keys = key_of_read ops i key seen all h in
      by_op op (ap (λ o. option_and_then read_content o) (sym is) ∙ h) sees ∙ after.1 key (omega (arith, below, count)) where
        by_op : (o : MicroOp) → read_content o ≡ Some (key, seen) → SawList mid o → seen ≡ list_at mid key
        by_op (Append k element) e s = absurd (let no' : None ≡ Some (key, seen) = e in cc)
        by_op (Read k list) e s =
            let same = same_read k key list seen e in
            sym same.1 ∙ s ∙ ap (list_at mid) same.0

  pub sees_at : (ops : List MicroOp) (old mid : List (Vec ℕ Global)) (i : ℕ) (op : MicroOp) → All (IsKeyBelow keys) ops → length old ≡ keys → slice_get ops i ≡ Some op → AreAfter (take i ops) old mid → SawListAt old ops i → SawList mid op
  sees_at ops old mid i op all count is after read = by_op op is where
    by_op : (o : MicroOp) → slice_get ops i ≡ Some o → SawList mid o
    by_op (Append k element) e = tt
    by_op (Read k list) e =
        let h : option_and_then read_content (slice_get ops i) ≡ Some (k, list) = ap (λ o. option_and_then read_content o) e in
        let below : k < keys = key_of_read ops i k list all h in
        read k list h ∙ sym (after.1 k (omega (arith, below, count)))

pub after_more : (ops : List MicroOp) (old mid new : List (Vec ℕ Global)) (i : ℕ) (op : MicroOp) → i < length ops → op ≡ get_or ops i op → AreAfter (take i ops) old mid → AreAfter (op ∷ []) mid new → AreAfter (take (i + 1) ops) old new
after_more ops old mid new i op low is so_far step = (
  step.0 ∙ so_far.0,
  λ key inside.
      step.1 key (omega (arith, so_far.0, inside)) ∙ ap (λ xs. xs ++ appended key (op ∷ [])) (so_far.1 key inside)
      ∙ append_assoc (list_at old key) (appended key (take i ops)) (appended key (op ∷ []))
      ∙ ap (λ xs. list_at old key ++ xs) (sym (appended_append key (take i ops) (op ∷ [])) ∙ ap (appended key) (sym (take_more ops i op low ∙ ap (λ o. take i ops ++ o ∷ []) (sym is)))),
)

-- of one transaction after some others
module _ (txns : List Txn) (keys p : ℕ) (txn : Txn) (front : List ℕ) (lists : List (Vec ℕ Global)) (is : slice_get txns p ≡ Some txn) (all : All (IsKeyBelow keys) txn.ops) (are : AreListsAfter txns keys front lists) where
  same_ops : ops_at txns p ≡ txn.ops
  same_ops = ap (λ o. unwrap_or (option_map (λ t. t.ops) o) []) is

  same_outcome : outcome_at txns p ≡ txn.outcome
  same_outcome = ap (λ o. unwrap_or (option_map (λ t. t.outcome) o) Failed) is

  pub explained_if : (txn.outcome ≡ Done → (m : ℕ) → SawListAt lists txn.ops m) → IsExplainedBy txns front p
  explained_if reads m key seen saw =
      let h : option_and_then read_content (slice_get txn.ops m) ≡ Some (key, seen) = subst (λ ops. option_and_then read_content (slice_get ops m) ≡ Some (key, seen)) same_ops saw.1 in
      reads (sym same_outcome ∙ saw.0) m key seen h
      ∙ ap (λ xs. xs ++ appended key (take m txn.ops)) (are.1 key (key_of_read keys txn.ops m key seen all h))
      ∙ ap (λ ops. list_after txns key front ++ appended key (take m ops)) (sym same_ops)

  pub reads_if : IsExplainedBy txns front p → txn.outcome ≡ Done → (m : ℕ) → SawListAt lists txn.ops m
  reads_if explained done m key seen h =
      explained m key seen (same_outcome ∙ done, subst (λ ops. option_and_then read_content (slice_get ops m) ≡ Some (key, seen)) (sym same_ops) h)
      ∙ ap (λ ops. list_after txns key front ++ appended key (take m ops)) same_ops
      ∙ ap (λ xs. xs ++ appended key (take m txn.ops)) (sym (are.1 key (key_of_read keys txn.ops m key seen all h)))

  pub lists_more : (new : List (Vec ℕ Global)) → AreAfter txn.ops lists new → AreListsAfter txns keys (front ++ p ∷ []) new
  lists_more new step = (
    step.0 ∙ are.0,
    λ key below.
        step.1 key (omega (arith, below, are.0))
        ∙ ap (λ xs. xs ++ appended key txn.ops) (are.1 key below)
        ∙ ap (λ ops. list_after txns key front ++ appended key ops) (sym same_ops)
        ∙ ap (λ xs. list_after txns key front ++ xs) (sym (append-nil (appends_at txns key p)))
        ∙ sym (flat_map-append (appends_at txns key) front (p ∷ [])),
  )

pub explains_if : (txns : List Txn) (order : List ℕ) → ((i : ℕ) → i < length order → IsExplainedBy txns (take i order) (get_or order i 0)) → ExplainsReads txns order
explains_if txns order each front back place is =
    let i : ℕ = length front in
    let inside : i < length order = omega (arith, ap length is, length-append front (place ∷ back)) in
    let same_front : take i order ≡ front = ap (take i) is ∙ take_at front (place ∷ back) i refl in
    let same_place : get_or order i 0 ≡ place = ap (λ xs. get_or xs i 0) is ∙ get_or_at front place back 0 i refl in
    subst (λ xs. IsExplainedBy txns xs place) same_front (subst (λ p. IsExplainedBy txns (take i order) p) same_place (each i inside))

pub explained_at : (txns : List Txn) (order : List ℕ) (i : ℕ) → i < length order → ExplainsReads txns order → IsExplainedBy txns (take i order) (get_or order i 0)
explained_at txns order i low explains = explains (take i order) (drop (i + 1) order) (get_or order i 0) (cut_at order i low)

pub read_inside : (ops : List MicroOp) (m key : ℕ) (seen : List ℕ) → option_and_then read_content (slice_get ops m) ≡ Some (key, seen) → m < length ops
read_inside ops m key seen is = at (slice_get ops m) refl is where
  at : (found : Option MicroOp) → slice_get ops m ≡ found → option_and_then read_content found ≡ Some (key, seen) → m < length ops
  at None e h = absurd (let bad : ◌≡◌ {A = Option (ℕ × List ℕ)} None (Some (key, seen)) = h in cc)
  at (Some op) e h = slice_get_within ops m op e

pub reads_all : (ops : List MicroOp) (old : List (Vec ℕ Global)) (i : ℕ) → length ops ≤ i → ((m : ℕ) → m < i → SawListAt old ops m) → (m : ℕ) → SawListAt old ops m
reads_all ops old i past each m key seen h = each m (omega (arith, past, read_inside ops m key seen h)) key seen h

pub reads_more : (ops : List MicroOp) (old mid : List (Vec ℕ Global)) (i : ℕ) (op : MicroOp) → All (IsKeyBelow (length old)) ops → slice_get ops i ≡ Some op → AreAfter (take i ops) old mid → SawList mid op
    → ((m : ℕ) → m < i → SawListAt old ops m) → (m : ℕ) → m < i + 1 → SawListAt old ops m
reads_more ops old mid i op all is after sees each m low =
    elim (cases_lt m i) as (λ _. SawListAt old ops m) [
      | inl lt ↦ each m lt
      | inr ge ↦ let at : i ≡ m = omega (arith, low, ge) in subst (λ k. SawListAt old ops k) at (read_more (length old) ops old mid i op all refl is after sees)
    ]

-- the keys of the transaction at a place
pub keys_at : (keys : ℕ) (txns : List Txn) (p : ℕ) (txn : Txn) → AreKeysBelow keys txns → p < length txns → txn ≡ get_or txns p txn → All (IsKeyBelow keys) txn.ops
keys_at keys txns p txn all low is = subst (λ t. All (IsKeyBelow keys) t.ops) (sym is) (all p txn low)

-- a place of what did not fail is that of a transaction
pub possible_place : (txns : List Txn) (place : ℕ) → IsPossibleAt txns place → place < length txns
possible_place [] place possible = absurd (possible refl)
possible_place (txn ∷ txns) zero possible = omega arith
possible_place (txn ∷ txns) (suc place) possible = omega (arith, possible_place txns place possible)

pub possible_below : (txns : List Txn) (order : List ℕ) → All (IsPossibleAt txns) order → All (λ p. p < length txns) order
possible_below txns order all k d low = possible_place txns (get_or order k d) (all k d low)

pub explained_more : (txns : List Txn) (order : List ℕ) (i : ℕ) → IsExplainedBy txns (take i order) (get_or order i 0) → ((k : ℕ) → k < i → IsExplainedBy txns (take k order) (get_or order k 0)) → (k : ℕ) → k < i + 1 → IsExplainedBy txns (take k order) (get_or order k 0)
explained_more txns order i here each k low =
    elim (cases_lt k i) as (λ _. IsExplainedBy txns (take k order) (get_or order k 0)) [
      | inl lt ↦ each k lt
      | inr ge ↦ let at : i ≡ k = omega (arith, low, ge) in subst (λ n. IsExplainedBy txns (take n order) (get_or order n 0)) at here
    ]

-- what happened is at a place of a transaction
pub done_below : (txns : List Txn) (place : ℕ) → IsDoneAt txns place → place < length txns
done_below [] place done = absurd (let bad : Failed ≡ Done = done in cc)
done_below (txn ∷ txns) zero done = omega arith
done_below (txn ∷ txns) (suc place) done = omega (arith, done_below txns place done)

pub whole_if : (txns : List Txn) (order : List ℕ) (marks shown : List Bool) → shown ≡ marks → AreMarks (length txns) order marks → ((place : ℕ) → IsDoneAt txns place → get_or shown place false ≡ true) → IncludesAllDone txns order
whole_if txns order marks shown same are all place done = sym (are.1 place (done_below txns place done)) ∙ ap (λ bs. get_or bs place false) (sym same) ∙ all place done

pub order_if : (txns : List Txn) (real_time : Bool) (order : List ℕ) → All (IsPossibleAt txns) order → HasNoRepeat order → IncludesAllDone txns order → (real_time ≡ true → IsNoneTooLate txns order) → ExplainsReads txns order → IsSerialOrderFor txns real_time order
order_if txns real_time order possible distinct whole none reads = record {
  serial = record { distinct = distinct; possible = possible; whole = whole; reads = reads };
  timely = λ asked. keeps_if txns order distinct whole (none asked);
}

pub same_answer : (r : Result Bool AllocError) (P Q : Type 0) → IfOk r (λ b. IsTrue b ↔ P) → (P → Q) → (Q → P) → IfOk r (λ b. IsTrue b ↔ Q)
same_answer (Ok b) P Q h f g = (λ e. f (h.0 e), λ q. h.1 (g q))
same_answer (Err e) P Q h f g = h
