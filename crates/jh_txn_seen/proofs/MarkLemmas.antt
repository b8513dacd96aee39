-- How marks add up.
use Rattle.std.proofs.Common.{◌≡◌, ℕ, zero, suc, replicate, ◌+◌, ◌<◌, ◌≤◌, Bool, true, false, Option, Some, List, [], ◌∷◌, ◌++◌, length, get_or, set, refl, sym, ap, subst, ◌∙◌, inl, inr, arith}
use Rattle.std.specs.Prelude.{◌⊎◌, ◌↔◌, slice_get, unwrap_or, option_map}
use Rattle.std.proofs.lemmas.Bool.{cases_lt, cases_eq, false≢true}
use Rattle.std.proofs.lemmas.List.{get_or_past, length-set, get_or-set_same, get_or-set_other, get_or_append_left, get_or_push}
use Rattle.std.proofs.lemmas.Option.{same_Some, slice_get_within}
use Rattle.jh_txn.specs.declared.txn.Outcome.TheVariants.{Done, Failed}
use Rattle.jh_txn.specs.declared.txn.Txn.{Txn}
use Rattle.jh_txn.specs.Transactions.{IsDoneAt, includes}
use Rattle.jh_txn.proofs.ListLemmas.{place_of, place_included}
use Rattle.jh_txn.proofs.OrderCheckLemmas.{done_below}
use Rattle.jh_txn_seen.specs.declared.done_reads.DoneRead.{DoneRead}
use Rattle.jh_txn_seen.specs.Marks.{IsMarked, AddsMarks, AreThereMarks, IsShown, IsShownBy, IsReadElement}
use Rattle.jh_txn_seen.specs.Reads.{longest_of}
use Rattle.jh_txn_seen.specs.Places.{writer_place}
use Rattle.jh_txn_seen.proofs.ReadLemmas.{longest_past}
use Rattle.jh_txn_writers.specs.declared.writer.Writer.{Writer}

-- one of these numbers, of an index below a number
abbrev pub NumbersBelow : (ℕ → ℕ → Type 0) → ℕ → ℕ → Type 0
NumbersBelow numbers upto number = (index : ℕ) × (index < upto) × numbers index number

pub marks_if : (P Q : ℕ → Type 0) (old new : List Bool) → ((n : ℕ) → P n → Q n) → ((n : ℕ) → Q n → P n) → AddsMarks P old new → AddsMarks Q old new
marks_if P Q old new there back a = record {
  count = a.count;
  kept = a.kept;
  added = λ n h. a.added n (back n h);
  only = λ n h. elim (a.only n h) as (λ _. IsMarked old n ⊎ Q n) [ inl e ↦ inl e | inr e ↦ inr (there n e) ];
}

pub marks_none : (P : ℕ → Type 0) (old : List Bool) → ((n : ℕ) → P n → ⊥) → AddsMarks P old old
marks_none P old none = record {
  count = refl;
  kept = λ n h. h;
  added = λ n h. absurd (none n h);
  only = λ n h. inl h;
}

pub marks_more : (P : ℕ → ℕ → Type 0) (i : ℕ) (old mid new : List Bool) → AddsMarks (NumbersBelow P i) old mid → AddsMarks (P i) mid new → AddsMarks (NumbersBelow P (i + 1)) old new
marks_more P i old mid new a b = record {
  count = b.count ∙ a.count;
  kept = λ n h. b.kept n (a.kept n h);
  added = λ n h. elim (cases_lt h.0 i) as (λ _. IsMarked new n) [
    | inl lt ↦ b.kept n (a.added n (h.0, lt, h.2))
    | inr ge ↦ let same : h.0 ≡ i = omega (arith, ge, h.1) in b.added n (subst (λ k. P k n) same h.2)
  ];
  only = λ n h. elim (b.only n h) as (λ _. IsMarked old n ⊎ NumbersBelow P (i + 1) n) [
    | inl e ↦ elim (a.only n e) as (λ _. IsMarked old n ⊎ NumbersBelow P (i + 1) n) [
      | inl d ↦ inl d
      | inr d ↦ inr (d.0, omega (arith, d.1), d.2)
    ]
    | inr e ↦ inr (i, omega arith, e)
  ];
}

pub marks_none_below : (P : ℕ → ℕ → Type 0) (old : List Bool) → AddsMarks (NumbersBelow P 0) old old
marks_none_below P old = marks_none (NumbersBelow P 0) old (λ n h. omega (arith, h.1))

pub marks_set : (old : List Bool) (place : ℕ) → place < length old → AddsMarks (λ n. n ≡ place) old (set old place true)
marks_set old place low = record {
  count = length-set old place true;
  kept = λ n h. elim (cases_eq n place) as (λ _. IsMarked (set old place true) n) [
    | inl same ↦ subst (IsMarked (set old place true)) (sym same) (get_or-set_same old place true false low)
    | inr other ↦ get_or-set_other old place n true false other ∙ h
  ];
  added = λ n is. subst (IsMarked (set old place true)) (sym is) (get_or-set_same old place true false low);
  only = λ n h. elim (cases_eq n place) as (λ _. IsMarked old n ⊎ (n ≡ place)) [
    | inl same ↦ inr same
    | inr other ↦ inl (sym (get_or-set_other old place n true false other) ∙ h)
  ];
}

-- by index, of a list
pub elements_all : (seen : List ℕ) (i : ℕ) (old new : List Bool) → i ≡ length seen → AddsMarks (NumbersBelow (λ k n. n ≡ get_or seen k 0) i) old new → AddsMarks (λ n. includes seen n ≡ true) old new
elements_all seen i old new all a = marks_if (NumbersBelow (λ k n. n ≡ get_or seen k 0) i) (λ n. includes seen n ≡ true) old new
    (λ n h. subst (λ x. includes seen x ≡ true) (sym h.2) (place_included seen h.0 (omega (arith, h.1, all))))
    (λ n h. let at = place_of seen n h in (at.0, omega (arith, at.1, all), sym at.2)) a

pub longest_all : (longest : List (Option DoneRead)) (i : ℕ) (old new : List Bool) → length longest ≤ i → AddsMarks (NumbersBelow (λ k n. includes (longest_of longest k) n ≡ true) i) old new → AddsMarks (IsReadElement longest) old new
longest_all longest i old new all a = marks_if (NumbersBelow (λ k n. includes (longest_of longest k) n ≡ true) i) (IsReadElement longest) old new
    (λ n h. (h.0, h.2))
    (λ n h. elim (cases_lt h.0 i) as (λ _. NumbersBelow (λ k n. includes (longest_of longest k) n ≡ true) i n) [
      | inl lt ↦ (h.0, lt, h.1)
      | inr ge ↦ absurd (false≢true (ap (λ xs. includes xs n) (sym (longest_past longest h.0 (omega (arith, ge, all)))) ∙ h.1))
    ]) a

module _ (writers : List (Option Writer)) where
  pub shown_by_all : (read : DoneRead) (i : ℕ) (old new : List Bool) → i ≡ length read.seen.now → AddsMarks (NumbersBelow (λ k n. writer_place writers read.key (get_or read.seen.now k 0) ≡ Some n) i) old new → AddsMarks (IsShownBy writers read) old new
  shown_by_all read i old new all a =
      let seen = read.seen.now in
      marks_if (NumbersBelow (λ k n. writer_place writers read.key (get_or seen k 0) ≡ Some n) i) (IsShownBy writers read) old new
      (λ n h. (get_or seen h.0 0, place_included seen h.0 (omega (arith, h.1, all)), h.2))
      (λ n h. let at = place_of seen h.0 h.1 in (at.0, omega (arith, at.1, all), subst (λ e. writer_place writers read.key e ≡ Some n) (sym at.2) h.2)) a

  abbrev pub ShownAt : List DoneRead → ℕ → ℕ → Type 0
  ShownAt reads k n = (read : DoneRead) × (slice_get reads k ≡ Some read) × IsShownBy writers read n

  pub shown_more : (reads : List DoneRead) (i : ℕ) (read : DoneRead) (old mid new : List Bool) → slice_get reads i ≡ Some read → AddsMarks (NumbersBelow (ShownAt reads) i) old mid → AddsMarks (IsShownBy writers read) mid new → AddsMarks (NumbersBelow (ShownAt reads) (i + 1)) old new
  shown_more reads i read old mid new at a b = marks_more (ShownAt reads) i old mid new a
      (marks_if (IsShownBy writers read) (ShownAt reads i) mid new (λ n h. (read, at, h)) (λ n h. subst (λ r. IsShownBy writers r n) (same_Some h.0 read (sym h.1 ∙ at)) h.2) b)

  pub shown_all : (reads : List DoneRead) (i : ℕ) (old new : List Bool) → length reads ≤ i → AddsMarks (NumbersBelow (ShownAt reads) i) old new → AddsMarks (IsShown writers reads) old new
  shown_all reads i old new all a = marks_if (NumbersBelow (ShownAt reads) i) (IsShown writers reads) old new
      (λ n h. (h.2.0, (h.0, h.2.1), h.2.2))
      (λ n h. (h.1.0, omega (arith, all, slice_get_within reads h.1.0 h.0 h.1.1), (h.0, h.1.1, h.2))) a

-- those that are done
pub done_at : (txns : List Txn) (place : ℕ) (txn : Txn) → slice_get txns place ≡ Some txn → (IsDoneAt txns place → txn.outcome ≡ Done) × (txn.outcome ≡ Done → IsDoneAt txns place)
done_at txns place txn at =
    let is = ap (λ o. unwrap_or (option_map (λ (t : Txn). t.outcome) o) Failed) at in
    (λ h. sym is ∙ h, λ h. is ∙ h)

pub done_more : (txns : List Txn) (i : ℕ) (txn : Txn) (marks : List Bool) (b : Bool) → slice_get txns i ≡ Some txn → length marks ≡ i → ((b ≡ true) ↔ (txn.outcome ≡ Done)) → ((k : ℕ) → k < i → IsMarked marks k ↔ IsDoneAt txns k) → (k : ℕ) → k < i + 1 → IsMarked (marks ++ b ∷ []) k ↔ IsDoneAt txns k
done_more txns i txn marks b at long decides each k low = elim (cases_lt k i) as (λ _. IsMarked (marks ++ b ∷ []) k ↔ IsDoneAt txns k) [
  | inl lt ↦
      let same : get_or (marks ++ b ∷ []) k false ≡ get_or marks k false = get_or_append_left marks (b ∷ []) false k (omega (arith, lt, long)) in
      (λ h. (each k lt).0 (sym same ∙ h), λ h. same ∙ (each k lt).1 h)
  | inr ge ↦
      let here : i ≡ k = omega (arith, low, ge) in
      let last : get_or (marks ++ b ∷ []) i false ≡ b = get_or_push marks b false i long in
      subst (λ n. IsMarked (marks ++ b ∷ []) n ↔ IsDoneAt txns n) here
      (λ h. (done_at txns i txn at).1 (decides.0 (sym last ∙ h)), λ h. last ∙ decides.1 ((done_at txns i txn at).0 h))
]

pub done_all : (txns : List Txn) (marks : List Bool) (i : ℕ) → length marks ≡ i → i ≡ length txns → ((k : ℕ) → k < i → IsMarked marks k ↔ IsDoneAt txns k) → (k : ℕ) → IsMarked marks k ↔ IsDoneAt txns k
done_all txns marks i long all each k = elim (cases_lt k i) as (λ _. IsMarked marks k ↔ IsDoneAt txns k) [
  | inl lt ↦ each k lt
  | inr ge ↦ (
    λ h. absurd (false≢true (sym (get_or_past marks k false (omega (arith, long, ge))) ∙ h)),
    λ h. absurd (omega (arith, done_below txns k h, all, ge)),
  )
]

pub marks_are : (txns : List Txn) (writers : List (Option Writer)) (reads : List DoneRead) (old new : List Bool) → length old ≡ length txns → ((k : ℕ) → IsMarked old k ↔ IsDoneAt txns k) → AddsMarks (IsShown writers reads) old new → AreThereMarks txns writers reads new
marks_are txns writers reads old new long done a = record {
  count = a.count ∙ long;
  done = λ place h. a.kept place ((done place).1 h);
  shown = a.added;
  only = λ place h. elim (a.only place h) as (λ _. IsDoneAt txns place ⊎ IsShown writers reads place) [ inl e ↦ inl ((done place).0 e) | inr e ↦ inr e ];
}

no_mark : (n k : ℕ) → get_or (replicate n false) k false ≡ false
no_mark zero k = refl
no_mark (suc n) zero = refl
no_mark (suc n) (suc k) = no_mark n k

pub marks_from_none : (P : ℕ → Type 0) (n : ℕ) (old new : List Bool) → old ≡ replicate n false → AddsMarks P old new → (k : ℕ) → IsMarked new k ↔ P k
marks_from_none P n old new is a k = (
  λ h. elim (a.only k h) as (λ _. P k) [
    | inl e ↦ absurd (false≢true (sym (no_mark n k) ∙ ap (λ m. get_or m k false) (sym is) ∙ e))
    | inr e ↦ e
  ],
  a.added k,
)
