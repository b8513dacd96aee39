-- How the steps of a graph add up.
use Rattle.std.proofs.Common.{◌≡◌, Result, Ok, Err, OnOk, ℕ, zero, suc, ◌+◌, ◌-◌, ◌<◌, ◌≤◌, Option, Some, List, [], ◌∷◌, ◌++◌, length, take, drop, get_or, refl, sym, ap, subst, ◌∙◌, inl, inr, arith}
use Rattle.std.specs.Prelude.{◌⊎◌, Vec, slice_get}
use Rattle.std.specs.declared.alloc.AllocError.{AllocError}
use Rattle.std.specs.declared.alloc.Global.{Global}
use Rattle.std.proofs.lemmas.Bool.{cases_lt}
use Rattle.std.proofs.lemmas.List.{drop_more, length-append, get_or_at, length_push}
use Rattle.std.proofs.lemmas.Option.{same_Some, none-some, slice_get-get_or}
use Rattle.jh_txn.specs.declared.dependency.Step.{Step}
use Rattle.jh_txn.specs.declared.dependency.Why.{Why}
use Rattle.jh_txn.specs.declared.dependency.Why.TheVariants.{WriteRead, WriteWrite, ReadWrite}
use Rattle.jh_txn.proofs.ListLemmas.{cut_at, middle_shift}
use Rattle.jh_txn_graph.specs.Graphs.{HasStep}
use Rattle.jh_txn_seen.specs.declared.done_reads.DoneRead.{DoneRead}
use Rattle.jh_txn_edges.specs.Steps.{IsPairStep, IsShownStep, IsLackedStep, IsAlong}
use Rattle.jh_txn_edges.specs.Inside.{AddsSteps, IsOther}
use Rattle.jh_txn_seen.specs.Places.{writer_place}
use Rattle.jh_txn_writers.specs.Writers.{AreNeighbours, EndsWith}
use Rattle.jh_txn_writers.specs.declared.writer.Writer.{Writer}

pub on_ok_then : (r : Result (Unit {0}) AllocError) (P Q : Type 0) → (P → Q) → OnOk r P → OnOk r Q
on_ok_then (Ok u) P Q f h = f h
on_ok_then (Err e) P Q f h = h

-- one of these steps, of an index below a number
abbrev pub StepsBelow : (ℕ → ℕ → Why → ℕ → Type 0) → ℕ → ℕ → Why → ℕ → Type 0
StepsBelow steps upto place why target = (index : ℕ) × (index < upto) × steps index place why target

-- one of the first kind or of the second one
abbrev pub EitherStep : (ℕ → Why → ℕ → Type 0) → (ℕ → Why → ℕ → Type 0) → ℕ → Why → ℕ → Type 0
EitherStep P Q place why target = P place why target ⊎ Q place why target

pub adds_if : (P Q : ℕ → Why → ℕ → Type 0) (old new : List (Vec Step Global)) → ((p : ℕ) (w : Why) (t : ℕ) → P p w t → Q p w t) → ((p : ℕ) (w : Why) (t : ℕ) → Q p w t → P p w t) → AddsSteps P old new → AddsSteps Q old new
adds_if P Q old new there back a = record {
  count = a.count;
  kept = a.kept;
  added = λ p w t h. a.added p w t (back p w t h);
  only = λ p w t h. elim (a.only p w t h) as (λ _. HasStep old p w t ⊎ Q p w t) [ inl e ↦ inl e | inr e ↦ inr (there p w t e) ];
}

pub adds_none : (P : ℕ → Why → ℕ → Type 0) (old : List (Vec Step Global)) → ((p : ℕ) (w : Why) (t : ℕ) → P p w t → ⊥) → AddsSteps P old old
adds_none P old none = record {
  count = refl;
  kept = λ p w t h. h;
  added = λ p w t h. absurd (none p w t h);
  only = λ p w t h. inl h;
}

pub adds_then : (P Q : ℕ → Why → ℕ → Type 0) (old mid new : List (Vec Step Global)) → AddsSteps P old mid → AddsSteps Q mid new → AddsSteps (EitherStep P Q) old new
adds_then P Q old mid new a b = record {
  count = b.count ∙ a.count;
  kept = λ p w t h. b.kept p w t (a.kept p w t h);
  added = λ p w t h. elim h as (λ _. HasStep new p w t) [ inl e ↦ b.kept p w t (a.added p w t e) | inr e ↦ b.added p w t e ];
  only = λ p w t h. elim (b.only p w t h) as (λ _. HasStep old p w t ⊎ EitherStep P Q p w t) [
    | inl e ↦ elim (a.only p w t e) as (λ _. HasStep old p w t ⊎ EitherStep P Q p w t) [ inl d ↦ inl d | inr d ↦ inr (inl d) ]
    | inr e ↦ inr (inr e)
  ];
}

pub adds_more : (P : ℕ → ℕ → Why → ℕ → Type 0) (i : ℕ) (old mid new : List (Vec Step Global)) → AddsSteps (StepsBelow P i) old mid → AddsSteps (P i) mid new → AddsSteps (StepsBelow P (i + 1)) old new
adds_more P i old mid new a b = adds_if (EitherStep (StepsBelow P i) (P i)) (StepsBelow P (i + 1)) old new
    (λ p w t h. elim h as (λ _. StepsBelow P (i + 1) p w t) [
      | inl e ↦ (e.0, omega (arith, e.1), e.2)
      | inr e ↦ (i, omega arith, e)
    ])
    (λ p w t h. elim (cases_lt h.0 i) as (λ _. EitherStep (StepsBelow P i) (P i) p w t) [
      | inl lt ↦ inl (h.0, lt, h.2)
      | inr ge ↦ let same : h.0 ≡ i = omega (arith, ge, h.1) in inr (subst (λ k. P k p w t) same h.2)
    ])
    (adds_then (StepsBelow P i) (P i) old mid new a b)

pub adds_none_below : (P : ℕ → ℕ → Why → ℕ → Type 0) (old : List (Vec Step Global)) → AddsSteps (StepsBelow P 0) old old
adds_none_below P old = adds_none (StepsBelow P 0) old (λ p w t h. omega (arith, h.1))

-- One step, unless it leads to where it comes from.
module _ (writers : List (Option Writer)) (old new : List (Vec Step Global)) where
  pub pair_added : (key one other place target : ℕ) → Some place ≡ writer_place writers key one → Some target ≡ writer_place writers key other → AddsSteps (IsOther (record { place = place; why = WriteWrite key one }) target) old new → AddsSteps (IsPairStep writers key one other) old new
  pair_added key one other place target is also = adds_if (IsOther (record { place = place; why = WriteWrite key one }) target) (IsPairStep writers key one other) old new
      (λ p w t h. (λ e. h.0 (sym h.1 ∙ e ∙ h.3), sym is ∙ ap Some (sym h.1), sym also ∙ ap Some (sym h.3), h.2))
      (λ p w t h.
      let from : p ≡ place = same_Some p place (sym h.1 ∙ sym is) in
      let to : t ≡ target = same_Some t target (sym h.2 ∙ sym also) in
      (λ e. h.0 (from ∙ e ∙ sym to), from, h.3, to))

  pub shown_added : (read : DoneRead) (element place : ℕ) → Some place ≡ writer_place writers read.key element → AddsSteps (IsOther (record { place = place; why = WriteRead read.key element }) read.place) old new → AddsSteps (IsShownStep writers read element) old new
  shown_added read element place is = adds_if (IsOther (record { place = place; why = WriteRead read.key element }) read.place) (IsShownStep writers read element) old new
      (λ p w t h. (λ e. h.0 (sym h.1 ∙ e ∙ h.3), sym is ∙ ap Some (sym h.1), h.3, h.2))
      (λ p w t h.
      let from : p ≡ place = same_Some p place (sym h.1 ∙ sym is) in
      (λ e. h.0 (from ∙ e ∙ sym h.2), from, h.3, h.2))

  pub lacked_added : (read : DoneRead) (element target : ℕ) → Some target ≡ writer_place writers read.key element → AddsSteps (IsOther (record { place = read.place; why = ReadWrite read.key element }) target) old new → AddsSteps (IsLackedStep writers read element) old new
  lacked_added read element target is = adds_if (IsOther (record { place = read.place; why = ReadWrite read.key element }) target) (IsLackedStep writers read element) old new
      (λ p w t h. (λ e. h.0 (sym h.1 ∙ e ∙ h.3), sym is ∙ ap Some (sym h.3), h.1, h.2))
      (λ p w t h.
      let to : t ≡ target = same_Some t target (sym h.1 ∙ sym is) in
      (λ e. h.0 (h.2 ∙ e ∙ sym to), h.2, h.3, to))

-- Neighbours in a list, by index.
pub neighbours_at : (xs : List ℕ) (i : ℕ) → i + 1 < length xs → AreNeighbours xs (get_or xs i 0) (get_or xs (i + 1) 0)
neighbours_at xs i low =
    let under : i < length xs = omega (arith, low) in
    (take i xs, drop (i + 1 + 1) xs, cut_at xs i under ∙ ap (λ ys. take i xs ++ get_or xs i 0 ∷ ys) (drop_more xs (i + 1) 0 low))

pub at_neighbours : (xs : List ℕ) (one other : ℕ) → AreNeighbours xs one other → (i : ℕ) × (i + 1 < length xs) × (get_or xs i 0 ≡ one) × (get_or xs (i + 1) 0 ≡ other)
at_neighbours xs one other h =
    let front = h.0 in
    let back = h.1 in
    let long : length xs ≡ length (front ++ one ∷ other ∷ back) = ap length h.2 in
    let sum : length (front ++ one ∷ other ∷ back) ≡ length front + length (one ∷ other ∷ back) = length-append front (one ∷ other ∷ back) in
    let two : length (one ∷ other ∷ back) ≡ suc (suc (length back)) = refl in (
      length front,
      omega (arith, long, sum, two),
      ap (λ ys. get_or ys (length front) 0) h.2 ∙ get_or_at front one (other ∷ back) 0 (length front) refl,
      ap (λ ys. get_or ys (length front + 1) 0) (h.2 ∙ middle_shift front (other ∷ back) one) ∙ get_or_at (front ++ one ∷ []) other back 0 (length front + 1) (length_push front one),
    )

pub no_neighbours : (one other : ℕ) → AreNeighbours [] one other → ⊥
no_neighbours one other h = let at = at_neighbours [] one other h in let low : at.0 + 1 < length {A = ℕ} [] = at.1 in absurd (omega (arith, low))

-- the last one of a list, by index
last_from : (xs : List ℕ) (x n : ℕ) → length xs ≡ suc n → slice_get xs n ≡ Some x → EndsWith xs x
last_from [] x n long is = absurd (none-some x is)
last_from (y ∷ []) x zero long is = ([], ap (λ z. z ∷ []) (same_Some y x is))
last_from (y ∷ []) x (suc n) long is = absurd (none-some x is)
last_from (y ∷ z ∷ zs) x zero long is = absurd (omega (arith, long))
last_from (y ∷ z ∷ zs) x (suc n) long is = let r = last_from (z ∷ zs) x n (omega (arith, long)) is in (y ∷ r.0, ap (λ ys. y ∷ ys) r.1)

pub last_at : (xs : List ℕ) (x : ℕ) → slice_get xs (length xs - 1) ≡ Some x → EndsWith xs x
last_at [] x is = absurd (none-some x is)
last_at (y ∷ ys) x is =
    let at : length (y ∷ ys) - 1 ≡ length ys = omega arith in
    last_from (y ∷ ys) x (length ys) refl (subst (λ k. slice_get (y ∷ ys) k ≡ Some x) at is)

pub at_last : (xs : List ℕ) (x : ℕ) → EndsWith xs x → slice_get xs (length xs - 1) ≡ Some x
at_last xs x h =
    let long : length (h.0 ++ x ∷ []) ≡ length h.0 + 1 = length_push h.0 x in
    let at : length (h.0 ++ x ∷ []) - 1 ≡ length h.0 = omega (arith, long) in
    let under : length h.0 < length (h.0 ++ x ∷ []) = omega (arith, long) in
    subst (λ ys. slice_get ys (length ys - 1) ≡ Some x) (sym h.1)
    (ap (slice_get (h.0 ++ x ∷ [])) at ∙ slice_get-get_or (h.0 ++ x ∷ []) (length h.0) 0 under ∙ ap Some (get_or_at h.0 x [] 0 (length h.0) refl))

-- the steps along a list, by index
abbrev pub PairAt : List (Option Writer) → ℕ → List ℕ → ℕ → ℕ → Why → ℕ → Type 0
PairAt writers key seen next place why target = (1 ≤ next) × IsPairStep writers key (get_or seen (next - 1) 0) (get_or seen next 0) place why target

pub along_if : (writers : List (Option Writer)) (key : ℕ) (seen : List ℕ) (next : ℕ) → (1 < next → next ≤ length seen) → (p : ℕ) (w : Why) (t : ℕ) → StepsBelow (PairAt writers key seen) next p w t → IsAlong writers key seen p w t
along_if writers key seen next under p w t h =
    let some : 1 < next = omega (arith, h.1, h.2.0) in
    let low : next ≤ length seen = under some in
    let before : h.0 - 1 + 1 < length seen = omega (arith, h.1, h.2.0, low) in
    let at : h.0 - 1 + 1 ≡ h.0 = omega (arith, h.2.0) in
    (get_or seen (h.0 - 1) 0, get_or seen h.0 0, subst (λ k. AreNeighbours seen (get_or seen (h.0 - 1) 0) (get_or seen k 0)) at (neighbours_at seen (h.0 - 1) before), h.2.1)

pub if_along : (writers : List (Option Writer)) (key : ℕ) (seen : List ℕ) (next : ℕ) → length seen ≤ next → (p : ℕ) (w : Why) (t : ℕ) → IsAlong writers key seen p w t → StepsBelow (PairAt writers key seen) next p w t
if_along writers key seen next past p w t h =
    let r = at_neighbours seen h.0 h.1 h.2 in
    let before : r.0 + 1 - 1 ≡ r.0 = omega arith in (
      r.0 + 1,
      omega (arith, r.1, past),
      (
        omega arith,
        subst (λ k. IsPairStep writers key (get_or seen k 0) (get_or seen (r.0 + 1) 0) p w t) (sym before)
            (subst (λ x. IsPairStep writers key x (get_or seen (r.0 + 1) 0) p w t) (sym r.2) (subst (λ y. IsPairStep writers key h.0 y p w t) (sym r.3) h.3)),
      ),
    )

-- three kinds of steps, one after another
pub adds_three : (P Q R : ℕ → Why → ℕ → Type 0) (old one two new : List (Vec Step Global)) → AddsSteps P old one → AddsSteps Q one two → AddsSteps R two new → AddsSteps (EitherStep P (EitherStep Q R)) old new
adds_three P Q R old one two new a b d = adds_then P (EitherStep Q R) old one new a (adds_then Q R one two new b d)
