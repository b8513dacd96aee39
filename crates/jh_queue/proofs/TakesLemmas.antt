-- Where each dequeue finds an enqueue by the counts, each takes one of its own: the last that it may. And the other way round.
use Rattle.std.proofs.Common.{◌≡◌, ℕ, zero, suc, ◌+◌, ◌<◌, ◌≤◌, Bool, true, false, cond, ◌&&◌, nat_lt, nat_le, List, [], ◌∷◌, length, get_or, refl, sym, ap, subst, ◌∙◌, arith, inl, inr, ltb-true, ltb-false, lt-ltb, le-ltb, le-leb, leb-true, leb-false}
use Rattle.std.specs.Prelude.{◌⊎◌, All, remove}
use Rattle.std.specs.List.{count_by, filter}
use Rattle.std.proofs.lemmas.List.Elements.{All-nil, All-cons, All-filter, All-head, All-tail, All-weaker, filter_passes}
use Rattle.std.proofs.lemmas.List.Sorted.{IsPermutation-remove, sum_by_popped}
use Rattle.jh_edn.specs.Edn.{Edn}
use Rattle.jh_check.specs.Distinct.{is_same}
use Rattle.jh_check.proofs.DistinctLemmas.{same_itself, same_back, same_along}
use Rattle.jh_queue.specs.Queue.{Passage, enqueues_before, dequeues_upto, finds_none, EachFinds, EachTakes, IsFirstWithout, MayTake, completed_before, completed_upto}
use Rattle.jh_queue.proofs.CountLemmas.{count_cons}

both : (a b : Bool) → (a && b) ≡ true → (a ≡ true) × (b ≡ true)
both true b h = (refl, h)
both false b h = absurd cc

-- ---- counts

count_none : (q : Passage → Bool) (xs : List Passage) → All (λ m. q m ≡ false) xs → count_by q xs ≡ 0
count_none q [] h = refl
count_none q (x ∷ xs) h =
    let here : count_by q (x ∷ xs) ≡ 0 + count_by q xs = count_cons q x xs ∙ ap (λ b. cond b 1 0 + count_by q xs) (All-head (λ m. q m ≡ false) x xs h) in
    omega (arith, here, count_none q xs (All-tail (λ m. q m ≡ false) x xs h))

at_most : (a b : Bool) → (a ≡ true → b ≡ true) → cond {A = ℕ} a 1 0 ≤ cond b 1 0
at_most true true h = omega arith
at_most true false h = absurd (let bad : false ≡ true = h refl in cc)
at_most false true h = omega arith
at_most false false h = omega arith

count_le : (a b : Passage → Bool) (xs : List Passage) → All (λ m. a m ≡ true → b m ≡ true) xs → count_by a xs ≤ count_by b xs
count_le a b [] h = omega arith
count_le a b (x ∷ xs) h =
    let first : cond {A = ℕ} (a x) 1 0 ≤ cond (b x) 1 0 = at_most (a x) (b x) (All-head (λ m. a m ≡ true → b m ≡ true) x xs h) in
    omega (arith, first, count_cons a x xs, count_cons b x xs, count_le a b xs (All-tail (λ m. a m ≡ true → b m ≡ true) x xs h))

each_le : (a b : Passage → Bool) (xs : List Passage) → ((m : Passage) → a m ≡ true → b m ≡ true) → count_by a xs ≤ count_by b xs
each_le a b xs h = count_le a b xs (λ k d less. h (get_or xs k d))

-- ---- the last that passes

pub record IsLast (q : Passage → Bool) (xs : List Passage) (i : ℕ) (e : Passage) : Type 0 where
  pub low : i < length xs
  pub at : (d : Passage) → get_or xs i d ≡ e
  pub passes : q e ≡ true
  pub last : All (λ m. q m ≡ true → m.place ≤ e.place) xs

abbrev AnyLast : (Passage → Bool) → List Passage → Type 0
AnyLast q xs = (i : ℕ) × (e : Passage) × IsLast q xs i e

last_more : (q : Passage → Bool) (x : Passage) (xs : List Passage) → All (λ m. q m ≡ false) xs ⊎ AnyLast q xs → (b : Bool) → q x ≡ b → All (λ m. q m ≡ false) (x ∷ xs) ⊎ AnyLast q (x ∷ xs)
last_more q x xs (inl none) false e = inl (All-cons (λ m. q m ≡ false) x xs e none)
last_more q x xs (inl none) true e =
    inr (
      0,
      x,
      record {
        low = omega arith;
        at = λ d. refl;
        passes = e;
        last = All-cons (λ m. q m ≡ true → m.place ≤ x.place) x xs (λ _. omega arith) (All-weaker (λ m. q m ≡ false) (λ m. q m ≡ true → m.place ≤ x.place) (λ m f t. absurd (let bad : true ≡ false = sym t ∙ f in cc)) xs none);
      },
    )
last_more q x xs (inr found) false e =
    inr (
      suc found.0,
      found.1,
      record {
        low = omega (arith, found.2.low);
        at = found.2.at;
        passes = found.2.passes;
        last = All-cons (λ m. q m ≡ true → m.place ≤ found.1.place) x xs (λ t. absurd (let bad : true ≡ false = sym t ∙ e in cc)) found.2.last;
      },
    )
last_more q x xs (inr found) true e =
    elim (nat_le x.place found.1.place) as (λ b. nat_le x.place found.1.place ≡ b → All (λ m. q m ≡ false) (x ∷ xs) ⊎ AnyLast q (x ∷ xs)) [
      | true ↦ λ t.
          inr (
            suc found.0,
            found.1,
            record {
              low = omega (arith, found.2.low);
              at = found.2.at;
              passes = found.2.passes;
              last = All-cons (λ m. q m ≡ true → m.place ≤ found.1.place) x xs (λ _. leb-true x.place found.1.place t) found.2.last;
            },
          )
      | false ↦ λ t.
          let above : found.1.place < x.place = leb-false x.place found.1.place t in
          inr (
            0,
            x,
            record {
              low = omega arith;
              at = λ d. refl;
              passes = e;
              last = All-cons (λ m. q m ≡ true → m.place ≤ x.place) x xs (λ _. omega arith) (All-weaker (λ m. q m ≡ true → m.place ≤ found.1.place) (λ m. q m ≡ true → m.place ≤ x.place) (λ m le t'. omega (arith, above, le t')) xs found.2.last);
            },
          )
    ] refl

last_or_none : (q : Passage → Bool) (xs : List Passage) → All (λ m. q m ≡ false) xs ⊎ AnyLast q xs
last_or_none q [] = inl (All-nil (λ m. q m ≡ false))
last_or_none q (x ∷ xs) = last_more q x xs (last_or_none q xs) (q x) refl

last_of : (q : Passage → Bool) (xs : List Passage) → 0 < count_by q xs → AnyLast q xs
last_of q xs h =
    elim (last_or_none q xs) [
      | inl none ↦ absurd (omega (arith, h, count_none q xs none))
      | inr found ↦ found
    ]

-- ---- one dequeue takes the last enqueue that it may, and the others still find one

abbrev before : Edn → ℕ → Passage → Bool
before x place m = is_same x m.value && nat_lt m.place place

abbrev upto : Edn → ℕ → Passage → Bool
upto x place m = is_same x m.value && nat_le m.place place

left_enough : (so se l t : Bool) (all left held rest : ℕ) → so ≡ se → held ≡ cond (so && l) 1 0 + rest → left + cond (se && t) 1 0 ≡ all → held ≤ all
    → (so ≡ true → l ≡ false → t ≡ true → rest + 1 ≤ all) → rest ≤ left
left_enough true true true true all left held rest e h a le other = omega (arith, h, a, le)
left_enough true true true false all left held rest e h a le other = omega (arith, h, a, le)
left_enough true true false true all left held rest e h a le other = omega (arith, a, other refl refl refl)
left_enough true true false false all left held rest e h a le other = omega (arith, h, a, le)
left_enough true false l t all left held rest e h a le other = absurd cc
left_enough false true l t all left held rest e h a le other = absurd cc
left_enough false false l t all left held rest e h a le other = omega (arith, h, a, le)

-- it counts itself
count_own : (out : Passage) (outs : List Passage) → dequeues_upto (out ∷ outs) out.value out.place ≡ 1 + dequeues_upto outs out.value out.place
count_own out outs =
    count_cons (upto out.value out.place) out outs
    ∙ (λ k. cond (same_itself out.value k && le-leb out.place out.place (omega arith) k) 1 0 + dequeues_upto outs out.value out.place)

module _ (ins : List Passage) (out : Passage) (outs : List Passage) (i : ℕ) (e : Passage) (last : IsLast (before out.value out.place) ins i e)
    (enough : dequeues_upto (out ∷ outs) out.value out.place ≤ enqueues_before ins out.value out.place) where
  own : MayTake out e
  own = let p = both (is_same out.value e.value) (nat_lt e.place out.place) last.passes in (p.0, ltb-true e.place out.place p.1)

  -- dequeues of this value that come earlier are fewer, and enqueues before e are all that there are before it
  fewer : (x : Edn) (place : ℕ) → is_same x out.value ≡ true → place < out.place → e.place < place → dequeues_upto outs x place + 1 ≤ enqueues_before ins x place
  fewer x place same less above =
      let ups : dequeues_upto outs x place ≤ dequeues_upto outs out.value out.place =
      each_le (upto x place) (upto out.value out.place) outs (λ m h.
      let p = both (is_same x m.value) (nat_le m.place place) h in
      let low : m.place ≤ place = leb-true m.place place p.1 in
      (λ k. (sym (same_along x out.value m.value same) ∙ p.0) k && le-leb m.place out.place (omega arith) k)) in
      let all : enqueues_before ins out.value out.place ≤ enqueues_before ins x place =
      count_le (before out.value out.place) (before x place) ins
      (All-weaker (λ m. before out.value out.place m ≡ true → m.place ≤ e.place) (λ m. before out.value out.place m ≡ true → before x place m ≡ true) (λ m le h.
      let p = both (is_same out.value m.value) (nat_lt m.place out.place) h in
      let low : m.place ≤ e.place = le h in
      (λ k. (same_along x out.value m.value same ∙ p.0) k && lt-ltb m.place place (omega arith) k)) ins last.last) in
      omega (arith, ups, all, enough, count_own out outs)

  pub others_find : (o : Passage) → finds_none ins (out ∷ outs) o ≡ false → finds_none (remove ins i) outs o ≡ false
  others_find o h =
      let x = o.value in
      let place = o.place in
      let all = enqueues_before ins x place in
      let left = enqueues_before (remove ins i) x place in
      let le : dequeues_upto (out ∷ outs) x place ≤ all = ltb-false all (dequeues_upto (out ∷ outs) x place) h in
      let taken : left + cond (before x place e) 1 0 ≡ all = sum_by_popped (λ m. cond (before x place m) 1 0) e ins (remove ins i) (IsPermutation-remove ins i e last.low (sym (last.at e))) in
      let alike : is_same x out.value ≡ is_same x e.value = same_back x out.value ∙ same_along out.value e.value x own.0 ∙ same_back e.value x in
      let enough_left : dequeues_upto outs x place ≤ left =
      left_enough (is_same x out.value) (is_same x e.value) (nat_le out.place place) (nat_lt e.place place) all left (dequeues_upto (out ∷ outs) x place) (dequeues_upto outs x place)
      alike (count_cons (upto x place) out outs) taken le
      (λ same late early. fewer x place same (leb-false out.place place late) (ltb-true e.place place early)) in
      le-ltb left (dequeues_upto outs x place) enough_left

  pub source : MayTake out (get_or ins i out)
  source = subst (MayTake out) (sym (last.at out)) own

pub takes : (ins outs : List Passage) → EachFinds ins outs → EachTakes ins outs
takes ins [] h = tt
takes ins (out ∷ outs) h =
    let P = λ (o : Passage). finds_none ins (out ∷ outs) o ≡ false in
    let first : finds_none ins (out ∷ outs) out ≡ false = All-head P out outs h in
    let enough : dequeues_upto (out ∷ outs) out.value out.place ≤ enqueues_before ins out.value out.place = ltb-false (enqueues_before ins out.value out.place) (dequeues_upto (out ∷ outs) out.value out.place) first in
    let some : 0 < enqueues_before ins out.value out.place = omega (arith, enough, count_own out outs) in
    let found = last_of (before out.value out.place) ins some in (
      found.0,
      found.2.low,
      source ins out outs found.0 found.1 found.2 enough,
      takes (remove ins found.0) outs (All-weaker P (λ o. finds_none (remove ins found.0) outs o ≡ false) (λ o e. others_find ins out outs found.0 found.1 found.2 enough o e) outs (All-tail P out outs h)),
    )

-- ---- and where each takes one, each finds one

any_default : (xs : List Passage) (i : ℕ) (d e : Passage) → i < length xs → get_or xs i d ≡ get_or xs i e
any_default [] i d e less = absurd (omega arith)
any_default (x ∷ xs) zero d e less = refl
any_default (x ∷ xs) (suc i) d e less = any_default xs i d e (omega arith)

no_more : (ins outs : List Passage) → EachTakes ins outs → (x : Edn) (place : ℕ) → dequeues_upto outs x place ≤ enqueues_before ins x place
no_more ins [] t x place = omega arith
no_more ins (out ∷ outs) t x place =
    let item = get_or ins t.0 out in
    let counted : cond {A = ℕ} (upto x place out) 1 0 ≤ cond (before x place item) 1 0 =
    at_most (upto x place out) (before x place item) (λ h.
    let p = both (is_same x out.value) (nat_le out.place place) h in
    let low : out.place ≤ place = leb-true out.place place p.1 in
    let above : item.place < out.place = t.2.1 in
    (λ k. (same_along x out.value item.value p.0 ∙ t.2.0) k && lt-ltb item.place place (omega (arith, low, above)) k)) in
    let taken : enqueues_before (remove ins t.0) x place + cond (before x place item) 1 0 ≡ enqueues_before ins x place =
    sum_by_popped (λ m. cond (before x place m) 1 0) item ins (remove ins t.0) (IsPermutation-remove ins t.0 item t.1 (any_default ins t.0 out item t.1)) in
    omega (arith, counted, taken, count_cons (upto x place) out outs, no_more (remove ins t.0) outs t.3 x place)

pub finds : (ins outs : List Passage) → EachTakes ins outs → EachFinds ins outs
finds ins outs t = λ k d less.
    let out = get_or outs k d in
    le-ltb (enqueues_before ins out.value out.place) (dequeues_upto outs out.value out.place) (no_more ins outs t out.value out.place)

-- ---- those before the first that finds none, and it too

count_kept : (q r : Passage → Bool) (xs : List Passage) → count_by q (filter r xs) ≤ count_by q xs
count_kept q r [] = omega arith
count_kept q r (x ∷ xs) =
    elim (r x) as (λ b. count_by q (cond b (x ∷ filter r xs) (filter r xs)) ≤ count_by q (x ∷ xs)) [
      | true ↦ omega (arith, count_cons q x (filter r xs), count_cons q x xs, count_kept q r xs)
      | false ↦ omega (arith, count_cons q x xs, count_kept q r xs)
    ]

count_all_kept : (q r : Passage → Bool) (xs : List Passage) → ((m : Passage) → q m ≡ true → r m ≡ true) → count_by q (filter r xs) ≡ count_by q xs
count_all_kept q r [] h = refl
count_all_kept q r (x ∷ xs) h =
    elim (r x) as (λ b. r x ≡ b → count_by q (cond b (x ∷ filter r xs) (filter r xs)) ≡ count_by q (x ∷ xs)) [
      | true ↦ λ e. omega (arith, count_cons q x (filter r xs), count_cons q x xs, count_all_kept q r xs h)
      | false ↦ λ e.
          let few : cond {A = ℕ} (q x) 1 0 ≤ cond (r x) 1 0 = at_most (q x) (r x) (h x) in
          let none : cond {A = ℕ} (r x) 1 0 ≡ 0 = ap (λ b. cond b 1 0) e in
          omega (arith, few, none, count_cons q x xs, count_all_kept q r xs h)
    ] refl

pub earlier_take : (ins outs : List Passage) (out : Passage) → IsFirstWithout ins outs out → EachTakes ins (completed_before out.place outs)
earlier_take ins outs out h =
    let low : Passage → Bool = λ o. nat_lt o.place out.place in
    let P : Passage → Type 0 = λ o. o.place < out.place → finds_none ins outs o ≡ false in
    takes ins (filter low outs) (λ k d less.
    let o = get_or (filter low outs) k d in
    let found : finds_none ins outs o ≡ false = All-filter low P outs h.first k d less (ltb-true o.place out.place (filter_passes low outs k d less)) in
    let le : dequeues_upto outs o.value o.place ≤ enqueues_before ins o.value o.place = ltb-false (enqueues_before ins o.value o.place) (dequeues_upto outs o.value o.place) found in
    le-ltb (enqueues_before ins o.value o.place) (dequeues_upto (filter low outs) o.value o.place) (omega (arith, le, count_kept (upto o.value o.place) low outs)))

pub first_cannot : (ins outs : List Passage) (out : Passage) → IsFirstWithout ins outs out → EachTakes ins (completed_upto out.place outs) → ⊥
first_cannot ins outs out h t =
    let low : Passage → Bool = λ o. nat_le o.place out.place in
    let more : enqueues_before ins out.value out.place < dequeues_upto outs out.value out.place = ltb-true (enqueues_before ins out.value out.place) (dequeues_upto outs out.value out.place) h.without in
    let same : dequeues_upto (filter low outs) out.value out.place ≡ dequeues_upto outs out.value out.place =
    count_all_kept (upto out.value out.place) low outs (λ m e. (both (is_same out.value m.value) (nat_le m.place out.place) e).1) in
    omega (arith, more, same, no_more ins (filter low outs) t out.value out.place)
