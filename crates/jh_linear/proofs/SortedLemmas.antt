-- Sorted entries make arrivals, stages and classes.
use Rattle.std.proofs.Common.{◌≡◌, ℕ, zero, suc, ◌+◌, ◌-◌, ◌^◌, ◌<◌, ◌≤◌, true, Some, None, List, [], ◌∷◌, ◌++◌, length, take, get_or, map, unwrap_or, refl, sym, ap, subst, ◌∙◌, inl, inr, arith}
use Rattle.std.proofs.lemmas.Bool.{cases_lt}
use Rattle.std.proofs.lemmas.List.{length-map, length-take, length_push, get_or-map, get_or-take, get_or_append_left, get_or_default, get_or_push}
use Rattle.std.proofs.lemmas.List.Elements.{All-map}
use Rattle.jh_linear.specs.declared.register.RegCall.{RegCall}
use Rattle.jh_linear.specs.declared.register.RegOp.{RegOp}
use Rattle.jh_linear.specs.declared.sorted_ops.Class.{Class}
use Rattle.jh_linear.specs.declared.sorted_ops.Stage.{Stage}
use Rattle.jh_linear.specs.Order.{op_at, has, IsDone, Precedes, EndsBefore}
use Rattle.jh_linear.specs.SearchInside.{AreClasses, AreNumberEntries, AreClassesUpTo, AreStages, AreTwins, DoNotFall, AreTwinEntries, AreDoneSorted, IsOfClass, IsUnsureChange, arrival_entry, class_at, end_at, end_entry, invocation_at, no_call, no_class, no_entry, stage_at, unknown_number, unknown_entry}
use Rattle.jh_linear.proofs.NumberSetLemmas.{has_here, place_of}
use Rattle.jh_linear.proofs.StageLemmas.{done_there, end_before, possible_there, unknown_possible}

get_map : (xs : List (ℕ × ℕ)) (i : ℕ) → get_or (map (λ x. x.1) xs) i 0 ≡ (get_or xs i no_entry).1
get_map [] i = refl
get_map (x ∷ xs) zero = refl
get_map (x ∷ xs) (suc i) = get_map xs i

taken_place : (xs : List (ℕ × ℕ)) (n b : ℕ) → has (take n (map (λ x. x.1) xs)) b ≡ true → (i : ℕ) × (i < n) × (i < length xs) × ((get_or xs i no_entry).1 ≡ b)
taken_place xs n b h =
    let r = place_of (take n (map (λ x. x.1) xs)) b h in
    let len = length-take n (map (λ (x : ℕ × ℕ). x.1) xs) in
    let all = length-map xs (λ (x : ℕ × ℕ). x.1) in
    let low : r.0 < n = omega (arith, r.1, len) in
    (r.0, low, omega (arith, r.1, len, all), sym (get_map xs r.0) ∙ sym (get_or-take n (map (λ x. x.1) xs) r.0 0 low) ∙ r.2)

has_taken_at : (xs : List (ℕ × ℕ)) (n i : ℕ) → i < n → i < length xs → has (take n (map (λ x. x.1) xs)) (get_or xs i no_entry).1 ≡ true
has_taken_at xs n i low lt =
    let len = length-take n (map (λ (x : ℕ × ℕ). x.1) xs) in
    let all = length-map xs (λ (x : ℕ × ℕ). x.1) in
    subst (λ q. has (take n (map (λ x. x.1) xs)) q ≡ true) (get_or-take n (map (λ x. x.1) xs) i 0 low ∙ get_map xs i) (has_here (take n (map (λ x. x.1) xs)) i (omega (arith, len, all, low, lt)))

before_end : (ops : List RegOp) (a b : ℕ) → IsDone ops a → end_at ops a < 2 ^ 64 - 1 → end_at ops a < invocation_at ops b → Precedes ops a b
before_end ops a b done small lt = (
  done,
  elim (op_at ops a).ended as (λ e. unwrap_or e (2 ^ 64 - 1) < 2 ^ 64 - 1 → unwrap_or e (2 ^ 64 - 1) < (op_at ops b).invoked → EndsBefore e (op_at ops b).invoked) [
    | None ↦ λ s k. absurd (omega arith)
    | Some e ↦ λ s k. k
  ] small lt,
)

-- the entry of a number that is kept, and the number of an entry
module _ {X : Type 0} (Kept : ℕ → Type 0) (entry : ℕ → X) (number : X → ℕ) (d : X) (n : ℕ) (xs : List X) (e : AreNumberEntries Kept entry number n xs) where
  entry_of : (p : ℕ) → p < n → Kept p → (i : ℕ) × (i < length xs) × (get_or xs i d ≡ entry p)
  entry_of p lt kept = let r = e.all p lt kept in (r.0, r.1, get_or_default xs r.0 d (entry p) r.1 ∙ r.2)

  entry_at : (i : ℕ) → i < length xs → entry (number (get_or xs i d)) ≡ get_or xs i d
  entry_at i lt = (e.each i d lt).2

pub are_done_sorted : (ops : List RegOp) (inv ends : List (ℕ × ℕ)) (stages : List Stage) → AreNumberEntries (IsDone ops) (arrival_entry ops) (λ x. x.1) (length ops) inv → DoNotFall inv → AreNumberEntries (IsDone ops) (end_entry ops) (λ x. x.1) (length ops) ends → DoNotFall ends → AreStages inv ends stages
    → AreDoneSorted ops (map (λ x. x.1) inv) stages
are_done_sorted ops inv ends stages ie ir ee er ss =
    let Done' = IsDone ops in
    let arrival = entry_of Done' (arrival_entry ops) (λ x. x.1) no_entry (length ops) inv ie in
    let end_of = entry_of Done' (end_entry ops) (λ x. x.1) no_entry (length ops) ends ee in
    let key : (k : ℕ) → k < length stages → end_at ops (stage_at stages k).number ≡ (get_or ends k no_entry).0 = λ k lt.
    ap (end_at ops) (ss.number k lt) ∙ ap (λ x. x.0) (entry_at Done' (end_entry ops) (λ x. x.1) no_entry (length ops) ends ee k (omega (arith, lt, ss.sizes))) in
    let rise : (j k : ℕ) → j ≤ k → k < length stages → end_at ops (stage_at stages j).number ≤ end_at ops (stage_at stages k).number = λ j k le lt.
    omega (arith, key j (omega (arith, le, lt)), key k lt, er j k no_entry le (omega (arith, lt, ss.sizes))) in
    record {
      distinct = ie.distinct;
      happened = All-map Done' (λ x. x.1) inv (λ k d lt. (ie.each k d lt).1);
      all = λ p done. let r = arrival p (done_there ops p done) done in
          subst (λ q. has (map (λ x. x.1) inv) q ≡ true) (get_map inv r.0 ∙ ap (λ x. x.1) r.2) (has_here (map (λ x. x.1) inv) r.0 (omega (arith, r.1, length-map inv (λ (x : ℕ × ℕ). x.1))));
      bounded = λ k lt. omega (arith, ss.bounded k lt, length-map inv (λ (x : ℕ × ℕ). x.1));
      rises = λ k lt. elim (cases_lt (stage_at stages (k + 1)).arrived (stage_at stages k).arrived) as (λ _. (stage_at stages k).arrived ≤ (stage_at stages (k + 1)).arrived) [
        | inl back ↦
            let i : ℕ = (stage_at stages (k + 1)).arrived in
            let low = ss.below k i (omega arith) back in
            let high = ss.above (k + 1) lt (omega (arith, ss.bounded k (omega arith))) in
            absurd (omega (arith, low, high.0, er k (k + 1) no_entry (omega arith) (omega (arith, ss.sizes))))
        | inr on ↦ on
      ];
      each_done = λ p done. let r = end_of p (done_there ops p done) done in
          let lt : r.0 < length stages = omega (arith, r.1, ss.sizes) in (r.0, lt, ss.number r.0 lt ∙ ap (λ x. x.1) r.2);
      are_done = λ k lt. subst Done' (sym (ss.number k lt)) (ee.each k no_entry (omega (arith, ss.sizes))).1;
      ends_rise = rise;
      needs = λ k a b lt early before.
          let s = end_of a (done_there ops a before.0) before.0 in
          let inside : s.0 < length stages = omega (arith, s.1, ss.sizes) in
          let number : (stage_at stages s.0).number ≡ a = ss.number s.0 inside ∙ ap (λ x. x.1) s.2 in
          let first = end_before ops a b before in
          let under : s.0 < k = elim (cases_lt s.0 k) as (λ _. s.0 < k) [
            | inl y ↦ y
            | inr over ↦ absurd (omega (arith, rise k s.0 over inside, ap (end_at ops) number, first, early))
          ] in
          (s.0, under, number);
      in_time = λ k p lt h.
          let r = taken_place inv _ p h in
          let low = ss.below k r.0 lt r.1 in
          let invoked : invocation_at ops p ≡ (get_or inv r.0 no_entry).0 = ap (invocation_at ops) (sym r.3) ∙ ap (λ x. x.0) (entry_at Done' (arrival_entry ops) (λ x. x.1) no_entry (length ops) inv ie r.0 r.2) in
          omega (arith, low, invoked, key k lt);
      enough = λ k p lt done late.
          let r = arrival p (done_there ops p done) done in
          elim (cases_lt r.0 (stage_at stages k).arrived) as (λ _. has (take (stage_at stages k).arrived (map (λ x. x.1) inv)) p ≡ true) [
            | inl y ↦ subst (λ x. has (take (stage_at stages k).arrived (map (λ x. x.1) inv)) x.1 ≡ true) r.2 (has_taken_at inv _ r.0 y r.1)
            | inr over ↦
                let up = ss.above k lt (omega (arith, r.1)) in
                let far = ir (stage_at stages k).arrived r.0 no_entry over r.1 in
                let here : (get_or inv r.0 no_entry).0 ≡ invocation_at ops p = ap (λ x. x.0) r.2 in
                let last = subst Done' (sym (ss.number k lt)) (ee.each k no_entry (omega (arith, ss.sizes))).1 in
                absurd (late (before_end ops (stage_at stages k).number p last (omega (arith, key k lt, up.1)) (omega (arith, key k lt, up.0, far, here))))
          ];
    }

-- ---- classes

get_numbers : (entries : List (RegCall × ℕ × ℕ)) (i : ℕ) → i < length entries → unknown_number (map (λ x. x.2) entries) i ≡ (get_or entries i no_call).2
get_numbers entries i lt = get_or-map (λ (x : RegCall × ℕ × ℕ). x.2) entries i no_call 0 lt

pub are_classes : (ops : List RegOp) (entries : List (RegCall × ℕ × ℕ)) (classes : List Class) → AreNumberEntries (IsUnsureChange ops) (unknown_entry ops) (λ x. x.2) (length ops) entries → AreClassesUpTo entries classes (length entries)
    → AreClasses ops (map (λ x. x.2) entries) classes
are_classes ops entries classes e runs =
    let size : length (map (λ (x : RegCall × ℕ × ℕ). x.2) entries) ≡ length entries = length-map entries (λ (x : RegCall × ℕ × ℕ). x.2) in
    let at : (i : ℕ) → i < length entries → unknown_entry ops (unknown_number (map (λ x. x.2) entries) i) ≡ get_or entries i no_call = λ i lt.
    ap (unknown_entry ops) (get_numbers entries i lt) ∙ entry_at (IsUnsureChange ops) (unknown_entry ops) (λ x. x.2) no_call (length ops) entries e i lt in
    record {
      distinct = e.distinct;
      each = All-map (IsUnsureChange ops) (λ x. x.2) entries (λ k d lt. (e.each k d lt).1);
      all = λ p un. let r = entry_of (IsUnsureChange ops) (unknown_entry ops) (λ x. x.2) no_call (length ops) entries e p (possible_there ops p (unknown_possible ops p un)) un in
          subst (λ q. has (map (λ x. x.2) entries) q ≡ true) (get_numbers entries r.0 r.1 ∙ ap (λ x. x.2) r.2) (has_here (map (λ x. x.2) entries) r.0 (omega (arith, r.1, size)));
      bounded = λ k lt. let b = runs.bounded k lt in (b.0, omega (arith, b.1, size));
      covered = λ j lt. runs.covered j (omega (arith, lt, size));
      rises = runs.rises;
      twins = λ k i j lt in' jn le.
          let b = runs.bounded k lt in
          let low : i < length entries = omega (arith, in'.1, b.1) in
          let high : j < length entries = omega (arith, jn.1, b.1) in
          let together = runs.together k i j lt in' jn le in
          let same : AreTwins ops (unknown_number (map (λ x. x.2) entries) i) (unknown_number (map (λ x. x.2) entries) j) = (
            ap (λ (x : RegCall × ℕ × ℕ). x.0) (at i low) ∙ together.0 ∙ sym (ap (λ (x : RegCall × ℕ × ℕ). x.0) (at j high)),
            omega (arith, ap (λ (x : RegCall × ℕ × ℕ). x.1) (at i low), together.1, ap (λ (x : RegCall × ℕ × ℕ). x.1) (at j high)),
          ) in
          same;
    }

-- one more entry belongs to the class that is not closed yet
abbrev pub AreTogether : List (RegCall × ℕ × ℕ) → ℕ → ℕ → Type 0
AreTogether entries from upto = (i j : ℕ) → from ≤ i → i ≤ j → j < upto → AreTwinEntries (get_or entries i no_call) (get_or entries j no_call)

pub together_one : (entries : List (RegCall × ℕ × ℕ)) (from : ℕ) → AreTogether entries from (from + 1)
together_one entries from i j low le lt = let is : i ≡ j = omega (arith, low, le, lt) in subst (λ k. AreTwinEntries (get_or entries i no_call) (get_or entries k no_call)) is (refl, omega arith)

pub together_more : (entries : List (RegCall × ℕ × ℕ)) (from upto : ℕ) → from < upto → AreTogether entries from upto → AreTwinEntries (get_or entries (upto - 1) no_call) (get_or entries upto no_call) → AreTogether entries from (upto + 1)
together_more entries from upto some before next i j low le lt = elim (cases_lt j upto) as (λ _. AreTwinEntries (get_or entries i no_call) (get_or entries j no_call)) [
  | inl old ↦ before i j low le old
  | inr new ↦
      let at : upto ≡ j = omega (arith, lt, new) in
      subst (λ k. AreTwinEntries (get_or entries i no_call) (get_or entries k no_call)) at
      (elim (cases_lt i upto) as (λ _. AreTwinEntries (get_or entries i no_call) (get_or entries upto no_call)) [
        | inl inside ↦ let first = before i (upto - 1) low (omega (arith, inside)) (omega (arith, some)) in (first.0 ∙ next.0, omega (arith, first.1, next.1))
        | inr end ↦ let is : upto ≡ i = omega (arith, le, end, at) in subst (λ k. AreTwinEntries (get_or entries k no_call) (get_or entries upto no_call)) is (refl, omega arith)
      ])
]

-- a class is closed
pub runs_push : (entries : List (RegCall × ℕ × ℕ)) (classes : List Class) (from upto : ℕ) → from < upto → AreClassesUpTo entries classes from → AreTogether entries from upto → AreClassesUpTo entries (classes ++ record { from = from; upto = upto } ∷ []) upto
runs_push entries classes from upto some runs together =
    let one : Class = record { from = from; upto = upto } in
    let old : (k : ℕ) → k < length classes → class_at (classes ++ one ∷ []) k ≡ class_at classes k = λ k lt. get_or_append_left classes (one ∷ []) no_class k lt in
    let new : (k : ℕ) → length classes ≡ k → class_at (classes ++ one ∷ []) k ≡ one = λ k is. get_or_push classes one no_class k is in
    let size : length (classes ++ one ∷ []) ≡ length classes + 1 = omega (arith, length_push classes one) in
    let Bounds : Class → Type 0 = λ c. (c.from ≤ c.upto) × (c.upto ≤ upto) in
    record {
      bounded = λ k lt. elim (cases_lt k (length classes)) as (λ _. Bounds (class_at (classes ++ one ∷ []) k)) [
        | inl low ↦ subst Bounds (sym (old k low)) (let b = runs.bounded k low in (b.0, omega (arith, b.1, some)))
        | inr high ↦ subst Bounds (sym (new k (omega (arith, lt, high, size)))) (omega (arith, some), omega arith)
      ];
      covered = λ j lt. elim (cases_lt j from) as (λ _. (k : ℕ) × (k < length (classes ++ one ∷ [])) × IsOfClass (classes ++ one ∷ []) k j) [
        | inl before ↦ let r = runs.covered j before in (r.0, omega (arith, r.1, size), subst (λ (c : Class). (c.from ≤ j) × (j < c.upto)) (sym (old r.0 r.1)) r.2)
        | inr here ↦ (length classes, omega (arith, size), subst (λ (c : Class). (c.from ≤ j) × (j < c.upto)) (sym (new (length classes) refl)) (here, lt))
      ];
      rises = λ k l before lt. elim (cases_lt l (length classes)) as (λ _. (class_at (classes ++ one ∷ []) k).upto ≤ (class_at (classes ++ one ∷ []) l).from) [
        | inl low ↦
            let a = old k (omega (arith, before, low)) in
            let b = old l low in
            omega (arith, ap (λ (c : Class). c.upto) a, ap (λ (c : Class). c.from) b, runs.rises k l before low)
        | inr high ↦
            let inside : k < length classes = omega (arith, before, lt, size) in
            let a = old k inside in
            let b = new l (omega (arith, lt, high, size)) in
            omega (arith, ap (λ (c : Class). c.upto) a, ap (λ (c : Class). c.from) b, (runs.bounded k inside).1)
      ];
      together = λ k i j lt in' jn le. elim (cases_lt k (length classes)) as (λ _. AreTwinEntries (get_or entries i no_call) (get_or entries j no_call)) [
        | inl low ↦ runs.together k i j low (subst (λ (c : Class). (c.from ≤ i) × (i < c.upto)) (old k low) in') (subst (λ (c : Class). (c.from ≤ j) × (j < c.upto)) (old k low) jn) le
        | inr high ↦
            let is = new k (omega (arith, lt, high, size)) in
            together i j (subst (λ (c : Class). (c.from ≤ i) × (i < c.upto)) is in').0 le (subst (λ (c : Class). (c.from ≤ j) × (j < c.upto)) is jn).1
      ];
    }

pub runs_none : (entries : List (RegCall × ℕ × ℕ)) (classes : List Class) → classes ≡ [] → AreClassesUpTo entries classes 0
runs_none entries classes is = subst (λ cs. AreClassesUpTo entries cs 0) (sym is) (record {
  bounded = λ k lt. absurd (omega (arith, lt));
  covered = λ j lt. absurd (omega (arith, lt));
  rises = λ k l before lt. absurd (omega (arith, lt));
  together = λ k i j lt. absurd (omega (arith, lt));
})
