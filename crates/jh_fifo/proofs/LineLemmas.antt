-- Spans, put in their turn one after another.
use Rattle.std.proofs.Common.{◌≡◌, ℕ, zero, suc, ◌+◌, ◌<◌, ◌≤◌, Bool, true, false, List, [], ◌∷◌, ◌++◌, length, get_or, set, replicate, map, max, refl, sym, ap, subst, ◌∙◌, inl, inr, arith}
use Rattle.std.specs.Prelude.{◌⊎◌}
use Rattle.std.proofs.lemmas.Bool.{cases_lt, cases_Bool}
use Rattle.jh_fifo.specs.declared.spans.Span.{Span}
use Rattle.jh_fifo.specs.Sorted.{key_entry_at, AreSortedKeys}
use Rattle.jh_fifo.specs.Spans.{no_span, span_at, AreFair, AreSpansApart}
use Rattle.jh_fifo.specs.Lines.{moved_span, IsMovedSpan, IsLined, is_put, IsPartlyLined, ArePassed, IsTaking}
use Rattle.jh_fifo.proofs.ListLemmas.{not_both}
use Rattle.jh_fifo.proofs.SortedLemmas.{key_at, length_map}

length_push : {X : Type 0} (xs : List X) (x : X) → length (xs ++ x ∷ []) ≡ length xs + 1
length_push [] x = refl
length_push (y ∷ xs) x = let h = length_push xs x in omega (arith, h)

pub span_front : (xs : List Span) (x : Span) (i : ℕ) → i < length xs → span_at (xs ++ x ∷ []) i ≡ span_at xs i
span_front [] x i low = absurd (omega (arith, low))
span_front (y ∷ xs) x zero low = refl
span_front (y ∷ xs) x (suc i) low = span_front xs x i (omega (arith, low))

pub span_last : (xs : List Span) (x : Span) → span_at (xs ++ x ∷ []) (length xs) ≡ x
span_last [] x = refl
span_last (y ∷ xs) x = span_last xs x

-- an index of one more: an old one, or the last
pub index_cases : (xs : List Span) (x : Span) (i : ℕ) → i < length (xs ++ x ∷ []) → ((i < length xs) × (span_at (xs ++ x ∷ []) i ≡ span_at xs i)) ⊎ ((i ≡ length xs) × (span_at (xs ++ x ∷ []) i ≡ x))
index_cases xs x i low = elim (cases_lt i (length xs)) as (λ _. ((i < length xs) × (span_at (xs ++ x ∷ []) i ≡ span_at xs i)) ⊎ ((i ≡ length xs) × (span_at (xs ++ x ∷ []) i ≡ x))) [
  | inl lt ↦ inl (lt, span_front xs x i lt)
  | inr ge ↦
      let n = length_push xs x in
      let same : i ≡ length xs = omega (arith, low, ge, n) in
      inr (same, ap (λ k. span_at (xs ++ x ∷ []) k) same ∙ span_last xs x)
]

pub index_front : (xs : List Span) (x : Span) (i : ℕ) → i < length xs → i < length (xs ++ x ∷ [])
index_front xs x i low = let n = length_push xs x in omega (arith, n, low)

pub index_last : (xs : List Span) (x : Span) → length xs < length (xs ++ x ∷ [])
index_last xs x = let n = length_push xs x in omega (arith, n)

-- marks
length_set : (xs : List Bool) (i : ℕ) (b : Bool) → length (set xs i b) ≡ length xs
length_set [] i b = refl
length_set (x ∷ xs) zero b = refl
length_set (x ∷ xs) (suc i) b = ap (λ n. suc n) (length_set xs i b)

length_none : (n : ℕ) → length (replicate n false) ≡ n
length_none zero = refl
length_none (suc n) = ap (λ k. suc k) (length_none n)

set_here : (xs : List Bool) (i : ℕ) → i < length xs → is_put (set xs i true) i ≡ true
set_here [] i low = absurd (omega (arith, low))
set_here (x ∷ xs) zero low = refl
set_here (x ∷ xs) (suc i) low = set_here xs i (omega (arith, low))

set_there : (xs : List Bool) (i k : ℕ) → is_put xs k ≡ true → is_put (set xs i true) k ≡ true
set_there [] i k h = h
set_there (x ∷ xs) zero zero h = refl
set_there (x ∷ xs) zero (suc k) h = h
set_there (x ∷ xs) (suc i) zero h = h
set_there (x ∷ xs) (suc i) (suc k) h = set_there xs i k h

set_cases : (xs : List Bool) (i k : ℕ) → is_put (set xs i true) k ≡ true → (i ≡ k) ⊎ (is_put xs k ≡ true)
set_cases [] i k h = inr h
set_cases (x ∷ xs) zero zero h = inl refl
set_cases (x ∷ xs) zero (suc k) h = inr h
set_cases (x ∷ xs) (suc i) zero h = inr h
set_cases (x ∷ xs) (suc i) (suc k) h = elim (set_cases xs i k h) as (λ _. (suc i ≡ suc k) ⊎ (is_put xs k ≡ true)) [ inl e ↦ inl (ap (λ n. suc n) e) | inr old ↦ inr old ]

unset : (xs : List Bool) (i k : ℕ) → is_put (set xs i true) k ≡ false → is_put xs k ≡ false
unset xs i k h = elim (cases_Bool (is_put xs k)) as (λ _. is_put xs k ≡ false) [ inl was_set ↦ absurd (not_both _ (set_there xs i k was_set) h) | inr free ↦ free ]

none_taken : (n k : ℕ) → is_put (replicate n false) k ≡ false
none_taken zero k = refl
none_taken (suc n) zero = refl
none_taken (suc n) (suc k) = none_taken n k

module _ (spans : List Span) (fair : AreFair spans) (apart : AreSpansApart spans) where
  abbrev span : ℕ → Span
  span m = span_at spans m

  pub line_none : IsPartlyLined spans (replicate (length spans) false) [] 0 0
  line_none = record {
    same = length_none (length spans);
    low = λ m low free. (omega arith, omega arith);
    each = λ i low. absurd (omega (arith, low));
    whole = λ m low was_set. absurd (not_both _ was_set (none_taken (length spans) m));
    come_in_turn = λ i j le low. absurd (omega (arith, low));
    go_in_turn = λ i j le low. absurd (omega (arith, low));
    last = λ i low. absurd (omega (arith, low));
    apart = λ i j low_i low_j is. absurd (omega (arith, low_i));
    passes = omega arith;
    soon = omega arith;
  }

  module _ (taken : List Bool) (turn : List Span) (from leaving : ℕ) (line : IsPartlyLined spans taken turn from leaving) where
    -- one more span, before which nothing else has to come
    module _ (c : ℕ) (inside : c < length spans) (new : is_put taken c ≡ false)
        (first : (m : ℕ) → m < length spans → is_put taken m ≡ false → ((span c).from ≤ (span m).entered) × ((span c).leaving ≤ (span m).left)) (f l : ℕ) (f_is : f ≡ max from (span c).from) (l_is : l ≡ max leaving (span c).leaving) where
      abbrev one : Span
      one = moved_span (span c) f l

      abbrev more : List Span
      more = turn ++ one ∷ []

      one_moved : IsMovedSpan (span c) one
      one_moved =
          let a = line.low c inside new in
          let b = first c inside new in
          let d = line.passes in
          let e = (fair c inside).passes in
          let g = line.soon in
          let h = (fair c inside).soon in
          record {
            place = refl;
            dequeue = refl;
            from = omega (arith, f_is);
            entered = omega (arith, f_is, a.0, b.0);
            leaving = omega (arith, l_is);
            left = omega (arith, l_is, a.1, b.1);
            passes = omega (arith, f_is, l_is, d, e);
            soon = omega (arith, f_is, g, h);
          }

      old_moved : (m i : ℕ) → i < length turn → IsMovedSpan (span m) (span_at turn i) → IsMovedSpan (span m) (span_at more i)
      old_moved m i low is = subst (λ s. IsMovedSpan (span m) s) (sym (span_front turn one i low)) is

      in_turn_by : (g : Span → ℕ) → ((i j : ℕ) → i ≤ j → j < length turn → g (span_at turn i) ≤ g (span_at turn j)) → ((i : ℕ) → i < length turn → g (span_at turn i) ≤ g one) → (i j : ℕ) → i ≤ j → j < length more → g (span_at more i) ≤ g (span_at more j)
      in_turn_by g rise last i j le low = elim (index_cases turn one j low) as (λ _. g (span_at more i) ≤ g (span_at more j)) [
        | inl old ↦
            let i_low : i < length turn = omega (arith, le, old.0) in
            let h = rise i j le old.0 in
            let a = ap g (span_front turn one i i_low) in
            let b = ap g old.1 in
            omega (arith, h, a, b)
        | inr end ↦ elim (index_cases turn one i (omega (arith, le, low))) as (λ _. g (span_at more i) ≤ g (span_at more j)) [
          | inl old ↦
              let h = last i old.0 in
              let a = ap g old.1 in
              let b = ap g end.1 in
              omega (arith, h, a, b)
          | inr both ↦
              let a = ap g both.1 in
              let b = ap g end.1 in
              omega (arith, a, b)
        ]
      ]

      new_apart : (i : ℕ) → i < length turn → (span_at turn i).place ≡ (span c).place → ⊥
      new_apart i low is =
          let r = line.each i low in
          let same : r.0 ≡ c = apart r.0 c r.1 inside (sym r.3.place ∙ is) in
          not_both _ (subst (λ m. is_put taken m ≡ true) same r.2) new

      pub line_push : IsPartlyLined spans (set taken c true) more f l
      line_push = record {
        same = length_set taken c true ∙ line.same;
        low = λ m low free.
            let was = unset taken c m free in
            let a = line.low m low was in
            let b = first m low was in
            (omega (arith, f_is, a.0, b.0), omega (arith, l_is, a.1, b.1));
        each = λ i low. elim (index_cases turn one i low) as (λ _. (m : ℕ) × (m < length spans) × (is_put (set taken c true) m ≡ true) × IsMovedSpan (span m) (span_at more i)) [
          | inl old ↦ (let r = line.each i old.0 in (r.0, r.1, set_there taken c r.0 r.2, old_moved r.0 i old.0 r.3))
          | inr end ↦ (c, inside, set_here taken c (omega (arith, inside, line.same)), subst (λ s. IsMovedSpan (span c) s) (sym end.1) one_moved)
        ];
        whole = λ m low was_set. elim (set_cases taken c m was_set) as (λ _. (i : ℕ) × (i < length more) × IsMovedSpan (span m) (span_at more i)) [
          | inl e ↦ (length turn, index_last turn one, subst (λ s. IsMovedSpan (span m) s) (sym (span_last turn one)) (subst (λ k. IsMovedSpan (span k) one) e one_moved))
          | inr old ↦ (let r = line.whole m low old in (r.0, index_front turn one r.0 r.1, old_moved m r.0 r.1 r.2))
        ];
        come_in_turn = in_turn_by (λ s. s.from) line.come_in_turn (λ i low. let a = (line.last i low).0 in omega (arith, a, f_is));
        go_in_turn = in_turn_by (λ s. s.leaving) line.go_in_turn (λ i low. let a = (line.last i low).1 in omega (arith, a, l_is));
        last = λ i low. elim (index_cases turn one i low) as (λ _. ((span_at more i).from ≤ f) × ((span_at more i).leaving ≤ l)) [
          | inl old ↦ (let a = line.last i old.0 in let b = ap (λ s. s.from) old.1 in let d = ap (λ s. s.leaving) old.1 in (omega (arith, a.0, b, f_is), omega (arith, a.1, d, l_is)))
          | inr end ↦ (let b = ap (λ s. s.from) end.1 in let d = ap (λ s. s.leaving) end.1 in (omega (arith, b), omega (arith, d)))
        ];
        apart = λ i j low_i low_j is. elim (index_cases turn one i low_i) as (λ _. i ≡ j) [
          | inl a ↦ elim (index_cases turn one j low_j) as (λ _. i ≡ j) [
            | inl b ↦ line.apart i j a.0 b.0 (sym (ap (λ s. s.place) a.1) ∙ is ∙ ap (λ s. s.place) b.1)
            | inr b ↦ absurd (new_apart i a.0 (sym (ap (λ s. s.place) a.1) ∙ is ∙ ap (λ s. s.place) b.1))
          ]
          | inr a ↦ elim (index_cases turn one j low_j) as (λ _. i ≡ j) [
            | inl b ↦ absurd (new_apart j b.0 (sym (ap (λ s. s.place) b.1) ∙ sym is ∙ ap (λ s. s.place) a.1))
            | inr b ↦ a.0 ∙ sym b.0
          ]
        ];
        passes = one_moved.passes;
        soon = one_moved.soon;
      }

    -- nothing is left
    pub line_all : ((m : ℕ) → m < length spans → is_put taken m ≡ true) → IsLined spans turn
    line_all all = record {
      each = λ i low. let r = line.each i low in (r.0, r.1, r.3);
      whole = λ m low. line.whole m low (all m low);
      come_in_turn = line.come_in_turn;
      go_in_turn = line.go_in_turn;
      apart = line.apart;
    }

-- the entries in front of a number are taken
pub passed_none : (taken : List Bool) (entries : List (ℕ × ℕ)) → ArePassed taken entries 0
passed_none taken entries = λ k low in_it. absurd (omega (arith, low))

pub passed_more : (taken : List Bool) (entries : List (ℕ × ℕ)) (n : ℕ) → is_put taken (key_entry_at entries n).1 ≡ true → ArePassed taken entries n → ArePassed taken entries (n + 1)
passed_more taken entries n was_set passed = λ k low in_it. elim (cases_lt k n) as (λ _. is_put taken (key_entry_at entries k).1 ≡ true) [
  | inl lt ↦ passed k lt in_it
  | inr ge ↦ (let same : n ≡ k = omega (arith, low, ge) in subst (λ i. is_put taken (key_entry_at entries i).1 ≡ true) same was_set)
]

pub passed_set : (taken : List Bool) (entries : List (ℕ × ℕ)) (n c : ℕ) → ArePassed taken entries n → ArePassed (set taken c true) entries n
passed_set taken entries n c passed = λ k low in_it. set_there taken c (key_entry_at entries k).1 (passed k low in_it)

pub passed_taken : (taken : List Bool) (entries : List (ℕ × ℕ)) (n c : ℕ) → c < length taken → (key_entry_at entries n).1 ≡ c → ArePassed taken entries n → ArePassed (set taken c true) entries (n + 1)
passed_taken taken entries n c inside is passed = passed_more (set taken c true) entries n (subst (λ i. is_put (set taken c true) i ≡ true) (sym is) (set_here taken c inside)) (passed_set taken entries n c passed)

module _ (g : Span → ℕ) (spans : List Span) (entries : List (ℕ × ℕ)) (sorted : AreSortedKeys (map g spans) entries) (taken : List Bool) (n : ℕ) (passed : ArePassed taken entries n) where
  pub entry_inside : (k : ℕ) → k < length entries → (key_entry_at entries k).1 < length spans
  entry_inside k low = let a = (sorted.each k low).0 in let b = length_map g spans in omega (arith, a, b)

  -- what is not taken has free lesser key
  pub least : n < length entries → (m : ℕ) → m < length spans → is_put taken m ≡ false → g (span_at spans (key_entry_at entries n).1) ≤ g (span_at spans m)
  least low m inside free =
      let r = sorted.whole m (let b = length_map g spans in omega (arith, inside, b)) in
      let a = (sorted.each n low).1 ∙ key_at g no_span spans (key_entry_at entries n).1 (entry_inside n low) in
      let b : (key_entry_at entries r.0).0 ≡ g (span_at spans m) = (sorted.each r.0 r.1).1 ∙ ap (λ i. get_or (map g spans) i 0) r.2 ∙ key_at g no_span spans m inside in
      elim (cases_lt r.0 n) as (λ _. g (span_at spans (key_entry_at entries n).1) ≤ g (span_at spans m)) [
        | inl lt ↦ absurd (not_both _ (subst (λ i. is_put taken i ≡ true) r.2 (passed r.0 lt r.1)) free)
        | inr ge ↦ (let h = sorted.rise n r.0 ge r.1 in omega (arith, h, a, b))
      ]

  pub all_passed : length entries ≤ n → (m : ℕ) → m < length spans → is_put taken m ≡ true
  all_passed end m inside =
      let r = sorted.whole m (let b = length_map g spans in omega (arith, inside, b)) in
      subst (λ i. is_put taken i ≡ true) r.2 (passed r.0 (omega (arith, end, r.1)) r.1)

module _ (spans : List Span) (fair : AreFair spans) (apart : AreSpansApart spans) (entered left : List (ℕ × ℕ)) (by_entered : AreSortedKeys (map (λ s. s.entered) spans) entered) (by_left : AreSortedKeys (map (λ s. s.left) spans) left) where
  pub taking_none : IsTaking spans entered left (replicate (length spans) false) [] 0 0 0 0
  taking_none = record {
    line = line_none spans fair apart;
    firsts = passed_none (replicate (length spans) false) entered;
    seconds = passed_none (replicate (length spans) false) left;
  }

  pub inside_entered : (k : ℕ) → k < length entered → (key_entry_at entered k).1 < length spans
  inside_entered k low = let a = (by_entered.each k low).0 in let b = length_map (λ (s : Span). s.entered) spans in omega (arith, a, b)

  pub inside_left : (k : ℕ) → k < length left → (key_entry_at left k).1 < length spans
  inside_left k low = let a = (by_left.each k low).0 in let b = length_map (λ (s : Span). s.left) spans in omega (arith, a, b)

  module _ (taken : List Bool) (turn : List Span) (from leaving early late : ℕ) (so : IsTaking spans entered left taken turn from leaving early late) where
    pub taking_all : (length entered ≤ early) ⊎ (length left ≤ late) → IsLined spans turn
    taking_all end = line_all spans fair apart taken turn from leaving so.line (λ m inside. elim end as (λ _. is_put taken m ≡ true) [
      | inl a ↦ all_passed (λ s. s.entered) spans entered by_entered taken early so.firsts a m inside
      | inr b ↦ all_passed (λ s. s.left) spans left by_left taken late so.seconds b m inside
    ])

    module _ (first second : ℕ) (low : early < length entered) (low_left : late < length left) (first_is : first ≡ (key_entry_at entered early).1) (second_is : second ≡ (key_entry_at left late).1) (f l : ℕ) where
      least_entered : (m : ℕ) → m < length spans → is_put taken m ≡ false → (span_at spans first).entered ≤ (span_at spans m).entered
      least_entered m inside free = subst (λ k. (span_at spans k).entered ≤ (span_at spans m).entered) (sym first_is) (least (λ s. s.entered) spans entered by_entered taken early so.firsts low m inside free)

      least_left : (m : ℕ) → m < length spans → is_put taken m ≡ false → (span_at spans second).left ≤ (span_at spans m).left
      least_left m inside free = subst (λ k. (span_at spans k).left ≤ (span_at spans m).left) (sym second_is) (least (λ s. s.left) spans left by_left taken late so.seconds low_left m inside free)

      first_inside : first < length spans
      first_inside = subst (λ k. k < length spans) (sym first_is) (inside_entered early low)

      second_inside : second < length spans
      second_inside = subst (λ k. k < length spans) (sym second_is) (inside_left late low_left)

      pub take_first : is_put taken first ≡ false → (span_at spans first).leaving ≤ (span_at spans second).left → f ≡ max from (span_at spans first).from → l ≡ max leaving (span_at spans first).leaving
          → IsTaking spans entered left (set taken first true) (turn ++ moved_span (span_at spans first) f l ∷ []) f l (early + 1) late
      take_first new due f_is l_is = record {
        line = line_push spans fair apart taken turn from leaving so.line first first_inside new (λ m inside free.
            let a = least_entered m inside free in
            let b = least_left m inside free in
            let d = (fair first first_inside).enters in
            (omega (arith, a, d), omega (arith, b, due))) f l f_is l_is;
        firsts = passed_taken taken entered early first (subst (λ n. first < n) (sym so.line.same) first_inside) (sym first_is) so.firsts;
        seconds = passed_set taken left late first so.seconds;
      }

      pub take_second : is_put taken second ≡ false → (span_at spans second).from ≤ (span_at spans first).entered → f ≡ max from (span_at spans second).from → l ≡ max leaving (span_at spans second).leaving
          → IsTaking spans entered left (set taken second true) (turn ++ moved_span (span_at spans second) f l ∷ []) f l early (late + 1)
      take_second new due f_is l_is = record {
        line = line_push spans fair apart taken turn from leaving so.line second second_inside new (λ m inside free.
            let a = least_entered m inside free in
            let b = least_left m inside free in
            let d = (fair second second_inside).leaves in
            (omega (arith, a, due), omega (arith, b, d))) f l f_is l_is;
        firsts = passed_set taken entered early second so.firsts;
        seconds = passed_taken taken left late second (subst (λ n. second < n) (sym so.line.same) second_inside) (sym second_is) so.seconds;
      }
