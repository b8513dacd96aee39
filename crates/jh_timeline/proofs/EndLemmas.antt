-- Which lanes are free: one released, one taken, one held.
use Rattle.std.proofs.Common.{◌≡◌, ℕ, ◌+◌, ◌<◌, ◌≤◌, Bool, true, false, cond, eqb, List, [], ◌∷◌, ◌++◌, length, take, get_or, refl, sym, ap, subst, ◌∙◌, arith, is_eq, ltb, set, length-append, length-set, get_or-set_same, get_or-set_other}
use Rattle.std.specs.Prelude.{All}
use Rattle.std.specs.List.{list_any}
use Rattle.std.specs.declared.cmp.Ordering.{Ordering}
use Rattle.std.specs.Ordering.{nat_cmp, ordering_then, is_gt}
use Rattle.std.specs.declared.cmp.Ordering.TheVariants.{Less, Equal, Greater}
use Rattle.std.specs.BTreeMap.{BTreeMap, get, is_at}
use Rattle.std.specs.BTreeSet as sets
use Rattle.std.specs.BTreeSet.{BTreeSet, contains}
use Rattle.std.proofs.lemmas.Bool.Decides.{nat_tests}
use Rattle.std.proofs.lemmas.List.{get_or_append_left}
use Rattle.std.proofs.Math.Seq.{get_or-append_seam}
use Rattle.jh_timeline.specs.LanesInside.{AreCallsInOrder, TakesOrKeepsLane, AreHeld, AreKept, IsFirst, IsPopped, is_busy, pair_cmp, lane_ends_with}
use Rattle.jh_timeline.proofs.LaneLemmas.{Laned, all_snoc}
use Rattle.jh_timeline.proofs.CallOrderLemmas.{all_follow, any_default, laned_more}
use Rattle.jh_timeline.specs.declared.lanes.Ends.{Ends}
use Rattle.jh_timeline.specs.declared.picture.Bar.{Bar}
use Rattle.jh_timeline.specs.declared.picture.Call.{Call}

-- ---- pairs

both_equal : (o p : Ordering) → is_eq (ordering_then o p) ≡ true → (is_eq o ≡ true) × (is_eq p ≡ true)
both_equal Less p e = absurd (cc)
both_equal Equal p e = (refl, e)
both_equal Greater p e = absurd (cc)

nat_equal : (x y : ℕ) → is_eq (nat_cmp x y) ≡ true → x ≡ y
nat_equal x y e = grind (arith, nat_tests)

nat_apart : (x y : ℕ) → (x ≡ y → ⊥) → is_eq (nat_cmp x y) ≡ false
nat_apart x y apart = grind (arith, nat_tests)

same_pair : (a b : ℕ × ℕ) → is_eq (pair_cmp a b) ≡ true → (a.0 ≡ b.0) × (a.1 ≡ b.1)
same_pair a b e = let both = both_equal (nat_cmp a.0 b.0) (nat_cmp a.1 b.1) e in (nat_equal a.0 b.0 both.0, nat_equal a.1 b.1 both.1)

either : (t : Bool) (P : Type 0) → (t ≡ true → P) → (t ≡ false → P) → P
either true P h k = h refl
either false P h k = k refl

not_both : (t : Bool) → t ≡ true → t ≡ false → ⊥
not_both t is isnt = absurd (cc)

apart_pair : (a b : ℕ × ℕ) → (b.1 ≡ a.1 → ⊥) → is_eq (pair_cmp a b) ≡ false
apart_pair a b apart = either (is_eq (pair_cmp a b)) (is_eq (pair_cmp a b) ≡ false) (λ yes. absurd (apart (sym (same_pair a b yes).1))) (λ no. no)

not_after : (o p : Ordering) → is_gt (ordering_then o p) ≡ false → is_gt o ≡ false
not_after Less p e = refl
not_after Equal p e = refl
not_after Greater p e = e

not_above : (x y : ℕ) → is_gt (nat_cmp x y) ≡ false → x ≤ y
not_above x y e = grind (arith, nat_tests)

-- ---- one released

-- the lanes that are busy are held, where the first of them is
pub held_from : (busy : BTreeSet (ℕ × ℕ)) (first : ℕ × ℕ) (index : ℕ) → sets.IsLowerBound pair_cmp busy first → index ≤ first.0 → AreHeld busy index
held_from busy first index least late = λ last lane is.
    let low : first.0 ≤ last = not_above first.0 last (not_after (nat_cmp first.0 last) (nat_cmp first.1 lane) (least (last, lane) is)) in
    omega (arith, low, late)

pub held_empty : (busy : BTreeSet (ℕ × ℕ)) (index : ℕ) → busy.keys ≡ [] → AreHeld busy index
held_empty busy index none = λ last lane is.
    let never : contains pair_cmp busy (last, lane) ≡ false = ap (λ ks. list_any (is_at (pair_cmp (last, lane))) ks) none in
    absurd (not_both (contains pair_cmp busy (last, lane)) is never)

-- what a set has behind a removal, it had before
still : {K : Type 0} (cmp : K → K → Ordering) (old new : BTreeSet K) (gone q : K) (t : Bool) → is_eq (cmp gone q) ≡ t
    → contains cmp new q ≡ cond t false (contains cmp old q) → contains cmp new q ≡ true → (t ≡ false) × (contains cmp old q ≡ true)
still cmp old new gone q true is e has = absurd (cc)
still cmp old new gone q false is e has = (refl, sym e ∙ has)

-- what a set has behind an insertion is new or was there before
had : {K : Type 0} (cmp : K → K → Ordering) (old new : BTreeSet K) (added q : K) (t : Bool) (P : Type 0) → is_eq (cmp added q) ≡ t
    → contains cmp new q ≡ cond t true (contains cmp old q) → contains cmp new q ≡ true → (is_eq (cmp added q) ≡ true → P) → (contains cmp old q ≡ true → P) → P
had cmp old new added q true P is e has h k = h is
had cmp old new added q false P is e has h k = k (sym e ∙ has)

-- what it lacks, it lacked before, and is not the new one
lacked : {K : Type 0} (cmp : K → K → Ordering) (old new : BTreeSet K) (added q : K) (t : Bool) → is_eq (cmp added q) ≡ t
    → contains cmp new q ≡ cond t true (contains cmp old q) → contains cmp new q ≡ false → (is_eq (cmp added q) ≡ false) × (contains cmp old q ≡ false)
lacked cmp old new added q true is e lacks = absurd (cc)
lacked cmp old new added q false is e lacks = (is, sym e ∙ lacks)

apart_test : (a b : ℕ) → eqb a b ≡ false → a ≡ b → ⊥
apart_test a b other same = grind (arith, nat_tests)

same_one : (a : ℕ) → is_eq (nat_cmp a a) ≡ true
same_one a = grind (arith, nat_tests)

differs : (a b : ℕ) → is_eq (nat_cmp a b) ≡ false → b ≡ a → ⊥
differs a b other same = not_both (is_eq (nat_cmp a b)) (subst (λ z. is_eq (nat_cmp a z) ≡ true) (sym same) (same_one a)) other

pub kept_freed : (ends next : Ends) (index : ℕ) (freed : ℕ × ℕ) → AreKept ends index (length ends.until.items) → IsPopped ends.busy next.busy index freed
    → next.until ≡ ends.until → sets.Updates nat_cmp ends.free next.free freed.1 true → AreKept next index (length next.until.items)
kept_freed ends next index freed kept popped same updates =
    let longs : next.until.items ≡ ends.until.items = ap (λ u. u.items) same in
    let was = kept.busy freed.0 freed.1 popped.had in
    let long : length next.until.items ≡ length ends.until.items = ap length longs in
    record {
      known = λ lane below apart no.
          let before = lacked nat_cmp ends.free next.free freed.1 lane (is_eq (nat_cmp freed.1 lane)) refl (updates.0 lane) no in
          let other : lane ≡ freed.1 → ⊥ = differs freed.1 lane before.0 in
          let below_old : lane < length ends.until.items = subst (λ n. lane < n) long below in
          popped.updates.2 (get_or next.until.items lane 0, lane) (apart_pair freed (get_or next.until.items lane 0, lane) other)
          ∙ ap (λ us. is_busy ends.busy (get_or us lane 0) lane) longs
          ∙ kept.known lane below_old (λ e. apart (e ∙ sym long)) before.1;
      free = λ lane yes.
          had nat_cmp ends.free next.free freed.1 lane (is_eq (nat_cmp freed.1 lane)) ((lane < length next.until.items) × (get_or next.until.items lane 0 < index) × (lane ≡ length next.until.items → ⊥)) refl (updates.0 lane) yes
          (λ is. let one : freed.1 ≡ lane = nat_equal freed.1 lane is in
          let below : lane < length next.until.items = subst (λ n. lane < n) (sym long) (subst (λ n. n < length ends.until.items) one was.0) in
          let last : get_or next.until.items lane 0 ≡ freed.0 = ap (λ us. get_or us lane 0) longs ∙ ap (λ n. get_or ends.until.items n 0) (sym one) ∙ was.1 in
          let ended = popped.ended in
          (below, subst (λ n. n < index) (sym last) ended, λ e. omega (arith, below, e)))
          (λ old. let before = kept.free lane old in
          let below : lane < length next.until.items = subst (λ n. lane < n) (sym long) before.0 in
          (below, subst (λ us. get_or us lane 0 < index) (sym longs) before.1, λ e. omega (arith, below, e)));
      busy = λ last lane yes.
          let before = still pair_cmp ends.busy next.busy freed (last, lane) (is_eq (pair_cmp freed (last, lane))) refl (popped.updates.0 (last, lane)) yes in
          let old = kept.busy last lane before.1 in
          let below : lane < length next.until.items = subst (λ n. lane < n) (sym long) old.0 in
          (below, ap (λ us. get_or us lane 0) longs ∙ old.1, λ e. omega (arith, below, e));
    }

-- ---- one taken

lowest : (free : BTreeSet ℕ) (lane lower : ℕ) → sets.IsLowerBound nat_cmp free lane → lower < lane → contains nat_cmp free lower ≡ false
lowest free lane lower least below =
    either (contains nat_cmp free lower) (contains nat_cmp free lower ≡ false)
    (λ yes. let low : lane ≤ lower = not_above lane lower (least lower yes) in absurd (omega (arith, below, low))) (λ no. no)

pub first_free : (ends : Ends) (index lane : ℕ) → AreKept ends index (length ends.until.items) → AreHeld ends.busy index
    → contains nat_cmp ends.free lane ≡ true → sets.IsLowerBound nat_cmp ends.free lane → IsFirst ends.until.items index lane
first_free ends index lane kept held is least =
    let found = kept.free lane is in
    let below = found.0 in
    record {
      within = omega (arith, below);
      free = λ _. found.1;
      first = λ lower low.
          held (get_or ends.until.items lower 0) lower
          (kept.known lower (omega (arith, low, below)) (λ e. omega (arith, low, below, e)) (lowest ends.free lane lower least low));
    }

pub first_new : (ends : Ends) (index : ℕ) → AreKept ends index (length ends.until.items) → AreHeld ends.busy index
    → ends.free.keys ≡ [] → IsFirst ends.until.items index (length ends.until.items)
first_new ends index kept held none = record {
  within = omega arith;
  free = λ below. omega (arith, below);
  first = λ lower low.
      held (get_or ends.until.items lower 0) lower
      (kept.known lower low (λ e. omega (arith, low, e)) (ap (λ ks. list_any (is_at (nat_cmp lower)) ks) none));
}

pub kept_taken : (ends next : Ends) (index lane : ℕ) → AreKept ends index (length ends.until.items) → AreHeld ends.busy index
    → next.until ≡ ends.until → next.busy ≡ ends.busy → contains nat_cmp ends.free lane ≡ true → sets.Updates nat_cmp ends.free next.free lane false → AreKept next index lane
kept_taken ends next index lane kept held same busy is updates =
    let longs : next.until.items ≡ ends.until.items = ap (λ u. u.items) same in
    let found = kept.free lane is in
    let early = found.1 in
    record {
      known = λ other below apart no.
          let below_old : other < length ends.until.items = subst (λ us. other < length us) longs below in
          ap (λ b. is_busy b (get_or next.until.items other 0) other) busy ∙ ap (λ us. is_busy ends.busy (get_or us other 0) other) longs
          ∙ kept.known other below_old (λ e. omega (arith, below_old, e)) (sym (updates.2 other (nat_apart lane other (λ e. apart (sym e)))) ∙ no);
      free = λ other yes.
          let before = still nat_cmp ends.free next.free lane other (is_eq (nat_cmp lane other)) refl (updates.0 other) yes in
          let old = kept.free other before.1 in
          (subst (λ us. other < length us) (sym longs) old.0, subst (λ us. get_or us other 0 < index) (sym longs) old.1, differs lane other before.0);
      busy = λ last other yes.
          let before : is_busy ends.busy last other ≡ true = ap (λ b. is_busy b last other) (sym busy) ∙ yes in
          let old = kept.busy last other before in
          let late = held last other before in (
            subst (λ us. other < length us) (sym longs) old.0,
            ap (λ us. get_or us other 0) longs ∙ old.1,
            λ e. let same_last : get_or ends.until.items lane 0 ≡ last = ap (λ n. get_or ends.until.items n 0) (sym e) ∙ old.1 in omega (arith, early, late, same_last),
          );
    }

-- nothing but the memory of an empty set changed
pub kept_alike : (ends next : Ends) (index lane : ℕ) → AreKept ends index lane → next.until ≡ ends.until → next.busy ≡ ends.busy → next.free.keys ≡ ends.free.keys → AreKept next index lane
kept_alike ends next index lane kept same busy free =
    let longs : next.until.items ≡ ends.until.items = ap (λ u. u.items) same in
    record {
      known = λ other below apart no.
          ap (λ b. is_busy b (get_or next.until.items other 0) other) busy ∙ ap (λ us. is_busy ends.busy (get_or us other 0) other) longs
          ∙ kept.known other (subst (λ us. other < length us) longs below) apart (ap (λ ks. list_any (is_at (nat_cmp other)) ks) (sym free) ∙ no);
      free = λ other yes.
          let old = kept.free other (ap (λ ks. list_any (is_at (nat_cmp other)) ks) (sym free) ∙ yes) in
          (subst (λ us. other < length us) (sym longs) old.0, subst (λ us. get_or us other 0 < index) (sym longs) old.1, old.2);
      busy = λ last other yes.
          let old = kept.busy last other (ap (λ b. is_busy b last other) (sym busy) ∙ yes) in
          (subst (λ us. other < length us) (sym longs) old.0, ap (λ us. get_or us other 0) longs ∙ old.1, old.2);
    }

-- ---- one held

record IsLonger (ends longer : List ℕ) (lane last : ℕ) : Type 0 where
  inside : lane < length longer
  here : get_or longer lane 0 ≡ last
  below : (n : ℕ) → n < length ends → n < length longer
  there : (n : ℕ) → (n ≡ lane → ⊥) → n < length ends → get_or longer n 0 ≡ get_or ends n 0
  back : (n : ℕ) → (n ≡ lane → ⊥) → n < length longer → n < length ends

test_is : (a b : ℕ) → ltb a b ≡ true → a < b
test_is a b e = grind (arith, nat_tests)

test_not : (a b : ℕ) → ltb a b ≡ false → b ≤ a
test_not a b e = grind (arith, nat_tests)

longer_is : (t : Bool) (ends : List ℕ) (lane last : ℕ) → ltb lane (length ends) ≡ t → lane ≤ length ends → IsLonger ends (cond t (set ends lane last) (ends ++ last ∷ [])) lane last
longer_is true ends lane last is within =
    let low : lane < length ends = test_is lane (length ends) is in
    let long : length (set ends lane last) ≡ length ends = length-set ends lane last in
    record {
      inside = omega (arith, low, long);
      here = get_or-set_same ends lane last 0 low;
      below = λ n h. omega (arith, h, long);
      there = λ n apart h. get_or-set_other ends lane n last 0 apart;
      back = λ n apart h. omega (arith, h, long);
    }
longer_is false ends lane last is within =
    let high : length ends ≤ lane = test_not lane (length ends) is in
    let at : lane ≡ length ends = omega (arith, within, high) in
    let long : length (ends ++ last ∷ []) ≡ length ends + 1 = length-append ends (last ∷ []) in
    record {
      inside = omega (arith, at, long);
      here = ap (λ n. get_or (ends ++ last ∷ []) n 0) at ∙ get_or-append_seam ends last [] 0;
      below = λ n h. omega (arith, h, long);
      there = λ n apart h. get_or_append_left ends (last ∷ []) 0 n h;
      back = λ n apart h.
          either (ltb n (length ends)) (n < length ends) (λ yes. test_is n (length ends) yes)
          (λ no. let above : length ends ≤ n = test_not n (length ends) no in let one : n ≡ lane = omega (arith, above, h, long, at) in absurd (apart one));
    }

pub kept_held : (ends next : Ends) (index lane last : ℕ) → lane ≤ length ends.until.items → AreKept ends index lane
    → next.until.items ≡ lane_ends_with ends.until.items lane last → next.free ≡ ends.free → sets.Updates pair_cmp ends.busy next.busy (last, lane) true
    → AreKept next index (length next.until.items)
kept_held ends next index lane last within kept grown free updates =
    let olds = ends.until.items in
    let news = next.until.items in
    let longer : IsLonger olds news lane last = subst (λ us. IsLonger olds us lane last) (sym grown) (longer_is (ltb lane (length olds)) olds lane last refl within) in
    record {
      known = λ n below _ no.
          either (eqb n lane) (is_busy next.busy (get_or news n 0) n ≡ true)
          (λ yes. let one : n ≡ lane = grind (arith, nat_tests) in
          ap (λ m. is_busy next.busy (get_or news m 0) m) one ∙ ap (λ m. is_busy next.busy m lane) longer.here ∙ updates.1)
          (λ other. let apart : n ≡ lane → ⊥ = λ e. apart_test n lane other e in
          ap (λ m. is_busy next.busy m n) (longer.there n apart (longer.back n apart below)) ∙ updates.2 (get_or olds n 0, n) (apart_pair (last, lane) (get_or olds n 0, n) apart)
          ∙ kept.known n (longer.back n apart below) apart (ap (λ f. contains nat_cmp f n) (sym free) ∙ no));
      free = λ n yes.
          let old = kept.free n (ap (λ f. contains nat_cmp f n) (sym free) ∙ yes) in
          let below = longer.below n old.0 in
          (below, subst (λ m. m < index) (sym (longer.there n old.2 old.0)) old.1, λ e. omega (arith, below, e));
      busy = λ l n yes.
          had pair_cmp ends.busy next.busy (last, lane) (l, n) (is_eq (pair_cmp (last, lane) (l, n))) ((n < length news) × (get_or news n 0 ≡ l) × (n ≡ length news → ⊥)) refl (updates.0 (l, n)) yes
          (λ is. let same = same_pair (last, lane) (l, n) is in
          let below : n < length news = subst (λ m. m < length news) same.1 longer.inside in
          (below, ap (λ m. get_or news m 0) (sym same.1) ∙ longer.here ∙ same.0, λ e. omega (arith, below, e)))
          (λ before. let old = kept.busy l n before in
          let below = longer.below n old.0 in
          (below, longer.there n old.2 old.0 ∙ old.1, λ e. omega (arith, below, e)));
    }

pub kept_later : (ends : Ends) (index later but : ℕ) → index ≤ later → AreKept ends index but → AreKept ends later but
kept_later ends index later but late kept = record {
  known = kept.known;
  free = λ lane yes. let old = kept.free lane yes in let early = old.1 in (old.0, omega (arith, early, late), old.2);
  busy = kept.busy;
}

pub kept_none : (ends : Ends) (index : ℕ) → ends.until.items ≡ [] → ends.busy.keys ≡ [] → ends.free.keys ≡ [] → AreKept ends index (length ends.until.items)
kept_none ends index until busy free =
    let none : length ends.until.items ≡ 0 = ap length until in
    record {
      known = λ lane below _ _. absurd (let wrong : ⊥ = omega (arith, none, below) in wrong);
      free = λ lane yes. absurd (not_both (contains nat_cmp ends.free lane) yes (ap (λ ks. list_any (is_at (nat_cmp lane)) ks) free));
      busy = λ last lane yes. absurd (not_both (is_busy ends.busy last lane) yes (ap (λ ks. list_any (is_at (pair_cmp (last, lane))) ks) busy));
    }

-- ---- bars

-- what is kept of the bars of these calls, and of their lanes
pub record Going (held : BTreeMap ℕ ℕ) (ends : Ends) (bars : List Bar) (done : List Call) : Type 0 where
  pub laned : Laned (get nat_cmp held) ends.until.items bars done
  pub kept : (index : ℕ) → All (λ bar. bar.call.first ≤ index) bars → AreKept ends index (length ends.until.items)

-- lanes are kept at the next call
pub going_here : (held : BTreeMap ℕ ℕ) (ends : Ends) (bars : List Bar) (calls : List Call) (k : ℕ) (d : Call) → AreCallsInOrder calls → k < length calls
    → Going held ends bars (take k calls) → AreKept ends (get_or calls k d).first (length ends.until.items)
going_here held ends bars calls k d order below going =
    let call = get_or calls k d in
    let follows = all_follow calls bars k call order below (any_default calls k d call below) going.laned.calls in
    going.kept call.first (λ j e inside. let one = (follows j e inside).first in omega (arith, one))

pub going_more : (old new : BTreeMap ℕ ℕ) (ends later : Ends) (bars grown : List Bar) (calls : List Call) (k lane : ℕ) (d : Call) → AreCallsInOrder calls → k < length calls
    → TakesOrKeepsLane old new ends.until.items later.until.items (get_or calls k d) lane → AreKept later (get_or calls k d).first (length later.until.items)
    → Going old ends bars (take k calls) → grown ≡ bars ++ record { call = get_or calls k d; lane = lane } ∷ [] → Going new later grown (take (k + 1) calls)
going_more old new ends later bars grown calls k lane d order below takes kept going made =
    let bar : Bar = record { call = get_or calls k d; lane = lane } in
    record {
      laned = laned_more old new ends.until.items later.until.items bars grown calls k lane d order below takes going.laned made;
      kept = λ index all.
          let here = (all_snoc (λ b. b.call.first ≤ index) bars bar (subst (All (λ b. b.call.first ≤ index)) made all)).1 in
          kept_later later (get_or calls k d).first index (length later.until.items) here kept;
    }
