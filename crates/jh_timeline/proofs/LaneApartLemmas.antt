-- Bars of one lane are apart, and the processes that a lane had.
use Rattle.std.proofs.Common.{◌≡◌, ℕ, ◌+◌, ◌<◌, ◌≤◌, Bool, true, false, cond, eqb, List, [], ◌∷◌, ◌++◌, length, take, get_or, map, Option, Some, None, refl, sym, ap, subst, ◌∙◌, arith, ◌⊎◌, inl, inr, append-nil, append_assoc, ltb, leb, length-append}
use Rattle.std.specs.Prelude.{is_none, is_some, not, ◌&&◌, ◌||◌, filter, All, MatchOption, option_map}
use Rattle.std.specs.List.{list_any}
use Rattle.std.specs.Option.{option_or}
use Rattle.std.proofs.lemmas.List.Elements.{filter-append, All-cons, All-nil, All-push, All-head, All-tail}
use Rattle.std.proofs.Math.Bool.{or-false, or-true}
use Rattle.std.specs.Ordering.{nat_cmp}
use Rattle.std.specs.BTreeSet as sets
use Rattle.std.specs.BTreeSet.{BTreeSet}
use Rattle.std.proofs.Math.Nat.{le-max_right}
use Rattle.std.proofs.lemmas.Bool.{eq-eqb}
use Rattle.std.proofs.lemmas.Bool.Decides.{nat_tests}
use Rattle.std.proofs.lemmas.List.{get_or_append_left, map-append, take_more}
use Rattle.std.proofs.Math.Seq.{get_or-append_seam}
use Rattle.jh_ops.specs.Operation.{Operation}
use Rattle.jh_timeline.specs.Lanes.{first_bars, clients_of, lane_clients, AreBarsApart, AreBarsOf, AreKeptApart, first_row_of, last_row_of, IsFirstFree, TakeLanes, TakesLane, first_bar, is_held}
use Rattle.jh_timeline.specs.LanesInside.{AreDrawnInOrder, Follows, FollowsIn}
use Rattle.jh_timeline.specs.declared.picture.Bar.{Bar}
use Rattle.jh_timeline.specs.declared.picture.Call.{Call}
use Rattle.jh_timeline.specs.declared.marks.Mark.{Mark}
use Rattle.jh_timeline.specs.declared.picture.Lane.{Lane}
use Rattle.jh_timeline.specs.declared.picture.Window.{Window}
use Rattle.jh_timeline.proofs.CallLemmas.{differ, equal, missed}
use Rattle.jh_timeline.proofs.LaneLemmas.{first_snoc, found_is, longer, ltb_is, ltb_not}
use Rattle.jh_timeline.proofs.HistoryOrderLemmas.{self_eqb}
use Rattle.jh_timeline.proofs.DrawnLemmas.{drawn_in_order}

-- ---- bars of one lane are apart

-- The processes of two bars in one lane are one, or the one has its last record before the other's bar begins.
abbrev AreDisjoint : Bar → Bar → Type 0
AreDisjoint a b = a.lane ≡ b.lane → (a.call.client ≡ b.call.client → ⊥) → (a.call.last < b.call.first) ⊎ (b.call.last < a.call.first)

-- what is known of bars that took their lanes
record Spread (window : Window) (bars : List Bar) : Type 0 where
  one : All (λ b. option_map (λ x. x.lane) (first_bar b.call.client bars) ≡ Some b.lane) bars
  disjoint : All (λ a. All (AreDisjoint a) bars) bars
  apart : AreBarsApart window bars

-- the process of an earlier bar in the lane of a new one, if it is another, has its last record before
abbrev IsBehind : Bar → Bar → Type 0
IsBehind bar b = b.lane ≡ bar.lane → (b.call.client ≡ bar.call.client → ⊥) → b.call.last < bar.call.first

some_same : (a b : ℕ) → Some a ≡ Some b → a ≡ b
some_same a b e = cc

or_false_parts : (a b : Bool) → a || b ≡ false → (a ≡ false) × (b ≡ false)
or_false_parts true b e = absurd (cc)
or_false_parts false b e = (refl, e)

none_any : (p : Bar → Bool) (bars : List Bar) → list_any p bars ≡ false → All (λ b. p b ≡ false) bars
none_any p [] e = λ k d below. absurd (omega arith)
none_any p (b ∷ bars) e =
    let parts = or_false_parts (p b) (list_any p bars) e in
    All-cons (λ x. p x ≡ false) b bars parts.0 (none_any p bars parts.1)

leb_not : (a b : ℕ) → leb a b ≡ false → b < a
leb_not a b e = grind (arith, nat_tests)

past_test : (a lane index last : ℕ) → (eqb a lane && leb index last) ≡ false → a ≡ lane → last < index
past_test a lane index last e same =
    leb_not index last (sym (ap (λ t. t && leb index last) (eq-eqb a lane same)) ∙ e)

behind_free : (bars : List Bar) (bar : Bar) → is_held bars bar.call.first bar.lane ≡ false → All (IsBehind bar) bars
behind_free bars bar free =
    let none = none_any (λ b. eqb b.lane bar.lane && leb bar.call.first b.call.last) bars free in
    λ k d below same other. past_test (get_or bars k d).lane bar.lane bar.call.first (get_or bars k d).call.last (none k d below) same

behind_one : (first b bar : Bar) → first.call.client ≡ bar.call.client → bar.lane ≡ first.lane → AreDisjoint first b → Follows first.call bar.call → Follows b.call bar.call → IsBehind bar b
behind_one first b bar client lane disjoint follows later same other =
    let order : (first.call.last < b.call.first) ⊎ (b.call.last < first.call.first) =
    disjoint (sym lane ∙ sym same) (λ one. other (sym one ∙ client)) in
    let last : first.call.last ≡ bar.call.last = follows.last client in
    let begin : first.call.first < bar.call.first = follows.first in
    let reach : bar.call.first ≤ bar.call.last = follows.reach in
    let before : b.call.first < bar.call.first = later.first in
    elim order as (λ _. b.call.last < bar.call.first) [ inl early ↦ absurd (omega arith) | inr late ↦ omega arith ]

behind_all : (window : Window) (bars : List Bar) (bar : Bar) (o : Option Bar) → first_bar bar.call.client bars ≡ o
    → MatchOption o (IsFirstFree bars bar.call.first bar.lane) (λ first. bar.lane ≡ first.lane) → Spread window bars → All (λ b. FollowsIn window b.call bar.call) bars → All (IsBehind bar) bars
behind_all window bars bar None is takes spread follows = behind_free bars bar takes.free
behind_all window bars bar (Some first) is takes spread follows =
    let both : All (λ a. All (AreDisjoint a) bars × Follows a.call bar.call) bars = λ k d below. (spread.disjoint k d below, (follows k d below).follows) in
    let found = found_is (λ a. All (AreDisjoint a) bars × Follows a.call bar.call) (λ b. eqb bar.call.client b.call.client) bars first both is in
    let client : first.call.client ≡ bar.call.client = sym (equal bar.call.client first.call.client found.passes) in
    λ k d below. behind_one first (get_or bars k d) bar client takes (found.holds.0 k d below) found.holds.1 (follows k d below).follows

lane_kept : (o p : Option Bar) (lane : ℕ) → option_map (λ x. x.lane) o ≡ Some lane → option_map (λ x. x.lane) (option_or o p) ≡ Some lane
lane_kept None p lane e = absurd (let wrong : None ≡ Some lane = e in cc)
lane_kept (Some b) p lane e = e

lane_taken : (o : Option Bar) (bar : Bar) (P : Type 0) (t : Bool) → t ≡ true → MatchOption o P (λ first. bar.lane ≡ first.lane)
    → option_map (λ x. x.lane) (option_or o (cond t (Some bar) None)) ≡ Some bar.lane
lane_taken None bar P true is takes = refl
lane_taken None bar P false is takes = absurd (cc)
lane_taken (Some first) bar P t is takes = ap (λ n. Some n) (sym takes)

ends_by : (window : Window) (t : Bool) (b bar : Bar) → eqb b.call.client bar.call.client ≡ t → FollowsIn window b.call bar.call → IsBehind bar b → b.lane ≡ bar.lane
    → last_row_of window b.call < first_row_of window bar.call
ends_by window true b bar is follows behind same = follows.ended (equal b.call.client bar.call.client is)
ends_by window false b bar is follows behind same =
    let early : b.call.last < bar.call.first = behind same (λ e. differ b.call.client bar.call.client is e) in
    let within : last_row_of window b.call ≤ b.call.last = follows.within in
    let low : bar.call.first ≤ first_row_of window bar.call = le-max_right window.from bar.call.first in
    omega (arith, early, within, low)

ends_first : (window : Window) (b bar : Bar) → FollowsIn window b.call bar.call → IsBehind bar b → b.lane ≡ bar.lane → last_row_of window b.call < first_row_of window bar.call
ends_first window b bar = ends_by window (eqb b.call.client bar.call.client) b bar refl

apart_at : (window : Window) (t : Bool) (bars : List Bar) (bar : Bar) (j k : ℕ) (d : Bar) → ltb k (length bars) ≡ t → AreBarsApart window bars
    → All (λ b. FollowsIn window b.call bar.call) bars → All (IsBehind bar) bars
    → j < k → k < length bars + 1 → (get_or bars j d).lane ≡ (get_or (bars ++ bar ∷ []) k d).lane
    → last_row_of window (get_or bars j d).call < first_row_of window (get_or (bars ++ bar ∷ []) k d).call
apart_at window true bars bar j k d is apart follows behind before below same =
    let low : k < length bars = ltb_is k (length bars) is in
    let right : get_or (bars ++ bar ∷ []) k d ≡ get_or bars k d = get_or_append_left bars (bar ∷ []) d k low in
    subst (λ b. last_row_of window (get_or bars j d).call < first_row_of window b.call) (sym right) (apart j k d before low (same ∙ ap (λ b. b.lane) right))
apart_at window false bars bar j k d is apart follows behind before below same =
    let high : length bars ≤ k = ltb_not k (length bars) is in
    let at : k ≡ length bars = omega arith in
    let right : get_or (bars ++ bar ∷ []) k d ≡ bar = ap (λ n. get_or (bars ++ bar ∷ []) n d) at ∙ get_or-append_seam bars bar [] d in
    let inside : j < length bars = omega arith in
    subst (λ b. last_row_of window (get_or bars j d).call < first_row_of window b.call) (sym right)
    (ends_first window (get_or bars j d) bar (follows j d inside) (behind j d inside) (same ∙ ap (λ b. b.lane) right))

apart_more : (window : Window) (bars : List Bar) (bar : Bar) → AreBarsApart window bars → All (λ b. FollowsIn window b.call bar.call) bars → All (IsBehind bar) bars
    → AreBarsApart window (bars ++ bar ∷ [])
apart_more window bars bar apart follows behind = λ j k d before below same.
    let long : length (bars ++ bar ∷ []) ≡ length bars + 1 = simp length-append in
    let left : get_or (bars ++ bar ∷ []) j d ≡ get_or bars j d = get_or_append_left bars (bar ∷ []) d j (omega (arith, long)) in
    let shorter : k < length bars + 1 = omega (arith, long) in
    subst (λ b. last_row_of window b.call < first_row_of window (get_or (bars ++ bar ∷ []) k d).call) (sym left)
    (apart_at window (ltb k (length bars)) bars bar j k d refl apart follows behind before shorter (sym (ap (λ b. b.lane) left) ∙ same))

spread_more : (window : Window) (bars : List Bar) (bar : Bar) → Spread window bars → TakesLane bars bar → All (λ b. FollowsIn window b.call bar.call) bars → Spread window (bars ++ bar ∷ [])
spread_more window bars bar spread takes follows =
    let behind = behind_all window bars bar (first_bar bar.call.client bars) refl takes spread follows in
    record {
      one =
          All-push (λ b. option_map (λ x. x.lane) (first_bar b.call.client (bars ++ bar ∷ [])) ≡ Some b.lane) bars bar
          (λ k d below.
          let b = get_or bars k d in
          ap (option_map (λ x. x.lane)) (first_snoc b.call.client bars bar)
          ∙ lane_kept (first_bar b.call.client bars) (cond (eqb b.call.client bar.call.client) (Some bar) None) b.lane (spread.one k d below))
          (ap (option_map (λ x. x.lane)) (first_snoc bar.call.client bars bar)
          ∙ lane_taken (first_bar bar.call.client bars) bar (IsFirstFree bars bar.call.first bar.lane) (eqb bar.call.client bar.call.client) (self_eqb bar.call.client) takes);
      disjoint =
          All-push (λ a. All (AreDisjoint a) (bars ++ bar ∷ [])) bars bar
          (λ k d below. All-push (AreDisjoint (get_or bars k d)) bars bar (spread.disjoint k d below) (λ same other. inl (behind k d below same other)))
          (All-push (AreDisjoint bar) bars bar (λ k d below same other. inr (behind k d below (sym same) (λ one. other (sym one)))) (λ same other. absurd (other refl)));
      apart = apart_more window bars bar spread.apart follows behind;
    }

spread_none : (window : Window) → Spread window []
spread_none window = record {
  one = λ k d below. absurd (omega arith);
  disjoint = λ k d below. absurd (omega arith);
  apart = λ j k d before below same. absurd (omega arith);
}

all_mid : (P : Call → Type 0) (xs ys : List Call) (c : Call) → All P (xs ++ c ∷ ys) → P c
all_mid P [] ys c all = All-head P c ys all
all_mid P (x ∷ xs) ys c all = all_mid P xs ys c (All-tail P x (xs ++ c ∷ ys) all)

order_mid : (window : Window) (xs ys : List Call) (c : Call) → AreDrawnInOrder (FollowsIn window) (xs ++ c ∷ ys) → All (λ x. FollowsIn window x c) xs
order_mid window [] ys c order = All-nil (λ x. FollowsIn window x c)
order_mid window (x ∷ xs) ys c order = All-cons (λ a. FollowsIn window a c) x xs (all_mid (FollowsIn window x) xs ys c order.0) (order_mid window xs ys c order.1)

all_mapped : (P : Call → Type 0) (bars : List Bar) → All P (map (λ b. b.call) bars) → All (λ b. P b.call) bars
all_mapped P [] all = λ k d below. absurd (omega arith)
all_mapped P (b ∷ bars) all =
    All-cons (λ x. P x.call) b bars (All-head P b.call (map (λ x. x.call) bars) all) (all_mapped P bars (All-tail P b.call (map (λ x. x.call) bars) all))

spread_all : (window : Window) (before bars : List Bar) → Spread window before → TakeLanes before bars → AreDrawnInOrder (FollowsIn window) (map (λ b. b.call) (before ++ bars))
    → Spread window (before ++ bars)
spread_all window before [] spread takes order = subst (Spread window) (sym (append-nil before)) spread
spread_all window before (bar ∷ bars) spread takes order =
    let calls : map (λ b. b.call) (before ++ bar ∷ bars) ≡ map (λ b. b.call) before ++ bar.call ∷ map (λ b. b.call) bars = map-append (λ (b : Bar). b.call) before (bar ∷ bars) in
    let follows = all_mapped (λ x. FollowsIn window x bar.call) before
    (order_mid window (map (λ b. b.call) before) (map (λ b. b.call) bars) bar.call (subst (AreDrawnInOrder (FollowsIn window)) calls order)) in
    let whole : (before ++ bar ∷ []) ++ bars ≡ before ++ bar ∷ bars = append_assoc before (bar ∷ []) bars in
    subst (Spread window) whole
    (spread_all window (before ++ bar ∷ []) bars (spread_more window before bar spread takes.0 follows) takes.1
    (subst (λ bs. AreDrawnInOrder (FollowsIn window) (map (λ b. b.call) bs)) (sym whole) order))

pub kept_apart : (window : Window) (history : List Operation) (marks : List Mark) (bars : List Bar) → AreBarsOf window history marks bars → AreKeptApart window bars
kept_apart window history marks bars are =
    let spread = spread_all window [] bars (spread_none window) are.lanes (subst (AreDrawnInOrder (FollowsIn window)) (sym are.calls) (drawn_in_order window history marks)) in
    record {
      apart = spread.apart;
      one_lane = λ j k d left right same.
          some_same (get_or bars j d).lane (get_or bars k d).lane
          (sym (spread.one j d left) ∙ ap (λ c. option_map (λ x. x.lane) (first_bar c bars)) same ∙ spread.one k d right);
    }

-- ---- the processes of a lane

firsts_snoc : (before bars : List Bar) (bar : Bar)
    → first_bars before (bars ++ bar ∷ []) ≡ first_bars before bars ++ cond (is_none (first_bar bar.call.client (before ++ bars))) (bar ∷ []) []
firsts_snoc before [] bar =
    append-nil (cond (is_none (first_bar bar.call.client before)) (bar ∷ []) [])
    ∙ ap (λ bs. cond (is_none (first_bar bar.call.client bs)) (bar ∷ []) []) (sym (append-nil before))
firsts_snoc before (b ∷ bars) bar =
    let head = cond (is_none (first_bar b.call.client before)) (b ∷ []) [] in
    ap (λ ws. head ++ ws) (firsts_snoc (before ++ b ∷ []) bars bar
    ∙ ap (λ bs. first_bars (before ++ b ∷ []) bars ++ cond (is_none (first_bar bar.call.client bs)) (bar ∷ []) []) (append_assoc before (b ∷ []) bars))
    ∙ sym (append_assoc head (first_bars (before ++ b ∷ []) bars) (cond (is_none (first_bar bar.call.client (before ++ b ∷ bars))) (bar ∷ []) []))

one_client : (lane : ℕ) (t : Bool) (bar : Bar)
    → map (λ b. b.call.client) (filter (λ b. eqb b.lane lane) (cond t (bar ∷ []) [])) ≡ cond t (cond (eqb bar.lane lane) (bar.call.client ∷ []) []) []
one_client lane true bar = by_lane (eqb bar.lane lane) bar
  where
    by_lane : (t : Bool) (bar : Bar) → map (λ b. b.call.client) (cond t (bar ∷ []) []) ≡ cond t (bar.call.client ∷ []) []
    by_lane true bar = refl
    by_lane false bar = refl
one_client lane false bar = refl

clients_snoc : (lane : ℕ) (bars : List Bar) (bar : Bar)
    → clients_of lane (bars ++ bar ∷ []) ≡ clients_of lane bars ++ cond (is_none (first_bar bar.call.client bars)) (cond (eqb bar.lane lane) (bar.call.client ∷ []) []) []
clients_snoc lane bars bar =
    let new = cond (is_none (first_bar bar.call.client bars)) (bar ∷ []) [] in
    let keeps : Bar → Bool = λ b. eqb b.lane lane in
    ap (λ bs. map (λ b. b.call.client) (filter keeps bs)) (firsts_snoc [] bars bar)
    ∙ ap (map (λ b. b.call.client)) (filter-append keeps (first_bars [] bars) new)
    ∙ map-append (λ (b : Bar). b.call.client) (filter keeps (first_bars [] bars)) (filter keeps new)
    ∙ ap (λ ws. clients_of lane bars ++ ws) (one_client lane (is_none (first_bar bar.call.client bars)) bar)

some_or : (o : Option Bar) (t : Bool) (bar : Bar) → is_some (option_or o (cond t (Some bar) None)) ≡ is_some o || t
some_or None true bar = refl
some_or None false bar = refl
some_or (Some b) t bar = refl

seen_snoc : (client : ℕ) (bars : List Bar) (bar : Bar) → is_some (first_bar client (bars ++ bar ∷ [])) ≡ is_some (first_bar client bars) || eqb client bar.call.client
seen_snoc client bars bar = ap is_some (first_snoc client bars bar) ∙ some_or (first_bar client bars) (eqb client bar.call.client) bar

-- what is kept of the bars so far: which processes they are of, and which each lane had
pub record Listed (seen : ℕ → Bool) (lanes : List Lane) (bars : List Bar) : Type 0 where
  pub seen_all : (client : ℕ) → seen client ≡ is_some (first_bar client bars)
  pub listed : (lane : ℕ) → lane_clients lane lanes ≡ clients_of lane bars

none_is : (o : Option Bar) (t : Bool) → is_some o ≡ t → is_none o ≡ not t
none_is None t e = ap not e
none_is (Some b) t e = ap not e

seen_more : (old new : ℕ → Bool) (bars : List Bar) (bar : Bar) → ((client : ℕ) → old client ≡ is_some (first_bar client bars)) → new bar.call.client ≡ true
    → ((other : ℕ) → (bar.call.client ≡ other → ⊥) → new other ≡ old other) → (client : ℕ) → new client ≡ is_some (first_bar client (bars ++ bar ∷ []))
seen_more old new bars bar seen here apart client = by_client (eqb client bar.call.client) refl ∙ sym (seen_snoc client bars bar)
  where
    by_client : (t : Bool) → eqb client bar.call.client ≡ t → new client ≡ is_some (first_bar client bars) || eqb client bar.call.client
    by_client true is =
        let same : client ≡ bar.call.client = equal client bar.call.client is in
        ap new same ∙ here ∙ sym (ap (λ t. is_some (first_bar client bars) || t) is ∙ or-true (is_some (first_bar client bars)))
    by_client false is =
        apart client (λ e. differ client bar.call.client is (sym e)) ∙ seen client
        ∙ sym (ap (λ t. is_some (first_bar client bars) || t) is ∙ or-false (is_some (first_bar client bars)))

pub listed_new : (old new : ℕ → Bool) (lanes longer : List Lane) (bars : List Bar) (bar : Bar) → Listed old lanes bars → old bar.call.client ≡ false
    → new bar.call.client ≡ true → ((other : ℕ) → (bar.call.client ≡ other → ⊥) → new other ≡ old other)
    → ((lane : ℕ) → lane_clients lane longer ≡ lane_clients lane lanes ++ cond (eqb bar.lane lane) (bar.call.client ∷ []) []) → Listed new longer (bars ++ bar ∷ [])
listed_new old new lanes longer bars bar listed unseen here apart added = record {
  seen_all = seen_more old new bars bar listed.seen_all here apart;
  listed = λ lane.
      let none : is_none (first_bar bar.call.client bars) ≡ true = none_is (first_bar bar.call.client bars) false (sym (listed.seen_all bar.call.client) ∙ unseen) in
      added lane ∙ ap (λ ws. ws ++ cond (eqb bar.lane lane) (bar.call.client ∷ []) []) (listed.listed lane)
      ∙ sym (clients_snoc lane bars bar ∙ ap (λ t. clients_of lane bars ++ cond t (cond (eqb bar.lane lane) (bar.call.client ∷ []) []) []) none);
}

pub listed_known : (old new : ℕ → Bool) (lanes : List Lane) (bars : List Bar) (bar : Bar) → Listed old lanes bars → old bar.call.client ≡ true
    → ((other : ℕ) → new other ≡ old other) → Listed new lanes (bars ++ bar ∷ [])
listed_known old new lanes bars bar listed known same = record {
  seen_all = seen_more old new bars bar listed.seen_all (same bar.call.client ∙ known) (λ other apart. same other);
  listed = λ lane.
      let some : is_none (first_bar bar.call.client bars) ≡ false = none_is (first_bar bar.call.client bars) true (sym (listed.seen_all bar.call.client) ∙ known) in
      listed.listed lane ∙ sym (clients_snoc lane bars bar ∙ ap (λ t. clients_of lane bars ++ cond t (cond (eqb bar.lane lane) (bar.call.client ∷ []) []) []) some ∙ append-nil (clients_of lane bars));
}

not_true : (b : Bool) → not b ≡ true → b ≡ false
not_true true e = absurd (cc)
not_true false e = refl

not_false : (b : Bool) → not b ≡ false → b ≡ true
not_false true e = refl
not_false false e = absurd (cc)

known_by : (t : Bool) (old new : BTreeSet ℕ) (client other : ℕ) → eqb client other ≡ t → sets.Updates nat_cmp old new client true → sets.contains nat_cmp old client ≡ true
    → sets.contains nat_cmp new other ≡ sets.contains nat_cmp old other
known_by true old new client other is updates known =
    let same : client ≡ other = equal client other is in
    ap (sets.contains nat_cmp new) (sym same) ∙ updates.1 ∙ sym known ∙ ap (sets.contains nat_cmp old) same
known_by false old new client other is updates known = updates.2 other (missed client other (differ client other is))

-- a bar of a process that is new
pub bar_new : (old new : BTreeSet ℕ) (lanes longer : List Lane) (bars : List Bar) (i : ℕ) (d : Bar) → i < length bars → Listed (sets.contains nat_cmp old) lanes (take i bars)
    → true ≡ not (sets.contains nat_cmp old (get_or bars i d).call.client) → sets.Updates nat_cmp old new (get_or bars i d).call.client true
    → ((lane : ℕ) → lane_clients lane longer ≡ lane_clients lane lanes ++ cond (eqb (get_or bars i d).lane lane) ((get_or bars i d).call.client ∷ []) [])
    → Listed (sets.contains nat_cmp new) longer (take (i + 1) bars)
bar_new old new lanes longer bars i d below listed unseen updates added =
    let bar = get_or bars i d in
    subst (λ bs. Listed (sets.contains nat_cmp new) longer bs) (sym (take_more bars i d below))
    (listed_new (sets.contains nat_cmp old) (sets.contains nat_cmp new) lanes longer (take i bars) bar listed (not_true (sets.contains nat_cmp old bar.call.client) (sym unseen)) updates.1
    (λ other apart. updates.2 other (missed bar.call.client other apart)) added)

-- a bar of a process that has one
pub bar_known : (old new : BTreeSet ℕ) (lanes : List Lane) (bars : List Bar) (i : ℕ) (d : Bar) → i < length bars → Listed (sets.contains nat_cmp old) lanes (take i bars)
    → false ≡ not (sets.contains nat_cmp old (get_or bars i d).call.client) → sets.Updates nat_cmp old new (get_or bars i d).call.client true
    → Listed (sets.contains nat_cmp new) lanes (take (i + 1) bars)
bar_known old new lanes bars i d below listed seen updates =
    let bar = get_or bars i d in
    let known = not_false (sets.contains nat_cmp old bar.call.client) (sym seen) in
    subst (λ bs. Listed (sets.contains nat_cmp new) lanes bs) (sym (take_more bars i d below))
    (listed_known (sets.contains nat_cmp old) (sets.contains nat_cmp new) lanes (take i bars) bar listed known
    (λ other. known_by (eqb bar.call.client other) old new bar.call.client other refl updates known))
