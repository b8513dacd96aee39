-- The lanes of bars, one bar after another.
use Rattle.std.proofs.Common.{◌≡◌, ℕ, ◌<◌, ◌≤◌, Bool, true, false, cond, eqb, List, [], ◌∷◌, ◌++◌, length, get_or, map, Option, Some, None, refl, sym, ap, subst, ◌∙◌, arith, append-nil, append_assoc, ltb, leb, set, length-append, length-set, get_or-set_same, get_or-set_other}
use Rattle.std.specs.Prelude.{◌&&◌, ◌||◌, nat_le, nat_lt, find, All, MatchOption, option_map}
use Rattle.std.specs.List.{list_any}
use Rattle.std.specs.Option.{option_or}
use Rattle.std.proofs.lemmas.List.Elements.{All-cons, All-head, All-tail}
use Rattle.std.proofs.lemmas.List.Folds.{find-append, list_any-append}
use Rattle.std.proofs.Math.Bool.{or-false, or-true}
use Rattle.std.proofs.lemmas.Bool.Decides.{nat_tests}
use Rattle.std.proofs.lemmas.List.{get_or_append_left, map-append}
use Rattle.std.proofs.Math.Seq.{get_or-append_seam}
use Rattle.jh_timeline.specs.Lanes.{IsFirstFree, TakeLanes, TakesLane, first_bar, is_held}
use Rattle.jh_timeline.specs.LanesInside.{Follows}
use Rattle.jh_timeline.specs.declared.picture.Bar.{Bar}
use Rattle.jh_timeline.specs.declared.picture.Call.{Call}
use Rattle.jh_timeline.proofs.CallLemmas.{differ, equal}

-- ---- lanes

-- what is kept of the bars of these calls: the lane that each process took, and how far each lane is held
pub record Laned (kept : ℕ → Option ℕ) (ends : List ℕ) (bars : List Bar) (done : List Call) : Type 0 where
  pub calls : map (λ bar. bar.call) bars ≡ done
  pub lanes : TakeLanes [] bars
  pub held : (client : ℕ) → kept client ≡ option_map (λ bar. bar.lane) (first_bar client bars)
  pub until : (index lane : ℕ) → All (λ bar. bar.call.first ≤ index) bars → is_held bars index lane ≡ (nat_lt lane (length ends) && nat_le index (get_or ends lane 0))

take_snoc : (before bars : List Bar) (bar : Bar) → TakeLanes before bars → TakesLane (before ++ bars) bar → TakeLanes before (bars ++ bar ∷ [])
take_snoc before [] bar all here = (subst (λ bs. TakesLane bs bar) (append-nil before) here, tt)
take_snoc before (b ∷ bars) bar all here =
    (all.0, take_snoc (before ++ b ∷ []) bars bar all.1 (subst (λ bs. TakesLane bs bar) (sym (append_assoc before (b ∷ []) bars)) here))

-- what holds of a bar that is found
pub record IsFound (P : Bar → Type 0) (p : Bar → Bool) (bars : List Bar) (found : Bar) : Type 0 where
  pub passes : p found ≡ true
  pub holds : P found
  pub among : (q : Bar → Bool) → q found ≡ true → list_any q bars ≡ true

found_here : (P : Bar → Type 0) (p : Bar → Bool) (b found : Bar) (bars : List Bar) → p b ≡ true → b ≡ found → P b → IsFound P p (b ∷ bars) found
found_here P p b found bars is same holds = record {
  passes = subst (λ x. p x ≡ true) same is;
  holds = subst P same holds;
  among = λ q yes. ap (λ t. t || list_any q bars) (subst (λ x. q x ≡ true) (sym same) yes);
}

found_behind : (P : Bar → Type 0) (p : Bar → Bool) (b found : Bar) (bars : List Bar) → IsFound P p bars found → IsFound P p (b ∷ bars) found
found_behind P p b found bars rest = record {
  passes = rest.passes;
  holds = rest.holds;
  among = λ q yes. ap (λ t. q b || t) (rest.among q yes) ∙ or-true (q b);
}

found_either : (P : Bar → Type 0) (p : Bar → Bool) (b found : Bar) (bars : List Bar) (t : Bool) → p b ≡ t → P b
    → cond t (Some b) (find p bars) ≡ Some found → (find p bars ≡ Some found → IsFound P p bars found) → IsFound P p (b ∷ bars) found
found_either P p b found bars true is holds e k = let same : b ≡ found = cc in found_here P p b found bars is same holds
found_either P p b found bars false is holds e k = found_behind P p b found bars (k e)

pub found_is : (P : Bar → Type 0) (p : Bar → Bool) (bars : List Bar) (found : Bar) → All P bars → find p bars ≡ Some found → IsFound P p bars found
found_is P p [] found all e = absurd (let wrong : None ≡ Some found = e in cc)
found_is P p (b ∷ bars) found all e =
    found_either P p b found bars (p b) refl (All-head P b bars all) e (found_is P p bars found (All-tail P b bars all))

-- one more of these holds
pub all_snoc : (P : Bar → Type 0) (bars : List Bar) (bar : Bar) → All P (bars ++ bar ∷ []) → All P bars × P bar
all_snoc P [] bar all = (λ k d h. absurd (omega arith), All-head P bar [] all)
all_snoc P (b ∷ bars) bar all =
    let rest = all_snoc P bars bar (All-tail P b (bars ++ bar ∷ []) all) in
    (All-cons P b bars (All-head P b (bars ++ bar ∷ []) all) rest.0, rest.1)

held_snoc : (bars : List Bar) (bar : Bar) (index lane : ℕ)
    → is_held (bars ++ bar ∷ []) index lane ≡ is_held bars index lane || (eqb bar.lane lane && leb index bar.call.last)
held_snoc bars bar index lane =
    let holds : Bar → Bool = λ b. eqb b.lane lane && leb index b.call.last in
    list_any-append holds bars (bar ∷ []) ∙ ap (λ t. is_held bars index lane || t) (or-false (holds bar))

-- ---- a process that keeps its lane

settled : (t held : Bool) → (t ≡ true → held ≡ true) → held || t ≡ held
settled true held h = or-true held ∙ sym (h refl)
settled false held h = or-false held

keeps_held : (P : Bar → Type 0) (bars : List Bar) (bar had : Bar) (index lane : ℕ) → had.lane ≡ bar.lane → had.call.last ≡ bar.call.last
    → ((q : Bar → Bool) → q had ≡ true → list_any q bars ≡ true) → is_held (bars ++ bar ∷ []) index lane ≡ is_held bars index lane
keeps_held P bars bar had index lane same_lane same_last among =
    held_snoc bars bar index lane ∙ settled (eqb bar.lane lane && leb index bar.call.last) (is_held bars index lane)
    (λ yes. among (λ b. eqb b.lane lane && leb index b.call.last) (ap (λ n. eqb n lane && leb index had.call.last) same_lane ∙ ap (λ n. eqb bar.lane lane && leb index n) same_last ∙ yes))

-- the first bar of another client, or of this one where it has one, stays so
pub first_snoc : (client : ℕ) (bars : List Bar) (bar : Bar) → first_bar client (bars ++ bar ∷ []) ≡ option_or (first_bar client bars) (cond (eqb client bar.call.client) (Some bar) None)
first_snoc client bars bar = find-append (λ b. eqb client b.call.client) bars (bar ∷ [])

same_first : (t : Bool) (bar first : Bar) (o : Option Bar) → first.lane ≡ bar.lane → (t ≡ true → o ≡ Some first)
    → option_map (λ b. b.lane) (option_or o (cond t (Some bar) None)) ≡ option_map (λ b. b.lane) o
same_first true bar first o same h = let is : o ≡ Some first = h refl in rw is refl
same_first false bar first None same h = refl
same_first false bar first (Some b) same h = refl

laned_keeping : (kept : ℕ → Option ℕ) (ends : List ℕ) (bars : List Bar) (done : List Call) (call : Call) (had : ℕ) (first bar : Bar) → bar ≡ record { call = call; lane = had }
    → Laned kept ends bars done → All (λ b. Follows b.call call) bars → first_bar call.client bars ≡ Some first → first.lane ≡ bar.lane
    → Laned kept ends (bars ++ bar ∷ []) (done ++ call ∷ [])
laned_keeping kept ends bars done call had first bar built laned follows is same =
    let found = found_is (λ b. Follows b.call call) (λ b. eqb call.client b.call.client) bars first follows is in
    let client : first.call.client ≡ call.client = sym (equal call.client first.call.client found.passes) in
    let mine : bar.call ≡ call = ap (λ b. b.call) built in
    record {
      calls = map-append (λ b. b.call) bars (bar ∷ []) ∙ ap (λ cs. cs ++ bar.call ∷ []) laned.calls ∙ ap (λ c. done ++ c ∷ []) mine;
      lanes =
          take_snoc [] bars bar laned.lanes
          (subst (λ c. MatchOption (first_bar c.client bars) (IsFirstFree bars c.first bar.lane) (λ b. bar.lane ≡ b.lane)) (sym mine)
          (subst (λ o. MatchOption o (IsFirstFree bars call.first bar.lane) (λ b. bar.lane ≡ b.lane)) (sym is) (sym same)));
      held = λ other.
          laned.held other ∙ sym (ap (option_map (λ b. b.lane)) (first_snoc other bars bar)
          ∙ same_first (eqb other bar.call.client) bar first (first_bar other bars) same
          (λ yes. let one : other ≡ call.client = equal other bar.call.client yes ∙ ap (λ c. c.client) mine in ap (λ z. first_bar z bars) one ∙ is));
      until = λ index lane all.
          keeps_held (λ b. Follows b.call call) bars bar first index lane same (found.holds.last client ∙ ap (λ c. c.last) (sym mine)) found.among
          ∙ laned.until index lane (all_snoc (λ b. b.call.first ≤ index) bars bar all).0;
    }

some_first : (o : Option Bar) (had : ℕ) → option_map (λ b. b.lane) o ≡ Some had → (first : Bar) × (o ≡ Some first) × (first.lane ≡ had)
some_first None had e = absurd (let wrong : None ≡ Some had = e in cc)
some_first (Some first) had e = (first, refl, cc)

pub laned_keeps : (kept : ℕ → Option ℕ) (ends : List ℕ) (bars : List Bar) (done : List Call) (call : Call) (had : ℕ) (bar : Bar) → bar ≡ record { call = call; lane = had }
    → Laned kept ends bars done → All (λ b. Follows b.call call) bars → kept call.client ≡ Some had
    → Laned kept ends (bars ++ bar ∷ []) (done ++ call ∷ [])
laned_keeps kept ends bars done call had bar built laned follows holds =
    let first = some_first (first_bar call.client bars) had (sym (laned.held call.client) ∙ holds) in
    laned_keeping kept ends bars done call had first.0 bar built laned follows first.1 (first.2 ∙ ap (λ b. b.lane) (sym built))

-- ---- a process that takes a lane

leb_false : (a b : ℕ) → b < a → leb a b ≡ false
leb_false a b h = grind (arith, nat_tests)

leb_true : (a b : ℕ) → a ≤ b → leb a b ≡ true
leb_true a b h = grind (arith, nat_tests)

ltb_true : (a b : ℕ) → a < b → ltb a b ≡ true
ltb_true a b h = grind (arith, nat_tests)

ltb_false : (a b : ℕ) → b ≤ a → ltb a b ≡ false
ltb_false a b h = grind (arith, nat_tests)

pub ltb_is : (a b : ℕ) → ltb a b ≡ true → a < b
ltb_is a b e = grind (arith, nat_tests)

pub ltb_not : (a b : ℕ) → ltb a b ≡ false → b ≤ a
ltb_not a b e = grind (arith, nat_tests)

both_false : (a b : Bool) → (a ≡ true → b ≡ false) → a && b ≡ false
both_false true b h = h refl
both_false false b h = refl

both_true : (a b : Bool) → a ≡ true → b ≡ true → a && b ≡ true
both_true true b e f = f
both_true false b e f = absurd (cc)

-- how far lanes are held, behind one that is held now
abbrev pub longer : List ℕ → ℕ → ℕ → List ℕ
longer ends lane last = cond (ltb lane (length ends)) (set ends lane last) (ends ++ last ∷ [])

-- a lane is held at an index
abbrev is_until : List ℕ → ℕ → ℕ → Bool
is_until ends index lane = ltb lane (length ends) && leb index (get_or ends lane 0)

longer_same : (t : Bool) (ends : List ℕ) (index lane last : ℕ) → ltb lane (length ends) ≡ t → lane ≤ length ends
    → is_until (cond t (set ends lane last) (ends ++ last ∷ [])) index lane ≡ leb index last
longer_same true ends index lane last e within =
    let below : lane < length ends = ltb_is lane (length ends) e in
    let long : lane < length (set ends lane last) = simp length-set below in
    ap (λ b. b && leb index (get_or (set ends lane last) lane 0)) (ltb_true lane (length (set ends lane last)) long) ∙ ap (leb index) (get_or-set_same ends lane last 0 below)
longer_same false ends index lane last e within =
    let at : lane ≡ length ends = let above : length ends ≤ lane = ltb_not lane (length ends) e in omega arith in
    let long : lane < length (ends ++ last ∷ []) = simp length-append (omega arith) in
    ap (λ b. b && leb index (get_or (ends ++ last ∷ []) lane 0)) (ltb_true lane (length (ends ++ last ∷ [])) long)
    ∙ ap (λ n. leb index (get_or (ends ++ last ∷ []) n 0)) at ∙ ap (leb index) (get_or-append_seam ends last [] 0)

same_false : (a x y : Bool) → a ≡ false → a && x ≡ a && y
same_false true x y e = absurd (cc)
same_false false x y e = refl

beyond : (t : Bool) (ends : List ℕ) (index last n : ℕ) → ltb n (length ends) ≡ t → (n ≡ length ends → ⊥) → is_until (ends ++ last ∷ []) index n ≡ is_until ends index n
beyond true ends index last n is apart =
    let below : n < length ends = ltb_is n (length ends) is in
    let long : n < length (ends ++ last ∷ []) = simp length-append (omega arith) in
    ap (λ b. b && leb index (get_or (ends ++ last ∷ []) n 0)) (ltb_true n (length (ends ++ last ∷ [])) long ∙ sym is)
    ∙ ap (λ m. ltb n (length ends) && leb index m) (get_or_append_left ends (last ∷ []) 0 n below)
beyond false ends index last n is apart =
    let above : length ends ≤ n = ltb_not n (length ends) is in
    let long : length (ends ++ last ∷ []) ≤ n = simp length-append (omega arith) in
    ap (λ b. b && leb index (get_or (ends ++ last ∷ []) n 0)) (ltb_false n (length (ends ++ last ∷ [])) long ∙ sym is)
    ∙ same_false (ltb n (length ends)) (leb index (get_or (ends ++ last ∷ []) n 0)) (leb index (get_or ends n 0)) is

longer_other : (t : Bool) (ends : List ℕ) (index lane last n : ℕ) → ltb lane (length ends) ≡ t → lane ≤ length ends → (n ≡ lane → ⊥)
    → is_until (cond t (set ends lane last) (ends ++ last ∷ [])) index n ≡ is_until ends index n
longer_other true ends index lane last n e within apart =
    ap (λ k. ltb n k && leb index (get_or (set ends lane last) n 0)) (length-set ends lane last)
    ∙ ap (λ k. ltb n (length ends) && leb index k) (get_or-set_other ends lane n last 0 apart)
longer_other false ends index lane last n e within apart =
    let at : lane ≡ length ends = let above : length ends ≤ lane = ltb_not lane (length ends) e in omega arith in
    beyond (ltb n (length ends)) ends index last n refl (λ same. apart (same ∙ sym at))

-- ---- one bar more

-- nothing is held at an index behind all that is
until_free : (ends : List ℕ) (index lane first : ℕ) → (lane < length ends → get_or ends lane 0 < first) → first ≤ index → is_until ends index lane ≡ false
until_free ends index lane first free behind =
    both_false (ltb lane (length ends)) (leb index (get_or ends lane 0))
    (λ yes. let low : get_or ends lane 0 < first = free (ltb_is lane (length ends) yes) in leb_false index (get_or ends lane 0) (omega arith))

until_more : (ends : List ℕ) (index lane last first n : ℕ) → lane ≤ length ends → (lane < length ends → get_or ends lane 0 < first) → first ≤ index
    → is_until ends index n || (eqb lane n && leb index last) ≡ is_until (longer ends lane last) index n
until_more ends index lane last first n within free behind = by_lane (eqb lane n) refl
  where
    by_lane : (t : Bool) → eqb lane n ≡ t → is_until ends index n || (t && leb index last) ≡ is_until (longer ends lane last) index n
    by_lane true is =
        let same : lane ≡ n = equal lane n is in
        ap (λ b. b || leb index last) (ap (is_until ends index) (sym same) ∙ until_free ends index lane first free behind)
        ∙ sym (longer_same (ltb lane (length ends)) ends index lane last refl within) ∙ ap (is_until (longer ends lane last) index) same
    by_lane false is =
        or-false (is_until ends index n)
        ∙ sym (longer_other (ltb lane (length ends)) ends index lane last n refl within (λ e. differ lane n is (sym e)))

none_first : (o : Option Bar) → None ≡ option_map (λ b. b.lane) o → o ≡ None
none_first None e = refl
none_first (Some first) e = absurd (cc)

new_first : (kept next : ℕ → Option ℕ) (other : ℕ) (bar : Bar) (o : Option Bar) (t : Bool) → eqb other bar.call.client ≡ t → kept other ≡ option_map (λ b. b.lane) o
    → (t ≡ true → o ≡ None) → (t ≡ true → next other ≡ Some bar.lane) → (t ≡ false → next other ≡ kept other)
    → next other ≡ option_map (λ b. b.lane) (option_or o (cond t (Some bar) None))
new_first kept next other bar o true is e none here apart = here refl ∙ sym (ap (λ x. option_map (λ b. b.lane) (option_or x (Some bar))) (none refl))
new_first kept next other bar None false is e none here apart = apart refl ∙ e
new_first kept next other bar (Some first) false is e none here apart = apart refl ∙ e

pub laned_takes : (kept next : ℕ → Option ℕ) (ends later : List ℕ) (bars : List Bar) (done : List Call) (call : Call) (bar : Bar) → bar.call ≡ call
    → Laned kept ends bars done → All (λ b. Follows b.call call) bars → kept call.client ≡ None
    → bar.lane ≤ length ends → (bar.lane < length ends → get_or ends bar.lane 0 < call.first) → ((lower : ℕ) → lower < bar.lane → call.first ≤ get_or ends lower 0)
    → later ≡ longer ends bar.lane call.last → next call.client ≡ Some bar.lane → ((other : ℕ) → (call.client ≡ other → ⊥) → next other ≡ kept other)
    → Laned next later (bars ++ bar ∷ []) (done ++ call ∷ [])
laned_takes kept next ends later bars done call bar mine laned follows nothing within free first grown here apart =
    let unseen : first_bar call.client bars ≡ None = none_first (first_bar call.client bars) (sym nothing ∙ laned.held call.client) in
    let earlier : All (λ b. b.call.first ≤ call.first) bars = λ k d below. let one = (follows k d below).first in omega (arith, one) in
    record {
      calls = map-append (λ b. b.call) bars (bar ∷ []) ∙ ap (λ cs. cs ++ bar.call ∷ []) laned.calls ∙ ap (λ c. done ++ c ∷ []) mine;
      lanes =
          take_snoc [] bars bar laned.lanes
          (subst (λ c. MatchOption (first_bar c.client bars) (IsFirstFree bars c.first bar.lane) (λ b. bar.lane ≡ b.lane)) (sym mine)
          (subst (λ o. MatchOption o (IsFirstFree bars call.first bar.lane) (λ b. bar.lane ≡ b.lane)) (sym unseen)
          (record {
            free = laned.until call.first bar.lane earlier ∙ until_free ends call.first bar.lane call.first free (omega arith);
            first = λ lower low.
                laned.until call.first lower earlier
                ∙ both_true (ltb lower (length ends)) (leb call.first (get_or ends lower 0)) (ltb_true lower (length ends) (omega arith)) (leb_true call.first (get_or ends lower 0) (first lower low));
          })));
      held = λ other.
          new_first kept next other bar (first_bar other bars) (eqb other bar.call.client) refl (laned.held other)
          (λ yes. let one : other ≡ call.client = equal other bar.call.client yes ∙ ap (λ c. c.client) mine in ap (λ z. first_bar z bars) one ∙ unseen)
          (λ yes. let one : other ≡ call.client = equal other bar.call.client yes ∙ ap (λ c. c.client) mine in ap next one ∙ here)
          (λ no. apart other (λ same. differ other bar.call.client no (sym same ∙ ap (λ c. c.client) (sym mine))))
          ∙ sym (ap (option_map (λ b. b.lane)) (first_snoc other bars bar));
      until = λ index lane all.
          let both = all_snoc (λ b. b.call.first ≤ index) bars bar all in
          let behind : call.first ≤ index = subst (λ c. c.first ≤ index) mine both.1 in
          held_snoc bars bar index lane ∙ ap (λ b. b || (eqb bar.lane lane && leb index bar.call.last)) (laned.until index lane both.0)
          ∙ ap (λ c. is_until ends index lane || (eqb bar.lane lane && leb index c.last)) mine
          ∙ until_more ends index bar.lane call.last call.first lane within free behind ∙ ap (λ l. is_until l index lane) (sym grown);
    }
