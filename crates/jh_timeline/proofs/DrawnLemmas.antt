-- Which calls of a history are drawn, and that they are in order.
use Rattle.std.proofs.Common.{◌≡◌, ℕ, ◌+◌, ◌<◌, ◌≤◌, Bool, true, false, cond, eqb, ltb, leb, List, [], ◌∷◌, length, drop, get_or, map, min, max, Option, Some, None, refl, sym, ap, ◌∙◌, arith}
use Rattle.std.specs.Prelude.{◌&&◌, ◌||◌, All, filter, find, fold, option_map, option_and_then}
use Rattle.std.specs.BTreeMap.{BTreeMap, get, Updates}
use Rattle.std.specs.List.{cons_option, enumerate_from, filter_map, list_any, reduce}
use Rattle.std.specs.Option.{option_map_or}
use Rattle.std.specs.Ordering.{nat_cmp}
use Rattle.std.proofs.Math.Nat.{le-max_left, le-max_right, max-le}
use Rattle.std.proofs.lemmas.Bool.Decides.{nat_tests}
use Rattle.std.proofs.lemmas.List.{drop_more}
use Rattle.std.proofs.lemmas.List.Elements.{All-cons, All-head, All-nil, All-tail, filter_agree}
use Rattle.jh_ops.specs.Operation.{Operation}
use Rattle.jh_timeline.specs.Lanes.{begins_in, call_end, calls_of, count_left_out, drawn_calls, held_in, is_call_drawn, is_left_out, has_unknown_outcome, last_row_of, note_at, noted_place_at, place_noted, places_shown, takes_effect_behind}
use Rattle.jh_timeline.specs.LanesInside.{AreDrawnInOrder, Follows, FollowsIn, count_left_out_with, drawn_with, is_behind, is_drawn_with, is_left_out_with, place_with, places_with}
use Rattle.jh_timeline.specs.declared.marks.Mark.{Mark}
use Rattle.jh_timeline.specs.declared.marks.Note.{Note}
use Rattle.jh_timeline.specs.declared.picture.Call.{Call}
use Rattle.jh_timeline.specs.declared.picture.Window.{Window}
use Rattle.jh_timeline.proofs.CallLemmas.{differ, equal, missed}
use Rattle.jh_timeline.proofs.HistoryOrderLemmas.{IsAfter, history_order}

-- ---- notes

-- what is kept of the marks from a place on
pub record Noted (kept : ℕ → Option Note) (marks : List Mark) (place : ℕ) : Type 0 where
  pub within : place ≤ length marks
  pub notes : (number : ℕ) → kept number ≡ note_at (drop place marks) number

noted_by : (t : Bool) (old new : BTreeMap ℕ Note) (mark : Mark) (rest : List Mark) (number : ℕ) → eqb mark.call number ≡ t → Updates nat_cmp old new mark.call (Some mark.note)
    → get nat_cmp old number ≡ note_at rest number → get nat_cmp new number ≡ option_map (λ m. m.note) (cond t (Some mark) (find (λ m. eqb m.call number) rest))
noted_by true old new mark rest number is updates before = ap (get nat_cmp new) (sym (equal mark.call number is)) ∙ updates.1
noted_by false old new mark rest number is updates before = updates.2 number (missed mark.call number (differ mark.call number is)) ∙ before

pub noted_more : (old new : BTreeMap ℕ Note) (marks : List Mark) (n i : ℕ) (d : Mark) → n ≡ i + 1 → i < length marks → Noted (get nat_cmp old) marks n
    → Updates nat_cmp old new (get_or marks i d).call (Some (get_or marks i d).note) → Noted (get nat_cmp new) marks i
noted_more old new marks n i d at below noted updates =
    let mark = get_or marks i d in
    let rest = drop (i + 1) marks in
    let whole : drop i marks ≡ mark ∷ rest = drop_more marks i d below in
    record {
      within = omega arith;
      notes = λ number.
          noted_by (eqb mark.call number) old new mark rest number refl updates (noted.notes number ∙ ap (λ m. note_at (drop m marks) number) at)
          ∙ ap (λ ms. note_at ms number) (sym whole);
    }

-- ---- the order that marks give

filter_map_agree : (f g : ℕ × Call → Option ℕ) → ((x : ℕ × Call) → f x ≡ g x) → (xs : List (ℕ × Call)) → filter_map f xs ≡ filter_map g xs
filter_map_agree f g same [] = refl
filter_map_agree f g same (x ∷ xs) = ap (λ o. cons_option o (filter_map f xs)) (same x) ∙ ap (cons_option (g x)) (filter_map_agree f g same xs)

either_below : (a b p : ℕ) → ltb a p || ltb b p ≡ ltb (min a b) p
either_below a b p = grind (arith, nat_tests)

or_assoc : (a b c : Bool) → a || (b || c) ≡ (a || b) || c
or_assoc true b c = refl
or_assoc false b c = refl

-- some place is below another where the least is
any_below : (place x : ℕ) (xs : List ℕ) → list_any (λ other. ltb other place) (x ∷ xs) ≡ ltb (fold min x xs) place
any_below place x [] = or_none (ltb x place)
  where
    or_none : (a : Bool) → a || false ≡ a
    or_none true = refl
    or_none false = refl
any_below place x (y ∷ xs) =
    or_assoc (ltb x place) (ltb y place) (list_any (λ other. ltb other place) xs) ∙ ap (λ t. t || list_any (λ other. ltb other place) xs) (either_below x y place)
    ∙ any_below place (min x y) xs

least_below : (place : ℕ) (places : List ℕ) → option_map_or (λ least. ltb least place) (reduce min places) false ≡ list_any (λ other. ltb other place) places
least_below place [] = refl
least_below place (x ∷ xs) = sym (any_below place x xs)

behind_same : (o : Option ℕ) (places : List ℕ)
    → option_map_or (λ place. option_map_or (λ least. ltb least place) (reduce min places) false) o false ≡ option_map_or (λ place. list_any (λ other. ltb other place) places) o false
behind_same None places = refl
behind_same (Some place) places = least_below place places

pub behind_is : (window : Window) (marks : List Mark) (calls : List Call) (notes : BTreeMap ℕ Note) (least : Option ℕ) (number : ℕ) → ((n : ℕ) → get nat_cmp notes n ≡ note_at marks n)
    → least ≡ reduce min (places_with window notes calls)
    → is_behind (record { notes = notes; least = least }) number ≡ takes_effect_behind (places_shown window marks (enumerate_from 0 calls)) marks number
behind_is window marks calls notes least number same is =
    let shown = places_shown window marks (enumerate_from 0 calls) in
    let places : places_with window notes calls ≡ shown =
    filter_map_agree (λ numbered. place_with notes numbered.0) (λ numbered. noted_place_at marks numbered.0) (λ numbered. ap (option_and_then place_noted) (same numbered.0))
    (filter (λ numbered. begins_in window numbered.1) (enumerate_from 0 calls)) in
    let lowest : least ≡ reduce min shown = is ∙ ap (reduce min) places in
    ap (λ o. option_map_or (λ place. option_map_or (λ low. ltb low place) least false) o false) (ap (option_and_then place_noted) (same number))
    ∙ ap (λ l. option_map_or (λ place. option_map_or (λ low. ltb low place) l false) (noted_place_at marks number) false) lowest
    ∙ behind_same (noted_place_at marks number) shown

-- ---- which calls are drawn

pub drawn_is : (window : Window) (history : List Operation) (marks : List Mark) (behind : ℕ → Bool)
    → ((number : ℕ) → behind number ≡ takes_effect_behind (places_shown window marks (enumerate_from 0 (calls_of history))) marks number)
    → drawn_with window history behind (calls_of history) ≡ drawn_calls window history marks
drawn_is window history marks behind same =
    let calls = enumerate_from 0 (calls_of history) in
    ap (map (λ numbered. held_in window numbered.1))
    (filter_agree (λ numbered. is_drawn_with window history (behind numbered.0) numbered.1) (is_call_drawn window history (places_shown window marks calls) marks)
    (λ numbered. ap (λ t. is_drawn_with window history t numbered.1) (same numbered.0)) calls)

pub left_out_is : (window : Window) (history : List Operation) (marks : List Mark) (behind : ℕ → Bool)
    → ((number : ℕ) → behind number ≡ takes_effect_behind (places_shown window marks (enumerate_from 0 (calls_of history))) marks number)
    → count_left_out_with window history behind (calls_of history) ≡ count_left_out window history marks
left_out_is window history marks behind same =
    let calls = enumerate_from 0 (calls_of history) in
    ap length
    (filter_agree (λ numbered. is_left_out_with window history (behind numbered.0) numbered.1) (is_left_out window history (places_shown window marks calls) marks)
    (λ numbered. ap (λ t. is_left_out_with window history t numbered.1) (same numbered.0)) calls)

-- ---- they are in order

-- The next call of its client, if it has one, begins below the top of the window.
abbrev LeadsIn : Window → Call → Type 0
LeadsIn window call = (later : Call) → IsAfter call later → call.client ≡ later.client → window.from < later.first

both_are : (a b : Bool) → a && b ≡ true → (a ≡ true) × (b ≡ true)
both_are true b e = (refl, e)
both_are false b e = absurd (cc)

is_le : (a b : ℕ) → leb a b ≡ true → a ≤ b
is_le a b e = grind (arith, nat_tests)

is_same : (a b : ℕ) → eqb a b ≡ true → a ≡ b
is_same a b e = grind (arith, nat_tests)

leads_if : (window : Window) (begins unknown behind : Bool) (call : Call) → leb window.from call.first ≡ begins
    → begins || cond unknown (eqb call.last (call_end call) && behind) (leb window.from (call_end call)) ≡ true → LeadsIn window call
leads_if window true unknown behind call is e =
    let begun : window.from ≤ call.first = is_le window.from call.first is in
    λ later after same. let low = after.first in omega (arith, begun, low)
leads_if window false true behind call is e =
    let over : call.last ≡ call_end call = is_same call.last (call_end call) (both_are (eqb call.last (call_end call)) behind e).0 in
    λ later after same.
    let ended = after.ended same in
    let last = after.last same in
    let reach = after.reach in
    absurd (let wrong : ⊥ = omega (arith, over, ended, last, reach) in wrong)
leads_if window false false behind call is e =
    let end : window.from ≤ call_end call = is_le window.from (call_end call) e in
    λ later after same. let ended = after.ended same in omega (arith, end, ended)

drawn_leads : (window : Window) (history : List Operation) (behind : Bool) (call : Call) → is_drawn_with window history behind call ≡ true → LeadsIn window call
drawn_leads window history behind call e =
    leads_if window (leb window.from call.first) (has_unknown_outcome history call) behind call refl (both_are (ltb (max window.from call.first) window.to) _ e).1

max_grows : (a b c : ℕ) → b ≤ c → max a b ≤ max a c
max_grows a b c h =
    let low = le-max_left a c in
    let right = le-max_right a c in
    max-le low (omega (arith, h, right))

follows_in : (window : Window) (earlier later : Call) → LeadsIn window earlier → IsAfter earlier later → FollowsIn window (held_in window earlier) (held_in window later)
follows_in window earlier later leads after = record {
  follows = record {
    first = after.first;
    last = λ same. ap (max window.from) (after.last same);
    reach = let reach = after.reach in let right = le-max_right window.from later.last in omega (arith, reach, right);
  };
  ended = λ same.
      let low : window.from < later.first = leads later after same in
      let ended : call_end earlier < later.first = after.ended same in
      let top : last_row_of window earlier + 1 ≤ later.first = below_both window.from (call_end earlier) later.first low ended in
      let right = le-max_right window.from later.first in
      omega (arith, top, right);
  within = max_grows window.from (call_end earlier) earlier.last after.within;
}
  where
    below_both : (a b c : ℕ) → a < c → b < c → max a b + 1 ≤ c
    below_both a b c low high = grind (arith, nat_tests)

drawn_behind : (window : Window) (keep : ℕ × Call → Bool) (i : ℕ) (call : Call) (calls : List Call) → LeadsIn window call → All (IsAfter call) calls
    → All (FollowsIn window (held_in window call)) (map (λ numbered. held_in window numbered.1) (filter keep (enumerate_from i calls)))
drawn_behind window keep i call [] leads after = All-nil (FollowsIn window (held_in window call))
drawn_behind window keep i call (c ∷ calls) leads after =
    step (keep (i, c)) (filter keep (enumerate_from (i + 1) calls)) (follows_in window call c leads (All-head (IsAfter call) c calls after))
    (drawn_behind window keep (i + 1) call calls leads (All-tail (IsAfter call) c calls after))
  where
    step : (t : Bool) (rest : List (ℕ × Call)) → FollowsIn window (held_in window call) (held_in window c)
        → All (FollowsIn window (held_in window call)) (map (λ numbered. held_in window numbered.1) rest)
        → All (FollowsIn window (held_in window call)) (map (λ numbered. held_in window numbered.1) (cond t ((i, c) ∷ rest) rest))
    step true rest here all = All-cons (FollowsIn window (held_in window call)) (held_in window c) (map (λ numbered. held_in window numbered.1) rest) here all
    step false rest here all = all

drawn_order : (window : Window) (keep : ℕ × Call → Bool) (i : ℕ) (calls : List Call) → ((numbered : ℕ × Call) → keep numbered ≡ true → LeadsIn window numbered.1) → AreDrawnInOrder IsAfter calls
    → AreDrawnInOrder (FollowsIn window) (map (λ numbered. held_in window numbered.1) (filter keep (enumerate_from i calls)))
drawn_order window keep i [] leads order = tt
drawn_order window keep i (c ∷ calls) leads order = step (keep (i, c)) refl (drawn_order window keep (i + 1) calls leads order.1)
  where
    step : (t : Bool) → keep (i, c) ≡ t
        → AreDrawnInOrder (FollowsIn window) (map (λ numbered. held_in window numbered.1) (filter keep (enumerate_from (i + 1) calls)))
        → AreDrawnInOrder (FollowsIn window) (map (λ numbered. held_in window numbered.1) (cond t ((i, c) ∷ filter keep (enumerate_from (i + 1) calls)) (filter keep (enumerate_from (i + 1) calls))))
    step true is rest = (drawn_behind window keep (i + 1) c calls (leads (i, c) is) order.0, rest)
    step false is rest = rest

-- the calls that are drawn are in order, also in the window
pub drawn_in_order : (window : Window) (history : List Operation) (marks : List Mark) → AreDrawnInOrder (FollowsIn window) (drawn_calls window history marks)
drawn_in_order window history marks =
    let calls = enumerate_from 0 (calls_of history) in
    let places = places_shown window marks calls in
    drawn_order window (is_call_drawn window history places marks) 0 (calls_of history)
    (λ numbered e. drawn_leads window history (takes_effect_behind places marks numbered.0) numbered.1 e) (history_order history)

in_order_weaker : (R S : Call → Call → Type 0) → ((a b : Call) → R a b → S a b) → (calls : List Call) → AreDrawnInOrder R calls → AreDrawnInOrder S calls
in_order_weaker R S f [] order = tt
in_order_weaker R S f (c ∷ calls) order = (λ k d below. f c (get_or calls k d) (order.0 k d below), in_order_weaker R S f calls order.1)

pub follow_in_order : (window : Window) (calls : List Call) → AreDrawnInOrder (FollowsIn window) calls → AreDrawnInOrder Follows calls
follow_in_order window calls order = in_order_weaker (FollowsIn window) Follows (λ a b follows. follows.follows) calls order
