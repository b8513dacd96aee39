-- Calls in order, and their bars: one more.
use Rattle.std.proofs.Common.{◌≡◌, ℕ, zero, suc, ◌+◌, ◌<◌, List, [], ◌∷◌, ◌++◌, length, min, take, get_or, map, Option, Some, None, refl, sym, ap, subst, ◌∙◌, arith}
use Rattle.std.specs.Prelude.{All, MatchOption}
use Rattle.std.specs.Ordering.{nat_cmp}
use Rattle.std.specs.BTreeMap.{BTreeMap, get}
use Rattle.std.proofs.lemmas.List.{get_or-map, get_or-take, length-map, length-take, take_more}
use Rattle.jh_timeline.specs.LanesInside.{AreCallsInOrder, Follows, KeepsLane, TakesOrKeepsLane, TakesFree}
use Rattle.jh_timeline.specs.declared.picture.Bar.{Bar}
use Rattle.jh_timeline.specs.declared.picture.Call.{Call}
use Rattle.jh_timeline.proofs.CallLemmas.{missed}
use Rattle.jh_timeline.proofs.LaneLemmas.{Laned, laned_keeps, laned_takes}

-- ---- calls in order

in_order_at : (calls : List Call) (j k : ℕ) (d : Call) → AreCallsInOrder calls → j < k → k < length calls → Follows (get_or calls j d) (get_or calls k d)
in_order_at [] j k d order before below = absurd (omega arith)
in_order_at (c ∷ calls) zero zero d order before below = absurd (omega arith)
in_order_at (c ∷ calls) zero (suc k) d order before below = order.0 k d (omega arith)
in_order_at (c ∷ calls) (suc j) zero d order before below = absurd (omega arith)
in_order_at (c ∷ calls) (suc j) (suc k) d order before below = in_order_at calls j k d order.1 (omega arith) (omega arith)

-- the bars of the calls before one
pub all_follow : (calls : List Call) (bars : List Bar) (k : ℕ) (call : Call) → AreCallsInOrder calls → k < length calls → call ≡ get_or calls k call
    → map (λ bar. bar.call) bars ≡ take k calls → All (λ bar. Follows bar.call call) bars
all_follow calls bars k call order below is drawn = λ j d inside.
    let long : length bars ≡ min k (length calls) = sym (length-map bars (λ (b : Bar). b.call)) ∙ ap length drawn ∙ length-take k calls in
    let before : j < k = omega (arith, long) in
    let here : (get_or bars j d).call ≡ get_or calls j call = sym (get_or-map (λ (b : Bar). b.call) bars j d call inside) ∙ ap (λ cs. get_or cs j call) drawn ∙ get_or-take k calls j call before in
    subst (λ c. Follows c call) (sym here) (subst (λ c. Follows (get_or calls j call) c) (sym is) (in_order_at calls j k call order before below))

one_more : (old new : BTreeMap ℕ ℕ) (ends later : List ℕ) (bars : List Bar) (calls : List Call) (k : ℕ) (call : Call) (bar : Bar) (o : Option ℕ) → get nat_cmp old call.client ≡ o
    → MatchOption o (TakesFree old new ends later call bar.lane) (λ had. KeepsLane old new ends later had bar.lane)
    → bar.call ≡ call → All (λ b. Follows b.call call) bars → Laned (get nat_cmp old) ends bars (take k calls)
    → Laned (get nat_cmp new) later (bars ++ bar ∷ []) (take k calls ++ call ∷ [])
one_more old new ends later bars calls k call bar None is takes mine follows laned =
    laned_takes (get nat_cmp old) (get nat_cmp new) ends later bars (take k calls) call bar mine laned follows is takes.free.within takes.free.free takes.free.first takes.until takes.held.1
    (λ other apart. takes.held.2 other (missed call.client other apart))
one_more old new ends later bars calls k call bar (Some had) is keeps mine follows laned =
    let built : bar ≡ record { call = call; lane = had } =
    ap (λ (c : Call). let b : Bar = record { call = c; lane = bar.lane } in b) mine ∙ ap (λ (n : ℕ). let b : Bar = record { call = call; lane = n } in b) keeps.same in
    subst (λ m. Laned (get nat_cmp m) later (bars ++ bar ∷ []) (take k calls ++ call ∷ [])) (sym keeps.held)
    (subst (λ l. Laned (get nat_cmp old) l (bars ++ bar ∷ []) (take k calls ++ call ∷ [])) (sym keeps.until)
    (laned_keeps (get nat_cmp old) ends bars (take k calls) call had bar built laned follows is))

pub any_default : (calls : List Call) (k : ℕ) (d e : Call) → k < length calls → get_or calls k d ≡ get_or calls k e
any_default [] k d e below = absurd (omega arith)
any_default (c ∷ calls) zero d e below = refl
any_default (c ∷ calls) (suc k) d e below = any_default calls k d e (omega arith)

pub laned_more : (old new : BTreeMap ℕ ℕ) (ends later : List ℕ) (bars grown : List Bar) (calls : List Call) (k lane : ℕ) (d : Call)
    → AreCallsInOrder calls → k < length calls → TakesOrKeepsLane old new ends later (get_or calls k d) lane → Laned (get nat_cmp old) ends bars (take k calls)
    → grown ≡ bars ++ record { call = get_or calls k d; lane = lane } ∷ [] → Laned (get nat_cmp new) later grown (take (k + 1) calls)
laned_more old new ends later bars grown calls k lane d order below takes laned made =
    let call = get_or calls k d in
    let bar : Bar = record { call = call; lane = lane } in
    let is : call ≡ get_or calls k call = any_default calls k d call below in
    let follows = all_follow calls bars k call order below is laned.calls in
    let next : take k calls ++ call ∷ [] ≡ take (k + 1) calls = sym (take_more calls k d below) in
    subst (λ cs. Laned (get nat_cmp new) later grown cs) next
    (subst (λ bs. Laned (get nat_cmp new) later bs (take k calls ++ call ∷ [])) (sym made)
    (one_more old new ends later bars calls k call bar (get nat_cmp old call.client) refl takes refl follows laned))
