-- How far axes go, and what is on them.
use Rattle.std.proofs.Common.{◌≡◌, ◌∙◌, ℕ, zero, suc, ◌+◌, ◌-◌, ◌*◌, ◌^◌, ◌<◌, ◌≤◌, List, [], ◌∷◌, length, get_or, take, map, max, Option, Some, None, refl, sym, ap, subst, arith}
use Rattle.std.specs.Prelude.{IfSome, fold, unwrap_or, ◌==◌}
use Rattle.std.specs.List.{All, AllZip, flat_map, range_with_len}
use Rattle.std.proofs.Math.Nat.{mul-le-mul_right}
use Rattle.std.proofs.lemmas.List.{get_or-map, length-map, map_push}
use Rattle.std.proofs.lemmas.List.Elements.{All-cons, All-filter, All-head, All-map, All-nil, All-same, All-tail, All-weaker}
use Rattle.std.proofs.lemmas.List.FromFn.{length-range_with_len}
use Rattle.std.proofs.lemmas.List.Sums.{fold_push}
use Rattle.std.proofs.lemmas.Slice.Zip.{AllZip-long}
use Rattle.jh_plots.specs.Calls.{latency}
use Rattle.jh_plots.specs.CallsInside.{IsCallWithin}
use Rattle.jh_plots.specs.Latencies.{last_latency}
use Rattle.jh_plots.specs.Panels.{own_calls, panel_of}
use Rattle.jh_plots.specs.PanelsInside.{IsGroupOf, IsGroupPlotted}
use Rattle.jh_plots.specs.Rates.{RATE_WINDOWS, counts_of, most_of, width_of}
use Rattle.jh_plots.specs.RatesInside.{AreSmallCounts, AreOnAxis}
use Rattle.jh_plots.specs.ScaleInside.{IsPlotted}
use Rattle.jh_plots.specs.Times.{greatest}
use Rattle.jh_plots.specs.declared.calls.TimedCall.{TimedCall}
use Rattle.jh_plots.specs.declared.panels.Group.{Group}
use Rattle.jh_plots.specs.declared.rates.Counts.{Counts}
use Rattle.jh_plots.specs.declared.scale.Scale.{Scale}
use Rattle.jh_plots.proofs.PointLemmas.{taken}

-- ---- the greatest of numbers

start_le : (a : ℕ) (xs : List ℕ) → a ≤ fold max a xs
start_le a [] = omega arith
start_le a (x ∷ xs) = let h : max a x ≤ fold max (max a x) xs = start_le (max a x) xs in let low : a ≤ max a x = omega arith in omega (arith, h, low)

all_le : (a : ℕ) (xs : List ℕ) → All (λ x. x ≤ fold max a xs) xs
all_le a [] = All-nil (λ x. x ≤ fold max a [])
all_le a (x ∷ xs) =
    let h : max a x ≤ fold max (max a x) xs = start_le (max a x) xs in
    let low : x ≤ max a x = omega arith in
    All-cons (λ y. y ≤ fold max (max a x) xs) x xs (omega (arith, h, low)) (all_le (max a x) xs)

all_bound : (bound a : ℕ) (xs : List ℕ) → a ≤ bound → All (λ x. x ≤ bound) xs → fold max a xs ≤ bound
all_bound bound a [] h all = h
all_bound bound a (x ∷ xs) h all = let x_low : x ≤ bound = All-head (λ y. y ≤ bound) x xs all in all_bound bound (max a x) xs (omega (arith, h, x_low)) (All-tail (λ y. y ≤ bound) x xs all)

-- what is made of each element is no greater than the greatest
pub mapped_le : {X : Type 0} (f : X → ℕ) (xs : List X) → All (λ x. f x ≤ greatest (map f xs)) xs
mapped_le f xs = λ k d low.
    let there : get_or (map f xs) k 0 ≤ greatest (map f xs) = all_le 0 (map f xs) k 0 (omega (arith, length-map xs f, low)) in
    let same : get_or (map f xs) k 0 ≡ f (get_or xs k d) = get_or-map f xs k d 0 low in
    omega (arith, there, same)

pub mapped_bound : {X : Type 0} (f : X → ℕ) (bound : ℕ) (xs : List X) → All (λ x. f x ≤ bound) xs → greatest (map f xs) ≤ bound
mapped_bound f bound xs all = all_bound bound 0 (map f xs) (omega arith) (All-map (λ x. x ≤ bound) f xs all)

-- ---- latencies

latency_le : (end : ℕ) (call : TimedCall) → IsCallWithin end call → latency end call ≤ end
latency_le end call within = by_end call.ended within.ended where
  by_end : (ended : Option ℕ) → IfSome ended (λ e. e ≤ end) → unwrap_or ended end - call.asked ≤ end
  by_end None h = omega arith
  by_end (Some ended) h = omega (arith, h)

pub latencies_few : (end : ℕ) (calls : List TimedCall) → end < 2 ^ 63 → All (IsCallWithin end) calls → greatest (map (latency end) calls) < 2 ^ 63
latencies_few end calls fits within =
    let most : greatest (map (latency end) calls) ≤ end = mapped_bound (latency end) end calls (All-weaker (IsCallWithin end) (λ c. latency end c ≤ end) (λ c h. latency_le end c h) calls within) in
    omega (arith, most, fits)

pub calls_plotted : (scale : Scale) (calls : List TimedCall) → All (IsCallWithin scale.end) calls → greatest (map (latency scale.end) calls) ≤ last_latency scale.decades → All (IsPlotted scale) calls
calls_plotted scale calls within enough = λ k d low.
    let inside = within k d low in
    let most = mapped_le (latency scale.end) calls k d low in
    record { asked = inside.asked; ended = inside.ended; latency = omega (arith, most, enough) }

-- ---- counts

abbrev parts : Counts → List ℕ
parts row = row.ok ∷ row.fail ∷ row.info ∷ []

abbrev Below : ℕ → Counts → Type 0
Below bound row = (row.ok ≤ bound) × (row.fail ≤ bound) × (row.info ≤ bound)

rows_le : (a : ℕ) (rows : List Counts) → All (Below (fold max a (flat_map parts rows))) rows
rows_le a [] = All-nil (Below a)
rows_le a (row ∷ rows) =
    let m = max (max (max a row.ok) row.fail) row.info in
    let h : m ≤ fold max m (flat_map parts rows) = start_le m (flat_map parts rows) in
    let ok : row.ok ≤ m = omega arith in
    let fail : row.fail ≤ m = omega arith in
    let info : row.info ≤ m = omega arith in
    All-cons (Below (fold max m (flat_map parts rows))) row rows (omega (arith, h, ok), omega (arith, h, fail), omega (arith, h, info)) (rows_le m rows)

rows_bound : (bound a : ℕ) (rows : List Counts) → a ≤ bound → All (Below bound) rows → fold max a (flat_map parts rows) ≤ bound
rows_bound bound a [] h all = h
rows_bound bound a (row ∷ rows) h all =
    let first = All-head (Below bound) row rows all in
    rows_bound bound (max (max (max a row.ok) row.fail) row.info) rows (omega (arith, h, first.0, first.1, first.2)) (All-tail (Below bound) row rows all)

pub most_few : (groups : List Group) → All (λ group. All AreSmallCounts group.counts.items) groups → greatest (map (λ group. most_of group.counts.items) groups) < 2 ^ 63
most_few groups few =
    let bound = 2 ^ 63 - 1 in
    let below : All (λ (group : Group). most_of group.counts.items ≤ bound) groups =
    All-weaker (λ (group : Group). All AreSmallCounts group.counts.items) (λ (group : Group). most_of group.counts.items ≤ bound)
    (λ group h. rows_bound bound 0 group.counts.items (omega arith) (All-weaker AreSmallCounts (Below bound) (λ row is. (omega (arith, is.ok), omega (arith, is.fail), omega (arith, is.info))) group.counts.items h)) groups few in
    let most : greatest (map (λ (group : Group). most_of group.counts.items) groups) ≤ bound = mapped_bound (λ (group : Group). most_of group.counts.items) bound groups below in
    omega (arith, most)

pub counts_on_axis : (width most : ℕ) (scale : Scale) (rows : List Counts) → most_of rows ≤ most → most * 10 ^ 9 ≤ width * scale.top → All (AreOnAxis width scale) rows
counts_on_axis width most scale rows low enough =
    All-weaker (Below (most_of rows)) (AreOnAxis width scale) (λ row h. record {
      ok = fits row.ok h.0;
      fail = fits row.fail h.1;
      info = fits row.info h.2;
    }) rows (rows_le 0 rows) where
      fits : (count : ℕ) → count ≤ most_of rows → count * 10 ^ 9 ≤ width * scale.top
      fits count h = let more : count * 10 ^ 9 ≤ most * 10 ^ 9 = mul-le-mul_right (10 ^ 9) (omega (arith, h, low)) in omega (arith, more, enough)

-- ---- groups

own_of : (end : ℕ) (calls : List TimedCall) (P : TimedCall → Type 0) → All P calls → (a n : ℕ) (groups : List Group) → AllZip (IsGroupOf end calls) (range_with_len a n) groups → All (λ group. All P group.calls.items) groups
own_of end calls P all a zero [] g = All-nil (λ (group : Group). All P group.calls.items)
own_of end calls P all a zero (x ∷ groups) g = absurd g
own_of end calls P all a (suc n) [] g = absurd g
own_of end calls P all a (suc n) (x ∷ groups) g =
    All-cons (λ (group : Group). All P group.calls.items) x groups (All-same P x.calls.items (own_calls calls a) g.0.own (All-filter (λ call. panel_of call.function == a) P calls all)) (own_of end calls P all (a + 1) n groups g.1)

pub groups_plotted : (end width most : ℕ) (scale : Scale) (calls : List TimedCall) (n : ℕ) (groups : List Group) → AllZip (IsGroupOf end calls) (range_with_len 0 n) groups → All (IsPlotted scale) calls → most ≡ greatest (map (λ group. most_of group.counts.items) groups)
    → width ≡ width_of RATE_WINDOWS scale.end → most * 10 ^ 9 ≤ width * scale.top → All (IsGroupPlotted scale) groups
groups_plotted end width most scale calls n groups g plotted is wide enough = λ k d low. record {
  calls = own_of end calls (IsPlotted scale) plotted 0 n groups g k d low;
  counts = subst (λ w. All (AreOnAxis w scale) (get_or groups k d).counts.items) wide
      (counts_on_axis width most scale (get_or groups k d).counts.items (let le = mapped_le (λ (group : Group). most_of group.counts.items) groups k d low in omega (arith, le, is)) enough);
}

pub most_same : (end : ℕ) (calls : List TimedCall) (a n : ℕ) (groups : List Group) → AllZip (IsGroupOf end calls) (range_with_len a n) groups
    → map (λ group. most_of group.counts.items) groups ≡ map (λ panel. most_of (counts_of end (own_calls calls panel))) (range_with_len a n)
most_same end calls a zero [] g = refl
most_same end calls a zero (x ∷ groups) g = absurd g
most_same end calls a (suc n) [] g = absurd g
most_same end calls a (suc n) (x ∷ groups) g = λ i. most_of (g.0.counts i) ∷ most_same end calls (a + 1) n groups g.1 i

pub counts_same : (end : ℕ) (calls : List TimedCall) (a n : ℕ) (groups : List Group) → AllZip (IsGroupOf end calls) (range_with_len a n) groups → All (λ group. group.counts.items ≡ counts_of end group.calls.items) groups
counts_same end calls a zero [] g = All-nil (λ (group : Group). group.counts.items ≡ counts_of end group.calls.items)
counts_same end calls a zero (x ∷ groups) g = absurd g
counts_same end calls a (suc n) [] g = absurd g
counts_same end calls a (suc n) (x ∷ groups) g =
    All-cons (λ (group : Group). group.counts.items ≡ counts_of end group.calls.items) x groups (g.0.counts ∙ ap (counts_of end) (sym g.0.own)) (counts_same end calls (a + 1) n groups g.1)

pub groups_long : (end : ℕ) (calls : List TimedCall) (n : ℕ) (groups : List Group) → AllZip (IsGroupOf end calls) (range_with_len 0 n) groups → length groups ≡ n
groups_long end calls n groups g = AllZip-long (IsGroupOf end calls) (range_with_len 0 n) groups g ∙ length-range_with_len 0 n

pub greatest_more : {X : Type 0} (f : X → ℕ) (xs : List X) (i : ℕ) (x d : X) → i < length xs → x ≡ get_or xs i d → max (greatest (map f (take i xs))) (f x) ≡ greatest (map f (take (i + 1) xs))
greatest_more f xs i x d low at = sym (fold_push max 0 (map f (take i xs)) (f x)) ∙ ap greatest (sym (map_push f (take i xs) x)) ∙ ap (λ ys. greatest (map f ys)) (sym (taken xs i x d low at))

-- the same groups, as a call is passed them
pub regroup : (end : ℕ) (calls same_calls : List TimedCall) (n : ℕ) (groups same_groups : List Group) → same_calls ≡ calls → same_groups ≡ groups → AllZip (IsGroupOf end calls) (range_with_len 0 n) groups
    → AllZip (IsGroupOf end same_calls) (range_with_len 0 (length same_groups)) same_groups
regroup end calls same_calls n groups same_groups one other g =
    subst (λ cs. AllZip (IsGroupOf end cs) (range_with_len 0 (length same_groups)) same_groups) (sym one)
    (subst (λ gs. AllZip (IsGroupOf end calls) (range_with_len 0 (length gs)) gs) (sym other)
    (subst (λ m. AllZip (IsGroupOf end calls) (range_with_len 0 m) groups) (sym (groups_long end calls n groups g)) g))
