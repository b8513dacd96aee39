-- Calls that are counted one by one.
use Rattle.std.proofs.Common.{◌≡◌, ◌∙◌, ℕ, zero, suc, ◌+◌, ◌*◌, ◌/◌, ◌^◌, ◌<◌, ◌≤◌, Bool, true, false, cond, ◌&&◌, List, [], ◌∷◌, ◌++◌, length, get_or, set, map, max, replicate, Option, Some, None, refl, sym, ap, subst, arith, inl, inr}
use Rattle.std.specs.Prelude.{◌==◌, IfSome}
use Rattle.std.specs.Option.{option_map_or}
use Rattle.std.proofs.lemmas.List.Elements.{All-map}
use Rattle.std.specs.List.{All, enumerate_from, flat_map, range_with_len}
use Rattle.std.proofs.lemmas.Bool.{cases_eq, eq-eqb, ne_eqb}
use Rattle.std.proofs.lemmas.List.{flat_map_more, get_or-set_other, get_or-set_same, length-set, map_push}
use Rattle.std.proofs.lemmas.List.FromFn.{fill_by_all, get_or-map-range_with_len, length-map-range_with_len}
use Rattle.std.proofs.lemmas.List.Sums.{count_by-le-length, fold-append, sum_by_push}
use Rattle.jh_ops.specs.Operation.{is_kind}
use Rattle.jh_ops.specs.declared.operation.Kind.{Kind}
use Rattle.jh_plots.specs.Rates.{RATE_WINDOWS, count_in, counts_in, counts_of, is_ended_in, most_of, rate_row, rates_of, width_of}
use Rattle.jh_plots.specs.RatesInside.{AreSmallCounts, IsEndedBefore, counted_call, counted_ended, no_counts, rows_of, with_one}
use Rattle.std.proofs.Math.Nat.{div-mul-le_self}
use Rattle.std.proofs.lemmas.Nat.{le-div}
use Rattle.std.proofs.lemmas.Option.{IfSome_then}
use Rattle.jh_plots.specs.CallsInside.{IsCallWithin}
use Rattle.jh_plots.specs.Times.{greatest}
use Rattle.jh_plots.specs.declared.calls.TimedCall.{TimedCall}
use Rattle.jh_plots.specs.declared.rates.Counts.{Counts}
use Rattle.jh_plots.specs.declared.scale.Scale.{Scale}

-- ---- one call more

count_more : (width : ℕ) (calls : List TimedCall) (call : TimedCall) (kind : Kind) (window : ℕ)
    → count_in width (calls ++ call ∷ []) kind window ≡ count_in width calls kind window + cond (is_kind kind call.kind && is_ended_in width window call) 1 0
count_more width calls call kind window = sum_by_push (λ c. cond (is_kind kind c.kind && is_ended_in width window c) 1 0) calls call

one_more : (ok fail info : ℕ) (kind : Kind) (t : Bool)
    → (let counts : Counts = record { ok = ok + cond (is_kind Kind.Ok kind && t) 1 0; fail = fail + cond (is_kind Kind.Fail kind && t) 1 0; info = info + cond (is_kind Kind.Info kind && t) 1 0 } in counts)
    ≡ cond t (with_one (record { ok = ok; fail = fail; info = info }) kind) (record { ok = ok; fail = fail; info = info })
one_more ok fail info Kind.Invoke true = none ok fail info
  where
    none : (a b c : ℕ) → (let counts : Counts = record { ok = a + 0; fail = b + 0; info = c + 0 } in counts) ≡ record { ok = a; fail = b; info = c }
    none a b c = let ea : a + 0 ≡ a = omega arith in let eb : b + 0 ≡ b = omega arith in let ec : c + 0 ≡ c = omega arith in λ i. record { ok = ea i; fail = eb i; info = ec i }
one_more ok fail info Kind.Invoke false = let ea : ok + 0 ≡ ok = omega arith in let eb : fail + 0 ≡ fail = omega arith in let ec : info + 0 ≡ info = omega arith in λ i. record { ok = ea i; fail = eb i; info = ec i }
one_more ok fail info Kind.Ok true = let eb : fail + 0 ≡ fail = omega arith in let ec : info + 0 ≡ info = omega arith in λ i. record { ok = ok + 1; fail = eb i; info = ec i }
one_more ok fail info Kind.Ok false = let ea : ok + 0 ≡ ok = omega arith in let eb : fail + 0 ≡ fail = omega arith in let ec : info + 0 ≡ info = omega arith in λ i. record { ok = ea i; fail = eb i; info = ec i }
one_more ok fail info Kind.Fail true = let ea : ok + 0 ≡ ok = omega arith in let ec : info + 0 ≡ info = omega arith in λ i. record { ok = ea i; fail = fail + 1; info = ec i }
one_more ok fail info Kind.Fail false = let ea : ok + 0 ≡ ok = omega arith in let eb : fail + 0 ≡ fail = omega arith in let ec : info + 0 ≡ info = omega arith in λ i. record { ok = ea i; fail = eb i; info = ec i }
one_more ok fail info Kind.Info true = let ea : ok + 0 ≡ ok = omega arith in let eb : fail + 0 ≡ fail = omega arith in λ i. record { ok = ea i; fail = eb i; info = info + 1 }
one_more ok fail info Kind.Info false = let ea : ok + 0 ≡ ok = omega arith in let eb : fail + 0 ≡ fail = omega arith in let ec : info + 0 ≡ info = omega arith in λ i. record { ok = ea i; fail = eb i; info = ec i }

counts_more : (width : ℕ) (calls : List TimedCall) (call : TimedCall) (window : ℕ)
    → counts_in width (calls ++ call ∷ []) window ≡ cond (is_ended_in width window call) (with_one (counts_in width calls window) call.kind) (counts_in width calls window)
counts_more width calls call window =
    let parts : counts_in width (calls ++ call ∷ []) window ≡ record {
      ok = count_in width calls Kind.Ok window + cond (is_kind Kind.Ok call.kind && is_ended_in width window call) 1 0;
      fail = count_in width calls Kind.Fail window + cond (is_kind Kind.Fail call.kind && is_ended_in width window call) 1 0;
      info = count_in width calls Kind.Info window + cond (is_kind Kind.Info call.kind && is_ended_in width window call) 1 0;
    } = λ i. record { ok = count_more width calls call Kind.Ok window i; fail = count_more width calls call Kind.Fail window i; info = count_more width calls call Kind.Info window i } in
    parts ∙ one_more (count_in width calls Kind.Ok window) (count_in width calls Kind.Fail window) (count_in width calls Kind.Info window) call.kind (is_ended_in width window call)

-- the counts of windows, with a call that ended in one of them
pub counted_more : (width n : ℕ) (calls : List TimedCall) (call : TimedCall) (rows : List Counts) → rows ≡ map (counts_in width calls) (range_with_len 0 n) → IsEndedBefore width n call
    → counted_call width rows call ≡ map (counts_in width (calls ++ call ∷ [])) (range_with_len 0 n)
counted_more width n calls call rows is before = by_end call.ended refl before where
  f : ℕ → Counts
  f = counts_in width calls

  long : length rows ≡ n
  long = ap length is ∙ length-map-range_with_len (counts_in width calls) 0 n

  at : (k : ℕ) → k < n → get_or rows k no_counts ≡ counts_in width calls k
  at k less = ap (λ xs. get_or xs k no_counts) is ∙ get_or-map-range_with_len (counts_in width calls) 0 n k k no_counts less (omega arith)

  more : (k : ℕ) (t : Bool) → is_ended_in width k call ≡ t → counts_in width (calls ++ call ∷ []) k ≡ cond t (with_one (counts_in width calls k) call.kind) (counts_in width calls k)
  more k t e = counts_more width calls call k ∙ ap (λ b. cond b (with_one (counts_in width calls k) call.kind) (counts_in width calls k)) e

  by_end : (ended : Option ℕ) → call.ended ≡ ended → IsEndedBefore width n call → counted_ended width rows call.kind call.ended ≡ map (counts_in width (calls ++ call ∷ [])) (range_with_len 0 n)
  by_end None e h =
      ap (counted_ended width rows call.kind) e
      ∙ fill_by_all (counts_in width (calls ++ call ∷ [])) rows n no_counts long
      (λ k less. at k less ∙ sym (more k false (ap (λ o. option_map_or (λ ended. ended / width == k) o false) e)))
  by_end (Some ended) e h =
      let w = ended / width in
      let low : w < n = subst (λ o. IfSome o (λ ended. ended / width < n)) e h in
      ap (counted_ended width rows call.kind) e
      ∙ fill_by_all (counts_in width (calls ++ call ∷ [])) (set rows w (with_one (get_or rows w no_counts) call.kind)) n no_counts (length-set rows w (with_one (get_or rows w no_counts) call.kind) ∙ long)
      (λ k less. elim (cases_eq w k) as (λ _. get_or (set rows w (with_one (get_or rows w no_counts) call.kind)) k no_counts ≡ counts_in width (calls ++ call ∷ []) k) [
        | inl same ↦
            ap (λ j. get_or (set rows w (with_one (get_or rows w no_counts) call.kind)) j no_counts) (sym same)
            ∙ get_or-set_same rows w (with_one (get_or rows w no_counts) call.kind) no_counts (omega (arith, low, long))
            ∙ ap (λ c. with_one c call.kind) (at w low ∙ ap (counts_in width calls) same)
            ∙ sym (more k true (ap (λ o. option_map_or (λ ended. ended / width == k) o false) e ∙ eq-eqb w k same))
        | inr apart ↦
            get_or-set_other rows w k (with_one (get_or rows w no_counts) call.kind) no_counts (λ back. apart (sym back))
            ∙ at k less
            ∙ sym (more k false (ap (λ o. option_map_or (λ ended. ended / width == k) o false) e ∙ ne_eqb w k apart))
      ])

-- no count is above the number of calls
pub counts_few : (width : ℕ) (calls : List TimedCall) (window : ℕ) → length calls < 2 ^ 63 → AreSmallCounts (counts_in width calls window)
counts_few width calls window few = record {
  ok = omega (arith, few, count_by-le-length (λ c. is_kind Kind.Ok c.kind && is_ended_in width window c) calls);
  fail = omega (arith, few, count_by-le-length (λ c. is_kind Kind.Fail c.kind && is_ended_in width window c) calls);
  info = omega (arith, few, count_by-le-length (λ c. is_kind Kind.Info c.kind && is_ended_in width window c) calls);
}

pub all_few : (width : ℕ) (calls : List TimedCall) (a n : ℕ) (rows : List Counts) → rows ≡ map (counts_in width calls) (range_with_len a n) → length calls < 2 ^ 63 → All AreSmallCounts rows
all_few width calls a n rows is few = subst (All AreSmallCounts) (sym is) (All-map AreSmallCounts (counts_in width calls) (range_with_len a n) (λ k d less. counts_few width calls (get_or (range_with_len a n) k d) few))

-- ---- the greatest of counts

pub most_more : (rows : List Counts) (row : Counts) → most_of (rows ++ row ∷ []) ≡ max (max (max (most_of rows) row.ok) row.fail) row.info
most_more rows row =
    let parts = λ (r : Counts). r.ok ∷ r.fail ∷ r.info ∷ [] in
    ap greatest (sym (flat_map_more parts [] rows row)) ∙ fold-append max 0 (flat_map parts rows) (parts row)

-- ---- rows of windows

pub enumerate_more : {X : Type 0} (a : ℕ) (xs : List X) (x : X) → enumerate_from a (xs ++ x ∷ []) ≡ enumerate_from a xs ++ (a + length xs, x) ∷ []
enumerate_more a [] x = let none : a ≡ a + 0 = omega arith in λ i. (none i, x) ∷ []
enumerate_more a (y ∷ xs) x = let more : a + 1 + length xs ≡ a + length (y ∷ xs) = omega arith in ap (λ ys. (a, y) ∷ ys) (enumerate_more (a + 1) xs x ∙ (λ i. enumerate_from (a + 1) xs ++ (more i, x) ∷ []))

numbered_map : {X Y : Type 0} (F : ℕ × X → Y) (f : ℕ → X) (a n : ℕ) → map F (enumerate_from a (map f (range_with_len a n))) ≡ map (λ k. F (k, f k)) (range_with_len a n)
numbered_map F f a zero = refl
numbered_map F f a (suc n) = ap (λ ys. F (a, f a) ∷ ys) (numbered_map F f (a + 1) n)

pub rows_are : (scale : Scale) (calls : List TimedCall) → rows_of scale (counts_of scale.end calls) ≡ rates_of scale calls
rows_are scale calls =
    let width = width_of RATE_WINDOWS scale.end in
    numbered_map (λ numbered. rate_row width scale numbered.0 numbered.1) (counts_in width calls) 0 (scale.end / width + 1)

-- ---- what a loop over calls wants

abbrev pub no_call : TimedCall
no_call = record { function = 0; asked = 0; ended = None; kind = Kind.Invoke }

pub no_rows : (width a n : ℕ) → replicate n no_counts ≡ map (counts_in width []) (range_with_len a n)
no_rows width a zero = refl
no_rows width a (suc n) = ap (λ rows. no_counts ∷ rows) (no_rows width (a + 1) n)

pub ended_before : (width end : ℕ) (call : TimedCall) → 0 < width → IsCallWithin end call → IsEndedBefore width (end / width + 1) call
ended_before width end call some within = IfSome_then call.ended within.ended (λ ended le. let down : ended / width * width ≤ ended = div-mul-le_self ended width in let low : ended / width ≤ end / width = le-div (ended / width) end width some (omega (arith, down, le)) in omega (arith, low))

pub rows_more : (scale : Scale) (rows : List Counts) (row : Counts) (i : ℕ) → length rows ≡ i → rows_of scale (rows ++ row ∷ []) ≡ rows_of scale rows ++ rate_row (width_of RATE_WINDOWS scale.end) scale i row ∷ []
rows_more scale rows row i long =
    let F = λ (numbered : ℕ × Counts). rate_row (width_of RATE_WINDOWS scale.end) scale numbered.0 numbered.1 in
    let same : 0 + length rows ≡ i = omega (arith, long) in
    ap (map F) (enumerate_more 0 rows row) ∙ map_push F (enumerate_from 0 rows) (0 + length rows, row)
    ∙ ap (λ k. rows_of scale rows ++ rate_row (width_of RATE_WINDOWS scale.end) scale k row ∷ []) same
