-- Latencies of windows.
use Rattle.std.proofs.Common.{◌≡◌, ◌∙◌, ℕ, ◌+◌, ◌-◌, ◌/◌, ◌≤◌, Bool, true, false, cond, List, [], ◌∷◌, ◌++◌, Option, Some, None, refl, sym, ap, subst, arith}
use Rattle.std.specs.Prelude.{◌==◌, IfSome, option_map, unwrap_or}
use Rattle.std.specs.List.{All, AllZip, cons_option, filter, range_with_len}
use Rattle.std.proofs.lemmas.List.{append-nil}
use Rattle.std.proofs.lemmas.List.Elements.{All-cons, All-head, All-nil, All-tail, filter-append, filter_map-append}
use Rattle.std.proofs.lemmas.Slice.Zip.{all_zipped_more}
use Rattle.jh_plots.specs.Calls.{latency}
use Rattle.jh_plots.specs.Latencies.{last_latency}
use Rattle.jh_plots.specs.Percentiles.{known_latency, latencies_in, latency_within}
use Rattle.jh_plots.specs.PercentilesInside.{IsOnAxis}
use Rattle.jh_plots.specs.ScaleInside.{IsPlotted, IsScale}
use Rattle.jh_plots.specs.declared.calls.TimedCall.{TimedCall}
use Rattle.jh_plots.specs.declared.scale.Scale.{Scale}
use Rattle.jh_plots.proofs.AxisLemmas.{range_more}

-- ---- one call more

pub latencies_some : (width window : ℕ) (calls : List TimedCall) (call : TimedCall) (known : ℕ) → latency_within width window call ≡ Some known → latencies_in width (calls ++ call ∷ []) window ≡ latencies_in width calls window ++ known ∷ []
latencies_some width window calls call known is =
    filter_map-append (latency_within width window) calls (call ∷ []) ∙ ap (λ o. latencies_in width calls window ++ cons_option o []) is

pub latencies_none : (width window : ℕ) (calls : List TimedCall) (call : TimedCall) → latency_within width window call ≡ None → latencies_in width (calls ++ call ∷ []) window ≡ latencies_in width calls window
latencies_none width window calls call is =
    filter_map-append (latency_within width window) calls (call ∷ []) ∙ ap (λ o. latencies_in width calls window ++ cons_option o []) is ∙ append-nil (latencies_in width calls window)

-- ---- latencies that are on the axis

known_on_axis : (scale : Scale) (call : TimedCall) → IsScale scale → IsPlotted scale call → IfSome (known_latency call) (IsOnAxis scale)
known_on_axis scale call is plotted = by_end call.ended refl plotted.ended plotted.latency where
  by_end : (ended : Option ℕ) → call.ended ≡ ended → IfSome ended (λ e. e ≤ scale.end) → latency scale.end call ≤ last_latency scale.decades → IfSome (known_latency call) (IsOnAxis scale)
  by_end None e le within = subst (λ o. IfSome (option_map (λ ended. ended - call.asked) o) (IsOnAxis scale)) (sym e) tt
  by_end (Some ended) e le within =
      let same : latency scale.end call ≡ ended - call.asked = ap (λ o. unwrap_or o scale.end - call.asked) e in
      subst (λ o. IfSome (option_map (λ ended. ended - call.asked) o) (IsOnAxis scale)) (sym e) (record { within = omega (arith, same, within); fits = omega (arith, le, is.fits) })

within_on_axis : (width window : ℕ) (scale : Scale) (call : TimedCall) → IfSome (known_latency call) (IsOnAxis scale) → IfSome (latency_within width window call) (IsOnAxis scale)
within_on_axis width window scale call h = elim (call.asked / width == window) as (λ t. IfSome (cond t (known_latency call) None) (IsOnAxis scale)) [ true ↦ h | false ↦ tt ]

all_known : (P : ℕ → Type 0) (o : Option ℕ) (xs : List ℕ) → IfSome o P → All P xs → All P (cons_option o xs)
all_known P None xs h all = all
all_known P (Some x) xs h all = All-cons P x xs h all

pub latencies_on_axis : (width window : ℕ) (scale : Scale) (calls : List TimedCall) → IsScale scale → All (IsPlotted scale) calls → All (IsOnAxis scale) (latencies_in width calls window)
latencies_on_axis width window scale [] is all = All-nil (IsOnAxis scale)
latencies_on_axis width window scale (call ∷ calls) is all =
    all_known (IsOnAxis scale) (latency_within width window call) (latencies_in width calls window)
    (within_on_axis width window scale call (known_on_axis scale call is (All-head (IsPlotted scale) call calls all)))
    (latencies_on_axis width window scale calls is (All-tail (IsPlotted scale) call calls all))

-- ---- one window more

pub zip_with : {B : Type 0} (R : ℕ → B → Type 0) (p : ℕ → Bool) (n : ℕ) (old new : List B) (b : B) → AllZip R (filter p (range_with_len 0 n)) old → p n ≡ true → R n b → new ≡ old ++ b ∷ [] → AllZip R (filter p (range_with_len 0 (n + 1))) new
zip_with R p n old new b zipped passes here pushed =
    let more : filter p (range_with_len 0 (n + 1)) ≡ filter p (range_with_len 0 n) ++ n ∷ [] =
    ap (filter p) (range_more n) ∙ filter-append p (range_with_len 0 n) (n ∷ []) ∙ ap (λ t. filter p (range_with_len 0 n) ++ cond t (n ∷ []) []) passes in
    subst (λ xs. AllZip R xs new) (sym more) (subst (AllZip R (filter p (range_with_len 0 n) ++ n ∷ [])) (sym pushed) (all_zipped_more R (filter p (range_with_len 0 n)) old n b zipped here))

pub zip_without : {B : Type 0} (R : ℕ → B → Type 0) (p : ℕ → Bool) (n : ℕ) (rows : List B) → AllZip R (filter p (range_with_len 0 n)) rows → p n ≡ false → AllZip R (filter p (range_with_len 0 (n + 1))) rows
zip_without R p n rows zipped fails =
    let more : filter p (range_with_len 0 (n + 1)) ≡ filter p (range_with_len 0 n) =
    ap (filter p) (range_more n) ∙ filter-append p (range_with_len 0 n) (n ∷ []) ∙ ap (λ t. filter p (range_with_len 0 n) ++ cond t (n ∷ []) []) fails ∙ append-nil (filter p (range_with_len 0 n)) in
    subst (λ xs. AllZip R xs rows) (sym more) zipped
