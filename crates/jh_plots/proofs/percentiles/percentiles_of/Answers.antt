use Rattle.std.proofs.Common.{◌≡◌, ◌∙◌, ℕ, ◌+◌, ◌/◌, ◌<◌, ◌≤◌, true, false, nat_lt, length, subst, sym, ap, arith, rules, vec_len}
use Rattle.std.specs.Prelude.{◌==◌}
use Rattle.std.specs.List.{AllZip, filter, range_with_len}
use Rattle.std.proofs.lemmas.Bool.{eqb-false, eqb-true, le-ltb, lt-ltb}
use Rattle.std.proofs.lemmas.List.Elements.{All-same}
use Rattle.jh_plots.specs.Percentiles.{IsRowOf, latencies_in}
use Rattle.jh_plots.specs.PercentilesInside.{IsOnAxis}
use Rattle.jh_plots.proofs.PercentileLemmas.{latencies_on_axis, zip_with, zip_without}
use Rattle.jh_plots.proofs.percentiles.percentiles_of.Goals as goal
use Rattle.jh_plots.proofs.percentiles.percentiles_of.Goals.{then-not-is_empty+in_ok-push, else-not-is_empty}

pub row_of-requires-clause-latencies : goal.row_of-requires-clause-latencies
row_of-requires-clause-latencies c =
    All-same (IsOnAxis c.args.scale.now) c.in_ok-latencies.latencies.items (latencies_in c.width_of-width.result c.args.calls.now c.loop-window.window) c.in_ok-latencies.ensures
    (latencies_on_axis c.width_of-width.result c.loop-window.window c.args.scale.now c.args.calls.now c.requires.scale c.requires.plotted)

pub loop-window-preserved : goal.loop-window-preserved
loop-window-preserved c =
    let l = c.loop-window in
    let width = c.width_of-width.result in
    let scale = c.args.scale.now in
    let calls = c.args.calls.now in
    let found = c.in_ok-latencies.latencies.items in
    let R = λ (window : ℕ). IsRowOf width scale window (latencies_in width calls window) in
    let p = λ (window : ℕ). nat_lt 0 (length (latencies_in width calls window)) in
    elim c.if-not-is_empty.branch [
      | then-not-is_empty+in_ok-push w ↦
          let length_is : (vec_len c.in_ok-latencies.latencies == 0) ≡ false = sym c.is_empty.ensures ∙ w.if-not-is_empty.true in
          let some : 0 < length found = search (rules, eqb-false, length_is) in
          zip_with R p l.window l.rows.items c.if-not-is_empty.rows.items w.row_of.result l.invariant
          (lt-ltb 0 (length (latencies_in width calls l.window)) (subst (λ xs. 0 < length xs) c.in_ok-latencies.ensures some))
          (subst (λ xs. IsRowOf width scale l.window xs w.row_of.result) c.in_ok-latencies.ensures w.row_of.ensures)
          (ap (λ v. v.items) w.rows-is ∙ w.in_ok-push.ensures.items)
      | else-not-is_empty w ↦
          let length_is : (vec_len c.in_ok-latencies.latencies == 0) ≡ true = sym c.is_empty.ensures ∙ w.if-not-is_empty.false in
          let none : length found ≡ 0 = search (rules, eqb-true, length_is) in
          subst (λ v. AllZip R (filter p (range_with_len 0 (l.window + 1))) v.items) (sym w.rows-is)
          (zip_without R p l.window l.rows.items l.invariant
          (le-ltb 0 (length (latencies_in width calls l.window)) (subst (λ xs. length xs ≤ 0) c.in_ok-latencies.ensures (omega (arith, none)))))
    ]

pub returns : goal.returns
returns c =
    let l = c.loop-window in
    let scale = c.args.scale.now in
    let calls = c.args.calls.now in
    let rows = l.rows.items in
    let width = c.width_of-width.result in
    let all : l.window ≡ scale.end / width + 1 = omega arith in
    subst (λ w. AllZip (λ window. IsRowOf w scale window (latencies_in w calls window)) (filter (λ window. nat_lt 0 (length (latencies_in w calls window))) (range_with_len 0 (scale.end / w + 1))) rows)
    c.width_of-width.ensures.width
    (subst (λ n. AllZip (λ window. IsRowOf width scale window (latencies_in width calls window)) (filter (λ window. nat_lt 0 (length (latencies_in width calls window))) (range_with_len 0 n)) rows) all l.invariant)
