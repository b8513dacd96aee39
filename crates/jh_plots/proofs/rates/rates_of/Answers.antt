use Rattle.std.proofs.Common.{◌∙◌, ◌++◌, ◌∷◌, [], get_or, refl, sym, ap, take, arith}
use Rattle.std.proofs.lemmas.List.{length-take-le}
use Rattle.jh_plots.specs.Rates.{rate_row}
use Rattle.jh_plots.specs.RatesInside as inside
use Rattle.jh_plots.proofs.CountLemmas.{rows_more}
use Rattle.jh_plots.proofs.PointLemmas.{taken}
use Rattle.jh_plots.proofs.rates.rates_of.Goals as goal

pub loop-window-preserved : goal.loop-window-preserved
loop-window-preserved c =
    let l = c.loop-window in
    let scale = c.args.scale.now in
    let counts = c.args.counts.now in
    let row = get_or counts l.window inside.no_counts in
    c.in_ok-push.ensures.items
    ∙ (λ i. l.invariant i ++ (c.rate_row.ensures ∙ ap (λ w. rate_row w scale l.window row) c.width_of-width.ensures.width) i ∷ [])
    ∙ sym (rows_more scale (take l.window counts) row l.window (length-take-le l.window counts (omega arith)))
    ∙ ap (inside.rows_of scale) (sym (taken counts l.window row inside.no_counts c.loop-window-test.true refl))
