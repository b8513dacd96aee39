use Rattle.std.proofs.Common.{◌≡◌, ◌∙◌, ap, length, subst, rules}
use Rattle.jh_plots.specs.Percentiles.{ArePercentilesOf}
use Rattle.jh_plots.specs.Points.{ArePointsOf}
use Rattle.jh_plots.specs.RatesInside.{rows_of}
use Rattle.jh_plots.proofs.CountLemmas.{rows_are}
use Rattle.jh_plots.proofs.panels.panel_of.Goals as goal

pub returns : goal.returns
returns c =
    let scale = c.args.scale.now in
    let own = c.args.group.now.calls.items in
    let count : c.len.result ≡ length own = search rules in
    record {
      heading = c.in_ok-heading.ensures;
      calls = count;
      points = subst (λ xs. ArePointsOf scale xs c.in_ok-points.points.items) c.deref.ensures.value c.in_ok-points.ensures;
      percentiles = subst (λ xs. ArePercentilesOf scale xs c.in_ok-percentiles.percentiles.items) c.deref-2.ensures.value c.in_ok-percentiles.ensures;
      rates = c.in_ok-rates.ensures ∙ ap (rows_of scale) (c.deref-3.ensures.value ∙ c.requires.counts) ∙ rows_are scale own;
    }
