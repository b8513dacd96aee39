use Rattle.std.proofs.Common.{◌∙◌, ◌<◌, ◌^◌, ap, length, refl, subst, sym, arith}
use Rattle.std.specs.List.{All}
use Rattle.jh_plots.specs.Latencies.{AreDecades}
use Rattle.jh_plots.specs.Rates as rates
use Rattle.jh_plots.specs.ScaleInside.{IsPlotted}
use Rattle.jh_plots.specs.Times.{greatest}
use Rattle.jh_plots.specs.declared.scale.Scale.{Scale}
use Rattle.jh_plots.proofs.ScaleLemmas.{calls_plotted, groups_plotted, latencies_few, most_few, most_same}
use Rattle.jh_plots.proofs.plotted.scale_of.Goals as goal

pub decades_of-requires : goal.decades_of-requires
decades_of-requires c = subst (λ m. m < 2 ^ 63) (sym c.greatest_latency.ensures) (latencies_few c.args.end c.args.calls.now c.requires.fits c.requires.calls)

pub rate_axis_top-requires-clause-few : goal.rate_axis_top-requires-clause-few
rate_axis_top-requires-clause-few c = subst (λ m. m < 2 ^ 63) (sym c.most_in.ensures) (most_few c.args.groups.now c.requires.few)

pub returns-clause-scale : goal.returns-clause-scale
returns-clause-scale c = record {
  end = refl;
  decades = subst (λ m. AreDecades m c.decades_of.result) c.greatest_latency.ensures c.decades_of.ensures.decades;
  top = c.rate_axis_top.ensures.top
      ∙ (λ i. rates.rate_axis_top (c.width_of.ensures.width i) ((c.most_in.ensures ∙ ap greatest (most_same c.args.end c.args.calls.now 0 (length c.args.groups.now) c.args.groups.now c.requires.groups)) i));
}

pub returns-clause-calls : goal.returns-clause-calls
returns-clause-calls c =
    let scale : Scale = record { end = c.args.end; decades = c.decades_of.result; top = c.rate_axis_top.result } in
    calls_plotted scale c.args.calls.now c.requires.calls (omega (arith, c.greatest_latency.ensures, c.decades_of.ensures.decades.enough))

pub returns-clause-groups : goal.returns-clause-groups
returns-clause-groups c =
    let scale : Scale = record { end = c.args.end; decades = c.decades_of.result; top = c.rate_axis_top.result } in
    let plotted : All (IsPlotted scale) c.args.calls.now = calls_plotted scale c.args.calls.now c.requires.calls (omega (arith, c.greatest_latency.ensures, c.decades_of.ensures.decades.enough)) in
    groups_plotted c.args.end c.width_of.result c.most_in.result scale c.args.calls.now (length c.args.groups.now) c.args.groups.now c.requires.groups plotted c.most_in.ensures c.width_of.ensures.width c.rate_axis_top.ensures.enough
