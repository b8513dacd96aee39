use Rattle.std.proofs.Common.{◌≡◌, ◌∙◌, ap, length, subst, sym}
use Rattle.std.specs.List.{All}
use Rattle.std.proofs.lemmas.List.Elements.{All-same}
use Rattle.jh_ops.specs.Operation.{operations}
use Rattle.jh_plots.specs.Panels.{ArePanelsOf, panels_for}
use Rattle.jh_plots.specs.PanelsInside.{AreGroupsOf, ArePanelsOfGroups, IsGroupPlotted}
use Rattle.jh_plots.specs.Plots.{IsScaleOf}
use Rattle.jh_plots.specs.Rates.{counts_of}
use Rattle.jh_plots.specs.Times.{time_axis_end}
use Rattle.jh_plots.specs.declared.panels.Group.{Group}
use Rattle.jh_plots.proofs.PanelLemmas.{panels_combined}
use Rattle.jh_plots.proofs.ScaleLemmas.{counts_same, groups_long, regroup}
use Rattle.jh_plots.proofs.plotted.plot_of_pairs.Goals as goal

pub scale_of-scale-requires-clause-groups : goal.scale_of-scale-requires-clause-groups
scale_of-scale-requires-clause-groups c =
    let end = c.in_ok-times.times.end in
    let found = c.in_ok-found.found in
    let groups = c.in_ok-groups.groups.items in
    let grouped : AreGroupsOf end found.calls.items (panels_for (length found.functions)) groups =
    subst (λ cs. AreGroupsOf end cs (panels_for (length found.functions)) groups) c.deref.ensures.value
    (subst (λ m. AreGroupsOf end c.deref.result.now (panels_for m) groups) c.len.ensures c.in_ok-groups.ensures.groups) in
    regroup end found.calls.items c.deref-2.result.now (panels_for (length found.functions)) groups c.deref-3.result.now c.deref-2.ensures.value c.deref-3.ensures.value grouped

pub panels_of-requires-clause-number : goal.panels_of-requires-clause-number
panels_of-requires-clause-number c =
    let end = c.in_ok-times.times.end in
    let found = c.in_ok-found.found in
    let groups = c.in_ok-groups.groups.items in
    ap length c.deref-4.ensures.value
    ∙ groups_long end c.deref.result.now (panels_for c.len.result) groups c.in_ok-groups.ensures.groups
    ∙ ap panels_for c.len.ensures

pub panels_of-requires-clause-plotted : goal.panels_of-requires-clause-plotted
panels_of-requires-clause-plotted c =
    All-same (IsGroupPlotted c.scale_of-scale.result) c.deref-4.result.now c.deref-3.result.now (c.deref-4.ensures.value ∙ sym c.deref-3.ensures.value) c.scale_of-scale.ensures.groups

pub panels_of-requires-clause-counts : goal.panels_of-requires-clause-counts
panels_of-requires-clause-counts c =
    let end = c.in_ok-times.times.end in
    let groups = c.in_ok-groups.groups.items in
    let P = λ (group : Group). group.counts.items ≡ counts_of end group.calls.items in
    let all : All P c.deref-4.result.now = All-same P c.deref-4.result.now groups c.deref-4.ensures.value (counts_same end c.deref.result.now 0 (panels_for c.len.result) groups c.in_ok-groups.ensures.groups) in
    subst (λ e. All (λ (group : Group). group.counts.items ≡ counts_of e group.calls.items) c.deref-4.result.now) (sym c.scale_of-scale.ensures.scale.end) all

pub returns : goal.returns
returns c =
    let history = operations c.args.history.now in
    let end = c.in_ok-times.times.end in
    let found = c.in_ok-found.found in
    let groups = c.in_ok-groups.groups.items in
    let scale = c.scale_of-scale.result in
    let panels = c.in_ok-panels.panels.items in
    let n = panels_for (length found.functions) in
    let grouped : AreGroupsOf end found.calls.items n groups =
    subst (λ cs. AreGroupsOf end cs n groups) c.deref.ensures.value
    (subst (λ m. AreGroupsOf end c.deref.result.now (panels_for m) groups) c.len.ensures c.in_ok-groups.ensures.groups) in
    let long : length c.deref-3.result.now ≡ n = ap length c.deref-3.ensures.value ∙ groups_long end found.calls.items n groups grouped in
    let drawn : ArePanelsOfGroups scale found.functions groups panels = subst (λ gs. ArePanelsOfGroups scale found.functions gs panels) c.deref-4.ensures.value c.in_ok-panels.ensures in
    record {
      all_calls = found.calls.items;
      calls = c.in_ok-found.ensures.calls;
      axes = scale;
      scale = subst (λ fs. IsScaleOf (time_axis_end history) found.calls.items (panels_for (length fs)) scale) c.in_ok-found.ensures.functions
          (subst (λ e. IsScaleOf e found.calls.items n scale) c.in_ok-times.ensures.end
          (subst (λ m. IsScaleOf end found.calls.items m scale) long
          (subst (λ cs. IsScaleOf end cs (length c.deref-3.result.now) scale) c.deref-2.ensures.value c.scale_of-scale.ensures.scale)));
      times = c.in_ok-time_ticks.ensures;
      latencies = c.in_ok-latency_ticks.ensures;
      rates = c.in_ok-rate_ticks.ensures;
      shades = c.in_ok-shades.ensures;
      panels = subst (λ fs. ArePanelsOf scale fs found.calls.items panels) c.in_ok-found.ensures.functions
          (panels_combined end scale found.functions found.calls.items 0 n groups panels grouped drawn);
    }
