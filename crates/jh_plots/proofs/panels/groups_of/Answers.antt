use Rattle.std.proofs.Common.{◌++◌, ◌∷◌, [], subst, sym}
use Rattle.std.specs.List.{All, AllZip, range_with_len}
use Rattle.std.proofs.lemmas.List.Elements.{All-push}
use Rattle.std.proofs.lemmas.Slice.Zip.{all_zipped_more}
use Rattle.jh_plots.specs.PanelsInside.{IsGroupOf}
use Rattle.jh_plots.specs.RatesInside.{AreSmallCounts}
use Rattle.jh_plots.specs.declared.panels.Group.{Group}
use Rattle.jh_plots.proofs.AxisLemmas.{range_more}
use Rattle.jh_plots.proofs.panels.groups_of.Goals as goal

pub loop-panel-preserved : goal.loop-panel-preserved
loop-panel-preserved c =
    let l = c.loop-panel in
    let R = IsGroupOf c.args.end c.args.calls.now in
    let new = c.in_ok-group_of.field-0 in
    record {
      groups = subst (λ xs. AllZip R xs c.push.new.self.items) (sym (range_more l.panel))
          (subst (AllZip R (range_with_len 0 l.panel ++ l.panel ∷ [])) (sym c.in_ok-push.ensures.items)
          (all_zipped_more R (range_with_len 0 l.panel) l.groups.items l.panel new l.invariant.groups c.in_ok-group_of.ensures.group));
      few = subst (All (λ (group : Group). All AreSmallCounts group.counts.items)) (sym c.in_ok-push.ensures.items)
          (All-push (λ (group : Group). All AreSmallCounts group.counts.items) l.groups.items new l.invariant.few c.in_ok-group_of.ensures.few);
    }
