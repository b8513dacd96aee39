use Rattle.std.proofs.Common.{ℕ, subst, sym, arith}
use Rattle.std.specs.List.{AllZip, enumerate_from}
use Rattle.std.proofs.lemmas.List.{take_all}
use Rattle.std.proofs.lemmas.List.Elements.{All-get_or}
use Rattle.std.proofs.lemmas.List.FromFn.{length-enumerate_from}
use Rattle.jh_plots.specs.Panels.{IsPanelOf}
use Rattle.jh_plots.specs.PanelsInside.{IsGroupPlotted}
use Rattle.jh_plots.specs.declared.panels.Group.{Group}
use Rattle.jh_plots.specs.declared.plot.Panel.{Panel}
use Rattle.jh_plots.proofs.PanelLemmas.{numbered_at, zip_push}
use Rattle.jh_plots.proofs.panels.panels_of.Goals as goal

pub panel_of-requires-clause-plotted : goal.panel_of-requires-clause-plotted
panel_of-requires-clause-plotted c =
    let group = c.index-groups-number.result in
    subst (IsGroupPlotted c.args.scale.now) (sym c.index-groups-number.is) (All-get_or (IsGroupPlotted c.args.scale.now) c.args.groups.now c.loop-number.number group c.loop-number-test.true c.requires.plotted)

pub loop-number-preserved : goal.loop-number-preserved
loop-number-preserved c =
    let l = c.loop-number in
    let group = c.index-groups-number.result in
    let groups = c.args.groups.now in
    let R : ℕ × Group → Panel → Type 0 = λ numbered. IsPanelOf c.args.scale.now c.args.functions.now numbered.0 numbered.1.calls.items in
    zip_push R (enumerate_from 0 groups) l.number (l.number, group) l.panels.items c.push.new.self.items c.in_ok-panel_of.field-0
    (omega (arith, length-enumerate_from 0 groups, c.loop-number-test.true)) (numbered_at groups l.number group c.loop-number-test.true c.index-groups-number.is)
    c.in_ok-push.ensures.items l.invariant c.in_ok-panel_of.ensures

pub returns : goal.returns
returns c =
    let l = c.loop-number in
    let groups = c.args.groups.now in
    let R : ℕ × Group → Panel → Type 0 = λ numbered. IsPanelOf c.args.scale.now c.args.functions.now numbered.0 numbered.1.calls.items in
    subst (λ xs. AllZip R xs l.panels.items) (take_all l.number (enumerate_from 0 groups) (omega (arith, length-enumerate_from 0 groups, c.loop-number-test.false))) l.invariant
