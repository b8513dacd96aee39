use Rattle.std.proofs.Common.{◌≡◌, ◌∙◌, ◌++◌, ap, arith}
use Rattle.std.proofs.lemmas.Bool.{ne_eqb}
use Rattle.jh_plots.specs.Panels as rule
use Rattle.jh_plots.specs.PanelsInside as inside
use Rattle.jh_plots.proofs.PanelLemmas.{heading_last, heading_more, heading_one}
use Rattle.jh_plots.proofs.panels.panel_heading.Goals as goal
use Rattle.jh_plots.proofs.panels.panel_heading.Goals.{then-panel-eq-LAST_PANEL+else-loop-number-test, else-panel-eq-LAST_PANEL}

pub loop-number-preserved : goal.loop-number-preserved
loop-number-preserved c =
    let l = c.loop-number in
    let fs = c.args.functions.now in
    heading_more fs l.number l.heading.items c.push.new.self.items c.write_name-in-loop-number.new.heading.items (inside.name_at fs 7) (omega arith) (omega (arith, c.len-number-end.ensures)) l.invariant
    c.in_ok-push.ensures.items c.in_ok-write_name-2.ensures

pub returns : goal.returns
returns c =
    let fs = c.args.functions.now in
    let panel = c.args.panel in
    elim c.if-panel-eq-LAST_PANEL.branch [
      | then-panel-eq-LAST_PANEL+else-loop-number-test w ↦
          let last : 7 ≡ panel = omega (arith, w.if-panel-eq-LAST_PANEL.true) in
          ap (λ v. v.items) w.heading-is
          ∙ heading_last fs w.loop-number.number w.loop-number.heading.items (omega (arith, c.requires, last)) (omega (arith, w.len-number-end.ensures, w.loop-number-test.false)) w.loop-number.invariant
          ∙ ap (rule.panel_heading fs) last
      | else-panel-eq-LAST_PANEL w ↦
          ap (λ v. v.items) w.heading-is
          ∙ heading_one fs panel c.write_name.new.heading.items (omega (arith, c.requires)) (ne_eqb panel 7 w.if-panel-eq-LAST_PANEL.false) (c.in_ok-write_name.ensures ∙ ap (λ xs. xs ++ inside.name_at fs panel) c.new-heading.ensures.items)
    ]
