use Rattle.std.proofs.Common.{◌∙◌, ap, max}
use Rattle.jh_plots.specs.Rates as rates
use Rattle.jh_plots.specs.declared.panels.Group.{Group}
use Rattle.jh_plots.proofs.ScaleLemmas.{greatest_more}
use Rattle.jh_plots.proofs.plotted.most_in.Goals as goal

pub loop-group-preserved : goal.loop-group-preserved
loop-group-preserved c =
    let l = c.loop-group in
    c.max-most.ensures ∙ (λ i. max (l.invariant i) ((c.most_of.ensures ∙ ap rates.most_of c.deref.ensures.value) i))
    ∙ greatest_more (λ (group : Group). rates.most_of group.counts.items) c.args.groups.now l.group-index c.group-item.result c.group-item.result c.loop-group-test.true c.group-item.is
