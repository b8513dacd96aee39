use Rattle.std.proofs.Common.{◌∙◌}
use Rattle.jh_check.specs.Tallies.{view_tally}
use Rattle.jh_set_full.specs.Inside.{most_by}
use Rattle.jh_set_full.proofs.ResultLemmas.{repeated_more}
use Rattle.jh_set_full.proofs.set_full.repeated.Goals as goal

pub loop-element-preserved : goal.loop-element-preserved
loop-element-preserved c =
    c.in_ok-push_repeated.ensures
    ∙ repeated_more (most_by c.args.tables.now) c.args.elements.now c.loop-element.element-index c.element-item.result c.most_shown-times.result (view_tally c.loop-element.found.items)
    c.loop-element-test.true c.element-item.is c.most_shown-times.ensures c.loop-element.invariant
