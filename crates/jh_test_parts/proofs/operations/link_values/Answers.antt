use Rattle.jh_test_parts.specs.Records.{changed_link_value}
use Rattle.jh_test_parts.proofs.ValueLemmas.{values_more}
use Rattle.jh_test_parts.proofs.operations.link_values.Goals as goal

pub loop-changed-preserved : goal.loop-changed-preserved
loop-changed-preserved c = record {
  changed = values_more (changed_link_value c.args.nodes.now) c.deref-changed-items.result.now c.loop-changed.changed-index c.changed-item.result c.loop-changed.values.items c.push.new.self.items c.in_ok-changed_link_value.field-0
      c.loop-changed-test.true c.changed-item.is c.loop-changed.invariant.changed c.in_ok-changed_link_value.ensures c.in_ok-push.ensures.items;
  within = c.loop-changed.invariant.within;
}
