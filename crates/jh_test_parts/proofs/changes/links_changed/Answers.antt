use Rattle.jh_tables.specs.Standing.{IsLinkInRange}
use Rattle.jh_test_parts.specs.ChangesInside.{link_if_changed}
use Rattle.jh_test_parts.specs.declared.records.ChangedLink.{ChangedLink}
use Rattle.jh_test_parts.proofs.ChangeLemmas.{found_more, within_more}
use Rattle.jh_test_parts.proofs.changes.links_changed.Goals as goal

pub loop-link-preserved : goal.loop-link-preserved
loop-link-preserved c =
    let before = c.loop-link.invariant in record {
      changed = found_more (link_if_changed c.args.after.now) c.args.links.now c.loop-link.link-index c.link-item.result c.loop-link.changed.items c.push_some.new.items.items c.link_if_changed.result
          c.loop-link-test.true c.link-item.is c.link_if_changed.ensures.changed before.changed c.in_ok-push_some.ensures;
      within = within_more (λ (changed : ChangedLink). IsLinkInRange changed.link) c.loop-link.changed.items c.push_some.new.items.items c.link_if_changed.result before.within c.link_if_changed.ensures.within c.in_ok-push_some.ensures;
    }
