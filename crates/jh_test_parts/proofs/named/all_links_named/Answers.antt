use Rattle.std.proofs.Common.{◌∙◌, ap, map}
use Rattle.std.specs.Prelude.{filter_map}
use Rattle.std.proofs.lemmas.List.{take_all}
use Rattle.jh_test_parts.specs.NamedCells.{placed_link}
use Rattle.jh_test_parts.proofs.NamedLemmas.{links_are}
use Rattle.jh_test_parts.proofs.ChangeLemmas.{found_more}
use Rattle.jh_test_parts.proofs.named.all_links_named.Goals as goal

pub loop-ends-preserved : goal.loop-ends-preserved
loop-ends-preserved c =
    found_more (placed_link c.args.env.now) c.as_slice-ends-items.result.now c.loop-ends.ends-index c.ends-item.result c.loop-ends.links.items c.push_some.new.items.items c.placed_link.result
    c.loop-ends-test.true c.ends-item.is c.placed_link.ensures c.loop-ends.invariant c.in_ok-push_some.ensures

pub returns : goal.returns
returns c =
    c.loop-ends.invariant
    ∙ ap (filter_map (placed_link c.args.env.now)) (take_all c.loop-ends.ends-index c.as_slice-ends-items.result.now c.loop-ends-test.false ∙ c.as_slice-ends-items.ensures.value)
    ∙ links_are c.args.env.now (map (λ f. f.now) c.args.faults.now) c.in_ok-named.named.items c.in_ok-named.ensures
