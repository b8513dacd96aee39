use Rattle.std.proofs.Common.{ap, ap₂, ◌∙◌}
use Rattle.std.specs.Prelude.{filter_map}
use Rattle.jh_test_parts.specs.Changes.{ChangedCells}
use Rattle.jh_test_parts.specs.ChangesInside.{link_if_changed, node_if_changed}
use Rattle.jh_test_parts.proofs.ChangeLemmas.{cells_are_changed, changes_among}
use Rattle.jh_test_parts.proofs.named.NamedCells.changed.Goals as goal

pub returns : goal.returns
returns c = λ before named earlier later is first second same elsewhere.
    let after = c.args.after.now in
    ap₂ (λ l n. let cells : ChangedCells = record { links = l; nodes = n } in cells)
    (c.in_ok-links_changed.ensures.changed ∙ ap (filter_map (link_if_changed after)) c.deref.ensures.value)
    (c.in_ok-nodes_changed.ensures ∙ ap (filter_map (node_if_changed after)) c.deref-2.ensures.value)
    ∙ ap (changes_among after) c.self.view_is
    ∙ cells_are_changed before after named earlier later first second same elsewhere c.args.self.now is
