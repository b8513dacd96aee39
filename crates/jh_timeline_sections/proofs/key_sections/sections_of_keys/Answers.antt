use Rattle.std.proofs.Common.{List, option_map, subst}
use Rattle.std.specs.List.{AllZip}
use Rattle.jh_ops.specs.Operation.{operations}
use Rattle.jh_timeline_sections.specs.ShownKeysInside.{IsSectionOfShown}
use Rattle.jh_timeline_sections.specs.KeySections.{AreSectionsOf}
use Rattle.jh_timeline_sections.specs.declared.key_sections.ShownKey.{ShownKey}
use Rattle.jh_timeline_sections.proofs.KeyLemmas.{sections_are, sections_writable}
use Rattle.jh_timeline_sections.proofs.key_sections.sections_of_keys.Goals as goal

made : (c : goal.In_ok-sections_of_shown) → AreSectionsOf (operations c.args.history.now) c.args.choice (option_map (λ found. found.items) c.args.findings) c.in_ok-sections_of_shown.field-0.items
made c =
    sections_are (operations c.args.history.now) c.args.choice (option_map (λ found. found.items) c.args.findings) c.in_ok-shown.shown.items c.in_ok-sections_of_shown.field-0.items c.in_ok-shown.ensures
    (subst (λ (sorted : List ShownKey). AllZip (IsSectionOfShown c.args.choice) sorted c.in_ok-sections_of_shown.field-0.items) c.in_ok-sorted.ensures c.in_ok-sections_of_shown.ensures)

pub returns-clause-sections : goal.returns-clause-sections
returns-clause-sections c = made c

pub returns-clause-writable : goal.returns-clause-writable
returns-clause-writable c = λ all.
    sections_writable c.args.history.now c.args.choice (option_map (λ found. found.items) c.args.findings) c.in_ok-sections_of_shown.field-0.items all (made c)
