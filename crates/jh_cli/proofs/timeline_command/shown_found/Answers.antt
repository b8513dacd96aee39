use Rattle.std.proofs.Common.{◌∙◌, List, ◌∷◌, [], ◌++◌, ℕ, ap, subst}
use Rattle.std.specs.Option.{option_copied}
use Rattle.jh_edn.specs.View.{views}
use Rattle.jh_ops.specs.Operation.{operations}
use Rattle.jh_timeline_pages.specs.declared.section.Section.{Section}
use Rattle.jh_timeline_sections.specs.Sections.{IsSectionOf}
use Rattle.jh_cli.proofs.timeline_command.shown_found.Goals as goal

pub returns-clause-shows : goal.returns-clause-shows
returns-clause-shows c =
    let history = operations c.args.history.items in
    let found = option_copied c.args.found in
    let section = c.in_ok-section.section in
    record {
      section = section;
      shown =
          subst (λ (heading : List ℕ). IsSectionOf heading history (views c.args.steps.now) found c.args.choice section) c.new.ensures.items
          c.in_ok-section.ensures.section;
      alone = c.in_ok-push.ensures.items ∙ ap (λ (sections : List Section). sections ++ section ∷ []) c.new-sections.ensures.items;
      titled = c.in_ok-title.ensures;
      top = c.in_ok-line.ensures;
      ended = c.status_of.ensures;
    }
