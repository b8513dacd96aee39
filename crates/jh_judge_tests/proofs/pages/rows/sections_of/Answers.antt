use Rattle.std.proofs.Common.{rules, All, ◌≡◌, ◌∷◌, ◌++◌, [], subst, sym}
use Rattle.std.proofs.lemmas.List.Elements.{All-push}
use Rattle.jh_ops.specs.OperationWritten.{IsWritable}
use Rattle.jh_timeline_pages.specs.declared.section.Section.{Section}
use Rattle.jh_judge_tests.proofs.pages.rows.sections_of.Goals as goal

abbrev AreWritable : Section → Type 0
AreWritable section = All (λ op. IsWritable op.process) section.history.items

pub loop-text-preserved : goal.loop-text-preserved
loop-text-preserved c =
    let section = c.in_ok-section_of.field-0 in
    let more : c.push.new.self.items ≡ c.loop-text.sections.items ++ section ∷ [] = search rules in
    subst (All AreWritable) (sym more) (All-push AreWritable c.loop-text.sections.items section c.loop-text.invariant c.in_ok-section_of.ensures)
