use Rattle.std.proofs.Common.{◌≡◌, ◌∙◌, ap, sym, subst, IfOk}
use Rattle.std.specs.Str.{IsUtf8}
use Rattle.jh_edn.specs.View.{views}
use Rattle.jh_test_parts.specs.LineMeanings.{line_meaning}
use Rattle.jh_test_parts.specs.LineMeanings.{line_meaning_by}
use Rattle.jh_test_parts.proofs.LineLemmas.{no_utf8, said_refused, said_values}
use Rattle.jh_test_parts.proofs.line.line_meaning.Goals as goal

pub returns-in_default : goal.returns-in_default
returns-in_default c = no_utf8 c.args.line.now c.in_default.ensures.cases.0

pub returns-in-Ok-values_in_line : goal.returns-in-Ok-values_in_line
returns-in-Ok-values_in_line c =
    let same = c.in-Ok.ensures.cases.0 in
    let utf8 = subst IsUtf8 (sym same) c.in-Ok.ensures.cases.1 in
    let said = said_values c.in-Ok.text.now (views c.in-Ok-values_in_line.values.items) utf8 c.in-Ok-values_in_line.ensures.values ∙ ap line_meaning same in
    subst (λ x. IfOk c.meaning_of_values.result (λ said. line_meaning_by said ≡ x)) said c.meaning_of_values.ensures

pub returns-else-is_memory : goal.returns-else-is_memory
returns-else-is_memory c =
    said_refused c.args.line.now c.in-Ok.text.now c.in-Err.error c.is_memory.result c.in-Ok.ensures.cases.0 c.in-Ok.ensures.cases.1
    c.in-Err.ensures.first_error c.is_memory.ensures.1 c.if-is_memory.false
