use Rattle.std.proofs.Common.{◌<◌, ◌∙◌, sym, ap, length, arith}
use Rattle.std.proofs.lemmas.Result.{err_from_is_err_and}
use Rattle.jh_edn.specs.View.{view_pairs}
use Rattle.jh_env.specs.Text.{entries_under, sections, all_entries}
use Rattle.jh_env.specs.TextInside.{entries_parsed, list_with_front}
use Rattle.jh_env.specs.declared.texts.entries.Section.TheVariants.{Cut}
use Rattle.jh_env.proofs.TextLemmas.{joined, joined_more, refuses_whole, each_stops}
use Rattle.jh_env.proofs.texts.reading.all_entries.Goals as goal

pub loop-section-preserved : goal.loop-section-preserved
loop-section-preserved c =
    let below : c.loop-section.section-index < length sections = omega arith in
    let parsed = entries_under (view_pairs c.args.pairs.now) in
    sym (joined_more parsed sections c.loop-section.section-index Cut (entries_parsed c.loop-section.entries.items)
    (entries_parsed c.push_section.new.entries.items) below c.in_ok-push_section.ensures)
    ∙ c.loop-section.invariant

pub returns-in_err-push_section : goal.returns-in_err-push_section
returns-in_err-push_section c =
    let below : c.loop-section.section-index < length sections = omega arith in
    let parsed = entries_under (view_pairs c.args.pairs.now) in
    let p = err_from_is_err_and c.from_residual.result c.from_residual.ensures.1 in
    rw (p.1, p.2) (refuses_whole _ (all_entries (view_pairs c.args.pairs.now)) c.in_err-push_section.field-0.0
    (λ none. sym c.loop-section.invariant
    ∙ ap (λ o. list_with_front (entries_parsed c.loop-section.entries.items) (joined o)) (each_stops parsed sections c.loop-section.section-index Cut below none))
    c.in_err-push_section.ensures)
