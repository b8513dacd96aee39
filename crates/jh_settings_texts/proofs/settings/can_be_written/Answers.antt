use Rattle.std.proofs.Common.{sym, ◌∙◌}
use Rattle.std.proofs.lemmas.Bool.{true≢false}
use Rattle.jh_settings_texts.proofs.WritableLemmas.{can_from_parts, texts_from_can, load_from_can}
use Rattle.jh_settings_texts.proofs.settings.can_be_written.Goals as goal

pub returns-then-has_writable_texts : goal.returns-then-has_writable_texts
returns-then-has_writable_texts c =
    let p = c.args.plan.now in
    let texts = c.has_writable_texts.ensures.0 c.if-has_writable_texts.true in
    (λ is. can_from_parts p texts (c.has_writable_numbers_and_schedule.ensures.0 is), λ can. c.has_writable_numbers_and_schedule.ensures.1 (load_from_can p can))

pub returns-else-has_writable_texts : goal.returns-else-has_writable_texts
returns-else-has_writable_texts c =
    let p = c.args.plan.now in
    (λ is. absurd (true≢false (sym is ∙ c.if-has_writable_texts.false)), λ can. c.has_writable_texts.ensures.1 (texts_from_can p can))
