use Rattle.std.proofs.Common.{◌≡◌, ◌≤◌, Some, Err, string_bytes, subst, sym, ap, ◌∙◌}
use Rattle.std.proofs.lemmas.Bool.{true≢false}
use Rattle.std.proofs.lemmas.Str.{IsUtf8-string_bytes}
use Rattle.toml.specs.Data.{members_depth, members_have_valid_dates}
use Rattle.toml.specs.Parse.{parse_document}
use Rattle.jh_settings_texts.proofs.MemberLemmas.{shallow_schedule, schedule_dates}
use Rattle.jh_settings_texts.proofs.schedule.schedule_to_text.Goals as goal

pub returns-in-Ok : goal.returns-in-Ok
returns-in-Ok c =
    let parsed = subst (λ d. members_depth d ≤ 80 → parse_document (string_bytes c.in-Ok.text) ≡ Some d) c.in_ok-table.ensures c.in-Ok.ensures.reads_back in
    (IsUtf8-string_bytes c.in-Ok.text, parsed (shallow_schedule c.args.nodes.now c.args.spread c.args.entries.now))

pub unreachable-requires : goal.unreachable-requires
unreachable-requires c =
    let invalid = c.table_to_string_pretty.ensures.dates.0 (c.in-Err-DateInvalid.is ∙ ap Err c.in-Err-DateInvalid.field-0-is) in
    true≢false (sym (schedule_dates c.args.nodes.now c.args.spread c.args.entries.now) ∙ ap members_have_valid_dates (sym c.in_ok-table.ensures) ∙ invalid)
