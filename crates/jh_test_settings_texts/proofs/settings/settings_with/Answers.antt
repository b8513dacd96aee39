use Rattle.std.proofs.Common.{◌≤◌, Err, string_bytes, subst, sym, ap, ◌∙◌, arith}
use Rattle.std.proofs.lemmas.Bool.{true≢false}
use Rattle.std.proofs.lemmas.Str.{IsUtf8-string_bytes}
use Rattle.toml.specs.Data.{members_depth}
use Rattle.toml.specs.View.{table_view}
use Rattle.jh_settings.specs.Keys.{IsDocument}
use Rattle.jh_test_settings_texts.specs.WritableEntries.{test_in_order}
use Rattle.jh_test_settings_texts.proofs.SettingsLemmas.{plain_table, table_means}
use Rattle.jh_test_settings_texts.proofs.settings.settings_with.Goals as goal

pub returns-in-Ok-clause-document : goal.returns-in-Ok-clause-document
returns-in-Ok-clause-document c =
    let table = c.put_seed_and_schedule.new.table in
    let test = c.args.test.now in
    let put = c.in_ok-put_seed_and_schedule.ensures in
    let known = c.requires.known in
    let are = table_means table (table_view c.args.table) test put.table c.requires.written put.texts c.requires.seed known.0 known.1 known.2 known.3 in
    let plain = plain_table table put.ordered (test_in_order test) known.0 known.1 known.2 are in
    let flat : members_depth (table_view table) ≤ 80 = omega (arith, plain.0) in
    subst (IsDocument (string_bytes c.in-Ok.text)) put.table (IsUtf8-string_bytes c.in-Ok.text, c.in-Ok.ensures.reads_back flat)

pub returns-in-Ok-clause-read_back : goal.returns-in-Ok-clause-read_back
returns-in-Ok-clause-read_back c = λ held consistency most known.
    let table = c.put_seed_and_schedule.new.table in
    let test = c.args.test.now in
    let put = c.in_ok-put_seed_and_schedule.ensures in
    let are = table_means table (table_view c.args.table) test put.table c.requires.written put.texts c.requires.seed held consistency most known in
    let plain = plain_table table put.ordered (test_in_order test) held consistency most are in
    let flat : members_depth (table_view table) ≤ 80 = omega (arith, plain.0) in
    (table_view table, (IsUtf8-string_bytes c.in-Ok.text, c.in-Ok.ensures.reads_back flat), are)

pub unreachable-requires : goal.unreachable-requires
unreachable-requires c =
    let table = c.put_seed_and_schedule.new.table in
    let test = c.args.test.now in
    let put = c.in_ok-put_seed_and_schedule.ensures in
    let known = c.requires.known in
    let are = table_means table (table_view c.args.table) test put.table c.requires.written put.texts c.requires.seed known.0 known.1 known.2 known.3 in
    let plain = plain_table table put.ordered (test_in_order test) known.0 known.1 known.2 are in
    let invalid = c.table_to_string_pretty.ensures.dates.0 (c.in-Err-DateInvalid.is ∙ ap Err c.in-Err-DateInvalid.field-0-is) in
    true≢false (sym plain.1 ∙ invalid)
