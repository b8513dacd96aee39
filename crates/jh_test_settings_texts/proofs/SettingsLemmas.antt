-- The document that is written with the seed and the schedule of a test means that test, with its faults in
-- order.
use Rattle.std.proofs.Common.{◌≡◌, ℕ, ◌<◌, ◌≤◌, ◌^◌, true, List, All, length, map, Option, Some, String, Global, refl, sym, ap, subst, ◌∙◌, le-leb, arith}
use Rattle.std.specs.Option.{option_map_or}
use Rattle.std.specs.Prelude.{ℤ}
use Rattle.std.specs.BTreeMap.{BTreeMap, IsOrdered}
use Rattle.std.specs.String.{string_cmp}
use Rattle.std.proofs.lemmas.List.{length-map}
use Rattle.std.proofs.lemmas.List.Elements.{recursion_from_All}
use Rattle.toml.specs.Data.{Members, array, members_depth, members_have_valid_dates}
use Rattle.toml.specs.View.{table_view}
use Rattle.toml.specs.declared.value.Value.{Value}
use Rattle.jh_settings.specs.declared.keys.Key.{Key}
use Rattle.jh_settings.specs.Keys.{HasKnownKeys, data_under, drive_keys, is_key_name, key_name}
use Rattle.jh_settings.specs.Kinds.{whole_number_in}
use Rattle.jh_settings.specs.Parsed.{IsMeant, IsScheduleOf, parsed_seed}
use Rattle.jh_test_parts.specs.declared.parts.TestEntry.{TestEntry}
use Rattle.jh_test_parts.specs.Test.{IsFitTest, TestValue, test_with_schedule}
use Rattle.jh_txn.specs.declared.model.ConsistencyModel.{ConsistencyModel}
use Rattle.jh_drive_settings.specs.Parsed.{IsParsedTestSchedule, parsed_test_entry}
use Rattle.jh_drive_settings.specs.Settings.{AreDriveSettings, IsParsedTest}
use Rattle.jh_laws.specs.StepLines.{IsStepOver}
use Rattle.jh_settings_texts.specs.DocumentWritten.{whole_number}
use Rattle.jh_settings_texts.specs.TableInside.{put_key}
use Rattle.jh_test_settings_texts.specs.DocumentWritten.{rewritten_document, test_entry_texts}
use Rattle.jh_test_settings_texts.specs.Inside.{IsTestWithTexts}
use Rattle.jh_test_settings_texts.specs.UpToSchedule.{AreSettingsUpToSeedAndSchedule}
use Rattle.jh_test_settings_texts.specs.WritableEntries.{IsWritableTestEntry, test_entry_in_order, test_in_order}
use Rattle.jh_test_settings_texts.proofs.EntryLemmas.{entries_back, steps_fit}
use Rattle.jh_test_settings_texts.proofs.KeptLemmas.{IsSameElsewhere, start_kept, generator_kept, final_kept, workload_kept, clients_kept, ops_kept, time_limit_kept, rate_kept, recovery_kept, budget_kept, initial_kept, share_kept, number_kept, model_kept}
use Rattle.jh_test_settings_texts.proofs.PlainLemmas.{plain_members}
use Rattle.jh_test_settings_texts.proofs.PlainSettingsLemmas.{settings_plain}
use Rattle.jh_test_settings_texts.proofs.PutLemmas.{get_put, get_put_other, known_put}

seed_known : is_key_name drive_keys (key_name Key.Seed) ≡ true
unfolding is_key_name
seed_known = refl

schedule_known : is_key_name drive_keys (key_name Key.Schedule) ≡ true
unfolding is_key_name
schedule_known = refl

whole_back : (n : ℕ) → n < 2 ^ 63 → whole_number_in 0 9223372036854775807 (whole_number n) ≡ Some n
whole_back n h =
    let most : n ≤ 9223372036854775807 = omega (arith, h) in
    rw (le-leb 0 n (omega arith), le-leb n 9223372036854775807 most) refl

module _ (document : Members) (test : TestValue) where
  abbrev with_seed : Members
  with_seed = put_key Key.Seed (whole_number test.seed) document

  abbrev texts : Members
  texts = rewritten_document test document

  same_elsewhere : IsSameElsewhere document texts
  same_elsewhere key no_seed no_schedule =
      get_put_other (key_name key) (key_name Key.Schedule) (array (test_entry_texts test.start.names test.schedule)) with_seed no_schedule
      ∙ get_put_other (key_name key) (key_name Key.Seed) (whole_number test.seed) document no_seed

  known_keys : HasKnownKeys drive_keys document → HasKnownKeys drive_keys texts
  known_keys known =
      known_put (is_key_name drive_keys) (key_name Key.Schedule) (array (test_entry_texts test.start.names test.schedule)) with_seed schedule_known
      (known_put (is_key_name drive_keys) (key_name Key.Seed) (whole_number test.seed) document seed_known known)

  seed_there : data_under Key.Seed texts ≡ Some (whole_number test.seed)
  seed_there =
      get_put_other (key_name Key.Seed) (key_name Key.Schedule) (array (test_entry_texts test.start.names test.schedule)) with_seed refl
      ∙ get_put (key_name Key.Seed) (whole_number test.seed) document

  schedule_there : data_under Key.Schedule texts ≡ Some (array (test_entry_texts test.start.names test.schedule))
  schedule_there = get_put (key_name Key.Schedule) (array (test_entry_texts test.start.names test.schedule)) with_seed

  seed_parsed : test.seed < 2 ^ 63 → parsed_seed texts ≡ Some test.seed
  seed_parsed small = ap (λ o. option_map_or (whole_number_in 0 9223372036854775807) o (Some 0)) seed_there ∙ whole_back test.seed small

  module _ (writable : All IsWritableTestEntry test.schedule) (has : IsTestWithTexts test) (small : test.seed < 2 ^ 63) where
    schedule_parsed : IsParsedTestSchedule test.start.names texts (map test_entry_in_order test.schedule)
    schedule_parsed =
        subst (λ o. IsScheduleOf (IsMeant (parsed_test_entry test.start.names)) o (map test_entry_in_order test.schedule)) (sym schedule_there) (
          entries_back test.start.names has.named test.schedule (recursion_from_All IsWritableTestEntry test.schedule writable)
              (recursion_from_All (λ entry. IsStepOver (length test.start.names) entry.step) test.schedule has.steps),
          subst (λ n. n ≤ 1024) (sym (length-map test.schedule test_entry_in_order)) has.fit.schedule.0,
        )

    test_parsed : (schedule : List TestEntry) (seed : ℕ) → IsParsedTest document (test_with_schedule test schedule seed) → IsParsedTest texts (test_in_order test)
    test_parsed schedule seed parsed = record {
      start = start_kept document texts same_elsewhere test.start parsed.start;
      workload = workload_kept document texts same_elsewhere ∙ parsed.workload;
      generator = generator_kept document texts same_elsewhere test.generator parsed.generator;
      clients = clients_kept document texts same_elsewhere ∙ parsed.clients;
      ops = ops_kept document texts same_elsewhere ∙ parsed.ops;
      time_limit = time_limit_kept document texts same_elsewhere ∙ parsed.time_limit;
      rate = rate_kept document texts same_elsewhere ∙ parsed.rate;
      threads_per_key = share_kept document texts same_elsewhere 16 Key.ThreadsPerKey refl refl ∙ parsed.threads_per_key;
      ops_per_key = share_kept document texts same_elsewhere 1000000 Key.OpsPerKey refl refl ∙ parsed.ops_per_key;
      recovery = recovery_kept document texts same_elsewhere ∙ parsed.recovery;
      final = final_kept document texts same_elsewhere test.final_calls parsed.final;
      keys = number_kept document texts same_elsewhere 4 1000 Key.Keys refl refl ∙ parsed.keys;
      max_txn = number_kept document texts same_elsewhere 4 100 Key.MaxTxn refl refl ∙ parsed.max_txn;
      appends_per_key = number_kept document texts same_elsewhere 32 10000 Key.AppendsPerKey refl refl ∙ parsed.appends_per_key;
      seed = seed_parsed small;
      schedule = schedule_parsed;
    }

    fit_in_order : IsFitTest (test_in_order test)
    fit_in_order = record {
      clients = has.fit.clients;
      ops = has.fit.ops;
      keys = has.fit.keys;
      generator = has.fit.generator;
      final = has.fit.final;
      schedule = (subst (λ n. n ≤ 1024) (sym (length-map test.schedule test_entry_in_order)) has.fit.schedule.0, steps_fit (length test.start.names) test.schedule has.fit.schedule.1);
      transactions = has.fit.transactions;
    }

    pub settings_back : (held : Option ℤ) (consistency : ConsistencyModel) (most : ℕ) → AreSettingsUpToSeedAndSchedule document test held consistency most → AreDriveSettings texts (test_in_order test) held consistency most
    settings_back held consistency most are =
        let old = are.2 in
        record {
          known = known_keys old.known;
          parsed = test_parsed are.0 are.1 old.parsed;
          initial = initial_kept document texts same_elsewhere ∙ old.initial;
          model = model_kept document texts same_elsewhere ∙ old.model;
          budget = budget_kept document texts same_elsewhere ∙ old.budget;
          fit = fit_in_order;
          allowed = old.allowed;
        }

-- ---- as a table

-- a table of settings is one that TOML can write and read
pub plain_table : (table : BTreeMap (String Global) Value) → IsOrdered string_cmp table → (test : TestValue) (held : Option ℤ) (consistency : ConsistencyModel) (most : ℕ) → AreDriveSettings (table_view table) test held consistency most
    → (members_depth (table_view table) ≤ 1) × (members_have_valid_dates (table_view table) ≡ true)
plain_table table ordered test held consistency most are =
    plain_members (is_key_name drive_keys) table.entries ordered are.known (settings_plain (table_view table) test held consistency most are)

-- the table that is written of another one means the test, with its faults in order
pub table_means : (table : BTreeMap (String Global) Value) (document : Members) (test : TestValue) → table_view table ≡ rewritten_document test document → All IsWritableTestEntry test.schedule → IsTestWithTexts test → test.seed < 2 ^ 63
    → (held : Option ℤ) (consistency : ConsistencyModel) (most : ℕ) → AreSettingsUpToSeedAndSchedule document test held consistency most → AreDriveSettings (table_view table) (test_in_order test) held consistency most
table_means table document test is writable has small held consistency most are =
    subst (λ d. AreDriveSettings d (test_in_order test) held consistency most) (sym is) (settings_back document test writable has small held consistency most are)
