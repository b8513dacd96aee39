-- The test of parts that are good by themselves.
use Rattle.std.proofs.Common.{◌≡◌, ℕ, ◌≤◌, inl, inr, List, length, Option, Some, None, sym, ap, subst, ◌∙◌, arith}
use Rattle.std.specs.Prelude.{option_map}
use Rattle.std.proofs.lemmas.Option.{same_Some}
use Rattle.toml.specs.Data.{Data, array, Members}
use Rattle.jh_gen.specs.View.{generator_of}
use Rattle.jh_settings.specs.declared.error.SettingsError.{SettingsError}
use Rattle.jh_settings.specs.declared.error.SettingsError.TheVariants.{NotToml, Unknown, Missing, BadValue, OutOfMemory}
use Rattle.jh_settings.specs.declared.keys.Key.{Key}
use Rattle.jh_settings.specs.Keys.{HasKnownKeys, data_under, drive_keys}
use Rattle.jh_settings.specs.Parsed.{IsMeant, IsScheduleOf}
use Rattle.jh_settings.proofs.ElementLemmas.{none_not}
use Rattle.jh_settings.proofs.PlanLemmas.{has_clients, needed_is}
use Rattle.jh_test_parts.specs.declared.parts.TestEntry.{TestEntry}
use Rattle.jh_test_parts.specs.declared.parts.KeyShares.{KeyShares}
use Rattle.jh_test_parts.specs.declared.workload.TestWorkload.{TestWorkload}
use Rattle.jh_test_parts.specs.declared.test.TestError.{TestError}
use Rattle.jh_test_parts.specs.Test.{TestValue, IsFitTest, RefusesTest, HasSchedule, FitsTransactions}
use Rattle.jh_drive_settings.specs.declared.parts.Parts.{Parts}
use Rattle.jh_drive_settings.specs.Inside.{AreParsedParts, RefusesShares, RefusesAllowed, RefusesDriveValues, missing_share_key, test_of_parts, test_refusal}
use Rattle.jh_drive_settings.specs.Parsed.{parsed_test_workload, parsed_test_entry, parsed_test_ops, parsed_threads_per_key, parsed_ops_per_key, transaction_number}
use Rattle.jh_drive_settings.specs.Settings.{AreDriveSettings, IsFinalAllowed, IsShareKeyMissing, IsParsedTest}
use Rattle.jh_drive_settings.proofs.GoodLemmas.{all_good}
use Rattle.jh_drive_settings.proofs.ShareLemmas.{number_between, share_missing, share_there}

one_share_missing : (document : Members) (workload : TestWorkload) → parsed_test_workload document ≡ Some workload → (threads calls : Option ℕ) → parsed_threads_per_key document ≡ Some threads → parsed_ops_per_key document ≡ Some calls
    → (key : Key) → missing_share_key threads calls ≡ Some key → IsShareKeyMissing document key
one_share_missing document workload is None None h k key e = absurd (none_not key e)
one_share_missing document workload is None (Some n) h k key e =
    subst (IsShareKeyMissing document) (same_Some Key.ThreadsPerKey key e) (share_missing 16 Key.ThreadsPerKey document workload is h, share_there 1000000 Key.OpsPerKey document workload is n k)
one_share_missing document workload is (Some n) None h k key e =
    subst (IsShareKeyMissing document) (same_Some Key.OpsPerKey key e) (share_missing 1000000 Key.OpsPerKey document workload is k, share_there 16 Key.ThreadsPerKey document workload is n h)
one_share_missing document workload is (Some n) (Some m) h k key e = absurd (none_not key e)

few_entries : (Means : Data → TestEntry → Type 0) (o : Option Data) (entries : List TestEntry) → IsScheduleOf Means o entries → length entries ≤ 1024
few_entries Means None entries h = omega (arith, ap length h)
few_entries Means (Some (array values)) entries h = h.1
few_entries Means (Some value) entries h = absurd h

has_ops : (document : Members) (n : ℕ) → parsed_test_ops document ≡ Some n → (1 ≤ n) × (n ≤ 1000000)
has_ops document n e = needed_is 1 1000000 (data_under Key.Ops document) n e

module _ (document : Members) (parts : Parts) (parsed : AreParsedParts document parts) where
  -- one of two numbers alone is missing the other
  pub shares_refused : (e : SettingsError) → RefusesShares parts.pace.threads_per_key parts.pace.ops_per_key e → RefusesDriveValues document e
  shares_refused NotToml h = absurd h
  shares_refused (Unknown name) h = absurd h
  shares_refused (Missing key) h =
      (all_good document parts (option_map generator_of parts.final_calls) parsed.final_calls parsed, one_share_missing document parts.asked.workload parsed.asked.workload parts.pace.threads_per_key parts.pace.ops_per_key parsed.pace.by_threads parsed.pace.by_calls key h)
  shares_refused (BadValue key) h = absurd h
  shares_refused OutOfMemory h = absurd h

  module _ (shares : Option KeyShares) (threads : parts.pace.threads_per_key ≡ option_map (λ (s : KeyShares). s.threads) shares) (calls : parts.pace.ops_per_key ≡ option_map (λ (s : KeyShares). s.calls) shares) where
    test_parsed : IsParsedTest document (test_of_parts parts shares)
    test_parsed = record {
      start = parsed.asked.start;
      workload = parsed.asked.workload;
      generator = parsed.asked.generator;
      clients = parsed.pace.by_clients;
      ops = parsed.pace.so_many;
      time_limit = parsed.pace.until;
      rate = parsed.pace.at_rate;
      threads_per_key = parsed.pace.by_threads ∙ ap Some threads;
      ops_per_key = parsed.pace.by_calls ∙ ap Some calls;
      recovery = parsed.pace.recovers;
      final = parsed.final_calls;
      keys = parsed.details.shape.over_keys;
      max_txn = parsed.details.shape.at_most;
      appends_per_key = parsed.details.shape.of_appends;
      seed = parsed.details.from_seed;
      schedule = parsed.entries;
    }

    has_schedule : HasSchedule (test_of_parts parts shares)
    has_schedule = (few_entries (IsMeant (parsed_test_entry parts.asked.environment.names)) (data_under Key.Schedule document) parts.schedule.items parsed.entries, parsed.steps)

    has_transactions : FitsTransactions (test_of_parts parts shares)
    has_transactions =
        let shape = parts.details.transactions in
        let between : (default most : ℕ) (key : Key) (n : ℕ) → 1 ≤ default → default ≤ most → transaction_number default most key document ≡ Some n → (1 ≤ n) × (n ≤ most) =
        λ default most key n low high e. number_between default most key document parts.asked.workload parsed.asked.workload n low high e in
        let keys = between 4 1000 Key.Keys shape.keys (omega arith) (omega arith) parsed.details.shape.over_keys in
        let ops = between 4 100 Key.MaxTxn shape.most (omega arith) (omega arith) parsed.details.shape.at_most in
        let appends = between 32 10000 Key.AppendsPerKey shape.appends (omega arith) (omega arith) parsed.details.shape.of_appends in
        record {
          some_keys = keys.0;
          few_keys = keys.1;
          some_ops = ops.0;
          few_ops = ops.1;
          some_appends = appends.0;
          few_appends = appends.1;
        }

    -- a test of good parts is refused for its keys, its generator and its final calls alone
    refused : (error : TestError) → RefusesTest (test_of_parts parts shares) error → RefusesDriveValues document (test_refusal error)
    refused TestError.BadClients h = absurd (h (has_clients document parts.pace.clients parsed.pace.by_clients))
    refused TestError.BadOps h = absurd (h.1 (has_ops document parts.pace.ops parsed.pace.so_many))
    refused TestError.BadKeys h = inr (test_of_parts parts shares, all_good document parts (option_map generator_of parts.final_calls) parsed.final_calls parsed, test_parsed, h.2)
    refused TestError.BadGenerator h = inr (test_of_parts parts shares, all_good document parts (option_map generator_of parts.final_calls) parsed.final_calls parsed, test_parsed, (h.2, h.3))
    refused TestError.BadFinal h = inr (test_of_parts parts shares, all_good document parts (option_map generator_of parts.final_calls) parsed.final_calls parsed, test_parsed, (h.2, h.3, λ k. h.4 k.0))
    refused TestError.BadSchedule h = absurd (h.5 has_schedule)
    refused TestError.BadTransactions h = absurd (h.6 has_transactions)
    refused TestError.OutOfMemory h = tt

    -- so why it is refused is why the document is
    pub test_refused : (e : SettingsError) → RefusesAllowed (test_of_parts parts shares) e → RefusesDriveValues document e
    test_refused e (inl h) = subst (RefusesDriveValues document) (sym h.2) (refused h.0 h.1)
    test_refused e (inr h) =
        subst (RefusesDriveValues document) (sym h.0) (
        inr (test_of_parts parts shares, all_good document parts (option_map generator_of parts.final_calls) parsed.final_calls parsed, test_parsed, (h.1.keys, h.1.generator, λ k. h.2 k.1))
        )

    -- and a test of these parts is what the document means
    pub test_means : HasKnownKeys drive_keys document → (test : TestValue) → (test ≡ test_of_parts parts shares) × IsFitTest test × IsFinalAllowed test → AreDriveSettings document test parts.details.initial parts.details.model parts.details.budget
    test_means known test h = record {
      known = known;
      parsed = subst (IsParsedTest document) (sym h.0) test_parsed;
      initial = parsed.details.holds;
      model = parsed.details.keeps;
      budget = parsed.details.within;
      fit = h.1;
      allowed = h.2;
    }
