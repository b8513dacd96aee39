-- What is parsed is good, and the first bad value comes behind good ones.
use Rattle.std.proofs.Common.{◌≡◌, false, List, [], ◌∷◌, ◌++◌, Option, Some, None, inl, subst, sym, ◌∙◌}
use Rattle.std.proofs.lemmas.Bool.{true≢false}
use Rattle.toml.specs.Data.{Members}
use Rattle.jh_env.specs.Overlay.{EnvValue}
use Rattle.jh_gen.specs.Generator.{Generator}
use Rattle.jh_settings.specs.declared.error.SettingsError.{SettingsError}
use Rattle.jh_settings.specs.declared.error.SettingsError.TheVariants.{NotToml, Unknown, Missing, BadValue, OutOfMemory}
use Rattle.jh_settings.specs.declared.keys.Key.{Key}
use Rattle.jh_settings.specs.Keys.{drive_keys, is_missing}
use Rattle.jh_settings.specs.Parsed.{IsParsedStart, IsGeneratorUnder}
use Rattle.jh_settings.specs.Readers.{RefusesValue, RefusesKeyValues}
use Rattle.jh_settings.specs.Refusals.{AreGood}
use Rattle.jh_settings.proofs.OrderLemmas.{refused_front, refused_behind, good_append, is_parsed}
use Rattle.jh_settings.proofs.StartLemmas.{nodes_once}
use Rattle.jh_test_parts.specs.declared.parts.TestEntry.{TestEntry}
use Rattle.jh_drive_settings.specs.declared.parts.Asked.{Asked}
use Rattle.jh_drive_settings.specs.declared.parts.Details.{Details}
use Rattle.jh_drive_settings.specs.declared.parts.Pace.{Pace}
use Rattle.jh_drive_settings.specs.declared.parts.Parts.{Parts}
use Rattle.jh_drive_settings.specs.Inside.{IsParsedAsked, IsParsedPace, AreParsedDetails, AreParsedParts, RefusesDriveValues, asked_keys, pace_keys, detail_keys}
use Rattle.jh_drive_settings.specs.Parsed.{IsParsedFinal, IsParsedTestSchedule}
use Rattle.jh_drive_settings.specs.Refusals.{IsGoodForTest}

module _ (document : Members) where
  abbrev pub Refuses : List Key → SettingsError → Type 0
  Refuses some e = RefusesKeyValues (IsGoodForTest document) some e

  -- the keys behind those of each group
  abbrev pub behind_final_calls : List Key
  behind_final_calls = detail_keys ++ Key.Schedule ∷ []

  abbrev pub behind_pace : List Key
  behind_pace = (Key.Final ∷ []) ++ behind_final_calls

  abbrev pub behind_asked : List Key
  behind_asked = pace_keys ++ behind_pace

  asked_good : (asked : Asked) → IsParsedAsked document asked → AreGood (IsGoodForTest document) asked_keys
  asked_good asked h = ((_, h.start), (is_parsed h.workload, ((_, h.generator), tt)))

  pace_good : (pace : Pace) → IsParsedPace document pace → AreGood (IsGoodForTest document) pace_keys
  pace_good pace h =
      (is_parsed h.by_clients, (is_parsed h.so_many, (is_parsed h.until, (is_parsed h.at_rate, (is_parsed h.by_threads, (is_parsed h.by_calls, (is_parsed h.recovers, tt)))))))

  final_calls_good : (g : Option Generator) → IsParsedFinal document g → AreGood (IsGoodForTest document) (Key.Final ∷ [])
  final_calls_good g h = ((g, h), tt)

  details_good : (details : Details) → AreParsedDetails document details → AreGood (IsGoodForTest document) detail_keys
  details_good details h =
      (is_parsed h.holds, (is_parsed h.shape.over_keys, (is_parsed h.shape.at_most, (is_parsed h.shape.of_appends, (is_parsed h.keeps, (is_parsed h.from_seed, (is_parsed h.within, tt)))))))

  no_final : is_missing document Key.Final ≡ false → (((g : Generator) × IsGeneratorUnder Key.Final document g) → ⊥) → (g : Option Generator) → IsParsedFinal document g → ⊥
  no_final there none None h = true≢false (sym h ∙ there)
  no_final there none (Some g) h = none (g, h)

  -- what stands there and is no generator means no final calls, and not that there are none
  pub final_bad : (e : SettingsError) → is_missing document Key.Final ≡ false → RefusesValue ((g : Generator) × IsGeneratorUnder Key.Final document g) Key.Final e → RefusesValue ((g : Option Generator) × IsParsedFinal document g) Key.Final e
  final_bad NotToml there h = absurd h
  final_bad (Unknown name) there h = absurd h
  final_bad (Missing key) there h = absurd h
  final_bad (BadValue key) there h = (h.0, λ good. no_final there h.1 good.0 good.1)
  final_bad OutOfMemory there h = tt

  -- a bad value is the first of a key alone
  final_calls_bad : (e : SettingsError) → RefusesValue ((g : Option Generator) × IsParsedFinal document g) Key.Final e → Refuses (Key.Final ∷ []) e
  final_calls_bad NotToml h = absurd h
  final_calls_bad (Unknown name) h = absurd h
  final_calls_bad (Missing key) h = absurd h
  final_calls_bad (BadValue key) h = inl (h.0, λ good. h.1 (subst (IsGoodForTest document) (sym h.0) good))
  final_calls_bad OutOfMemory h = tt

  no_schedule : (env : EnvValue) → IsParsedStart document env → (((entries : List TestEntry) × IsParsedTestSchedule env.names document entries) → ⊥) → IsGoodForTest document Key.Schedule → ⊥
  no_schedule env start none good =
      none (good.1, subst (λ names. IsParsedTestSchedule names document good.1) (nodes_once document good.0 env good.2 start) good.3)

  entries_bad : (env : EnvValue) (e : SettingsError) → IsParsedStart document env → RefusesValue ((entries : List TestEntry) × IsParsedTestSchedule env.names document entries) Key.Schedule e → Refuses (Key.Schedule ∷ []) e
  entries_bad env NotToml start h = absurd h
  entries_bad env (Unknown name) start h = absurd h
  entries_bad env (Missing key) start h = absurd h
  entries_bad env (BadValue key) start h = inl (h.0, λ good. no_schedule env start h.1 (subst (IsGoodForTest document) (sym h.0) good))
  entries_bad env OutOfMemory start h = tt

  -- ---- of all keys, behind good ones

  pub asked_refused : (e : SettingsError) → Refuses asked_keys e → Refuses drive_keys e
  asked_refused e h = refused_front (IsGoodForTest document) asked_keys behind_asked e h

  after_asked : (e : SettingsError) (asked : Asked) → IsParsedAsked document asked → Refuses behind_asked e → Refuses drive_keys e
  after_asked e asked a h = refused_behind (IsGoodForTest document) asked_keys behind_asked e (asked_good asked a) h

  pub pace_refused : (e : SettingsError) (asked : Asked) → IsParsedAsked document asked → Refuses pace_keys e → Refuses drive_keys e
  pace_refused e asked a h = after_asked e asked a (refused_front (IsGoodForTest document) pace_keys behind_pace e h)

  after_pace : (e : SettingsError) (asked : Asked) → IsParsedAsked document asked → (pace : Pace) → IsParsedPace document pace → Refuses behind_pace e → Refuses drive_keys e
  after_pace e asked a pace p h = after_asked e asked a (refused_behind (IsGoodForTest document) pace_keys behind_pace e (pace_good pace p) h)

  pub final_calls_refused : (e : SettingsError) (asked : Asked) → IsParsedAsked document asked → (pace : Pace) → IsParsedPace document pace
      → RefusesValue ((g : Option Generator) × IsParsedFinal document g) Key.Final e → Refuses drive_keys e
  final_calls_refused e asked a pace p h = after_pace e asked a pace p (refused_front (IsGoodForTest document) (Key.Final ∷ []) behind_final_calls e (final_calls_bad e h))

  after_final_calls : (e : SettingsError) (asked : Asked) → IsParsedAsked document asked → (pace : Pace) → IsParsedPace document pace → (g : Option Generator) → IsParsedFinal document g → Refuses behind_final_calls e → Refuses drive_keys e
  after_final_calls e asked a pace p g f h = after_pace e asked a pace p (refused_behind (IsGoodForTest document) (Key.Final ∷ []) behind_final_calls e (final_calls_good g f) h)

  pub details_refused : (e : SettingsError) (asked : Asked) → IsParsedAsked document asked → (pace : Pace) → IsParsedPace document pace → (g : Option Generator) → IsParsedFinal document g → Refuses detail_keys e → Refuses drive_keys e
  details_refused e asked a pace p g f h = after_final_calls e asked a pace p g f (refused_front (IsGoodForTest document) detail_keys (Key.Schedule ∷ []) e h)

  pub schedule_refused : (e : SettingsError) (asked : Asked) → IsParsedAsked document asked → (pace : Pace) → IsParsedPace document pace → (g : Option Generator) → IsParsedFinal document g → (details : Details) → AreParsedDetails document details
      → RefusesValue ((entries : List TestEntry) × IsParsedTestSchedule asked.environment.names document entries) Key.Schedule e → Refuses drive_keys e
  schedule_refused e asked a pace p g f details d h =
      after_final_calls e asked a pace p g f (refused_behind (IsGoodForTest document) detail_keys (Key.Schedule ∷ []) e (details_good details d) (entries_bad asked.environment e a.start h))

  -- where one is bad, the document is refused for it
  pub values_refused : (e : SettingsError) → Refuses drive_keys e → RefusesDriveValues document e
  values_refused NotToml h = absurd h
  values_refused (Unknown name) h = absurd h
  values_refused (Missing key) h = absurd h
  values_refused (BadValue key) h = inl h
  values_refused OutOfMemory h = tt

  -- and where none is, all are good
  pub all_good : (parts : Parts) (g : Option Generator) → IsParsedFinal document g → AreParsedParts document parts → AreGood (IsGoodForTest document) drive_keys
  all_good parts g f h =
      let Good : Key → Type 0 = IsGoodForTest document in
      let last : AreGood Good (Key.Schedule ∷ []) = ((parts.asked.environment, parts.schedule.items, h.asked.start, h.entries), tt) in
      let details = good_append Good detail_keys (Key.Schedule ∷ []) (details_good parts.details h.details) last in
      let final = good_append Good (Key.Final ∷ []) behind_final_calls (final_calls_good g f) details in
      let pace = good_append Good pace_keys behind_pace (pace_good parts.pace h.pace) final in
      good_append Good asked_keys behind_asked (asked_good parts.asked h.asked) pace
