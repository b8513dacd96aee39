-- The lines behind a refusal of settings, without their line feeds: one, and none behind out of
-- memory (this project's own).
use Rattle.std.specs.Prelude.{◌≡◌, ◌++◌, ℕ, List, [], ◌∷◌, codes, Option, Some, None, IfSome}
use Rattle.std.specs.Fmt.{decimal}
use Rattle.std.specs.Str.{IsUtf8}
use Rattle.toml.specs.Data.{Data, Members}
use Rattle.toml.specs.Parse.{parse_document}
use Rattle.jh_settings.specs.Keys.{data_under}
use Rattle.jh_settings.specs.declared.error.SettingsError.{SettingsError}
use Rattle.jh_settings.specs.declared.error.SettingsError.TheVariants.{NotToml, Unknown, Missing}
use Rattle.jh_settings.specs.declared.error.SettingsError.TheVariants.{BadValue, OutOfMemory}
use Rattle.jh_settings.specs.declared.keys.Key.{Key}
use Rattle.jh_settings_reasons.specs.Entries.{entry_error_text}
use Rattle.jh_settings_reasons.specs.Takes.{known_keys_text, key_takes}
use Rattle.jh_settings_reasons.specs.declared.key_texts.SettingsKind.{SettingsKind}
use Rattle.jh_settings_reasons.specs.declared.schedule.EntryError.{EntryError}

-- The line says that the entry at this place, from 0, is none, and why; the text of an error of EDN or
-- of a step is that error's, which no clause knows.
abbrev pub NamesEntry : ℕ → EntryError → List ℕ → Type 0
NamesEntry place error line =
    IfSome (entry_error_text error)
    (λ text. line ≡ codes "entry " ++ (decimal place ++ (codes ": " ++ text)))

-- Why what stands under a key is refused. Of a start, a generator and a schedule it depends on texts of
-- errors that no clause knows, so nothing is said of their lines.
abbrev pub IsReasonUnder : SettingsKind → Key → Option Data → List ℕ → Type 0
IsReasonUnder kind Key.Start (Some value) line = Unit {0}
IsReasonUnder kind Key.Generator (Some value) line = Unit {0}
IsReasonUnder kind Key.Final (Some value) line = Unit {0}
IsReasonUnder kind Key.Schedule (Some value) line = Unit {0}
IsReasonUnder kind key _ line = line ≡ key_takes kind key

abbrev pub IsReasonIn : SettingsKind → Key → Option Members → List ℕ → Type 0
IsReasonIn kind key None line = line ≡ key_takes kind key
IsReasonIn kind key (Some document) line =
    IsReasonUnder kind key (data_under key document) line

-- The line of a refusal. Why bytes are no document is told in words of TOML's reader, which no clause
-- knows.
abbrev pub IsReasonLine : SettingsKind → List ℕ → SettingsError → List ℕ → Type 0
IsReasonLine kind bytes NotToml line = Unit {0}
IsReasonLine kind bytes (Unknown name) line = line ≡ known_keys_text kind
IsReasonLine kind bytes (Missing key) line = line ≡ key_takes kind key
IsReasonLine kind bytes (BadValue key) line =
    IsUtf8 bytes → IsReasonIn kind key (parse_document bytes) line
IsReasonLine kind bytes OutOfMemory line = ⊥

abbrev pub AreReasons : SettingsKind → List ℕ → SettingsError → List (List ℕ) → Type 0
AreReasons kind bytes OutOfMemory lines = lines ≡ []
AreReasons kind bytes refusal lines =
    (line : List ℕ) × (lines ≡ line ∷ []) × IsReasonLine kind bytes refusal line
