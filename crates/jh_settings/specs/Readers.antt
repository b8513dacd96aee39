-- What the readers of a document and of its values answer, for the settings of every command (this
-- project's own).
use Rattle.std.specs.Prelude.{◌≡◌, List, ℕ, Option, Some, None, Result, MatchOption, MatchResult}
use Rattle.toml.specs.Data.{Data}
use Rattle.jh_edn.specs.Edn.{Edn}
use Rattle.jh_edn.specs.View.{view}
use Rattle.jh_edn.specs.declared.value.Value.{Value}
use Rattle.jh_settings.specs.declared.keys.Key.{Key}
use Rattle.jh_settings.specs.declared.error.SettingsError.{SettingsError}
use Rattle.jh_settings.specs.declared.error.SettingsError.TheVariants.{NotToml, BadValue}
use Rattle.jh_settings.specs.declared.error.SettingsError.TheVariants.{OutOfMemory}
use Rattle.jh_settings.specs.Keys.{IsNoDocument}
use Rattle.jh_settings.specs.Kinds.{IsElement}
use Rattle.jh_settings.specs.Refusals.{IsFirstBadKey}

-- why bytes are no table
abbrev pub RefusesBytes : List ℕ → SettingsError → Type 0
RefusesBytes bytes NotToml = IsNoDocument bytes
RefusesBytes bytes OutOfMemory = Unit {0}
RefusesBytes bytes _ = ⊥

-- what is parsed, or a bad value under the key
abbrev pub IsValueParsed : {A : Type 0} → Result A SettingsError → Key → Option A → Type 0
IsValueParsed answer key parsed =
    MatchResult answer (λ x. parsed ≡ Some x) (λ e. (e ≡ BadValue key) × (parsed ≡ None))

-- such a value is bad under the key, or memory was refused
abbrev pub RefusesValue : Type 0 → Key → SettingsError → Type 0
RefusesValue Good key (BadValue other) = (key ≡ other) × (Good → ⊥)
RefusesValue Good key OutOfMemory = Unit {0}
RefusesValue Good key _ = ⊥

-- one of these keys is the first with a bad value, or memory was refused
abbrev pub RefusesKeyValues : (Key → Type 0) → List Key → SettingsError → Type 0
RefusesKeyValues Good some (BadValue key) = IsFirstBadKey Good some key
RefusesKeyValues Good some OutOfMemory = Unit {0}
RefusesKeyValues Good some _ = ⊥

-- what is found is the one element that a value, which is a text, spells
abbrev pub IsElementIn : Data → Option Value → Type 0
IsElementIn value found =
    MatchOption found ((x : Edn) → IsElement value x → ⊥)
    (λ element. IsElement value (view element))
