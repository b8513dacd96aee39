-- What the value of a setting may be: a text, a choice, a number in a range, an element of EDN
-- (this project's own; the kinds of value are TOML's). A truth value is TOML's.
use Rattle.std.specs.Prelude.{◌≡◌, ℕ, pos, ◌&&◌, List, [], ◌∷◌, nat_le, if◌then◌else◌, Option, Some}
use Rattle.std.specs.Prelude.{None, option_and_then}
use Rattle.std.specs.Option.{option_map_or}
use Rattle.toml.specs.Data.{Data, integer, Members, as_str}
use Rattle.jh_edn.specs.Edn.{Edn}
use Rattle.jh_edn.specs.Spelling.{SpellsAll}
use Rattle.jh_settings.specs.declared.keys.Key.{Key}
use Rattle.jh_settings.specs.Keys.{data_under}

-- what the value under a key means, which has to be there
abbrev pub needed_value : {A : Type 0} → (Data → Option A) → Key → Members → Option A
needed_value parsed key document = option_and_then parsed (data_under key document)

-- what the value under a key means, and a default where there is none
abbrev pub value_or_default : {A : Type 0} → A → (Data → Option A) → Key → Members → Option A
value_or_default default parsed key document =
    option_map_or parsed (data_under key document) (Some default)

-- the text under a key
abbrev pub text_under : Key → Members → Option (List ℕ)
text_under key document = needed_value as_str key document

-- what a value means that is a text, one of some choices
abbrev pub choice_in : {A : Type 0} → (List ℕ → Option A) → Data → Option A
choice_in parsed value = option_and_then parsed (as_str value)

-- what the text under a key means, one of some choices
abbrev pub choice_under : {A : Type 0} → (List ℕ → Option A) → Key → Members → Option A
choice_under parsed key document = option_and_then parsed (text_under key document)

-- a whole number from the least to the most
abbrev pub whole_number_in : ℕ → ℕ → Data → Option ℕ
whole_number_in least most (integer (pos n)) =
    if nat_le least n && nat_le n most then Some n else None
whole_number_in least most _ = None

-- a text that is one element of EDN, with gaps around it and nothing else
abbrev pub IsElement : Data → Edn → Type 0
IsElement value x = (text : List ℕ) × (as_str value ≡ Some text) × SpellsAll (x ∷ []) text

-- the value under a key, which has to be there, is such a text
abbrev pub HoldsElement : Key → Members → Edn → Type 0
HoldsElement key document x =
    (value : Data) × (data_under key document ≡ Some value) × IsElement value x
