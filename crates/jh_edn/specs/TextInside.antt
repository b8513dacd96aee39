-- Where the bytes of a text lie, and what they are (this project's own).
use Rattle.std.specs.Prelude.{ℕ, List}
use Rattle.std.specs.String.{string_bytes}
use Rattle.jh_edn.specs.declared.text.Kept.{Kept}
use Rattle.jh_edn.specs.declared.text.Kept.TheVariants.{Short, Long}

-- the bytes of a text that is kept so
abbrev pub kept_bytes : Kept → List ℕ
kept_bytes (Short text) = text
kept_bytes (Long text) = string_bytes text.value
