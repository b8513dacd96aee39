-- Values as lines of bytes, and what is read of bytes (this project's own).
use Rattle.std.specs.Prelude.{◌≡◌, ℕ, List, ◌++◌, codes}
use Rattle.std.specs.List.{flat_map}
use Rattle.jh_edn.specs.Edn.{Edn}
use Rattle.jh_edn.specs.Print.{print}
use Rattle.jh_edn.specs.Spelling.{SpellsAll}

-- what is printed of a value, and a line feed
abbrev pub line_of : Edn → List ℕ
line_of value = print value ++ codes "\n"

-- each value on a line
abbrev pub lines_of : List Edn → List ℕ
lines_of values = flat_map line_of values

-- the bytes spell these values, and whoever reads them as values has these
abbrev pub ReadsBack : List Edn → List ℕ → Type 0
ReadsBack values bytes =
    SpellsAll values bytes × ((others : List Edn) → SpellsAll others bytes → others ≡ values)
