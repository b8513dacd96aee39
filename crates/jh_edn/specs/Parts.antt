-- Values and texts of which a line that is a map is made (this project's own; the texts are those of
-- `print`).
use Rattle.std.specs.Prelude.{ℕ, List, ◌++◌, codes}
use Rattle.jh_edn.specs.Edn.{Edn, keyword, vector, mapping, items_of, members_of}
use Rattle.jh_edn.specs.Print.{print}

abbrev pub vector_of : List Edn → Edn
vector_of values = vector (items_of values)

abbrev pub map_of : List (Edn × Edn) → Edn
map_of pairs = mapping (members_of pairs)

-- the text of a pair behind others, under a keyword of this name
abbrev pub behind_pair_text : List ℕ → Edn → List ℕ
behind_pair_text name value = codes ", " ++ (print (keyword name) ++ (codes " " ++ print value))
