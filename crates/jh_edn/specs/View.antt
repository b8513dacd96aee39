-- What a contract sees of a value that a program holds (this project's own).
use Rattle.std.specs.Prelude.{List, map}
use Rattle.jh_edn.specs.Edn.{Edn, nil, boolean, int, char, str, keyword, symbol, list, vector}
use Rattle.jh_edn.specs.Edn.{mapping, set, tagged, items_of, members_of}
use Rattle.jh_edn.specs.declared.value.Value.{Value}
use Rattle.jh_edn.specs.declared.value.Value.TheVariants.{Nil, Bool, Int, Char, Str, Keyword}
use Rattle.jh_edn.specs.declared.value.Value.TheVariants.{Symbol, List as Listed, Vector, Map, Set}
use Rattle.jh_edn.specs.declared.value.Value.TheVariants.{Tagged}

abbrev pub view : Value → Edn
view Nil = nil
view (Bool b) = boolean b
view (Int z) = int z
view (Char c) = char c
view (Str s) = str s
view (Keyword s) = keyword s
view (Symbol s) = symbol s
view (Listed xs) = list (items_of xs)
view (Vector xs) = vector (items_of xs)
view (Map ms) = mapping (members_of ms)
view (Set xs) = set (items_of xs)
view (Tagged t) = tagged t.0 t.1

abbrev pub view_pair : Value × Value → Edn × Edn
view_pair p = (view p.0, view p.1)

abbrev pub views : List Value → List Edn
views xs = map view xs

abbrev pub view_pairs : List (Value × Value) → List (Edn × Edn)
view_pairs ms = map view_pair ms
