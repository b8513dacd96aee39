-- The text of an operation, piece by piece: proofs rest on it, and no public clause names it.
-- This project's own.
use Rattle.std.specs.Prelude.{ℕ, ℤ, List, [], ◌++◌, codes, Option, Some, None}
use Rattle.std.specs.List.{flat_map}
use Rattle.jh_edn.specs.Edn.{Edn, int, keyword}
use Rattle.jh_edn.specs.Print.{print}
use Rattle.jh_ops.specs.OperationWritten.{kind_name}
use Rattle.jh_ops.specs.declared.operation.Kind.{Kind}

-- a pair of a map
abbrev pub pair_text : Edn × Edn → List ℕ
pair_text pair = print pair.0 ++ (codes " " ++ print pair.1)

-- a pair with an integer in front of others, where there is one
abbrev pub front_text : List ℕ → Option ℤ → List ℕ
front_text name None = []
front_text name (Some number) = pair_text (keyword name, int number) ++ codes ", "

abbrev pub type_text : Kind → List ℕ
type_text kind = pair_text (keyword (codes "type"), keyword (kind_name kind))

-- a pair behind others
abbrev pub behind_text : Edn × Edn → List ℕ
behind_text pair = codes ", " ++ pair_text pair

-- pairs behind others
abbrev pub rest_text : List (Edn × Edn) → List ℕ
rest_text pairs = flat_map behind_text pairs
