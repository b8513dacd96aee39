-- The text of a line, piece by piece: proofs rest on it, and no public clause names it. This project's
-- own.
use Rattle.std.specs.Prelude.{ℕ, List, [], ◌∷◌, ◌++◌, codes}
use Rattle.jh_edn.specs.Edn.{Edn}
use Rattle.jh_edn.specs.Print.{print}

-- pairs behind others
abbrev pub pairs_text : List (Edn × Edn) → List ℕ
pairs_text [] = []
pairs_text (pair ∷ pairs) =
    (codes ", " ++ (print pair.0 ++ (codes " " ++ print pair.1))) ++ pairs_text pairs

-- values behind others
abbrev pub values_text : List Edn → List ℕ
values_text [] = []
values_text (value ∷ values) = (codes " " ++ print value) ++ values_text values
