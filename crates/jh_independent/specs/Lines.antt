-- The line of what is found of several keys, without its line feed (jepsen.independent gives a map
-- from keys to results; that the line has a vector of keys with their results is this project's
-- own): the printed text of a map.
use Rattle.std.specs.Prelude.{ℕ, List, [], ◌∷◌, map, codes}
use Rattle.jh_edn.specs.Edn.{Edn, keyword}
use Rattle.jh_edn.specs.Parts.{vector_of}
use Rattle.jh_edn.specs.Print.{print}
use Rattle.jh_edn.specs.View.{view}
use Rattle.jh_check.specs.Lines.{map_with_verdict}
use Rattle.jh_check.specs.Verdicts.{merged_verdict}
use Rattle.jh_check.specs.declared.verdict.Verdict.{Verdict}
use Rattle.jh_checkers.specs.Findings.{finding_verdict}
use Rattle.jh_checkers.specs.Lines.{finding_value}
use Rattle.jh_independent.specs.declared.serial.KeyFinding.{KeyFinding}

-- the verdict on all keys together
abbrev pub verdict_of_all : List KeyFinding → Verdict
verdict_of_all found = merged_verdict (map (λ one. finding_verdict one.finding) found)

-- a key with its result
abbrev pub key_value : KeyFinding → Edn
key_value one = vector_of (view one.key ∷ finding_value one.finding ∷ [])

-- the line of all keys, with the verdict on them
abbrev pub keys_line : List KeyFinding → List ℕ
keys_line found =
    print (map_with_verdict (verdict_of_all found)
    ((keyword (codes "keys"), vector_of (map key_value found)) ∷ []))
