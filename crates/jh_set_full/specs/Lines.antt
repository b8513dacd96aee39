-- The value of the result, a map, whose printed text is its one line (this project's own; the keys
-- are those of jepsen.checker).
use Rattle.std.specs.Prelude.{ℕ, pos, [], ◌∷◌, map, codes, Option}
use Rattle.std.specs.Option.{option_map_or}
use Rattle.jh_edn.specs.Edn.{Edn, int, keyword, nil}
use Rattle.jh_edn.specs.Parts.{vector_of}
use Rattle.jh_check.specs.Lines.{map_with_verdict, tally_value}
use Rattle.jh_set_full.specs.declared.set_full.SetFullResult.{SetFullResult}

-- a number, and nil where it is missing
abbrev pub number_or_nil : Option ℕ → Edn
number_or_nil number = option_map_or (λ n. int (pos n)) number nil

-- a stale element with its milliseconds
abbrev pub stale_value : Edn × Option ℕ → Edn
stale_value stale = vector_of (stale.0 ∷ number_or_nil stale.1 ∷ [])

abbrev pub set_full_value : SetFullResult → Edn
set_full_value result =
    map_with_verdict result.verdict
    ((keyword (codes "attempted"), int (pos result.attempted))
    ∷ (keyword (codes "stable"), int (pos result.stable))
    ∷ (keyword (codes "lost"), vector_of result.lost)
    ∷ (keyword (codes "never-read"), vector_of result.never_read)
    ∷ (keyword (codes "stale"), vector_of (map stale_value result.stale))
    ∷ (keyword (codes "duplicated"), tally_value result.duplicated) ∷ [])
