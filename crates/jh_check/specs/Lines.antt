-- The value of each result, a map, whose printed text is its one line (this project's own; the keys
-- are those of jepsen.checker). Its numbers stand in full, also where no integer of 64 bits has
-- them.
use Rattle.std.specs.Prelude.{ℕ, pos, true, false, List, [], ◌∷◌, map, codes, Option, Some, None}
use Rattle.jh_edn.specs.Edn.{Edn, boolean, int, keyword, str}
use Rattle.jh_edn.specs.Parts.{map_of, vector_of}
use Rattle.jh_ops.specs.Operation.{operation}
use Rattle.jh_ops.specs.OperationWritten.{value_written}
use Rattle.jh_ops.specs.declared.operation.Op.{Op}
use Rattle.jh_check.specs.declared.counter.CounterResult.{CounterResult}
use Rattle.jh_check.specs.declared.counter.ReadBounds.{ReadBounds}
use Rattle.jh_check.specs.declared.ids.IdsResult.{IdsResult}
use Rattle.jh_check.specs.declared.set.SetFound.{SetFound}
use Rattle.jh_check.specs.declared.set.SetResult.{SetResult}
use Rattle.jh_check.specs.declared.verdict.Verdict.{Verdict}
use Rattle.jh_check.specs.declared.verdict.Verdict.TheVariants.{True, Unknown, False}

abbrev pub verdict_value : Verdict → Edn
verdict_value True = boolean true
verdict_value Unknown = keyword (codes "unknown")
verdict_value False = boolean false

-- a map whose first pair is the verdict
abbrev pub map_with_verdict : Verdict → List (Edn × Edn) → Edn
map_with_verdict verdict others =
    map_of ((keyword (codes "valid?"), verdict_value verdict) ∷ others)

-- operations, each as operations are written
abbrev pub operations_value : List Op → Edn
operations_value ops = vector_of (map (λ op. value_written (operation op)) ops)

abbrev pub set_pairs : Verdict → Option SetFound → List (Edn × Edn)
set_pairs verdict None =
    (keyword (codes "valid?"), verdict_value verdict)
    ∷ (keyword (codes "error"), str (codes "Set was never read")) ∷ []
set_pairs verdict (Some found) =
    (keyword (codes "valid?"), verdict_value verdict) ∷ (keyword (codes "ok"), vector_of found.ok)
    ∷ (keyword (codes "lost"), vector_of found.lost)
    ∷ (keyword (codes "unexpected"), vector_of found.unexpected)
    ∷ (keyword (codes "recovered"), vector_of found.recovered) ∷ []

abbrev pub set_value : SetResult → Edn
set_value result = map_of (set_pairs result.verdict result.found)

-- a read as its lower bound, its value and its upper bound
abbrev pub read_value : ReadBounds → Edn
read_value read = vector_of (int read.lower ∷ int read.value ∷ int read.upper ∷ [])

abbrev pub reads_value : List ReadBounds → Edn
reads_value reads = vector_of (map read_value reads)

abbrev pub counter_value : CounterResult → Edn
counter_value result =
    map_of ((keyword (codes "valid?"), verdict_value result.verdict)
    ∷ (keyword (codes "reads"), reads_value result.reads)
    ∷ (keyword (codes "errors"), reads_value result.errors) ∷ [])

-- a value with how often it is there, as a vector
abbrev pub counted_value : Edn × ℕ → Edn
counted_value entry = vector_of (entry.0 ∷ int (pos entry.1) ∷ [])

-- the same as a pair of a map
abbrev pub count_pair : Edn × ℕ → Edn × Edn
count_pair entry = (entry.0, int (pos entry.1))

-- values with how often each is there, as a map
abbrev pub tally_value : List (Edn × ℕ) → Edn
tally_value entries = map_of (map count_pair entries)

abbrev pub ids_value : IdsResult → Edn
ids_value result =
    map_of ((keyword (codes "valid?"), verdict_value result.verdict)
    ∷ (keyword (codes "attempted"), int (pos result.attempted))
    ∷ (keyword (codes "acknowledged"), int (pos result.acknowledged))
    ∷ (keyword (codes "duplicated"), vector_of (map counted_value result.duplicated)) ∷ [])
