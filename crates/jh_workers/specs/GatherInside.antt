-- What the code finds in a row; `Gather` has the rule (this project's own).
use Rattle.std.specs.Prelude.{◌≡◌, ℕ, false, List, [], ◌∷◌, ◌++◌, length, Option, Some, None, ⊤}
use Rattle.std.specs.FinMap as map
use Rattle.jh_slots.specs.Seats.{Mark, Marks, Words}
use Rattle.jh_ops.specs.Operation.{Operation, operation}
use Rattle.jh_ops.specs.Words.{IsRecordedAs}
use Rattle.jh_ops.specs.declared.operation.Op.{Op}
use Rattle.jh_ops.specs.declared.words.WordsError.{WordsError}
use Rattle.jh_ops.specs.declared.words.WordsError.TheVariants as words
use Rattle.jh_simnode.specs.Histories.{indexed_operation}
use Rattle.jh_workers.specs.declared.records.GatherError.{GatherError}
use Rattle.jh_workers.specs.declared.records.GatherError.TheVariants.{BadWords, OutOfMemory}
use Rattle.jh_workers.specs.Gather.{IsBadMark, is_record}

-- what a refusal of the words of a row means
abbrev pub gather_error : WordsError → ℕ → GatherError
gather_error words.NotRecordable row = BadWords row
gather_error words.TooSmall row = BadWords row
gather_error words.BadWords row = BadWords row
gather_error words.OutOfMemory row = OutOfMemory

-- the words of a row are of no operation, or memory was refused
abbrev pub RefusesRow : List ℕ → ℕ → GatherError → Type 0
RefusesRow words row (BadWords bad) = (bad ≡ row) × IsBadMark (Words words)
RefusesRow words row OutOfMemory = ⊤

-- the row has words of no operation, or memory was refused
abbrev pub RefusesRecord : Marks → ℕ → GatherError → Type 0
RefusesRecord seen row (BadWords bad) =
    (bad ≡ row) × ((m : Mark) → map.get seen row ≡ Some m → IsBadMark m)
RefusesRecord seen row OutOfMemory = ⊤

-- no record, or that of this operation
abbrev pub IsFound : Option Mark → Option Op → Type 0
IsFound mark None = is_record mark ≡ false
IsFound mark (Some op) =
    (words : List ℕ) × (mark ≡ Some (Words words)) × IsRecordedAs (operation op) words

-- a history, and after it what was found
abbrev pub history_with_found : List Operation → Option Op → List Operation
history_with_found history None = history
history_with_found history (Some op) =
    history ++ indexed_operation (length history) (operation op) ∷ []
