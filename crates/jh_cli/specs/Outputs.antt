-- The frame of the commands (this project's own): what each writes for the bytes that it reads.
use Rattle.std.specs.Prelude.{ℕ, List, Option, IfSome}
use Rattle.std.specs.Io.KnownBytes.{Appends}

-- It holds of the bytes that a reader gives, where these are known. Of a file, a pipe or a terminal
-- no contract knows them: there nothing is said.
abbrev pub OnInput : Option (List ℕ) → (List ℕ → Type 0) → Type 0
OnInput input Holds = IfSome input Holds

-- What was written behind what the writer had before is an output that goes with the input and with
-- this exit status.
abbrev pub WritesOutput : Option (List ℕ) → (List ℕ → ℕ → List ℕ → Type 0) → ℕ → Option (List ℕ)
    → Option (List ℕ) → Type 0
WritesOutput input IsTextOf status before after =
    OnInput input (λ bytes.
    (output : List ℕ) × IsTextOf bytes status output × Appends before after output)
