-- What becomes of a machine by lines, one after another, and what it answers (this project's own).
-- Bytes that go from the machine to its peer are said, and told when they are handed over; what the
-- peer writes is heard, and never called said or told.
use Rattle.std.specs.Prelude.{ℕ, List, [], ◌∷◌, ◌++◌}
use Rattle.jh_lines.specs.Lines.{all_lines}

-- the machine after these lines
abbrev pub after_lines : {M : Type 0} → (M → List ℕ → M) → M → List (List ℕ) → M
after_lines after_line machine [] = machine
after_lines after_line machine (line ∷ lines) =
    after_lines after_line (after_line machine line) lines

-- all that it says to them
abbrev pub answers_to_lines : {M : Type 0} → (M → List ℕ → M) → (M → List ℕ → List ℕ) → M
    → List (List ℕ) → List ℕ
answers_to_lines after_line answer_to machine [] = []
answers_to_lines after_line answer_to machine (line ∷ lines) =
    answer_to machine line ++ answers_to_lines after_line answer_to (after_line machine line) lines

-- all that it says where the input is these bytes and ends: before the first line, and to each line
abbrev pub said_to_all : {M : Type 0} → (M → List ℕ) → (M → List ℕ → M)
    → (M → List ℕ → List ℕ) → M → List ℕ → List ℕ
said_to_all opening after_line answer_to machine bytes =
    opening machine ++ answers_to_lines after_line answer_to machine (all_lines bytes)
