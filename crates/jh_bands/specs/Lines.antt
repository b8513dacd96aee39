-- The records of the nemesis in a history, each as a line with a label (this project's own). Indexes
-- count the records of the history from 0.
use Rattle.std.specs.Prelude.{ℕ, ◌+◌, ℤ, List, [], ◌∷◌, ◌++◌, codes, if◌then◌else◌, Option, None}
use Rattle.std.specs.Option.{option_map_or}
use Rattle.jh_edn.specs.Edn.{Edn, int}
use Rattle.jh_edn.specs.Print.{print}
use Rattle.jh_ops.specs.Operation.{Operation, is_client}
use Rattle.jh_bands.specs.Bands.{answered_step, asked_in, is_done_code, label_of}
use Rattle.jh_bands.specs.Replay.{StepValue, begin, withdraw, withdraw_all, undo, redo}
use Rattle.jh_bands.specs.Words.{asked_text}
use Rattle.jh_bands.specs.declared.band.Line.{Line}

-- ---- labels

-- a step in words, as `begin 1: cut n1 n2`
abbrev pub step_in_words : StepValue → List ℕ
step_in_words (begin id fault) = codes "begin " ++ label_of (id, fault)
step_in_words (withdraw id) = codes "withdraw " ++ print (int id)
step_in_words withdraw_all = codes "withdraw all"
step_in_words undo = codes "undo"
step_in_words redo = codes "redo"

-- what became of a step, by the code of its answer
abbrev pub step_outcome_text : ℤ → List ℕ
step_outcome_text code =
    if is_done_code code then codes ": done" else codes ": refused, code " ++ print (int code)

-- a step with the code of its answer, in words
abbrev pub answer_in_words : StepValue × ℤ → List ℕ
answer_in_words answered = step_in_words answered.0 ++ step_outcome_text answered.1

-- the label of a record that asks for no step that is known: the step that it answers with what became
-- of it, or else the record's function with its value
abbrev pub answer_label : Option (ℤ × StepValue) → Operation → List ℕ
answer_label waiting op =
    option_map_or answer_in_words (answered_step waiting op) (asked_text op.f op.value)

-- the label of a record of the nemesis, behind the one that asked for this step: the step that it asks
-- for, where it asks for one that is known
abbrev pub line_label : List Edn → Option (ℤ × StepValue) → Operation → List ℕ
line_label steps waiting op =
    option_map_or (λ asked. step_in_words asked.1) (asked_in steps op) (answer_label waiting op)

-- ---- lines

-- a line as a contract sees it
pub record LineValue : Type 0 where
  pub index : ℕ
  pub label : List ℕ

abbrev pub view_line : Line → LineValue
view_line line = record { index = line.index; label = line.label.items }

-- a line for each of these records that is of the nemesis, the first of them at this index, behind the
-- nemesis's record that asked for this step
abbrev pub nemesis_lines_from : List Edn → Option (ℤ × StepValue) → ℕ → List Operation → List LineValue
nemesis_lines_from steps waiting index [] = []
nemesis_lines_from steps waiting index (op ∷ ops) =
    if is_client op.process then nemesis_lines_from steps waiting (index + 1) ops
    else record { index = index; label = line_label steps waiting op }
    ∷ nemesis_lines_from steps (asked_in steps op) (index + 1) ops

-- the lines of a history, with the steps of its schedule
abbrev pub lines_in : List Edn → List Operation → List LineValue
lines_in steps history = nemesis_lines_from steps None 0 history
