-- The history that an input has, for commands that may leave out what can't be read (this project's
-- own).
use Rattle.std.specs.Prelude.{◌≡◌, ℕ, ◌⊎◌, Bool, true, false, List}
use Rattle.std.specs.Str.{IsUtf8}
use Rattle.jh_histories.specs.Histories.{RefusesHistoryOf}
use Rattle.jh_histories.specs.HistoryAndBelow.{AreHistoryAndBelow, IsOfBytes}
use Rattle.jh_histories.specs.HistoryAndBelow.{RefusesHistoryAndBelow}
use Rattle.jh_histories.specs.declared.error.ReadHistoryError.{ReadHistoryError}
use Rattle.jh_ops.specs.Operation.{Operation}
use Rattle.jh_unread.specs.Unread.{without_unread}

-- The text that is read: the input, or, where that is asked for, the input with blanks in place of the
-- pairs of operations that no checker reads and that can't be read.
abbrev pub IsTextRead : Bool → List ℕ → List ℕ → Type 0
IsTextRead false input text = text ≡ input
IsTextRead true input text = IsUtf8 input × (text ≡ without_unread input)

-- the history in that text, and what stands below it
abbrev pub IsHistoryInput : Bool → List ℕ → List Operation → List ℕ → Type 0
IsHistoryInput skips_unread input history below =
    (text : List ℕ) × IsTextRead skips_unread input text × AreHistoryAndBelow text history below

-- Why there is none: what comes from the bytes of the input and not from what they say; or why the text
-- that is read has none.
abbrev pub RefusesHistoryInput : Bool → List ℕ → ReadHistoryError → Type 0
RefusesHistoryInput skips_unread input error =
    (IsOfBytes error × RefusesHistoryOf input error)
    ⊎ ((text : List ℕ) × IsTextRead skips_unread input text × RefusesHistoryAndBelow text error)
