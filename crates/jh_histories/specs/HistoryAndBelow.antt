-- Which part of a text is a history: all of it, or what stands before the lines that a run prints
-- behind its history, of which the first begins with `:active`; of a test of a real database without
-- the lines up to `:end`, which are those of the conversation (this project's own).
use Rattle.std.specs.Prelude.{◌≡◌, ℕ, zero, suc, ◌+◌, ◌<◌, List, [], ◌∷◌, ◌++◌, length, codes, take}
use Rattle.std.specs.Prelude.{drop, ◌⊎◌}
use Rattle.std.specs.Str.{IsUtf8}
use Rattle.jh_edn.specs.Refused.{IsReaderError}
use Rattle.jh_edn.specs.declared.error.EdnError.TheVariants.{Utf8}
use Rattle.jh_histories.specs.Histories.{IsHistoryOf, RefusesHistoryOf}
use Rattle.jh_histories.specs.declared.error.ReadHistoryError.{ReadHistoryError}
use Rattle.jh_histories.specs.declared.below.RecordedPart.{RecordedPart}
use Rattle.jh_histories.specs.declared.error.ReadHistoryError.TheVariants.{Text, History}
use Rattle.jh_ops.specs.Operation.{Operation}
use Rattle.jh_ops.specs.declared.history.HistoryError.TheVariants.{OutOfMemory}

-- The text has these bytes at a place.
abbrev pub HasAt : List ℕ → List ℕ → ℕ → Type 0
HasAt bytes text at = (behind : List ℕ) × (drop at text ≡ bytes ++ behind)

-- what the first line behind a history begins with, which jh_reports writes as `active_line`
abbrev pub active : List ℕ
active = codes ":active"

-- the line behind a conversation, which jh_conversation writes as `end_line`
abbrev pub conversation_end : List ℕ
conversation_end = codes ":end\n"

-- A line that begins so begins at a place: at the text's first, or behind a line feed.
abbrev pub HasLineAt : (begin text : List ℕ) → ℕ → Type 0
HasLineAt begin text zero = HasAt begin text 0
HasLineAt begin text (suc before) = HasAt (10 ∷ begin) text before

-- the first such line
pub record IsFirstLine (begin text : List ℕ) (at : ℕ) : Type 0 where
  pub here : HasLineAt begin text at
  pub first : (lower : ℕ) → lower < at → HasLineAt begin text lower → ⊥

-- There is no such line.
abbrev pub HasNoLine : (begin text : List ℕ) → Type 0
HasNoLine begin text = (at : ℕ) → HasLineAt begin text at → ⊥

-- What stands behind the first line `:end`, and all of the text where it has none.
abbrev pub IsBehindEnd : (text behind : List ℕ) → Type 0
IsBehindEnd text behind =
    (HasNoLine conversation_end text × (behind ≡ text))
    ⊎ ((at : ℕ) × IsFirstLine conversation_end text at
    × (behind ≡ drop (at + length conversation_end) text))

-- This part of a text, from its start to its end, stands before the first line that begins with
-- `:active`, and behind the line `:end` where one stands there.
pub record IsRecordedPart (text : List ℕ) (part : RecordedPart) : Type 0 where
  pub line : IsFirstLine active text part.end
  pub behind : IsBehindEnd (take part.end text) (drop part.start (take part.end text))

-- The text as a whole is no history.
abbrev pub IsNoHistory : List ℕ → Type 0
IsNoHistory text = (history : List Operation) → IsHistoryOf text history → ⊥

-- A text, which is UTF-8 and as a whole no history, has one before the first line that begins with
-- `:active`. That line and what is behind it stand below.
pub record HasHistoryBefore (text : List ℕ) (history : List Operation)
    (below : List ℕ) : Type 0 where
  pub utf8 : IsUtf8 text
  pub none : IsNoHistory text
  pub at : ℕ
  pub line : IsFirstLine active text at
  pub before : List ℕ
  pub behind : IsBehindEnd (take at text) before
  pub parsed : IsHistoryOf before history
  pub below_is : below ≡ drop at text

-- The text is a history as a whole, with nothing below, or in two parts.
abbrev pub AreHistoryAndBelow : List ℕ → List Operation → List ℕ → Type 0
AreHistoryAndBelow text history below =
    (IsHistoryOf text history × (below ≡ [])) ⊎ HasHistoryBefore text history below

-- an error that does not come from what the text holds: its bytes can't be read, are no UTF-8, or
-- memory runs out
abbrev pub IsOfBytes : ReadHistoryError → Type 0
IsOfBytes (Text Utf8) = Unit {0}
IsOfBytes (Text error) = IsReaderError error
IsOfBytes (History OutOfMemory) = Unit {0}
IsOfBytes (History error) = ⊥

-- What stands before that line is refused; the text is UTF-8.
pub record RefusesBefore (text : List ℕ) (error : ReadHistoryError) : Type 0 where
  pub utf8 : IsUtf8 text
  pub none : IsNoHistory text
  pub at : ℕ
  pub line : IsFirstLine active text at
  pub before : List ℕ
  pub behind : IsBehindEnd (take at text) before
  pub refused : RefusesHistoryOf before error

-- Why a text has no history: its bytes; or why it is none as a whole, where it has no such line; or
-- why what stands before that line is none.
abbrev pub RefusesHistoryAndBelow : List ℕ → ReadHistoryError → Type 0
RefusesHistoryAndBelow text error =
    (IsOfBytes error × RefusesHistoryOf text error)
    ⊎ ((HasNoLine active text × RefusesHistoryOf text error) ⊎ RefusesBefore text error)
