-- What holds of lines and of conversations, however the bytes come (this project's own).
use Rattle.std.specs.Prelude.{◌≡◌, ◌≢◌, ℕ, Bool, true, List, [], ◌∷◌, ◌++◌}
use Rattle.std.specs.List.{flat_map, AllByRecursion}
use Rattle.jh_lines.specs.Lines.{rest_from, whole_lines}
use Rattle.jh_lines.specs.Answering.{after_lines, answers_to_lines, said_to_all}
use Rattle.jh_lines.specs.Events.{TalkEvent, Heard, told_in, IsPrompt}

-- no byte of it is a line feed
abbrev pub HasNoFeed : List ℕ → Type 0
HasNoFeed line = AllByRecursion (λ byte. byte ≢ 10) line

abbrev pub with_feed : List ℕ → List ℕ
with_feed line = line ++ 10 ∷ []

-- the lines, each with its line feed, and what has come of the next one, are the bytes; and no line
-- has a line feed in it
pub record AreLinesOf (lines : List (List ℕ)) (rest bytes : List ℕ) : Type 0 where
  pub joined : flat_map with_feed lines ++ rest ≡ bytes
  pub each : AllByRecursion HasNoFeed lines
  pub last : HasNoFeed rest

-- whole lines, and what comes behind them, are all of a stream
abbrev pub CutsLines : Type 0
CutsLines = (bytes : List ℕ) → AreLinesOf (whole_lines bytes) (rest_from [] bytes) bytes

-- at each moment of a prompt conversation in which something was heard, all that was due was told
-- before it
abbrev pub TellsFirst : Type 0
TellsFirst = (due : List TalkEvent → List ℕ) (later earlier : List TalkEvent) (bytes : List ℕ)
    → IsPrompt due (later ++ Heard bytes ∷ earlier) → told_in earlier ≡ due earlier

module _ {M : Type 0} (opening : M → List ℕ) (after_line : M → List ℕ → M)
    (answer_to : M → List ℕ → List ℕ) (has_finished : M → Bool) where
  -- a machine that listens no more after some bytes says nothing to what comes behind them
  abbrev pub HearsNoMore : Type 0
  HearsNoMore = (machine : M) (bytes more : List ℕ)
      → has_finished (after_lines after_line machine (whole_lines bytes)) ≡ true
      → said_to_all opening after_line answer_to machine (bytes ++ more)
      ≡ opening machine ++ answers_to_lines after_line answer_to machine (whole_lines bytes)
