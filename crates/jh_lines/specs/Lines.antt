-- Lines in a stream of bytes, as POSIX defines "Line" and "Incomplete Line": a line ends at a line
-- feed, 10, and at nothing else. That an incomplete line counts where the stream ends is this
-- project's own.
use Rattle.std.specs.Prelude.{ℕ, ◌==◌, cond, List, [], ◌∷◌, ◌++◌}

-- where `line` has come of a line, the lines that end in these bytes, each without its line feed
abbrev pub lines_from : List ℕ → List ℕ → List (List ℕ)
lines_from line [] = []
lines_from line (byte ∷ bytes) =
    cond (byte == 10) (line ∷ lines_from [] bytes) (lines_from (line ++ byte ∷ []) bytes)

-- and what has then come of the next line
abbrev pub rest_from : List ℕ → List ℕ → List ℕ
rest_from line [] = line
rest_from line (byte ∷ bytes) =
    cond (byte == 10) (rest_from [] bytes) (rest_from (line ++ byte ∷ []) bytes)

-- what has come of a line where the stream ends is a line, unless it is empty
abbrev pub last_line : List ℕ → List (List ℕ)
last_line [] = []
last_line (byte ∷ bytes) = (byte ∷ bytes) ∷ []

-- the lines of a stream that may go on
abbrev pub whole_lines : List ℕ → List (List ℕ)
whole_lines bytes = lines_from [] bytes

-- the lines of a stream that has ended
abbrev pub all_lines : List ℕ → List (List ℕ)
all_lines bytes = whole_lines bytes ++ last_line (rest_from [] bytes)
