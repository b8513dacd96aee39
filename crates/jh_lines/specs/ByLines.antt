-- What a reader has left that gives a line at a time: the rest of the line that it is giving, and what
-- stands behind it (this project's own, as std has its buffered readers).
use Rattle.std.specs.Prelude.{◌≡◌, ℕ, List, Option, drop}
use Rattle.std.specs.Io.BufRead.{take_through}
use Rattle.std.specs.Io.KnownBytes.{prepend_known}
use Rattle.jh_lines.specs.declared.by_lines.ByLines.{ByLines}

-- what was read of a line and not yet given
abbrev pub unread_line : {B : Type 0} → ByLines B → List ℕ
unread_line r = drop r.given r.line.items

abbrev pub left_by_lines : {B : Type 0} → (B → Option (List ℕ)) → ByLines B → Option (List ℕ)
left_by_lines remaining r = prepend_known (unread_line r) (remaining r.reader)

-- no byte stands behind their first line feed
abbrev pub StopsAtFeed : List ℕ → Type 0
StopsAtFeed bytes = take_through 10 bytes ≡ bytes
