-- How an unknown key is shown: on one line, which is no longer than one reads (this project's own).
use Rattle.std.specs.Prelude.{ℕ, List, ◌++◌, codes, if◌then◌else◌, length, nat_lt}
use Rattle.std.specs.Fmt.{decimal}
use Rattle.jh_one_line.specs.OneLine.{one_line_text}

-- the bytes of a key that is shown, at most
abbrev pub max_shown_key : ℕ
max_shown_key = 200

-- a key of more bytes is shown by how many it has
abbrev pub shown_key : List ℕ → List ℕ
shown_key text =
    if nat_lt max_shown_key (length text)
    then codes "a key of " ++ (decimal (length text) ++ codes " bytes") else one_line_text text
