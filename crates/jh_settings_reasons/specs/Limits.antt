-- How much a line shows of what it names (this project's own).
use Rattle.std.specs.Prelude.{ℕ}

-- how many characters of a part of a generator are shown, at most
abbrev pub max_shown_part : ℕ
max_shown_part = 40

-- how many bytes of an unknown node's name are shown, at most
abbrev pub max_shown_name : ℕ
max_shown_name = 64
