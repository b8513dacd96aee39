-- Blanks in place of what can't be read (this project's own).
use Rattle.std.specs.Prelude.{ℕ, ◌==◌, ◌≡◌, ◌≢◌, ◌⊎◌, List, ◌++◌, map, take, drop, if◌then◌else◌}
use Rattle.std.specs.List.{AllZip}
use Rattle.jh_edn.specs.Bytes.{line_feed, space}

-- a space in place of each byte but a line feed
abbrev pub blank : ℕ → ℕ
blank c = if c == line_feed then c else space

-- the bytes behind so many are blank
abbrev pub blank_behind : ℕ → List ℕ → List ℕ
blank_behind start out = take start out ++ map blank (drop start out)

-- a byte as it was, or a space where there was no line feed
abbrev pub IsOwnOrBlank : ℕ → ℕ → Type 0
IsOwnOrBlank was is = (is ≡ was) ⊎ ((is ≡ space) × (was ≢ line_feed))

-- Place by place each byte is as it was, or a space where there was no line feed: so the length is the
-- same, and so are all lines and columns.
abbrev pub AreOwnOrBlank : List ℕ → List ℕ → Type 0
AreOwnOrBlank text out = AllZip IsOwnOrBlank text out
