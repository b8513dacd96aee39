-- Lines and columns, both from 1, the columns in characters (this project's own; which bytes begin a
-- character is that of RFC 3629, "UTF-8 definition").
use Rattle.std.specs.Prelude.{ℕ, ◌+◌, ◌&&◌, ◌==◌, List, [], ◌∷◌, nat_le, nat_lt, if◌then◌else◌}
use Rattle.std.specs.Prelude.{Bool}
use Rattle.jh_edn.specs.Bytes.{line_feed}
use Rattle.jh_lexemes.specs.declared.position.Position.{Position}

-- a byte of a character that is not its first
abbrev pub goes_on : ℕ → Bool
goes_on c = nat_le 128 c && nat_lt c 192

-- the position behind one byte more
abbrev pub after_byte : Position → ℕ → Position
after_byte p c =
    if c == line_feed then record { line = p.line + 1; column = 1 }
    else if goes_on c then p
    else record { line = p.line; column = p.column + 1 }

-- the position behind these bytes, where they begin at one
abbrev pub position_from : Position → List ℕ → Position
position_from p [] = p
position_from p (c ∷ s) = position_from (after_byte p c) s

-- the position behind these first bytes of a text
abbrev pub position_behind : List ℕ → Position
position_behind before = position_from (record { line = 1; column = 1 }) before
