-- Pixels of axes, and the numbers beside them (this project's own; that numbers beside an axis are 1, 2
-- and 5 times powers of ten is what plots commonly have). Panels are 900 pixels wide and 300 high.
use Rattle.std.specs.Prelude.{ℕ, ◌*◌, ◌/◌, ◌^◌, nat_le, List, [], ◌∷◌, find, unwrap_or}
use Rattle.std.specs.List.{flat_map, range_with_len}

-- the last pixel from the left, and the last from below
abbrev pub last_column : ℕ
last_column = 899

abbrev pub last_row : ℕ
last_row = 299

-- the pixel of a part, where the whole has the last one, rounded down
abbrev pub pixel_of : ℕ → ℕ → ℕ → ℕ
pixel_of last part whole = part * last / whole

-- 1, 2 and 5 times a power of ten
abbrev pub round_with : ℕ → List ℕ
round_with power = 10 ^ power ∷ 2 * 10 ^ power ∷ 5 * 10 ^ power ∷ []

-- 1, 2, 5, 10, 20, 50 and so on, below 10^19
unfoldable pub round_numbers : List ℕ
round_numbers = flat_map round_with (range_with_len 0 19)

-- the first of them that is not below a number, or else 10^19
abbrev pub round_up : ℕ → ℕ
round_up number = unwrap_or (find (λ round. nat_le number round) round_numbers) (10 ^ 19)
