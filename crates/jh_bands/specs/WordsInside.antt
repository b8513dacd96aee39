-- What stands before a value in words. Proofs rest on it, and no public clause names it.
-- This project's own.
use Rattle.std.specs.Prelude.{ℕ, List, [], ◌∷◌}
use Rattle.jh_edn.specs.Edn.{Edn}
use Rattle.jh_bands.specs.Words.{gap_between}

-- what stands between a value and the last of these before it, if there are any
abbrev pub gap_behind : List Edn → Edn → List ℕ
gap_behind [] value = []
gap_behind (x ∷ []) value = gap_between x value
gap_behind (x ∷ y ∷ ys) value = gap_behind (y ∷ ys) value
