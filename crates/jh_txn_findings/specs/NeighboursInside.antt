-- Neighbours in a list, as a pass over it meets them: proofs rest on it, and no public clause names it.
-- This project's own.
use Rattle.std.specs.Prelude.{◌&&◌, ◌||◌, Bool, List, [], ◌∷◌}

-- two neighbours pass a test, where this is the answer for the one before the list and that for the
-- one behind it
abbrev pub meets_two : {A : Type 0} → (A → Bool) → Bool → List A → Bool → Bool
meets_two test before [] after = before && after
meets_two test before (x ∷ xs) after = (before && test x) || meets_two test (test x) xs after
