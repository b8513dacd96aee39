-- Those places of an order of all that are marked: proofs rest on it, and no public clause names it.
-- This project's own.
use Rattle.std.specs.Prelude.{ℕ, Bool, false, List, filter, slice_index_or}

-- those of some places that are marked
abbrev pub marked_places : List Bool → List ℕ → List ℕ
marked_places there places = filter (λ place. slice_index_or there place false) places
