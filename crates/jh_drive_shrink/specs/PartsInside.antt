-- A part of the schedule of a test, by the places of its entries. This project's own.
use Rattle.std.specs.Prelude.{ℕ, ◌+◌, ◌==◌, List, [], ◌∷◌, length, map, if◌then◌else◌}
use Rattle.std.specs.List.{range_with_len}
use Rattle.jh_nemesis.specs.declared.steps.Step.TheVariants.{Undo}
use Rattle.jh_simnode.specs.declared.schedule.Entry.{Entry}
use Rattle.jh_test_parts.specs.Test.{TestValue}
use Rattle.jh_test_parts.specs.declared.parts.TestEntry.{TestEntry}

-- the entry that stands for the one at a place
abbrev pub place_entry : ℕ → Entry
place_entry place = record { at = place; step = Undo }

-- all places of the schedule of a test
abbrev pub all_places : TestValue → List Entry
all_places t = map place_entry (range_with_len 0 (length t.schedule))

-- the numbers of places
abbrev pub place_numbers : List Entry → List ℕ
place_numbers places = map (λ p. p.at) places

-- What stands at these places, where the first of a list has the number `place`. One that is not greater than
-- those before it is passed over, with all behind it.
abbrev pub standing_at : {X : Type 0} → ℕ → List X → List ℕ → List X
standing_at place [] places = []
standing_at place (x ∷ xs) [] = []
standing_at place (x ∷ xs) (p ∷ ps) =
    if p == place then x ∷ standing_at (place + 1) xs ps else standing_at (place + 1) xs (p ∷ ps)

-- the part of the schedule of a test that stands at these places
abbrev pub part_at : TestValue → List Entry → List TestEntry
part_at t places = standing_at 0 t.schedule (place_numbers places)
