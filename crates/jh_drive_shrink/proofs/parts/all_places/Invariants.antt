use Rattle.std.proofs.Common.{◌≡◌, map}
use Rattle.std.specs.List.{range_with_len}
use Rattle.jh_drive_shrink.specs.PartsInside.{place_entry}
use Rattle.jh_drive_shrink.proofs.parts.all_places.Given as goal

abbrev pub invariant-loop-place : goal.invariant-loop-place
invariant-loop-place l = l.places.items ≡ map place_entry (range_with_len 0 l.place)
