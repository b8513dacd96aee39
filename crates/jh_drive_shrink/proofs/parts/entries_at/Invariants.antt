use Rattle.std.proofs.Common.{◌≡◌, ◌++◌, ◌≤◌, drop, length}
use Rattle.jh_drive_shrink.specs.PartsInside.{place_numbers, standing_at}
use Rattle.jh_drive_shrink.proofs.parts.entries_at.Given as goal

abbrev pub invariant-loop-place : goal.invariant-loop-place
invariant-loop-place l = record {
  so_far : l.part.items ++ standing_at l.place (drop l.place l.entries) (drop l.found (place_numbers l.places)) ≡ standing_at 0 l.entries (place_numbers l.places);
  few : l.found ≤ length l.places;
}
