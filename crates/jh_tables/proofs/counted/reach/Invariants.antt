use Rattle.std.proofs.Common.{◌≡◌, ◌≤◌, length, is_some}
use Rattle.std.specs.List.{count_by}
use Rattle.std.specs.Vec.{vec_capacity}
use Rattle.jh_tables.specs.Tallies.{with_free_entries}
use Rattle.jh_tables.proofs.counted.reach.Given as goal

abbrev pub invariant-loop-place : goal.invariant-loop-place
invariant-loop-place l =
    (length l.entries.items ≡ l._place) × (length l.entries.items ≤ 256) × (256 ≤ vec_capacity l.entries)
    × (with_free_entries l.entries.items ≡ with_free_entries l.fn.entries.items) × (count_by is_some l.entries.items ≡ count_by is_some l.fn.entries.items)
