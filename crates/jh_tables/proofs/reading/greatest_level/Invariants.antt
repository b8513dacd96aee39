use Rattle.std.proofs.Common.{◌≡◌, max}
use Rattle.std.specs.Prelude.{fold}
use Rattle.std.specs.List.{range_with_len}
use Rattle.jh_tables.specs.Tallies.{level_held}
use Rattle.jh_tables.proofs.reading.greatest_level.Given as goal

abbrev pub invariant-loop-place : goal.invariant-loop-place
invariant-loop-place l = l.greatest ≡ fold (λ m i. max m (level_held l.losses i)) l.start (range_with_len 0 l.place)
