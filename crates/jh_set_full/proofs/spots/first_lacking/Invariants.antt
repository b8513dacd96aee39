use Rattle.std.proofs.Common.{◌≡◌, drop}
use Rattle.jh_set_full.specs.Inside.{first_lacking, sighted_pairs}
use Rattle.jh_set_full.proofs.spots.first_lacking.Given as goal

abbrev pub invariant-loop-place : goal.invariant-loop-place
invariant-loop-place l = first_lacking l.reads (sighted_pairs l.shown) ≡ first_lacking (drop l.place l.reads) (drop l.place (sighted_pairs l.shown))
