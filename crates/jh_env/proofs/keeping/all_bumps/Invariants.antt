use Rattle.std.proofs.Common.{◌≡◌, ◌<◌, length, take}
use Rattle.std.specs.List.{All, filter_map}
use Rattle.jh_env.proofs.keeping.all_bumps.Given as goal

abbrev pub invariant-loop-bump : goal.invariant-loop-bump
invariant-loop-bump g l =
    (l.all.items ≡ filter_map (g.B.NamesBump.bumped l.nodes) (take l.bump-index l.bumps))
    × All (λ b. b.0 < length l.nodes) l.all.items
