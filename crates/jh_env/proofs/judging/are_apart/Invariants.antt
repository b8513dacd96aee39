use Rattle.std.proofs.Common.{◌≡◌, [], take, drop}
use Rattle.std.specs.List.{filter_map}
use Rattle.jh_env.specs.Naming as rule
use Rattle.jh_env.proofs.judging.are_apart.Given as goal

abbrev pub invariant-loop-place : goal.invariant-loop-place
invariant-loop-place g l =
    rule.are_apart_after (filter_map (g.B.NamesBump.bumped l.nodes) (take l.place l.bumps)) (filter_map (g.B.NamesBump.bumped l.nodes) (drop l.place l.bumps))
    ≡ rule.are_apart_after [] (filter_map (g.B.NamesBump.bumped l.nodes) l.bumps)
