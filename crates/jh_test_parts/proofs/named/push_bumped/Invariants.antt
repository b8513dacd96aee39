use Rattle.std.proofs.Common.{◌≡◌, ◌++◌, map, take}
use Rattle.jh_test_parts.proofs.named.push_bumped.Given as goal

abbrev pub invariant-loop-bump : goal.invariant-loop-bump
invariant-loop-bump l = l.nodes.items ≡ l.fn.nodes.items ++ map (λ b. b.0) (take l.bump-index l.bumps)
