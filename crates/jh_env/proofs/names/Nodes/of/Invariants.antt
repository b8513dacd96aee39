use Rattle.std.proofs.Common.{◌≡◌, map, take}
use Rattle.std.specs.String.{string_bytes}
use Rattle.jh_env.proofs.NameLemmas.{MayFollowBelow}
use Rattle.jh_env.proofs.names.Nodes.of.Given as goal

abbrev pub invariant-loop-name : goal.invariant-loop-name
invariant-loop-name l = record {
  same : map string_bytes l.set.keys ≡ map (λ s. s.now) (take l.name-index l.names);
  good : MayFollowBelow (map (λ s. s.now) l.names) l.name-index;
}
