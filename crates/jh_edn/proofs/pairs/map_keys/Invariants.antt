use Rattle.std.proofs.Common.{◌≡◌, take, map}
use Rattle.jh_edn.specs.Key.{keys_in, key_of}
use Rattle.jh_edn.specs.View.{view}
use Rattle.jh_edn.proofs.pairs.map_keys.Given as goal

abbrev pub invariant-loop-pair : goal.invariant-loop-pair
invariant-loop-pair l = keys_in l.keys.items ≡ map (λ p. key_of (view p.0)) (take l.pair-index l.pair-items)
