use Rattle.std.proofs.Common.{◌≡◌, take, map}
use Rattle.jh_edn.specs.Fingerprint.{fingerprint}
use Rattle.jh_edn.specs.View.{view}
use Rattle.jh_edn.proofs.pairs.key_fingerprints.Given as goal

abbrev pub invariant-loop-pair : goal.invariant-loop-pair
invariant-loop-pair l = l.numbers.items ≡ map (λ p. fingerprint (view p.0)) (take l.pair-index l.pair-items)
