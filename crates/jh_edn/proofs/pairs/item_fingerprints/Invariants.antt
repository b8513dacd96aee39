use Rattle.std.proofs.Common.{◌≡◌, take}
use Rattle.jh_edn.specs.Fingerprint.{fingerprints}
use Rattle.jh_edn.specs.View.{views}
use Rattle.jh_edn.proofs.pairs.item_fingerprints.Given as goal

abbrev pub invariant-loop-item : goal.invariant-loop-item
invariant-loop-item l = l.numbers.items ≡ fingerprints (views (take l.item-index l.item-items))
