use Rattle.std.proofs.Common.{refl, sym, ◌∙◌}
use Rattle.jh_edn.proofs.FingerprintLemmas.{same_fingerprint}
use Rattle.jh_edn.proofs.KeyLemmas.{same_key, equal_from_key}
use Rattle.jh_edn.proofs.laws.equality_laws.Goals as goal

pub returns-clause-reflexive : goal.returns-clause-reflexive
returns-clause-reflexive c = λ x. equal_from_key x x refl

pub returns-clause-symmetric : goal.returns-clause-symmetric
returns-clause-symmetric c = λ x y h. equal_from_key y x (sym (same_key x y h))

pub returns-clause-transitive : goal.returns-clause-transitive
returns-clause-transitive c = λ x y z h k. equal_from_key x z (same_key x y h ∙ same_key y z k)

pub returns-clause-numbered : goal.returns-clause-numbered
returns-clause-numbered c = same_fingerprint
