use Rattle.std.proofs.Common.{◌≡◌, take, map, ap, ◌∙◌, arith}
use Rattle.std.proofs.lemmas.List.{take_all}
use Rattle.jh_edn.specs.Fingerprint.{fingerprint}
use Rattle.jh_edn.specs.View.{view, view_pairs}
use Rattle.jh_edn.proofs.KeyListLemmas.{keys_seen}
use Rattle.jh_edn.proofs.pairs.key_fingerprints.Goals as goal

pub returns : goal.returns
returns c =
    let ps = c.deref-pair-items.result.now in
    let whole : take c.loop-pair.pair-index ps ≡ ps = take_all c.loop-pair.pair-index ps (omega arith) in
    let seen : c.loop-pair.numbers.items ≡ map (λ p. fingerprint (view p.0)) ps = rw whole at c.loop-pair.invariant in
    seen ∙ keys_seen fingerprint ps ∙ ap (map (λ m. fingerprint m.0)) (ap view_pairs c.deref-pair-items.ensures.value ∙ c.pairs.view_is)
