use Rattle.std.proofs.Common.{sym, subst, ◌∙◌}
use Rattle.jh_edn.specs.Fingerprint.{StandOnce}
use Rattle.jh_edn.proofs.FingerprintLemmas.{parsed_once, no_key_repeated}
use Rattle.jh_edn.proofs.pairs.repeats_key.Goals as goal

pub returns-then-each_once : goal.returns-then-each_once
returns-then-each_once c =
    let once = parsed_once c.each_once.result c.as_mut_slice.result.now c.if-each_once.true c.each_once.ensures in
    sym (no_key_repeated c.args.pairs.now (subst StandOnce (c.as_mut_slice.ensures.value ∙ c.in_ok-numbers.ensures) once))
