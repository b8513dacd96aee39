use Rattle.jh_gen.proofs.AskedLemmas.{end_kept}
use Rattle.jh_gen.proofs.laws.end_keeps_generator.Goals as goal

pub returns : goal.returns
returns c = end_kept
