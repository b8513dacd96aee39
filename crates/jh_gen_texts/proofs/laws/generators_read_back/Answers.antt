use Rattle.jh_gen_texts.proofs.GeneratorTextLemmas.{generator_back}
use Rattle.jh_gen_texts.proofs.laws.generators_read_back.Goals as goal

pub returns : goal.returns
returns c = generator_back
