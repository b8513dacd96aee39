use Rattle.jh_gen.specs.View.{generator_of}
use Rattle.jh_gen_texts.proofs.GeneratorTextLemmas.{result_back}
use Rattle.jh_gen_texts.proofs.writing.value_of_gen.Goals as goal

pub returns-clause-read_back : goal.returns-clause-read_back
returns-clause-read_back c = result_back (generator_of c.args.source.now) c.written.result c.written.ensures.text c.written.ensures.writable
