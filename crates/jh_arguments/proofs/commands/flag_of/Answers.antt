use Rattle.clap.specs.Words.{found_of}
use Rattle.jh_arguments.proofs.OptionLemmas.{flag_read}
use Rattle.jh_arguments.proofs.commands.flag_of.Goals as goal

pub returns : goal.returns
returns c = flag_read (found_of c.args.options.now) c.args.name.now c.get_flag.result c.get_flag.ensures.none c.get_flag.ensures.value c.get_flag.ensures.other
