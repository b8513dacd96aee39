use Rattle.clap.specs.Words.{found_of}
use Rattle.jh_arguments.proofs.OptionLemmas.{signed_read}
use Rattle.jh_arguments.proofs.commands.signed_of.Goals as goal

pub returns : goal.returns
returns c = signed_read (found_of c.args.options.now) c.args.name.now c.get_one.result c.get_one.ensures.none c.get_one.ensures.value
