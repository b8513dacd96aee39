use Rattle.clap.specs.Words.{found_of}
use Rattle.jh_arguments.proofs.OptionLemmas.{number_read, number_unread}
use Rattle.jh_arguments.proofs.commands.number_of.Goals as goal

pub returns-clause-parsed : goal.returns-clause-parsed
returns-clause-parsed c = number_read (found_of c.args.options.now) c.args.name.now c.get_one.result c.get_one.ensures.none c.get_one.ensures.value

pub returns-clause-taken : goal.returns-clause-taken
returns-clause-taken c = λ none number is. number_unread (found_of c.args.options.now) c.args.name.now c.get_one.result number none c.get_one.ensures.value is
