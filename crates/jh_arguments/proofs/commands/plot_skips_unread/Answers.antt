use Rattle.jh_arguments.proofs.commands.plot_skips_unread.Goals as goal

pub returns : goal.returns
returns c = c.flag_of.ensures
