use Rattle.jh_drive.proofs.conducting.conduct.Goals as goal

pub returns : goal.returns
returns g c = c.hold.ensures c.args.test c.in_ok-conversation.ensures
