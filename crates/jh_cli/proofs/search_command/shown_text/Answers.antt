use Rattle.jh_cli.proofs.search_command.shown_text.Goals as goal

pub schedule_to_text-requires-clause-fit : goal.schedule_to_text-requires-clause-fit
schedule_to_text-requires-clause-fit c =
    rw (c.nodes-nodes.ensures.names, c.environment.ensures.environment, c.entries.ensures.entries, c.schedule.ensures.schedule) c.schedule.ensures.steps
