use Rattle.jh_checkers.proofs.explanation.explained.Goals as goal

pub explanation_at-requires-clause-none : goal.explanation_at-requires-clause-none
explanation_at-requires-clause-none c = c.requires.none c.in-Invalid.stuck c.in-Invalid.is
