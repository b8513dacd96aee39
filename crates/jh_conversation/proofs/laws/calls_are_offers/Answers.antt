use Rattle.jh_conversation.proofs.OfferLemmas.{calls_offered, main_offered}
use Rattle.jh_conversation.proofs.laws.calls_are_offers.Goals as goal

pub returns-clause-all : goal.returns-clause-all
returns-clause-all c = calls_offered c.asked_answers.ensures c.end_keeps_generator.ensures

pub returns-clause-main : goal.returns-clause-main
returns-clause-main c = main_offered c.asked_answers.ensures c.end_keeps_generator.ensures
