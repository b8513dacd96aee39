use Rattle.jh_unique.proofs.LawLemmas.{there, path, stand_together, start_first}
use Rattle.jh_unique.proofs.laws.clusters_stand_together.Goals as goal

pub returns-clause-there : goal.returns-clause-there
returns-clause-there c = λ ops initial order number once orders must. there ops initial order once orders number must

pub returns-clause-in_turn : goal.returns-clause-in_turn
returns-clause-in_turn c = λ ops initial order first between second once orders h. path ops initial order once orders first between second h

pub returns-clause-apart : goal.returns-clause-apart
returns-clause-apart c = λ ops initial order cluster other first between last once orders differ of_first of_between of_last h k. stand_together ops initial order once orders cluster other first between last differ of_first of_between of_last h k

pub returns-clause-start : goal.returns-clause-start
returns-clause-start c = λ ops initial order other early late once orders differ of_early of_late h. start_first ops initial order once orders other early late differ of_early of_late h
