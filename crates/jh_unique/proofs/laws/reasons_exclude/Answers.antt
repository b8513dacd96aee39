use Rattle.jh_unique.proofs.LawLemmas.{from_nowhere, from_one, ring, late, crossed}
use Rattle.jh_unique.proofs.VerdictLemmas.{excluded}
use Rattle.jh_unique.proofs.laws.reasons_exclude.Goals as goal

pub returns-clause-nowhere : goal.returns-clause-nowhere
returns-clause-nowhere c = λ ops initial order number value once orders h. from_nowhere ops initial order once orders number value h

pub returns-clause-from_one : goal.returns-clause-from_one
returns-clause-from_one c = λ ops initial order first second value once orders h. from_one ops initial order once orders first second value h

pub returns-clause-ring : goal.returns-clause-ring
returns-clause-ring c = λ ops initial order number between once orders h. ring ops initial order once orders number between h

pub returns-clause-late : goal.returns-clause-late
returns-clause-late c = λ ops initial order first between second once orders h over. late ops initial order once orders first between second h over

pub returns-clause-crossed : goal.returns-clause-crossed
returns-clause-crossed c = λ ops initial order first second once orders h. crossed ops initial order once orders first second h

pub returns-clause-named : goal.returns-clause-named
returns-clause-named c = λ ops initial order reason once orders h. excluded ops initial reason order once h orders
