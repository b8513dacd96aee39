use Rattle.jh_env.proofs.TextLawLemmas.{text_reads_back, text_accepted, text_means_one}
use Rattle.jh_env.proofs.texts.laws.environments_read_back.Goals as goal

pub returns-clause-written : goal.returns-clause-written
returns-clause-written c = text_reads_back

pub returns-clause-accepted : goal.returns-clause-accepted
returns-clause-accepted c = text_accepted

pub returns-clause-means_one : goal.returns-clause-means_one
returns-clause-means_one c = text_means_one
