use Rattle.jh_nemesis.proofs.StepLemmas.{environment_over}
use Rattle.jh_nemesis.proofs.laws.environment_is_overlay.Goals as goal

pub returns : goal.returns
returns c = environment_over
