use Rattle.jh_laws.proofs.ParsedStepLemmas.{step_parsed}
use Rattle.jh_laws.proofs.steps.parsed_steps_are_steps.Goals as goal

pub returns : goal.returns
returns c = step_parsed
