use Rattle.jh_run_laws.proofs.SettingsLemmas.{same_run}
use Rattle.jh_run_laws.proofs.laws.same_settings_same_run.Goals as goal

pub returns : goal.returns
returns c = same_run c.environments_read_back.ensures.means_one c.one_run.ensures
