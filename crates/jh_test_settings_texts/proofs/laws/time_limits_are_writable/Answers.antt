use Rattle.jh_test_settings_texts.proofs.LimitLemmas.{limit_fits}
use Rattle.jh_test_settings_texts.proofs.laws.time_limits_are_writable.Goals as goal

pub returns : goal.returns
returns c = λ document test held consistency most are. limit_fits document test.time_limit are.parsed.time_limit
