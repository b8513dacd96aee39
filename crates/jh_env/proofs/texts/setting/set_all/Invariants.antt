use Rattle.jh_env.specs.TextInside.{entries_parsed}
use Rattle.jh_env.proofs.TextSettingLemmas.{AreSet}
use Rattle.jh_env.proofs.texts.setting.set_all.Given as goal

abbrev pub invariant-loop-place : goal.invariant-loop-place
invariant-loop-place l = AreSet l.fn.start.names (entries_parsed l.entries) l.place l.start
