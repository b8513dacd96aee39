use Rattle.std.proofs.Common.{All, take}
use Rattle.jh_settings_texts.specs.StartInside.{MayStartLink}
use Rattle.jh_settings_texts.proofs.start.links_may_start.Given as goal

abbrev pub invariant-loop-to : goal.invariant-loop-to
invariant-loop-to l = All (MayStartLink l.env l.from) (take l.to-index l.nodes)
