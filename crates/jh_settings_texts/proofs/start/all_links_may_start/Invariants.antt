use Rattle.std.proofs.Common.{All, take}
use Rattle.jh_settings_texts.specs.StartInside.{MayStartLink}
use Rattle.jh_settings_texts.proofs.start.all_links_may_start.Given as goal

abbrev pub invariant-loop-from : goal.invariant-loop-from
invariant-loop-from l = All (λ from. All (MayStartLink l.env from) l.nodes) (take l.from-index l.nodes)
