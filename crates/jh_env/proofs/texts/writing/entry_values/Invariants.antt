use Rattle.std.proofs.Common.{◌≡◌, map, take}
use Rattle.jh_edn.specs.View.{views}
use Rattle.jh_env.specs.TextInside.{entries_parsed}
use Rattle.jh_env.specs.TextWritten.{edn_of_entry}
use Rattle.jh_env.proofs.texts.writing.entry_values.Given as goal

abbrev pub invariant-loop-entry : goal.invariant-loop-entry
invariant-loop-entry l = views l.values.items ≡ map edn_of_entry (entries_parsed (take l.entry-index l.entries))
