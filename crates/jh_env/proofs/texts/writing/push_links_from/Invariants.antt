use Rattle.std.proofs.Common.{◌≡◌, ◌++◌, take, filter_map}
use Rattle.jh_env.specs.TextInside.{entries_parsed}
use Rattle.jh_env.specs.TextWritten.{link_entry}
use Rattle.jh_env.proofs.texts.writing.push_links_from.Given as goal

abbrev pub invariant-loop-to : goal.invariant-loop-to
invariant-loop-to l =
    entries_parsed l.entries.items ≡ entries_parsed l.fn.entries.items ++ filter_map (link_entry l.env l.section l.from) (take l.to-index l.nodes)
