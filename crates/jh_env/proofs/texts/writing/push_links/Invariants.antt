use Rattle.std.proofs.Common.{◌≡◌, ◌++◌, take, filter_map, flat_map}
use Rattle.jh_env.specs.TextInside.{entries_parsed}
use Rattle.jh_env.specs.TextWritten.{link_entry}
use Rattle.jh_env.proofs.texts.writing.push_links.Given as goal

abbrev pub invariant-loop-from : goal.invariant-loop-from
invariant-loop-from l =
    entries_parsed l.entries.items
    ≡ entries_parsed l.fn.entries.items ++ flat_map (λ from. filter_map (link_entry l.env l.section from) l.nodes) (take l.from-index l.nodes)
