use Rattle.std.proofs.Common.{◌≡◌, ◌++◌, take, filter_map}
use Rattle.jh_env.specs.TextInside.{entries_parsed}
use Rattle.jh_env.specs.TextWritten.{node_entry}
use Rattle.jh_env.proofs.texts.writing.push_nodes.Given as goal

abbrev pub invariant-loop-node : goal.invariant-loop-node
invariant-loop-node l =
    entries_parsed l.entries.items ≡ entries_parsed l.fn.entries.items ++ filter_map (node_entry l.env l.section) (take l.node-index l.nodes)
