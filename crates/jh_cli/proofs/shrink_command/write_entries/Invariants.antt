use Rattle.std.proofs.Common.{◌≡◌, ◌++◌, drop}
use Rattle.jh_cli.specs.ShrinkText.{entry_lines}
use Rattle.jh_cli.proofs.shrink_command.write_entries.Given as goal

abbrev pub invariant-loop-entry : goal.invariant-loop-entry
invariant-loop-entry l = l.output.items ++ entry_lines l.nodes (drop l.entry-index l.entries) ≡ l.fn.output.items ++ entry_lines l.nodes l.entries
