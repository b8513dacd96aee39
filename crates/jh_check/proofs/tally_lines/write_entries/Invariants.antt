use Rattle.std.proofs.Common.{take, map, codes}
use Rattle.std.specs.Io.KnownBytes.{Appends}
use Rattle.jh_edn.specs.Print.{joined_text}
use Rattle.jh_check.specs.TallyInside.{entry_text}
use Rattle.jh_check.proofs.tally_lines.write_entries.Given as goal

abbrev pub invariant-loop-place : goal.invariant-loop-place
invariant-loop-place g l =
    let contents = g.W.Write.contents in
    Appends (contents l.fn.writer) (contents l.writer) (joined_text (codes ", ") (map entry_text (take l.place l.entries)))
