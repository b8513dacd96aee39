use Rattle.std.proofs.Common.{◌≤◌}
use Rattle.jh_lines.specs.ByLines.{left_by_lines}
use Rattle.jh_drive_search.specs.SearchInside.{HaveBeenTried}
use Rattle.jh_drive_search.proofs.searching.try_candidates.Given as goal

abbrev pub invariant-loop-index : goal.invariant-loop-index
invariant-loop-index g l = record {
  tried : HaveBeenTried l.test l.judging l.options
      (left_by_lines g.B.Read.remaining l.fn.lines) (left_by_lines g.B.Read.remaining l.lines)
      (g.W.Write.contents l.fn.writer) (g.W.Write.contents l.writer)
      l.index l.unknown l.read;
  few : l.unknown ≤ l.index;
}
