use Rattle.std.proofs.Common.{◌≡◌, ◌+◌, ◌==◌, take}
use Rattle.std.specs.List.{count_by}
use Rattle.jh_edn.specs.Bytes.{line_feed}
use Rattle.jh_edn.proofs.reader.line_of.Given as goal

abbrev pub invariant-loop-b : goal.invariant-loop-b
invariant-loop-b l = l.line ≡ 1 + count_by (λ c. c == line_feed) (take l.b-index l.b-items)
