use Rattle.std.proofs.Common.{◌≡◌, ◌++◌, drop}
use Rattle.jh_lines.specs.Lines.{lines_from, rest_from}
use Rattle.jh_lines.specs.Answering.{after_lines, answers_to_lines}
use Rattle.jh_lines.proofs.hearing.Hearing.hear.Given as goal

abbrev pub invariant-loop-byte : goal.invariant-loop-byte
invariant-loop-byte g l = record {
  rest : rest_from l.self-inside.line.items (drop l.byte-index l.bytes) ≡ rest_from l.fn.self l.bytes;
  machine : after_lines g.M.Machine.after_line l.machine
      (lines_from l.self-inside.line.items (drop l.byte-index l.bytes))
      ≡ after_lines g.M.Machine.after_line l.fn.machine (lines_from l.fn.self l.bytes);
  said : l.out.items
      ++ answers_to_lines g.M.Machine.after_line g.M.Machine.answer_to l.machine
      (lines_from l.self-inside.line.items (drop l.byte-index l.bytes))
      ≡ l.fn.out.items
      ++ answers_to_lines g.M.Machine.after_line g.M.Machine.answer_to l.fn.machine (lines_from l.fn.self l.bytes);
}
