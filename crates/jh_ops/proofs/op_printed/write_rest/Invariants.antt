use Rattle.std.proofs.Common.{take}
use Rattle.std.specs.Io.KnownBytes.{Appends}
use Rattle.jh_edn.specs.View.{view_pairs}
use Rattle.jh_ops.specs.PrintedInside.{rest_text}
use Rattle.jh_ops.proofs.op_printed.write_rest.Given as goal

abbrev pub invariant-loop-pair : goal.invariant-loop-pair
invariant-loop-pair g l =
    let contents = g.W.Write.contents in
    Appends (contents l.fn.writer) (contents l.writer) (rest_text (view_pairs (take l.pair-index l.rest)))
