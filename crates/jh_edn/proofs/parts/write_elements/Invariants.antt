use Rattle.std.proofs.Common.{take, map, codes}
use Rattle.std.specs.Io.KnownBytes.{Appends}
use Rattle.jh_edn.specs.Print.{print, joined_text}
use Rattle.jh_edn.proofs.parts.write_elements.Given as goal

abbrev pub invariant-loop-place : goal.invariant-loop-place
invariant-loop-place g l =
    let contents = g.W.Write.contents in
    Appends (contents l.fn.writer) (contents l.writer) (joined_text (codes " ") (map (λ x. print (g.T.Element.value x)) (take l.place l.items)))
