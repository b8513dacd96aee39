use Rattle.std.proofs.Common.{arith, List, ℕ}
use Rattle.jh_edn.specs.Print.{print}
use Rattle.jh_edn.proofs.PrintLemmas.{appends_then}
use Rattle.jh_edn.proofs.PartLemmas.{texts_push}
use Rattle.jh_edn.proofs.parts.write_elements.Goals as goal

pub loop-place-preserved : goal.loop-place-preserved
loop-place-preserved g c =
    let contents = g.W.Write.contents in
    let text : g.row.T.Denot → List ℕ = λ x. print (g.T.Element.value x) in
    let xs = c.args.items.now in
    let x = c.index-items-place.result in
    let a = appends_then (contents c.args.writer.now) (contents c.loop-place.writer) (contents c.separate.new.writer) _ _ c.loop-place.invariant c.in_ok-separate.ensures.bytes in
    let b = appends_then (contents c.args.writer.now) (contents c.separate.new.writer) (contents c.write_to.new.writer) _ _ a c.in_ok-write_to.ensures.bytes in
    rw (texts_push text xs c.loop-place.place x (omega arith), ← c.index-items-place.is) b
