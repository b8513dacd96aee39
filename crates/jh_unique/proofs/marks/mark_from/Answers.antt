use Rattle.std.proofs.Common.{◌<◌, length, set, true, sym, subst, ◌∙◌, arith}
use Rattle.jh_unique.proofs.MarkLemmas.{unmarked, fewer, IsMarking, at_is, marking_goes_on}
use Rattle.jh_unique.proofs.marks.mark_from.Goals as goal

pub marking-smaller : goal.marking-smaller
marking-smaller c =
    let there = c.marking.there.items in
    let at = c.marking.at in
    let low : at < length there = omega (arith, c.marking.invariant.low, c.marking.invariant.count) in
    let less : unmarked (set there at true) < unmarked there = fewer there at low (at_is there at c.index.result.now low c.index.ensures ∙ c.marking-test.true) in
    subst (λ xs. unmarked xs < unmarked there) (sym c.mark.ensures) less

pub marking-preserved : goal.marking-preserved
marking-preserved c =
    let ops = c.args.ops.now in
    let there = c.marking.there.items in
    let e = c.in-Some.ensures {u = tt} in
    subst (λ xs. IsMarking ops c.args.there.now.items c.args.number xs c.in-Some.writer) (sym c.mark.ensures) (marking_goes_on ops c.args.writers.now c.requires.writers c.args.there.now.items c.args.number there c.marking.at c.in-Some.writer e.1.0 c.marking.invariant e.0 e.1.1 e.1.2)
