use Rattle.std.proofs.Common.{arith}
use Rattle.jh_unique.proofs.MarkLemmas.{all_marked}
use Rattle.jh_unique.proofs.PartLemmas.{possible_there, done_possible}
use Rattle.jh_unique.proofs.marks.marks_of.Goals as goal

pub returns : goal.returns
returns c =
    let ops = c.args.ops.now in
    let i = c.loop-number.invariant in
    record {
      count = i.count;
      marked = i.sound;
      all = λ p must. all_marked ops c.loop-number.there.items i.closed (λ k done. let low = possible_there ops k (done_possible ops k done) in i.each k (omega (arith, low, c.loop-number-test.false)) done) must.0 p must.1;
    }
