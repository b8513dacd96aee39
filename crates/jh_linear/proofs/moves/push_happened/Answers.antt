use Rattle.jh_linear.proofs.MoveLemmas.{happened_more, more_trans}
use Rattle.jh_linear.proofs.moves.push_happened.Goals as goal

pub loop-index-preserved : goal.loop-index-preserved
loop-index-preserved c =
    let p = c.args.problem.now in
    let config = c.args.config.now in
    let l = c.loop-index in
    let new = c.push_move.new.moves.items in
    record {
      more = more_trans p config c.args.moves.now.items l.moves.items new l.invariant.more c.in_ok-push_move.ensures.more;
      so_far = happened_more p config l.moves.items new l.index c.in_ok-push_move.ensures.more c.in_ok-push_move.ensures.among l.invariant.so_far;
    }
