use Rattle.std.proofs.Common.{◌+◌, sym, ap, subst, arith}
use Rattle.jh_linear.specs.SearchInside.{HasUnknown, MovesMore}
use Rattle.jh_linear.proofs.MoveLemmas.{more_same, more_trans, unknown_more}
use Rattle.jh_linear.proofs.moves.push_unknown.Goals as goal
use Rattle.jh_linear.proofs.moves.push_unknown.Goals.{then-is_worth+in_ok-push_move, else-is_worth}

pub loop-class-preserved : goal.loop-class-preserved
loop-class-preserved c =
    let p = c.args.problem.now in
    let config = c.args.config.now in
    let l = c.loop-class in
    let old = l.moves.items in
    elim c.if-is_worth.branch [
      | then-is_worth+in_ok-push_move w ↦
          let new = w.push_move.new.moves.items in
          let is = ap (λ v. v.items) w.moves-is in
          let more = w.in_ok-push_move.ensures.more in
          let so_far = unknown_more p config old new l.class more (λ ready next allowed wanted. w.in_ok-push_move.ensures.among next allowed) l.invariant.so_far in
          record {
            more = subst (MovesMore p config c.args.moves.now.items) (sym is) (more_trans p config c.args.moves.now.items old new l.invariant.more more);
            so_far = subst (λ ms. HasUnknown p config ms (l.class + 1)) (sym is) so_far;
          }
      | else-is_worth w ↦
          let is = ap (λ v. v.items) w.moves-is in
          let so_far = unknown_more p config old old l.class (more_same p config old) (λ ready next allowed wanted. absurd (c.is_worth.ensures.other w.if-is_worth.false ready next allowed (c.requires.wanted next wanted))) l.invariant.so_far in
          record {
            more = subst (MovesMore p config c.args.moves.now.items) (sym is) l.invariant.more;
            so_far = subst (λ ms. HasUnknown p config ms (l.class + 1)) (sym is) so_far;
          }
    ]

pub returns-clause-unknown : goal.returns-clause-unknown
returns-clause-unknown c =
    let l = c.loop-class in
    λ k next lt ready allowed wanted. l.invariant.so_far k next (omega (arith, lt)) ready allowed wanted
