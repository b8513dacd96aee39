use Rattle.std.proofs.Common.{sym, subst}
use Rattle.jh_linear.specs.SearchInside.{AreMoves, EachIsMove}
use Rattle.jh_linear.proofs.GoingOnLemmas.{each_taken, if_ok, taken_all}
use Rattle.jh_linear.proofs.judge.expand.Goals as goal

pub try_moves-requires-clause-moves : goal.try_moves-requires-clause-moves
try_moves-requires-clause-moves c = subst (EachIsMove c.args.problem.now c.args.config.now) (sym c.as_slice-moves.ensures.value) c.in_ok-find_moves.ensures.each

pub returns-then-ranked : goal.returns-then-ranked
returns-then-ranked c =
    let p = c.args.problem.now in
    let are : AreMoves p c.args.config.now c.as_slice-moves.result.now = subst (AreMoves p c.args.config.now) (sym c.as_slice-moves.ensures.value) c.in_ok-find_moves.ensures in
    if_ok c.try_moves.result (taken_all p c.requires.problem c.args.search.now c.args.ranked c.args.config.now c.try_moves.new.search c.as_slice-moves.result.now c.requires.begun c.requires.reached are) c.try_moves.ensures

pub put_off-requires-clause-moves : goal.put_off-requires-clause-moves
put_off-requires-clause-moves c =
    each_taken c.args.problem.now c.args.config.now c.tried_at_first-first.result c.as_slice-moves.result.now (subst (EachIsMove c.args.problem.now c.args.config.now) (sym c.as_slice-moves.ensures.value) c.in_ok-find_moves.ensures.each)
