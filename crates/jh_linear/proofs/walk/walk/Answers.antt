use Rattle.std.proofs.Common.{◌≡◌, List, [], sym, subst, arith}
use Rattle.jh_linear.specs.declared.moves.Move.{Move}
use Rattle.jh_linear.specs.SearchInside.{AreMoves}
use Rattle.jh_linear.proofs.MoveLemmas.{is_first, is_only, no_moves}
use Rattle.jh_linear.proofs.WalkLemmas.{dead_end, gone_on}
use Rattle.jh_linear.proofs.walk.walk.Goals as goal

pub returns-in-empty-clause-ends : goal.returns-in-empty-clause-ends
returns-in-empty-clause-ends c =
    let moves : List Move = c.find_moves.new.moves.items in
    let none : moves ≡ [] = no_moves moves c.as_slice.result.now c.as_slice.ensures.value (omega (arith, c.in-empty.len_below)) in
    (omega (arith, c.if-config-len.false), dead_end c.args.problem.now c.requires.problem c.loop.config c.loop.placed.items moves none c.in_ok-find_moves.ensures)

pub make-requires-clause-moves : goal.make-requires-clause-moves
make-requires-clause-moves c =
    let seen : List Move = c.as_slice.result.now in
    let are : AreMoves c.args.problem.now c.loop.config seen = subst (AreMoves c.args.problem.now c.loop.config) (sym c.as_slice.ensures.value) c.in_ok-find_moves.ensures in
    are.each 0 _ (is_first seen _ (omega (arith, c.in-len1.len_at_least)))

pub loop-preserved : goal.loop-preserved
loop-preserved c =
    let seen : List Move = c.as_slice.result.now in
    let are : AreMoves c.args.problem.now c.loop.config seen = subst (AreMoves c.args.problem.now c.loop.config) (sym c.as_slice.ensures.value) c.in_ok-find_moves.ensures in
    gone_on c.args.problem.now c.requires.problem c.args.config.now c.args.placed.now.items c.loop.config c.loop.placed.items c.make.new.config c.make.new.placed.items seen _
    c.loop.invariant are (is_only seen _ (omega (arith, c.in-len1.len_below))) c.in_ok-make-in-len1.ensures
