use Rattle.std.proofs.Common.{refl}
use Rattle.jh_linear.specs.declared.search.Search.{Search}
use Rattle.jh_linear.proofs.GoingOnLemmas.{if_ok, taken_first}
use Rattle.jh_linear.proofs.judge.put_off.Goals as goal

pub returns : goal.returns
returns c =
    let p = c.args.problem.now in
    let s = c.args.search.now in
    let mid : Search = record { configs = s.configs; steps = s.steps; waiting = c.push.new.self; furthest = s.furthest } in
    if_ok c.try_moves.result (taken_first p c.requires.problem s c.args.ranked c.args.config.now c.second_expansion.result mid c.try_moves.new.search c.args.moves.now c.requires.first c.second_expansion.ensures.at c.second_expansion.ensures.last c.in_ok-push.ensures refl refl refl)
    c.try_moves.ensures
