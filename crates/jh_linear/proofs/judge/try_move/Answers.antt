use Rattle.std.proofs.Common.{◌++◌, [], List, length, refl, rules, sym, ap, subst, arith}
use Rattle.jh_linear.specs.declared.walk.WalkEnd.TheVariants.{Several, Stuck, Complete}
use Rattle.jh_linear.specs.declared.verdict.Step.{Step}
use Rattle.jh_linear.specs.Reached.{order_at}
use Rattle.jh_linear.specs.SearchInside.{EndsAs, IsMadeBy, Notes, LeadsTo}
use Rattle.jh_linear.proofs.GrowthLemmas.{stands_copy}
use Rattle.jh_linear.proofs.GoingOnLemmas.{at_low, begun_mid, if_ok, move_same, some_placed, stands_next, tried_entered, tried_stuck, whole}
use Rattle.jh_linear.proofs.judge.try_move.Goals as goal

pub make-requires : goal.make-requires
make-requires c =
    let t = c.requires.reached in
    let p = c.args.problem.now in
    let order = order_at c.args.search.now.steps.items c.args.at in
    let stands = stands_copy p order c.args.config.now c.in_ok-next.next c.in_ok-next.ensures (stands_copy p order t.0 c.args.config.now t.2 (c.requires.begun.known.stands c.args.at t.0 t.1)) in
    record {
      problem = search rules;
      stage = omega (arith, c.in_ok-next.ensures.0, t.2.0, c.requires.begun.known.open' c.args.at t.0 t.1);
      sizes = omega (arith, stands.used.sizes);
      moves = move_same c.args.problem.now c.args.config.now c.in_ok-next.next c.in_ok-next.ensures c.args.next_move c.requires.moves;
    }

pub walk-requires-clause-sizes : goal.walk-requires-clause-sizes
walk-requires-clause-sizes c =
    let p = c.args.problem.now in
    let t = c.requires.reached in
    let order = order_at c.args.search.now.steps.items c.args.at in
    let stands = stands_copy p order c.args.config.now c.in_ok-next.next c.in_ok-next.ensures (stands_copy p order t.0 c.args.config.now t.2 (c.requires.begun.known.stands c.args.at t.0 t.1)) in
    omega (arith, stands.used.sizes, c.in_ok-make.ensures.after.sizes)

pub enter-requires : goal.enter-requires
enter-requires c =
    let p = c.args.problem.now in
    let s = c.args.search.now in
    let t = c.requires.reached in
    let copy = c.in_ok-next.next in
    let makes : IsMadeBy p copy [] c.args.next_move c.make.new.config c.make.new.placed.items = subst (λ o. IsMadeBy p copy o c.args.next_move c.make.new.config c.make.new.placed.items) c.new-placed.ensures.items c.in_ok-make.ensures in
    let ends : EndsAs p c.walk.new.config c.walk.new.placed.items Several = subst (EndsAs p c.walk.new.config c.walk.new.placed.items) c.in-Several.is c.in_ok-end.ensures.ends in
    let notes : Notes s c.note-in-Several.new.search c.args.at c.walk.new.placed.items c.walk.new.config.stage = subst (λ o. Notes s c.note-in-Several.new.search c.args.at o c.walk.new.config.stage) c.as_slice-in-Several.ensures.value c.in_ok-note-in-Several.ensures in
    let low = at_low p c.requires.problem s c.requires.begun c.args.at c.args.config.now t copy c.in_ok-next.ensures c.args.next_move c.make.new.config c.make.new.placed.items makes c.walk.new.config c.walk.new.placed.items c.in_ok-end.ensures.gone in
    let some = some_placed p c.requires.problem s c.requires.begun c.args.at c.args.config.now t copy c.in_ok-next.ensures c.args.next_move c.make.new.config c.make.new.placed.items makes c.walk.new.config c.walk.new.placed.items c.in_ok-end.ensures.gone in
    record {
      problem = search rules;
      begun = (begun_mid p c.requires.problem s c.requires.begun c.args.at c.args.config.now t copy c.in_ok-next.ensures c.args.next_move c.make.new.config c.make.new.placed.items makes c.walk.new.config c.walk.new.placed.items c.in_ok-end.ensures.gone c.note-in-Several.new.search ends notes).0;
      low = omega (arith, low, ap (λ (ss : List Step). length ss) notes.steps);
      longer = omega (arith, some);
      stands = subst (λ (ss : List Step). LeadsTo p (order_at ss c.args.at ++ c.walk.new.placed.items) c.walk.new.config) (sym notes.steps)
          (stands_next p c.requires.problem s c.requires.begun c.args.at c.args.config.now t copy c.in_ok-next.ensures c.args.next_move c.make.new.config c.make.new.placed.items makes c.walk.new.config c.walk.new.placed.items c.in_ok-end.ensures.gone);
      «open» = ends;
      far = (begun_mid p c.requires.problem s c.requires.begun c.args.at c.args.config.now t copy c.in_ok-next.ensures c.args.next_move c.make.new.config c.make.new.placed.items makes c.walk.new.config c.walk.new.placed.items c.in_ok-end.ensures.gone c.note-in-Several.new.search ends notes).1;
    }

pub returns-in-Complete : goal.returns-in-Complete
returns-in-Complete c =
    let p = c.args.problem.now in
    let s = c.args.search.now in
    let t = c.requires.reached in
    let copy = c.in_ok-next.next in
    let makes : IsMadeBy p copy [] c.args.next_move c.make.new.config c.make.new.placed.items = subst (λ o. IsMadeBy p copy o c.args.next_move c.make.new.config c.make.new.placed.items) c.new-placed.ensures.items c.in_ok-make.ensures in
    let ends : EndsAs p c.walk.new.config c.walk.new.placed.items Complete = subst (EndsAs p c.walk.new.config c.walk.new.placed.items) c.in-Complete.is c.in_ok-end.ensures.ends in
    (refl {A = List Step}, whole p c.requires.problem s c.requires.begun c.args.at c.args.config.now t copy c.in_ok-next.ensures c.args.next_move c.make.new.config c.make.new.placed.items makes c.walk.new.config c.walk.new.placed.items c.in_ok-end.ensures.gone ends)

pub returns-in_ok-note-in-Stuck : goal.returns-in_ok-note-in-Stuck
returns-in_ok-note-in-Stuck c =
    let p = c.args.problem.now in
    let s = c.args.search.now in
    let t = c.requires.reached in
    let copy = c.in_ok-next.next in
    let makes : IsMadeBy p copy [] c.args.next_move c.make.new.config c.make.new.placed.items = subst (λ o. IsMadeBy p copy o c.args.next_move c.make.new.config c.make.new.placed.items) c.new-placed.ensures.items c.in_ok-make.ensures in
    let ends : EndsAs p c.walk.new.config c.walk.new.placed.items Stuck = subst (EndsAs p c.walk.new.config c.walk.new.placed.items) c.in-Stuck.is c.in_ok-end.ensures.ends in
    let notes : Notes s c.note.new.search c.args.at c.walk.new.placed.items c.walk.new.config.stage = subst (λ o. Notes s c.note.new.search c.args.at o c.walk.new.config.stage) c.as_slice.ensures.value c.in_ok-note-in-Stuck.ensures in
    tried_stuck p c.requires.problem s c.requires.begun c.args.at c.args.config.now t copy c.in_ok-next.ensures c.args.next_move c.make.new.config c.make.new.placed.items makes c.walk.new.config c.walk.new.placed.items c.in_ok-end.ensures.gone c.note.new.search ends notes

pub returns-in_ok-note-in-Several : goal.returns-in_ok-note-in-Several
returns-in_ok-note-in-Several c =
    let p = c.args.problem.now in
    let s = c.args.search.now in
    let t = c.requires.reached in
    let copy = c.in_ok-next.next in
    let makes : IsMadeBy p copy [] c.args.next_move c.make.new.config c.make.new.placed.items = subst (λ o. IsMadeBy p copy o c.args.next_move c.make.new.config c.make.new.placed.items) c.new-placed.ensures.items c.in_ok-make.ensures in
    let ends : EndsAs p c.walk.new.config c.walk.new.placed.items Several = subst (EndsAs p c.walk.new.config c.walk.new.placed.items) c.in-Several.is c.in_ok-end.ensures.ends in
    let notes : Notes s c.note-in-Several.new.search c.args.at c.walk.new.placed.items c.walk.new.config.stage = subst (λ o. Notes s c.note-in-Several.new.search c.args.at o c.walk.new.config.stage) c.as_slice-in-Several.ensures.value c.in_ok-note-in-Several.ensures in
    if_ok c.enter.result (tried_entered p c.requires.problem s c.requires.begun c.args.at c.args.config.now t copy c.in_ok-next.ensures c.args.next_move c.make.new.config c.make.new.placed.items makes c.walk.new.config c.walk.new.placed.items c.in_ok-end.ensures.gone c.note-in-Several.new.search c.enter.new.search ends notes) c.enter.ensures
