use Rattle.std.proofs.Common.{◌≡◌, ◌<◌, ◌++◌, List, length, true, sym, ap, subst, ◌∙◌, arith}
use Rattle.std.proofs.lemmas.Grind.{common_steps}
use Rattle.jh_linear.specs.declared.sorted_ops.Problem.{Problem}
use Rattle.jh_linear.specs.declared.verdict.Step.{Step}
use Rattle.jh_linear.specs.Order.{IsOrder}
use Rattle.jh_linear.specs.Reached.{order_at, AreReached, NameEarlier}
use Rattle.jh_linear.specs.SearchInside.{IsProblem}
use Rattle.jh_linear.specs.WaitingInside.{awaits}
use Rattle.jh_linear.proofs.JudgeLemmas.{empty_order, is_order, all_reached, fewer_expansions, kept_emptied, kept_on}
use Rattle.jh_linear.proofs.StuckLemmas.{no_order}
use Rattle.jh_linear.proofs.WaitingLemmas.{awaits_own}
use Rattle.jh_linear.proofs.judge.check.Goals as goal

pub returns-then-is_empty : goal.returns-then-is_empty
returns-then-is_empty c =
    let none : length c.in_ok-sorted.sorted.stages.items ≡ 0 = grind (arith, common_steps) in
    let some : 0 < c.args.budget = grind (arith, common_steps) in
    record {
      judged = (
        some,
        subst (λ o. IsOrder c.args.ops.now c.args.initial o) (sym (c.of-then-is_empty.ensures ∙ c.new-then-is_empty.ensures.items))
            (empty_order c.args.ops.now c.args.initial (λ p done. let r = c.in_ok-sorted.ensures.done.each_done p done in omega (arith, r.1, none))),
      );
    }

pub start-requires-clause-problem : goal.start-requires-clause-problem
start-requires-clause-problem c = record { ends = c.requires.ends; done = c.in_ok-sorted.ensures.done; classes = c.in_ok-sorted.ensures.classes }

pub config_at-requires : goal.config_at-requires
config_at-requires c =
    let kept = c.searching.invariant in
    let there : awaits c.searching.search.waiting c.in-Some.ranked.at ≡ true = awaits_own c.in-Some.ranked c.pop.new.self c.searching.search.waiting c.in-Some.ensures.some in
    omega (arith, kept.inside c.in-Some.ranked.at there, kept.begun.known.sizes)

pub expand-requires-clause-problem : goal.expand-requires-clause-problem
expand-requires-clause-problem c = record { ends = c.requires.ends; done = c.in_ok-sorted.ensures.done; classes = c.in_ok-sorted.ensures.classes }

pub expand-requires-clause-begun : goal.expand-requires-clause-begun
expand-requires-clause-begun c =
    let begun = c.searching.invariant.begun in
    record { known = begun.known; far = begun.far; few = begun.few }

pub expand-requires-clause-reached : goal.expand-requires-clause-reached
expand-requires-clause-reached c = c.in_ok-config.ensures

pub returns-in-Full : goal.returns-in-Full
returns-in-Full c =
    let p : Problem = record { ops = c.args.ops; initial = c.args.initial; sorted = c.in_ok-sorted.sorted; budget = c.args.budget } in
    let stood : IsProblem p = record { ends = c.requires.ends; done = c.in_ok-sorted.ensures.done; classes = c.in_ok-sorted.ensures.classes } in
    let e = rw c.in-Full.is at c.in_ok-expand.ensures in
    record {
      judged = subst (AreReached c.args.ops.now c.args.initial c.args.budget) (sym c.of-in-Full.ensures) (all_reached p stood c.expand.new.search e);
    }

pub order_of-requires-clause-earlier : goal.order_of-requires-clause-earlier
order_of-requires-clause-earlier c =
    let e = rw c.in-Complete.is at c.in_ok-expand.ensures in
    subst (λ (ss : List Step). NameEarlier ss) (sym c.as_slice.ensures.value) e.2

pub order_of-requires-clause-last : goal.order_of-requires-clause-last
order_of-requires-clause-last c =
    let e = rw c.in-Complete.is at c.in_ok-expand.ensures in
    subst (λ (ss : List Step). c.in-Some.ranked.at < length ss) (sym c.as_slice.ensures.value) e.1

pub returns-in-Complete : goal.returns-in-Complete
returns-in-Complete c =
    let p : Problem = record { ops = c.args.ops; initial = c.args.initial; sorted = c.in_ok-sorted.sorted; budget = c.args.budget } in
    let stood : IsProblem p = record { ends = c.requires.ends; done = c.in_ok-sorted.ensures.done; classes = c.in_ok-sorted.ensures.classes } in
    let e = rw c.in-Complete.is at c.in_ok-expand.ensures in
    let some : 0 < c.args.budget = grind (arith, common_steps) in
    record {
      judged = (
        some,
        subst (λ o. IsOrder c.args.ops.now c.args.initial o)
            (sym (c.of-in-Complete.ensures ∙ c.in_ok-extend_from_slice-in-Complete.ensures.items ∙ ap (λ o. o ++ c.as_slice-in-Complete.result.now) (c.in_ok-order-in-Complete.ensures ∙ ap (λ (ss : List Step). order_at ss c.in-Some.ranked.at) c.as_slice.ensures.value)
            ∙ ap (λ o. order_at c.expand.new.search.steps.items c.in-Some.ranked.at ++ o) c.as_slice-in-Complete.ensures.value))
            (is_order p stood (order_at c.expand.new.search.steps.items c.in-Some.ranked.at ++ c.in-Complete.placed.items) e.0),
      );
    }

pub searching-preserved : goal.searching-preserved
searching-preserved c =
    let p : Problem = record { ops = c.args.ops; initial = c.args.initial; sorted = c.in_ok-sorted.sorted; budget = c.args.budget } in
    let stood : IsProblem p = record { ends = c.requires.ends; done = c.in_ok-sorted.ensures.done; classes = c.in_ok-sorted.ensures.classes } in
    let e = rw c.in-More.is at c.in_ok-expand.ensures in
    kept_on p stood c.searching.search c.expand.new.search c.in-Some.ranked c.pop.new.self c.in-Some.ensures.some c.searching.invariant e

pub searching-smaller : goal.searching-smaller
searching-smaller c =
    let p : Problem = record { ops = c.args.ops; initial = c.args.initial; sorted = c.in_ok-sorted.sorted; budget = c.args.budget } in
    let stood : IsProblem p = record { ends = c.requires.ends; done = c.in_ok-sorted.ensures.done; classes = c.in_ok-sorted.ensures.classes } in
    let e = rw c.in-More.is at c.in_ok-expand.ensures in
    fewer_expansions p stood c.searching.search c.expand.new.search c.in-Some.ranked c.pop.new.self c.in-Some.ensures.some c.searching.invariant e

pub stuck_of-requires-clause-problem : goal.stuck_of-requires-clause-problem
stuck_of-requires-clause-problem c = record { ends = c.requires.ends; done = c.in_ok-sorted.ensures.done; classes = c.in_ok-sorted.ensures.classes }

pub stuck_of-requires-clause-exhausted : goal.stuck_of-requires-clause-exhausted
stuck_of-requires-clause-exhausted c =
    let p : Problem = record { ops = c.args.ops; initial = c.args.initial; sorted = c.in_ok-sorted.sorted; budget = c.args.budget } in
    let stood : IsProblem p = record { ends = c.requires.ends; done = c.in_ok-sorted.ensures.done; classes = c.in_ok-sorted.ensures.classes } in
    kept_emptied p stood c.searching.search c.pop.new.self c.in_default.ensures.none.0 c.in_default.ensures.none.1 c.searching.invariant

pub returns : goal.returns
returns c =
    let p : Problem = record { ops = c.args.ops; initial = c.args.initial; sorted = c.in_ok-sorted.sorted; budget = c.args.budget } in
    let stood : IsProblem p = record { ends = c.requires.ends; done = c.in_ok-sorted.ensures.done; classes = c.in_ok-sorted.ensures.classes } in
    let some : 0 < c.args.budget = grind (arith, common_steps) in
    record { judged = (some, no_order p stood c.searching.search (c.searching.invariant, c.in_default.ensures.none.0), c.in_ok-stuck_of.ensures) }
