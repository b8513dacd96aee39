use Rattle.std.proofs.Common.{rules, ◌≡◌, ap, subst, ◌∙◌}
use Rattle.jh_simnode.specs.Plans.{PlanValue, RefusesSchedule, plan_with_schedule, plan_with_seed}
use Rattle.jh_search.proofs.CandidateLemmas.{entries_refused}
use Rattle.jh_random_faults.proofs.FaultLemmas.{only_memory}
use Rattle.jh_search.proofs.candidates.candidate_plan.Goals as goal

pub made_plan-requires : goal.made_plan-requires
made_plan-requires c =
    let p = c.args.plan.now in
    let same : c.in-Ok.schedule ≡ c.args.entries.items = search rules in
    only_memory _ _ c.with_schedule.result
    (λ e refused. entries_refused p c.args.entries.items e c.requires (subst (λ entries. RefusesSchedule p entries e) same refused))
    c.with_schedule.ensures

pub returns : goal.returns
returns c =
    let p = c.args.plan.now in
    let same : c.in-Ok.schedule ≡ c.args.entries.items = search rules in
    let made = rw c.in_ok-made.ensures at c.with_schedule.ensures in
    c.with_seed.ensures ∙ ap (λ (q : PlanValue). plan_with_seed q c.args.seed) (made ∙ ap (plan_with_schedule p) same)
