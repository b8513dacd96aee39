use Rattle.std.proofs.Common.{◌≡◌, ◌++◌, ◌≤◌, ◌-◌, ◌^◌, List, ℕ, take, sym, ap, subst, ◌∙◌, arith}
use Rattle.std.proofs.lemmas.List.{get_or_read}
use Rattle.jh_linear.specs.declared.sorted_ops.Stage.{Stage}
use Rattle.jh_linear.specs.declared.register.RegOp.{RegOp}
use Rattle.jh_linear.specs.declared.verdict.Step.{Step}
use Rattle.jh_linear.specs.Order.{IsLegalFrom, op_at}
use Rattle.jh_linear.specs.Reached.{order_at}
use Rattle.jh_linear.specs.SearchInside.{furthest_order, no_stage, stage_at}
use Rattle.jh_linear.specs.Stuck.{op_end}
use Rattle.jh_linear.specs.StuckInside.{IsKnownUntil}
use Rattle.jh_linear.proofs.StuckLemmas.{End, stuck_is}
use Rattle.jh_linear.proofs.stuck.stuck_of.Goals as goal

pub returns : goal.returns
returns c =
    let p = c.args.problem.now in
    let s = c.args.search.now in
    let ops : List RegOp = p.ops.now in
    let far = s.furthest in
    let order : List ℕ = furthest_order s.steps.items far in
    let end : ℕ = c.op_end-end.result in
    let stage : c.index.result.now ≡ stage_at p.sorted.stages.items far.stage = get_or_read p.sorted.stages.items far.stage c.index.result.now c.requires.exhausted.0.begun.far.open' c.index.ensures no_stage in
    let end_is : end ≡ End p c.requires.problem s c.requires.exhausted = c.op_end-end.ensures ∙ ap op_end (c.op_at.ensures ∙ ap (λ (x : Stage). op_at ops x.number) stage) in
    let first : c.in_ok-order.order.items ≡ order_at s.steps.items far.step.parent = c.in_ok-order.ensures ∙ ap (λ (ss : List Step). order_at ss far.step.parent) c.as_slice.ensures.value in
    let whole : c.extend_from_slice.new.self.items ≡ order = c.in_ok-extend_from_slice.ensures.items ∙ ap (λ o. o ++ c.as_slice-2.result.now) first ∙ ap (λ o. order_at s.steps.items far.step.parent ++ o) c.as_slice-2.ensures in
    let count : ℕ = c.known_until.result in
    let known : IsKnownUntil ops order end count = subst (λ o. IsKnownUntil ops o end count) (c.as_slice-3.ensures.value ∙ whole) c.known_until.ensures in
    let cut : c.truncate.new.self.items ≡ take count order = c.truncate.ensures.items ∙ ap (take count) whole in
    let small : End p c.requires.problem s c.requires.exhausted ≤ 2 ^ 64 - 1 = omega (arith, end_is) in
    stuck_is p c.requires.problem s c.requires.exhausted _ count (subst (λ e. IsKnownUntil ops order e count) end_is known) small end_is (c.of.ensures ∙ cut)
    (λ last runs. c.value_after-value.ensures last (subst (λ o. IsLegalFrom ops p.initial o last) (sym (c.as_slice-4.ensures.value ∙ cut)) runs))
