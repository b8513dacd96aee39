use Rattle.std.proofs.Common.{◌≡◌, ◌<◌, ◌+◌, ◌-◌, ◌∙◌, ℕ, length, get_or, suc, subst, sym, ap, arith, refl, vec_len}
use Rattle.std.proofs.lemmas.Bool.{false≢true}
use Rattle.jh_txn.specs.declared.dependency.Step.{Step}
use Rattle.jh_txn.specs.declared.dependency.Why.TheVariants.{WriteRead}
use Rattle.jh_txn_graph.specs.HubsInside.{IsUnderWay}
use Rattle.jh_txn_graph.proofs.HubLemmas.{under_way, pushed, passed, some_kept, cycle_found}
use Rattle.jh_txn_graph.proofs.hubs.without_hubs.Goals as goal
use Rattle.jh_txn_graph.proofs.hubs.without_hubs.Goals.{then-step-count+in_ok-push, else-step-count+in-Some, else-step-count+in_default}

abbrev none : Step
none = record { place = 0; why = WriteRead 0 0 }

pub loop-step-init : goal.loop-step-init
loop-step-init c = λ graph loop.
    subst (λ xs. IsUnderWay graph c.args.count c.args.steps.now 0 xs) (sym c.new-cycle.ensures.items) (under_way graph c.args.count c.args.steps.now loop)

pub loop-step-preserved : goal.loop-step-preserved
loop-step-preserved c = λ graph loop.
    let count = c.args.count in
    let steps = c.args.steps.now in
    let i = c.loop-step.step-index in
    let old = c.loop-step.cycle.items in
    let low : i < length steps = omega arith in
    let way = c.loop-step.invariant graph loop in
    elim c.if-step-count.branch as (λ _. IsUnderWay graph count steps (i + 1) c.if-step-count.cycle.items) [
      | then-step-count+in_ok-push w ↦
          subst (IsUnderWay graph count steps (i + 1)) (sym (ap (λ v. v.items) w.cycle-is ∙ w.in_ok-push.ensures.items))
          (pushed graph count steps loop i none old low way w.if-step-count.true)
      | else-step-count+in-Some w ↦
          let last = w.in-Some.last.now in
          let n : ℕ = vec_len c.loop-step.cycle - 1 in
          let size : length old ≡ suc n = omega (arith, c.loop-step.cycle.ok.0, w.in-Some.ensures.variant.0 refl) in
          let x : Step = record { place = last.place; why = (get_or steps i none).why } in
          subst (IsUnderWay graph count steps (i + 1)) (sym (ap (λ v. v.items) w.cycle-is))
          (passed graph count steps loop i none old low way n x last size (ap (λ s. s.place) w.in-Some.ensures.value) refl w.if-step-count.false)
      | else-step-count+in_default w ↦
          let some : 0 < vec_len c.loop-step.cycle = omega (arith, c.loop-step.cycle.ok.0, some_kept graph count steps loop i none old low way c.requires w.if-step-count.false) in
          absurd (false≢true (w.in_default.ensures.variant.1 some))
    ]

pub returns : goal.returns
returns c = λ graph loop. cycle_found graph c.args.count c.args.steps.now loop c.loop-step.step-index c.loop-step.cycle.items c.loop-step-test.false (c.loop-step.invariant graph loop)
