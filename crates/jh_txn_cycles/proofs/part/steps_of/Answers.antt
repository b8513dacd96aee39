use Rattle.std.proofs.Common.{◌≡◌, ◌<◌, ℕ, length, ap, ◌∙◌, sym, subst, arith}
use Rattle.std.specs.Prelude.{slice_get, Some}
use Rattle.std.proofs.lemmas.Option.{slice_get-get_or}
use Rattle.jh_txn_cycles.specs.Part.{HasOnly}
use Rattle.jh_txn_cycles.proofs.PartLemmas.{each_pushed}
use Rattle.jh_txn_cycles.proofs.part.steps_of.Goals as goal
use Rattle.jh_txn_cycles.proofs.part.steps_of.Goals.{then-allows+in_ok-push, else-allows}

pub loop-step-preserved : goal.loop-step-preserved
loop-step-preserved c =
    let row = c.args.row.now in
    let i = c.loop-step.step-index in
    let low : i < length row = omega arith in
    elim c.if-allows.branch as (λ _. HasOnly row c.if-allows.kept.items) [
      | then-allows+in_ok-push w ↦
          subst (HasOnly row) (sym (ap (λ v. v.items) w.kept-is ∙ w.in_ok-push.ensures.items))
          (each_pushed (λ s. (at : ℕ) × (slice_get row at ≡ Some s)) c.loop-step.kept.items _ c.loop-step.invariant (i, slice_get-get_or row i _ low))
      | else-allows w ↦ subst (HasOnly row) (sym (ap (λ v. v.items) w.kept-is)) c.loop-step.invariant
    ]
