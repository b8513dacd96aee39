use Rattle.std.proofs.Common.{◌∙◌, ◌++◌, ◌∷◌, [], get_or, refl, sym, ap, take}
use Rattle.jh_plots.specs.Percentiles as rule
use Rattle.jh_plots.proofs.CountLemmas.{no_call}
use Rattle.jh_plots.proofs.PercentileLemmas.{latencies_none, latencies_some}
use Rattle.jh_plots.proofs.PointLemmas.{taken}
use Rattle.jh_plots.proofs.percentiles.latencies_in.Goals as goal
use Rattle.jh_plots.proofs.percentiles.latencies_in.Goals.{in-Some+in_ok-push, in_default}

pub loop-call-preserved : goal.loop-call-preserved
loop-call-preserved c =
    let l = c.loop-call in
    let width = c.args.width in
    let window = c.args.window in
    let calls = c.args.calls.now in
    let call = get_or calls l.call-index no_call in
    let before = take l.call-index calls in
    elim c.match-latency_within.branch [
      | in-Some+in_ok-push w ↦
          ap (λ v. v.items) w.latencies-is ∙ w.in_ok-push.ensures.items ∙ ap (λ xs. xs ++ w.in-Some.latency ∷ []) l.invariant
          ∙ sym (latencies_some width window before call w.in-Some.latency (sym w.in-Some.ensures))
          ∙ ap (λ xs. rule.latencies_in width xs window) (sym (taken calls l.call-index call no_call c.loop-call-test.true refl))
      | in_default w ↦
          ap (λ v. v.items) w.latencies-is ∙ l.invariant
          ∙ sym (latencies_none width window before call (sym w.in_default.ensures))
          ∙ ap (λ xs. rule.latencies_in width xs window) (sym (taken calls l.call-index call no_call c.loop-call-test.true refl))
    ]
