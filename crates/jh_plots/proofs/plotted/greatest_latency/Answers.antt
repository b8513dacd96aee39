use Rattle.std.proofs.Common.{◌∙◌, get_or, max, refl}
use Rattle.jh_plots.specs.Calls.{latency}
use Rattle.jh_plots.proofs.CountLemmas.{no_call}
use Rattle.jh_plots.proofs.ScaleLemmas.{greatest_more}
use Rattle.jh_plots.proofs.plotted.greatest_latency.Goals as goal

pub loop-call-preserved : goal.loop-call-preserved
loop-call-preserved c =
    let l = c.loop-call in
    let calls = c.args.calls.now in
    c.max-most.ensures ∙ (λ i. max (l.invariant i) (c.latency_of.ensures i)) ∙ greatest_more (latency c.args.end) calls l.call-index (get_or calls l.call-index no_call) no_call c.loop-call-test.true refl
