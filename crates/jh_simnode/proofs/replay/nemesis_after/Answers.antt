use Rattle.std.proofs.Common.{◌<◌, length, take, ap, sym, subst, ◌∙◌, arith}
use Rattle.std.proofs.lemmas.List.Elements.{All-more}
use Rattle.jh_nemesis.specs.State.{State}
use Rattle.jh_simnode.specs.Events.{faults_after}
use Rattle.jh_simnode.specs.Replay.{FitsEvent, RefusesEvent}
use Rattle.jh_simnode.specs.Runs.{setup_of}
use Rattle.jh_simnode.proofs.ReplayLemmas.{state_more, names_at, refused_at}
use Rattle.jh_simnode.proofs.replay.nemesis_after.Goals as goal

-- one event more was applied
pub loop-event-preserved : goal.loop-event-preserved
loop-event-preserved c =
    let u = setup_of c.args.plan.now in
    let journal = c.args.journal.now in
    let i = c.loop-event.event-index in
    let event = c.event-item.result in
    let was = c.loop-event.invariant in
    let low : i < length journal = omega arith in
    let names = ap (λ (s : State). length s.names) was.state ∙ ap length (names_at u (take i journal)) in
    record {
      state = c.in-Ok.ensures.state ∙ ap (λ (s : State). faults_after s event) was.state
          ∙ ap (faults_after _) c.event-item.is ∙ sym (state_more u journal i event low);
      fits = All-more (FitsEvent (length c.args.plan.now.env.names)) journal i event low was.fits
          (subst (FitsEvent (length c.args.plan.now.env.names)) c.event-item.is
          (subst (λ n. FitsEvent n event) names c.in-Ok.ensures.fits));
    }

-- an event of the journal is refused
pub returns-in-Err-clause-refused : goal.returns-in-Err-clause-refused
returns-in-Err-clause-refused c =
    let u = setup_of c.args.plan.now in
    let journal = c.args.journal.now in
    let i = c.loop-event.event-index in
    let event = c.event-item.result in
    let low : i < length journal = omega arith in
    let names = ap (λ (s : State). length s.names) c.loop-event.invariant.state ∙ ap length (names_at u (take i journal)) in
    refused_at (length c.args.plan.now.env.names) journal i event c.in-Err.error low
    (subst (λ e. RefusesEvent (length c.args.plan.now.env.names) e c.in-Err.error) c.event-item.is
    (subst (λ n. RefusesEvent n event c.in-Err.error) names c.in-Err.ensures.refused))
