use Rattle.std.proofs.Common.{◌∙◌, ap, subst, sym}
use Rattle.std.specs.Prelude.{map}
use Rattle.jh_env.specs.Overlay.{StandsFor}
use Rattle.jh_nemesis.specs.Changed.{changed_by}
use Rattle.jh_nemesis.specs.State.{State, faults_in}
use Rattle.jh_nemesis.specs.Steps.{state_after}
use Rattle.jh_test_parts.specs.NamedCells.{cells_named}
use Rattle.jh_test_parts.specs.Changes.{changed_cells}
use Rattle.jh_conversation.proofs.CellLemmas.{start_stays}
use Rattle.jh_conversation.proofs.turns.take_step.Goals as goal

pub returns-clause-cells : goal.returns-clause-cells
returns-clause-cells c =
    let was = c.args.nemesis.now.state in
    let after = state_after was c.args.step in
    let named = ap (map (λ f. f.now)) c.deref.ensures.value ∙ c.in_ok-faults.ensures.faults in
    let state = c.in_ok-answer.ensures.answer.1 in
    let start = c.env-2.ensures.start ∙ ap (λ (s : State). s.start) state ∙ start_stays was c.args.step ∙ sym c.env.ensures.start in
    c.in_ok-cells.ensures c.env.result.now (changed_by was c.args.step) (faults_in was.active) (faults_in after.active)
    (c.in_ok-named.ensures ∙ ap (cells_named c.env.result.now) named) c.env.ensures.overlay
    (subst (λ (s : State). StandsFor c.env-2.result.now (faults_in s.active)) state c.env-2.ensures.overlay) start c.in_ok-faults.ensures.elsewhere
    ∙ ap (λ start. changed_cells start (faults_in was.active) (faults_in after.active)) c.env.ensures.start
