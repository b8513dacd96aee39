use Rattle.std.proofs.Common.{◌≡◌, ◌<◌, ◌≤◌, length, rules, refl, sym, ap, ◌∙◌}
use Rattle.std.specs.Prelude.{IsTrue}
use Rattle.jh_nemesis.specs.State.{State}
use Rattle.jh_nemesis.proofs.StepLemmas.{state_after_names}
use Rattle.jh_nemesis.specs.Steps.{FitsNodes, state_after}
use Rattle.jh_simnode.specs.Reach.{env_cells}
use Rattle.jh_simnode.specs.Stores.{killed_flags}
use Rattle.jh_simnode.proofs.PlaceLemmas.{length-killed_flags}
use Rattle.jh_simnode.proofs.VersionLemmas.{forgotten_tidy}
use Rattle.jh_simnode.proofs.JournalLemmas.{step_goes_on, written}
use Rattle.jh_simnode.proofs.world.World.step.Goals as goal

pub returns-then-not-fits-clause-added : goal.returns-then-not-fits-clause-added
returns-then-not-fits-clause-added c = (
  refl,
  λ h.
      let h2 : FitsNodes (length c.self.inside.nemesis.state.names) c.args.step = rw (← c.self.view_is) at h in
      let h3 : FitsNodes (length c.env.result.now.names) c.args.step = rw c.env.ensures.names h2 in
      let yes : IsTrue c.fits.result = c.fits.ensures.1 h3 in
      let no : ⊥ = cc (yes, c.if-not-fits.true) in no,
)

pub returns-then-len-ge-MAX_EVENTS-clause-added : goal.returns-then-len-ge-MAX_EVENTS-clause-added
returns-then-len-ge-MAX_EVENTS-clause-added c =
    let fits : FitsNodes (length c.self.inside.nemesis.state.names) c.args.step = rw c.env.ensures.names at (c.fits.ensures.0 c.if-not-fits.false) in
    let full : 65536 ≤ length c.self.inside.journal.items = search rules in
    (refl, (rw (← c.self.view_is) fits, rw (← c.self.view_is) full))

pub forget-requires-clause-before : goal.forget-requires-clause-before
forget-requires-clause-before c =
    let moved : c.apply.new.self.state ≡ state_after c.self.inside.nemesis.state c.args.step = c.in_ok-answer.ensures.answer.1 in
    let names : c.env-3.result.now.names ≡ c.env-2.result.now.names = c.env-3.ensures.names ∙ ap (λ (r : State). r.names) moved ∙ state_after_names c.self.inside.nemesis.state c.args.step ∙ sym c.env-2.ensures.names in
    rw (c.as_slice.ensures.value, c.killed_nodes-before.ensures, names) (length-killed_flags (env_cells c.env-2.result.now) (length c.env-2.result.now.names))

pub forget-requires-clause-sized : goal.forget-requires-clause-sized
forget-requires-clause-sized c =
    rw (c.deref_mut.ensures.value, c.env-3.ensures.names, c.in_ok-answer.ensures.answer.1, state_after_names c.self.inside.nemesis.state c.args.step) c.self.invariant.tidy.sized

pub invariant_of-self-2 : goal.invariant_of-self-2
invariant_of-self-2 c =
    let i = c.self.inside in
    let few : length i.journal.items < 65536 = search rules in
    let fits : FitsNodes (length i.nemesis.state.names) c.args.step = rw c.env.ensures.names at (c.fits.ensures.0 c.if-not-fits.false) in
    let flags : c.killed_nodes-before.result.items ≡ killed_flags (env_cells c.env-2.result.now) (length i.nemesis.state.names) = rw c.env-2.ensures.names at c.killed_nodes-before.ensures in
    let forgot = rw (c.as_slice.ensures.value, flags, c.deref_mut.ensures.value) at c.forget.ensures in
    let size : length c.forget.new.replicas ≡ i.replicas.len =
    ap length forgot ∙ (forgotten_tidy i.database (killed_flags (env_cells c.env-2.result.now) (length i.nemesis.state.names)) (env_cells c.env-3.result.now) (length i.nemesis.state.names) (length i.journal.items) i.replicas.items c.self.invariant.tidy).sized ∙ sym c.self.invariant.tidy.sized ∙ sym i.replicas.ok.0 in
    rw (c.push_reserved.ensures.items, c.reserve.ensures.items, c.in_ok-kept.ensures, written i.replicas.len c.forget.new.replicas i.replicas.items size)
    (step_goes_on i.nemesis.state c.apply.new.self.state i.database i.replicas.items c.forget.new.replicas i.journal.items c.env-2.result.now c.env-3.result.now c.args.step c.in_ok-answer.answer
    c.self.invariant few c.env-2.ensures.overlay c.env-2.ensures.start fits c.in_ok-answer.ensures.answer.0 c.in_ok-answer.ensures.answer.1 c.env-3.ensures.overlay c.env-3.ensures.start forgot)
