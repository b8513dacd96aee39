use Rattle.std.proofs.Common.{subst}
use Rattle.jh_env.specs.Overlay.{IsOverlay}
use Rattle.jh_nemesis.specs.AcceptedInside.{faults_with_stamps}
use Rattle.jh_nemesis.proofs.AcceptedLemmas.{stamped_faults}
use Rattle.jh_nemesis.proofs.nemesis.Nemesis.env.Goals as goal

pub returns-clause-overlay : goal.returns-clause-overlay
returns-clause-overlay c =
    let a = c.self.inside in
    let stands = c.self.invariant.stands in
    let are = stamped_faults a.accepted.items a.active.items in
    rw (← c.self.view_is) (record {
      stamped = faults_with_stamps a.accepted.items a.active.items;
      are = are;
      stands = stands;
      cells = subst (λ faults. IsOverlay a.env.start faults a.env.cells) are stands.cells;
    })
