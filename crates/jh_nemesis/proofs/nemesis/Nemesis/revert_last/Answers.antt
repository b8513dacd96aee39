use Rattle.std.proofs.Common.{◌≡◌, ◌<◌, ◌+◌, ◌-◌, arith, ◌∙◌, false, subst, sym, ap}
use Rattle.jh_edn.specs.Edn.{is_empty}
use Rattle.jh_env.specs.Overlay.{StandsWith}
use Rattle.jh_nemesis.specs.State.{State, state_back_to}
use Rattle.jh_nemesis.specs.NemesisInside.{state_from}
use Rattle.jh_nemesis.specs.Work.{NemesisValue}
use Rattle.jh_nemesis.specs.AcceptedInside.{active_after, faults_at, moment, past_of, faults_with_stamps}
use Rattle.jh_nemesis.proofs.CursorLemmas.{few_at, played_back_is, state_back, moved_true, has_past}
use Rattle.jh_nemesis.proofs.nemesis.Nemesis.revert_last.Goals as goal

pub revert_in_environment-requires-clause-known : goal.revert_in_environment-requires-clause-known
revert_in_environment-requires-clause-known c =
    let a = c.self.inside in
    let some : is_empty (past_of a.accepted.items a.cursor) ≡ false = rw (← c.self.view_is) at c.requires in
    let later : 0 < a.cursor = has_past a.accepted.items a.cursor some in
    let w = c.self.invariant.within in
    rw c.deref.ensures.value (omega arith)

pub revert_in_environment-requires-clause-stands : goal.revert_in_environment-requires-clause-stands
revert_in_environment-requires-clause-stands c =
    let a = c.self.inside in
    let some : is_empty (past_of a.accepted.items a.cursor) ≡ false = rw (← c.self.view_is) at c.requires in
    let later : 0 < a.cursor = has_past a.accepted.items a.cursor some in
    let w = c.self.invariant.within in
    let last : a.cursor ≡ a.cursor - 1 + 1 = omega arith in
    let now = c.self.invariant.now ∙ ap (active_after a.accepted.items) last in
    rw c.deref.ensures.value (subst (λ active. StandsWith a.env (faults_with_stamps a.accepted.items active)) now c.self.invariant.stands)

pub revert_in_active-requires-clause-room : goal.revert_in_active-requires-clause-room
revert_in_active-requires-clause-room c =
    let a = c.self.inside in
    let some : is_empty (past_of a.accepted.items a.cursor) ≡ false = rw (← c.self.view_is) at c.requires in
    let later : 0 < a.cursor = has_past a.accepted.items a.cursor some in
    let w = c.self.invariant.within in
    rw c.deref-2.ensures.value (few_at c.self.invariant (a.cursor - 1) _ (omega arith) (played_back_is c.self.invariant later))

pub returns-clause-state : goal.returns-clause-state
returns-clause-state c =
    let a = c.self.inside in
    let some : is_empty (past_of a.accepted.items a.cursor) ≡ false = rw (← c.self.view_is) at c.requires in
    let later : 0 < a.cursor = has_past a.accepted.items a.cursor some in
    let w = c.self.invariant.within in
    let is : c.revert_in_active.new.active.items ≡ active_after a.accepted.items (a.cursor - 1) =
    c.revert_in_active.ensures ∙ rw c.deref-2.ensures.value (played_back_is c.self.invariant later) in
    subst (λ (s : State). state_from c.revert_in_environment.new.env a.accepted.items (a.cursor - 1) c.revert_in_active.new.active.items ≡ state_back_to s s.past)
    (ap (λ (n : NemesisValue). n.state) c.self.view_is) (state_back c.self.invariant c.revert_in_environment.new.env c.revert_in_active.new.active.items later is c.revert_in_environment.ensures.kept)

pub returns-clause-work : goal.returns-clause-work
returns-clause-work c =
    let a = c.self.inside in
    let some : is_empty (past_of a.accepted.items a.cursor) ≡ false = rw (← c.self.view_is) at c.requires in
    let later : 0 < a.cursor = has_past a.accepted.items a.cursor some in
    let w = c.self.invariant.within in
    let last : a.cursor - 1 + 1 ≡ a.cursor = omega arith in
    let is : c.revert_in_active.new.active.items ≡ active_after a.accepted.items (a.cursor - 1) =
    c.revert_in_active.ensures ∙ rw c.deref-2.ensures.value (played_back_is c.self.invariant later) in
    let written = rw (c.deref.ensures.value, last) at c.revert_in_environment.ensures.work in
    let now : faults_at a.accepted.items a.active.items ≡ moment a.accepted.items a.cursor = ap (faults_at a.accepted.items) c.self.invariant.now in
    rw (← c.self.view_is, is, now) written

pub invariant_of-self : goal.invariant_of-self
invariant_of-self c =
    let a = c.self.inside in
    let some : is_empty (past_of a.accepted.items a.cursor) ≡ false = rw (← c.self.view_is) at c.requires in
    let later : 0 < a.cursor = has_past a.accepted.items a.cursor some in
    let w = c.self.invariant.within in
    let is : c.revert_in_active.new.active.items ≡ active_after a.accepted.items (a.cursor - 1) =
    c.revert_in_active.ensures ∙ rw c.deref-2.ensures.value (played_back_is c.self.invariant later) in
    let there : StandsWith c.revert_in_environment.new.env (faults_with_stamps a.accepted.items (active_after a.accepted.items (a.cursor - 1))) =
    rw c.deref.ensures.value at c.revert_in_environment.ensures.stands in
    let stands = subst (λ active. StandsWith c.revert_in_environment.new.env (faults_with_stamps a.accepted.items active)) (sym is) there in
    moved_true c.self.invariant c.revert_in_environment.new.env (a.cursor - 1) c.revert_in_active.new.active.items (omega arith) is c.revert_in_environment.ensures.kept stands
