use Rattle.std.proofs.Common.{◌≡◌, ◌<◌, ◌+◌, ◌-◌, ap, length, arith, ◌∙◌, false, subst, sym}
use Rattle.jh_edn.specs.Edn.{is_empty}
use Rattle.jh_env.specs.Overlay.{StandsWith}
use Rattle.jh_nemesis.specs.State.{State, state_forth_to}
use Rattle.jh_nemesis.specs.NemesisInside.{state_from}
use Rattle.jh_nemesis.specs.Work.{NemesisValue}
use Rattle.jh_nemesis.specs.AcceptedInside.{active_after, faults_at, future_of, moment, faults_with_stamps}
use Rattle.jh_nemesis.proofs.CursorLemmas.{few_at, played_is, state_forth, moved_true, has_future}
use Rattle.jh_nemesis.proofs.nemesis.Nemesis.apply_next.Goals as goal

pub apply_to_environment-requires-clause-known : goal.apply_to_environment-requires-clause-known
apply_to_environment-requires-clause-known c =
    let a = c.self.inside in
    let left : is_empty (future_of a.accepted.items a.cursor (length a.accepted.items - a.cursor)) ≡ false =
    rw (← c.self.view_is) at c.requires in
    let within : a.cursor < length a.accepted.items = has_future a.accepted.items a.cursor left in
    rw c.deref.ensures.value within

pub apply_to_environment-requires-clause-stands : goal.apply_to_environment-requires-clause-stands
apply_to_environment-requires-clause-stands c =
    let a = c.self.inside in
    rw c.deref.ensures.value (subst (λ active. StandsWith a.env (faults_with_stamps a.accepted.items active)) c.self.invariant.now c.self.invariant.stands)

pub apply_to_active-requires-clause-room : goal.apply_to_active-requires-clause-room
apply_to_active-requires-clause-room c =
    let a = c.self.inside in
    let left : is_empty (future_of a.accepted.items a.cursor (length a.accepted.items - a.cursor)) ≡ false =
    rw (← c.self.view_is) at c.requires in
    let within : a.cursor < length a.accepted.items = has_future a.accepted.items a.cursor left in
    rw c.deref-2.ensures.value (few_at c.self.invariant (a.cursor + 1) _ (omega arith) (played_is c.self.invariant))

pub returns-clause-state : goal.returns-clause-state
returns-clause-state c =
    let a = c.self.inside in
    let left : is_empty (future_of a.accepted.items a.cursor (length a.accepted.items - a.cursor)) ≡ false =
    rw (← c.self.view_is) at c.requires in
    let within : a.cursor < length a.accepted.items = has_future a.accepted.items a.cursor left in
    let is : c.apply_to_active.new.active.items ≡ active_after a.accepted.items (a.cursor + 1) =
    c.apply_to_active.ensures ∙ rw c.deref-2.ensures.value (played_is c.self.invariant) in
    subst (λ (s : State). state_from c.apply_to_environment.new.env a.accepted.items (a.cursor + 1) c.apply_to_active.new.active.items ≡ state_forth_to s s.future)
    (ap (λ (n : NemesisValue). n.state) c.self.view_is) (state_forth c.self.invariant c.apply_to_environment.new.env c.apply_to_active.new.active.items within is c.apply_to_environment.ensures.kept)

pub returns-clause-work : goal.returns-clause-work
returns-clause-work c =
    let a = c.self.inside in
    let is : c.apply_to_active.new.active.items ≡ active_after a.accepted.items (a.cursor + 1) =
    c.apply_to_active.ensures ∙ rw c.deref-2.ensures.value (played_is c.self.invariant) in
    let written = rw c.deref.ensures.value at c.apply_to_environment.ensures.work in
    let now : faults_at a.accepted.items a.active.items ≡ moment a.accepted.items a.cursor = ap (faults_at a.accepted.items) c.self.invariant.now in
    rw (← c.self.view_is, is, now) written

pub invariant_of-self : goal.invariant_of-self
invariant_of-self c =
    let a = c.self.inside in
    let left : is_empty (future_of a.accepted.items a.cursor (length a.accepted.items - a.cursor)) ≡ false =
    rw (← c.self.view_is) at c.requires in
    let within : a.cursor < length a.accepted.items = has_future a.accepted.items a.cursor left in
    let is : c.apply_to_active.new.active.items ≡ active_after a.accepted.items (a.cursor + 1) =
    c.apply_to_active.ensures ∙ rw c.deref-2.ensures.value (played_is c.self.invariant) in
    let there : StandsWith c.apply_to_environment.new.env (faults_with_stamps a.accepted.items (active_after a.accepted.items (a.cursor + 1))) =
    rw c.deref.ensures.value at c.apply_to_environment.ensures.stands in
    let stands = subst (λ active. StandsWith c.apply_to_environment.new.env (faults_with_stamps a.accepted.items active)) (sym is) there in
    moved_true c.self.invariant c.apply_to_environment.new.env (a.cursor + 1) c.apply_to_active.new.active.items (omega arith) is c.apply_to_environment.ensures.kept stands
