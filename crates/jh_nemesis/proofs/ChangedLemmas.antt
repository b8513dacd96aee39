-- Which faults a step begins or ends, and that the cells which none of them names stay.
use Rattle.std.proofs.Common.{◌≡◌, ℕ, suc, ◌+◌, ◌-◌, ◌<◌, Bool, true, false, List, [], ◌∷◌, ◌++◌, length, refl, sym, ap, subst, ◌∙◌, arith, add-one}
use Rattle.jh_edn.specs.Edn.{is_empty}
use Rattle.std.specs.Prelude.{if◌then◌else◌, filter}
use Rattle.std.specs.List.{All, AllPairs, Contains}
use Rattle.std.proofs.lemmas.Bool.{eq-eqb, ne_eqb}
use Rattle.std.proofs.lemmas.List.{append-nil, map-append}
use Rattle.std.proofs.lemmas.List.Elements.{All-cons, All-contains, All-map, All-nil, filter-append}
use Rattle.std.proofs.lemmas.List.Folds.{list_any_none}
use Rattle.jh_env.specs.Faults.{FaultValue}
use Rattle.jh_env.specs.Overlay.{EnvValue}
use Rattle.jh_nemesis.specs.State.{State, Active, faults_in, has_id, is_active}
use Rattle.jh_nemesis.specs.Steps.{active_without, answer_of, is_ok, state_after}
use Rattle.jh_nemesis.specs.Changed.{AgreeElsewhere, changed_by}
use Rattle.jh_nemesis.specs.Work.{NemesisValue, faults_only_in}
use Rattle.jh_nemesis.specs.NemesisInside.{nemesis_of, state_from, state_of}
use Rattle.jh_nemesis.specs.declared.nemesis.Nemesis.TheInside.{Inside}
use Rattle.jh_nemesis.specs.AcceptedInside.{active_after, begun_fault, faults_at, moment, past_of, future_of, accepted_at, stamps_changed, AreRight, AreStamps, IsBegin, IsRight, IsTrueTo}
use Rattle.jh_nemesis.specs.declared.accepted.AcceptedStep.{AcceptedStep}
use Rattle.jh_nemesis.specs.declared.accepted.AcceptedStep.TheVariants.{Begun, Withdrawn, WithdrawnAll}
use Rattle.jh_nemesis.specs.declared.steps.Step.{Step}
use Rattle.jh_nemesis.specs.declared.steps.Step.TheVariants.{Begin, Withdraw, WithdrawAll, Undo, Redo}
use Rattle.jh_nemesis.specs.declared.steps.StepAnswer.TheVariants as StepAnswer
use Rattle.jh_nemesis.proofs.CellLemmas.{agree, none_kept}
use Rattle.jh_nemesis.proofs.CursorLemmas.{apart, has_future, has_past}
use Rattle.jh_nemesis.proofs.EffectLemmas.{begun_moment, begun_right, withdrawn_begin, withdrawn_moment, withdrawn_right}
use Rattle.jh_nemesis.proofs.LawLemmas.{fresh}
use Rattle.jh_nemesis.proofs.AcceptedLemmas.{Apart, apart_after, are_stamps}
use Rattle.jh_nemesis.proofs.StampLemmas.{split_at}
use Rattle.jh_nemesis.proofs.MomentLemmas.{HasMore, active_there, all_more, id_more, none_alone, one_more}

-- ---- between two moments

-- these faults are active at one of the moments alone, and what they do not name is the same at both
pub record IsChange (before after : Active) (named : List FaultValue) : Type 0 where
  pub is : faults_in (faults_only_in before after ++ faults_only_in after before) ≡ named
  pub elsewhere : AgreeElsewhere named (faults_in before) (faults_in after)

ended : (more fewer named : Active) → HasMore more fewer named → IsChange more fewer (faults_in named)
ended more fewer named h = record {
  is = rw (h.alone, h.none) (ap faults_in (append-nil named));
  elsewhere = agree (faults_in named) (faults_in more) (faults_in fewer) h.same;
}

begun : (more fewer named : Active) → HasMore more fewer named → IsChange fewer more (faults_in named)
begun more fewer named h = record {
  is = rw (h.none, h.alone) refl;
  elsewhere = agree (faults_in named) (faults_in fewer) (faults_in more) (λ p none. sym (h.same p none));
}

pub unchanged : (now : Active) → IsChange now now []
unchanged now =
    let none : faults_only_in now now ≡ [] = none_alone now now (λ f inside. active_there f now inside) in
    record { is = rw none refl; elsewhere = agree [] (faults_in now) (faults_in now) (λ p none. refl) }

pushed_more : (id : ℕ) (f : FaultValue) (fs : Active) → is_active fs id ≡ false → HasMore (fs ++ (id, f) ∷ []) fs ((id, f) ∷ [])
pushed_more id f fs new =
    subst (λ (fewer : Active). HasMore (fs ++ (id, f) ∷ []) fewer ((id, f) ∷ [])) (append-nil fs) (one_more fs [] id f (rw (append-nil fs) new))

-- ---- at a step that is kept

others_fail : (id : ℕ) (accepted : List AcceptedStep) (stamps : List ℕ) → All (λ k. has_id id (begun_fault (accepted_at accepted k)) ≡ false) stamps
    → filter (has_id id) (faults_at accepted stamps) ≡ []
others_fail id accepted stamps other =
    none_kept (has_id id) (faults_at accepted stamps)
    (list_any_none (has_id id) (faults_at accepted stamps) (All-map (λ (f : ℕ × FaultValue). has_id id f ≡ false) (λ k. begun_fault (accepted_at accepted k)) stamps other))

-- the fault of a stamp alone has its id
stamp_alone : (accepted : List AcceptedStep) (active : List ℕ) (id stamp : ℕ) → AllPairs (Apart accepted) active → Contains active stamp
    → (begun_fault (accepted_at accepted stamp)).0 ≡ id → filter (has_id id) (faults_at accepted active) ≡ faults_at accepted (stamp ∷ [])
stamp_alone accepted active id stamp apart inside is =
    let f : ℕ → ℕ × FaultValue = λ k. begun_fault (accepted_at accepted k) in
    let s = split_at (Apart accepted) active stamp apart inside in
    let before = others_fail id accepted s.before (λ k d h. ne_eqb _ id (λ e. (s.below k d h).ids (e ∙ sym is))) in
    let after = others_fail id accepted s.after (λ k d h. ne_eqb _ id (λ e. (s.above k d h).ids (is ∙ sym e))) in
    let here : has_id id (f stamp) ≡ true = eq-eqb (f stamp).0 id is in
    rw (s.is, map-append f s.before (stamp ∷ s.after), filter-append (has_id id) (faults_at accepted s.before) (f stamp ∷ faults_at accepted s.after), before, here, after) refl

abbrev IsStamp : List AcceptedStep → ℕ → Type 0
IsStamp accepted k = (k < length accepted) × IsBegin (accepted_at accepted k)

-- one of some stamps
pub one_known : (accepted : List AcceptedStep) (stamps : List ℕ) (stamp : ℕ) → AreStamps accepted stamps → Contains stamps stamp → AreStamps accepted (stamp ∷ [])
one_known accepted stamps stamp known inside =
    All-cons (IsStamp accepted) stamp [] (All-contains (IsStamp accepted) stamps stamp known inside) (All-nil (IsStamp accepted))

-- a step and its undoing change the same
abbrev AreChanges : Active → Active → List FaultValue → Type 0
AreChanges before after named = IsChange before after named × IsChange after before named

module _ (nodes : ℕ) (accepted : List AcceptedStep) (right : AreRight nodes accepted) (n : ℕ) (within : n < length accepted) where
  step_changes : (step : AcceptedStep) → accepted_at accepted n ≡ step → AreChanges (moment accepted n) (moment accepted (n + 1)) (faults_in (faults_at accepted (stamps_changed n step)))
  step_changes (Begun id fault) at =
      let more = pushed_more id fault (moment accepted n) (begun_right nodes accepted right n within id fault at).2 in
      let both : AreChanges (moment accepted n) (moment accepted n ++ (id, fault) ∷ []) (fault ∷ []) = (begun _ _ _ more, ended _ _ _ more) in
      rw (at, begun_moment nodes accepted right n within id fault at) both
  step_changes (Withdrawn stamp) at =
      let id : ℕ = (begun_fault (accepted_at accepted stamp)).0 in
      let more = id_more id (moment accepted n) in
      let alone = stamp_alone accepted (active_after accepted n) id stamp (apart_after nodes accepted right n (omega arith)) (withdrawn_right nodes accepted right n within stamp at) refl in
      let both : AreChanges (moment accepted n) (active_without (moment accepted n) id) (faults_in (filter (has_id id) (moment accepted n))) = (ended _ _ _ more, begun _ _ _ more) in
      rw (withdrawn_moment nodes accepted right n within stamp at) (subst (λ (named : Active). AreChanges (moment accepted n) (active_without (moment accepted n) id) (faults_in named)) alone both)
  step_changes (WithdrawnAll stamps) at =
      let is : stamps.items ≡ active_after accepted n = subst (IsRight nodes accepted n) at (right n within) in
      let none : active_after accepted (n + 1) ≡ [] = rw (add-one n, at) refl in
      let more = all_more (moment accepted n) in
      let both : AreChanges (moment accepted n) [] (faults_in (moment accepted n)) = (ended _ _ _ more, begun _ _ _ more) in
      rw (none, is) both

  step_known : (step : AcceptedStep) → accepted_at accepted n ≡ step → AreStamps accepted (stamps_changed n step)
  step_known (Begun id fault) at =
      All-cons (IsStamp accepted) n [] (within, subst IsBegin (sym at) tt) (All-nil (IsStamp accepted))
  step_known (Withdrawn stamp) at =
      All-cons (IsStamp accepted) stamp [] (withdrawn_begin nodes accepted right n within stamp at) (All-nil (IsStamp accepted))
  step_known (WithdrawnAll stamps) at = rw (subst (IsRight nodes accepted n) at (right n within)) (are_stamps accepted n (omega arith))

  -- each of its stamps is that of a begin
  pub changed_known : AreStamps accepted (stamps_changed n (accepted_at accepted n))
  changed_known = step_known (accepted_at accepted n) refl

  pub changes : AreChanges (moment accepted n) (moment accepted (n + 1)) (faults_in (faults_at accepted (stamps_changed n (accepted_at accepted n))))
  changes = step_changes (accepted_at accepted n) refl

-- ---- at a step

-- these are the faults that the step begins or ends
pub record IsChangedBy (s : State) (step : Step) (named : List FaultValue) : Type 0 where
  pub is : changed_by s step ≡ named
  pub elsewhere : AgreeElsewhere (changed_by s step) (faults_in s.active) (faults_in (state_after s step).active)

between : (s : State) (step : Step) (named : List FaultValue) → IsChange s.active (state_after s step).active named → IsChangedBy s step named
between s step named change = record {
  is = change.is;
  elsewhere = subst (λ (faults : List FaultValue). AgreeElsewhere faults (faults_in s.active) (faults_in (state_after s step).active)) (sym change.is) change.elsewhere;
}

pub refused_none : (s : State) (step : Step) → is_ok (answer_of s step) ≡ false → changed_by s step ≡ []
refused_none s step refused = rw refused (unchanged s.active).is

-- of a step that is accepted, as a nemesis sees its fields
pub seen : (a : Inside) (n : NemesisValue) (step at : Step) (named : List FaultValue) → nemesis_of a ≡ n → step ≡ at
    → answer_of n.state step ≡ StepAnswer.Ok
    → (is_ok (answer_of (state_of a) at) ≡ true → IsChange (state_of a).active (state_after (state_of a) at).active named)
    → IsChangedBy n.state step named
seen a n step at named view is ok change =
    subst (λ (m : NemesisValue). answer_of m.state step ≡ StepAnswer.Ok → IsChangedBy m.state step named) view
    (subst (λ (t : Step). answer_of (state_of a) t ≡ StepAnswer.Ok → IsChangedBy (state_of a) t named) (sym is)
    (λ ok. between (state_of a) at named (change (ap is_ok ok)))) ok

undo_ok : (b : Bool) → is_ok (if b then StepAnswer.NothingToUndo else StepAnswer.Ok) ≡ true → b ≡ false
undo_ok true ok = cc
undo_ok false ok = refl

redo_ok : (b : Bool) → is_ok (if b then StepAnswer.NothingToRedo else StepAnswer.Ok) ≡ true → b ≡ false
redo_ok true ok = cc
redo_ok false ok = refl

module _ {env : EnvValue} {accepted : List AcceptedStep} {cursor : ℕ} {active : List ℕ} (sound : IsTrueTo env accepted cursor active) where
  abbrev now : State
  now = state_from env accepted cursor active

  undo_from : (n : ℕ) → cursor ≡ suc n
      → IsChange now.active (state_after now Undo).active (faults_in (faults_at accepted (stamps_changed n (accepted_at accepted n))))
  undo_from n at =
      let within : n < length accepted = let w = sound.within in omega (arith, at) in
      let both = rw (add-one n) at (changes (length env.names) accepted sound.right n within).1 in
      rw (sound.now, at) both

  pub undo_changes : is_ok (answer_of now Undo) ≡ true
      → IsChange now.active (state_after now Undo).active (faults_in (faults_at accepted (stamps_changed (cursor - 1) (accepted_at accepted (cursor - 1)))))
  undo_changes ok =
      let later : 0 < cursor = has_past accepted cursor (undo_ok (is_empty (past_of accepted cursor)) ok) in
      undo_from (cursor - 1) (omega arith)

  pub redo_changes : is_ok (answer_of now Redo) ≡ true
      → IsChange now.active (state_after now Redo).active (faults_in (faults_at accepted (stamps_changed cursor (accepted_at accepted cursor))))
  redo_changes ok =
      let h : cursor < length accepted = has_future accepted cursor (redo_ok (is_empty (future_of accepted cursor (length accepted - cursor))) ok) in
      let left : length accepted - cursor ≡ suc (length accepted - suc cursor) = omega arith in
      let both = rw (add-one cursor) at (changes (length env.names) accepted sound.right cursor h).0 in
      rw (left, sound.now) both

  -- the faults that an accepted step begins or ends
  pub begin_changes : (id : ℕ) (f : FaultValue) → is_ok (answer_of now (Begin id f)) ≡ true
      → IsChange now.active (state_after now (Begin id f)).active (f ∷ [])
  begin_changes id f ok =
      let new : is_active now.active id ≡ false = rw (append-nil now.active) at (fresh now id ok) in
      rw ok (begun _ _ _ (pushed_more id f now.active new))

  withdraw_gives : (id : ℕ) → is_ok (answer_of now (Withdraw id)) ≡ true
      → IsChange now.active (state_after now (Withdraw id)).active (faults_in (filter (has_id id) now.active))
  withdraw_gives id ok = rw ok (ended _ _ _ (id_more id now.active))

  pub withdraw_changes : (id stamp : ℕ) → is_ok (answer_of now (Withdraw id)) ≡ true → Contains active stamp
      → (begun_fault (accepted_at accepted stamp)).0 ≡ id
      → IsChange now.active (state_after now (Withdraw id)).active (faults_in (faults_at accepted (stamp ∷ [])))
  withdraw_changes id stamp ok inside is =
      subst (λ (named : Active). IsChange now.active (state_after now (Withdraw id)).active (faults_in named))
      (stamp_alone accepted active id stamp (apart sound) inside is) (withdraw_gives id ok)

  pub all_changes : is_ok (answer_of now WithdrawAll) ≡ true → IsChange now.active (state_after now WithdrawAll).active (faults_in now.active)
  all_changes ok = rw ok (ended _ _ _ (all_more now.active))
