-- What holds of a nemesis whose cursor goes back and forth, and where a step is put at it.
use Rattle.std.proofs.Common.{◌≡◌, ℕ, zero, suc, ◌+◌, ◌-◌, ◌≤◌, ◌<◌, Bool, true, false, not, eqb, inl, inr, List, [], ◌∷◌, ◌++◌, length, get_or, take, refl, sym, ap, ◌∙◌, arith, Global, Vec, length-append, length-take-le, get_or-take, add-one}
use Rattle.jh_edn.specs.Edn.{is_empty}
use Rattle.std.specs.Prelude.{if◌then◌else◌, nat_le}
use Rattle.std.specs.List.{All, AllPairs, Contains}
use Rattle.std.proofs.lemmas.Bool.{leb-false, cases_lt, eq-eqb, ne_eqb}
use Rattle.std.proofs.lemmas.List.Elements.{All-filter}
use Rattle.std.proofs.lemmas.List.{get_or_append_left, get_or_at, length-map, map-append}
use Rattle.jh_env.specs.Faults.{FaultValue, FitsCount}
use Rattle.jh_env.specs.Overlay.{EnvValue, StandsWith, KeepsStart}
use Rattle.jh_nemesis.specs.State.{State, Active, is_active, next_state, state_back_to, state_forth_to}
use Rattle.jh_nemesis.specs.Steps.{begin_answer, withdraw_answer, withdraw_all_answer, state_after, active_without}
use Rattle.jh_nemesis.specs.AcceptedInside.{accepted_at, stamps_after, stamps_before, active_after, begun_fault, faults_at, past_of, future_of, faults_with_stamps, AreStamps, IsBegin, IsRight, IsTrueTo}
use Rattle.jh_nemesis.specs.NemesisInside.{state_from}
use Rattle.jh_nemesis.specs.Work.{size_between}
use Rattle.jh_nemesis.specs.declared.accepted.AcceptedStep.{AcceptedStep}
use Rattle.jh_nemesis.specs.declared.accepted.AcceptedStep.TheVariants.{Begun, Withdrawn, WithdrawnAll}
use Rattle.jh_nemesis.specs.Steps.{max_active, max_steps}
use Rattle.jh_nemesis.specs.declared.steps.Step.TheVariants.{Begin, Withdraw, WithdrawAll}
use Rattle.jh_nemesis.specs.declared.steps.StepAnswer.TheVariants as StepAnswer
use Rattle.jh_nemesis.proofs.AcceptedLemmas.{SameBelow, same_active, same_faults, same_past, same_stamped, same_right, stamps_below, are_stamps, few_after, apart_after, back_again, without_stamp, length-past, Apart}

-- a cursor is at the start where no step lies before it
pub at_start : (accepted : List AcceptedStep) (cursor : ℕ) → eqb cursor 0 ≡ is_empty (past_of accepted cursor)
at_start accepted zero = refl
at_start accepted (suc n) = ne_eqb (suc n) 0 (λ e. absurd (omega arith))

pub has_past : (accepted : List AcceptedStep) (cursor : ℕ) → is_empty (past_of accepted cursor) ≡ false → 0 < cursor
has_past accepted zero h = absurd cc
has_past accepted (suc n) h = omega arith

-- and at the end where none lies after it
count_left : (accepted : List AcceptedStep) (cursor end count : ℕ) → cursor + count ≡ end
    → eqb cursor end ≡ is_empty (future_of accepted cursor count)
count_left accepted cursor end zero e = eq-eqb cursor end (omega arith)
count_left accepted cursor end (suc n) e = ne_eqb cursor end (λ same. absurd (omega arith))

pub at_end : (accepted : List AcceptedStep) (cursor : ℕ) → cursor ≤ length accepted
    → eqb cursor (length accepted) ≡ is_empty (future_of accepted cursor (length accepted - cursor))
at_end accepted cursor within = count_left accepted cursor (length accepted) (length accepted - cursor) (omega arith)

has_more : (accepted : List AcceptedStep) (cursor count : ℕ) → is_empty (future_of accepted cursor count) ≡ false → 0 < count
has_more accepted cursor zero h = absurd cc
has_more accepted cursor (suc n) h = omega arith

pub has_future : (accepted : List AcceptedStep) (cursor : ℕ) → is_empty (future_of accepted cursor (length accepted - cursor)) ≡ false
    → cursor < length accepted
has_future accepted cursor h = let more = has_more accepted cursor (length accepted - cursor) h in omega arith

tests_fail : (a b c : Bool)
    → (if a then StepAnswer.IdTaken else (if b then StepAnswer.TooManyActive else
    (if c then StepAnswer.TooManySteps else StepAnswer.Ok))) ≡ StepAnswer.Ok
    → (a ≡ false) × (b ≡ false) × (c ≡ false)
tests_fail true b c e = cc
tests_fail false true c e = cc
tests_fail false false true e = cc
tests_fail false false false e = (refl, refl, refl)

all_tests_fail : (a b : Bool)
    → (if a then StepAnswer.NothingActive else (if b then StepAnswer.TooManySteps else StepAnswer.Ok)) ≡ StepAnswer.Ok → b ≡ false
all_tests_fail true b e = cc
all_tests_fail false true e = cc
all_tests_fail false false e = refl

withdraw_tests_fail : (a b : Bool)
    → (if not a then StepAnswer.NotActive else (if b then StepAnswer.TooManySteps else StepAnswer.Ok)) ≡ StepAnswer.Ok → b ≡ false
withdraw_tests_fail false b e = cc
withdraw_tests_fail true true e = cc
withdraw_tests_fail true false e = refl

-- fewer steps lie in the past than can be kept
room_left : (accepted : List AcceptedStep) (cursor : ℕ) → nat_le max_steps (length (past_of accepted cursor)) ≡ false
    → cursor < max_steps
room_left accepted cursor e = rw (length-past accepted cursor) at (leb-false max_steps (length (past_of accepted cursor)) e)

module _ {env : EnvValue} {accepted : List AcceptedStep} {cursor : ℕ} {active : List ℕ}
    (sound : IsTrueTo env accepted cursor active) where
  -- what holds of the stamps that some of the steps make active
  pub known_at : (n : ℕ) (stamps : List ℕ) → n ≤ length accepted → stamps ≡ active_after accepted n → AreStamps accepted stamps
  known_at n stamps within is = rw is (are_stamps accepted n within)

  pub few_at : (n : ℕ) (stamps : List ℕ) → n ≤ length accepted → stamps ≡ active_after accepted n → length stamps ≤ max_active
  few_at n stamps within is = rw is (few_after (length env.names) accepted sound.right n within)

  pub known : AreStamps accepted active
  known = known_at cursor active sound.within sound.now

  -- the stamp that is read at i
  pub known_read : (i stamp : ℕ) → i < length active → stamp ≡ get_or active i stamp
      → (stamp < length accepted) × IsBegin (accepted_at accepted stamp)
  known_read i stamp below at = rw (← at) at (known i stamp below)

  pub apart : AllPairs (Apart accepted) active
  apart = rw sound.now (apart_after (length env.names) accepted sound.right cursor sound.within)

  -- the step before the cursor is taken back
  played_back_from : (n : ℕ) → cursor ≡ suc n → stamps_before (accepted_at accepted n) active ≡ active_after accepted n
  played_back_from n at =
      let within : n < length accepted = let w = sound.within in omega (arith, at) in
      let now : active ≡ active_after accepted (suc n) = sound.now ∙ ap (active_after accepted) at in
      let before = apart_after (length env.names) accepted sound.right n (omega arith) in
      rw now (back_again (length env.names) n accepted (accepted_at accepted n) (sound.right n within) before)

  pub played_back_is : 0 < cursor → stamps_before (accepted_at accepted (cursor - 1)) active ≡ active_after accepted (cursor - 1)
  played_back_is h = played_back_from (cursor - 1) (omega arith)

  -- the step at the cursor is taken
  pub played_is : stamps_after cursor (accepted_at accepted cursor) active ≡ active_after accepted (cursor + 1)
  played_is = rw (add-one cursor) (ap (stamps_after cursor (accepted_at accepted cursor)) sound.now)

  -- what holds once the cursor is elsewhere
  pub moved_true : (new : EnvValue) (n : ℕ) (stamps : List ℕ) → n ≤ length accepted → stamps ≡ active_after accepted n
      → KeepsStart env new
      → StandsWith new (faults_with_stamps accepted stamps) → IsTrueTo new accepted n stamps
  moved_true new n stamps within is same stands = record {
    within = within;
    short = sound.short;
    right = rw same.names sound.right;
    now = is;
    stands = stands;
  }

  state_back_from : (new : EnvValue) (n : ℕ) (stamps : List ℕ) → cursor ≡ suc n → stamps ≡ active_after accepted n
      → KeepsStart env new
      → state_from new accepted n stamps ≡ state_back_to (state_from env accepted cursor active) (past_of accepted cursor)
  state_back_from new n stamps at is same =
      let left : length accepted - n ≡ suc (length accepted - suc n) = let w = sound.within in omega (arith, at) in
      rw (left, sound.now, at, is, same.names, same.start) refl

  -- the state once the cursor went back
  pub state_back : (new : EnvValue) (stamps : List ℕ) → 0 < cursor → stamps ≡ active_after accepted (cursor - 1)
      → KeepsStart env new
      → state_from new accepted (cursor - 1) stamps ≡ state_back_to (state_from env accepted cursor active) (past_of accepted cursor)
  state_back new stamps h is same = state_back_from new (cursor - 1) stamps (omega arith) is same

  -- the state once the cursor went forth
  pub state_forth : (new : EnvValue) (stamps : List ℕ) → cursor < length accepted → stamps ≡ active_after accepted (cursor + 1)
      → KeepsStart env new
      → state_from new accepted (cursor + 1) stamps ≡ state_forth_to (state_from env accepted cursor active)
      (future_of accepted cursor (length accepted - cursor))
  state_forth new stamps h is same =
      let left : length accepted - cursor ≡ suc (length accepted - suc cursor) = omega arith in
      let now : stamps ≡ active_after accepted (suc cursor) = is ∙ ap (active_after accepted) (add-one cursor) in
      rw (add-one cursor, left, sound.now, now, same.names, same.start) refl

  module _ (step : AcceptedStep) where
    -- the steps once this one was put at the cursor
    abbrev pub put : List AcceptedStep
    put = take cursor accepted ++ step ∷ []

    put_same : SameBelow cursor accepted put
    put_same k below =
        let front : length (take cursor accepted) ≡ cursor = length-take-le cursor accepted sound.within in
        get_or_append_left (take cursor accepted) (step ∷ []) (Withdrawn 0) k (omega arith)
        ∙ get_or-take cursor accepted k (Withdrawn 0) below

    put_here : accepted_at put cursor ≡ step
    put_here = get_or_at (take cursor accepted) step [] (Withdrawn 0) cursor (length-take-le cursor accepted sound.within)

    pub put_long : length put ≡ suc cursor
    put_long =
        length-append (take cursor accepted) (step ∷ []) ∙ ap (λ n. n + 1) (length-take-le cursor accepted sound.within)
        ∙ add-one cursor

    put_faults : faults_at put active ≡ faults_at accepted active
    put_faults = same_faults cursor accepted put active put_same (rw sound.now (stamps_below accepted cursor))

    put_stamped : faults_with_stamps put active ≡ faults_with_stamps accepted active
    put_stamped = same_stamped cursor accepted put active put_same (rw sound.now (stamps_below accepted cursor))

    right_before : (nodes n : ℕ) → n < cursor → IsRight nodes accepted n (accepted_at accepted n)
        → IsRight nodes put n (accepted_at put n)
    right_before nodes n below right =
        rw (put_same n below) (same_right nodes n accepted put (accepted_at accepted n) (λ k h. put_same k (omega arith)) right)

    right_here : (nodes n : ℕ) → n ≡ cursor → IsRight nodes accepted cursor step → IsRight nodes put n (accepted_at put n)
    right_here nodes n at right = rw (at, put_here) (same_right nodes cursor accepted put step put_same right)

    -- what holds once a step that could be taken was put at the cursor
    pub put_true : cursor < max_steps → IsRight (length env.names) accepted cursor step → IsTrueTo env put cursor active
    put_true room right = record {
      within = omega (arith, put_long);
      short = omega (arith, put_long);
      right = λ n inside.
          elim (cases_lt n cursor) as (λ _. IsRight (length env.names) put n (accepted_at put n)) [
            | inl below ↦ right_before (length env.names) n below (sound.right n (omega arith))
            | inr past ↦ right_here (length env.names) n (omega (arith, put_long)) right
          ];
      now = sound.now ∙ sym (same_active cursor accepted put put_same);
      stands = rw put_stamped sound.stands;
    }

    pub put_future : is_empty (future_of put cursor (length put - cursor)) ≡ false
    put_future =
        sym (at_end put cursor (omega (arith, put_long)))
        ∙ ne_eqb cursor (length put) (λ e. absurd (omega (arith, put_long)))

    -- the state once that step was taken
    pub put_state : (next : Active) → faults_at put (stamps_after cursor step active) ≡ next
        → state_forth_to (state_from env put cursor active) (future_of put cursor (length put - cursor))
        ≡ next_state (state_from env accepted cursor active) next
    put_state next is =
        let left : length put - cursor ≡ suc zero = omega (arith, put_long) in
        let now : active_after put cursor ≡ active = same_active cursor accepted put put_same ∙ sym sound.now in
        rw (left, put_here, now, is, put_faults, same_past cursor accepted put put_same) refl

    -- what was written at most once that step was taken
    pub put_work : (items : List AcceptedStep) (new after : State) (written work : ℕ) → items ≡ put → new ≡ after
        → written ≤ work + size_between (faults_at items active) new.active
        → written ≤ work + size_between (faults_at accepted active) after.active
    put_work items new after written work is same bound = rw (is, put_faults, same) at bound

  -- the active faults after each kind of step
  pub begun_faults : (id : ℕ) (fault : FaultValue)
      → faults_at (put (Begun id fault)) (stamps_after cursor (Begun id fault) active) ≡ faults_at accepted active ++ (id, fault) ∷ []
  begun_faults id fault =
      let all = put (Begun id fault) in
      map-append (λ k. begun_fault (accepted_at all k)) active (cursor ∷ [])
      ∙ rw (put_faults (Begun id fault), put_here (Begun id fault)) refl

  pub withdrawn_faults : (id stamp : ℕ) → Contains active stamp → (begun_fault (accepted_at accepted stamp)).0 ≡ id
      → faults_at (put (Withdrawn stamp)) (stamps_after cursor (Withdrawn stamp) active) ≡ active_without (faults_at accepted active) id
  withdrawn_faults id stamp inside is =
      let step : AcceptedStep = Withdrawn stamp in
      let below : All (λ k. k < cursor) active = rw sound.now (stamps_below accepted cursor) in
      same_faults cursor accepted (put step) (stamps_after cursor step active) (put_same step)
      (All-filter (λ k. not (eqb k stamp)) (λ k. k < cursor) active below)
      ∙ without_stamp accepted active id stamp apart inside is

  -- the state once a step was put at the cursor and taken
  taken : (step : AcceptedStep) (items : List AcceptedStep) (new : State) (next : Active) → items ≡ put step
      → new ≡ state_forth_to (state_from env items cursor active) (future_of items cursor (length items - cursor))
      → faults_at (put step) (stamps_after cursor step active) ≡ next
      → new ≡ next_state (state_from env accepted cursor active) next
  taken step items new next is forth faults = rw is at forth ∙ put_state step next faults

  pub begun_state : (id : ℕ) (fault : FaultValue) (items : List AcceptedStep) (new : State) → items ≡ put (Begun id fault)
      → new ≡ state_forth_to (state_from env items cursor active) (future_of items cursor (length items - cursor))
      → begin_answer (state_from env accepted cursor active) id ≡ StepAnswer.Ok
      → new ≡ state_after (state_from env accepted cursor active) (Begin id fault)
  begun_state id fault items new is forth ok =
      rw ok (taken (Begun id fault) items new (faults_at accepted active ++ (id, fault) ∷ []) is forth (begun_faults id fault))

  pub withdrawn_state : (id stamp : ℕ) (items : List AcceptedStep) (new : State) → items ≡ put (Withdrawn stamp)
      → Contains active stamp → (begun_fault (accepted_at accepted stamp)).0 ≡ id
      → new ≡ state_forth_to (state_from env items cursor active) (future_of items cursor (length items - cursor))
      → withdraw_answer (state_from env accepted cursor active) id ≡ StepAnswer.Ok
      → new ≡ state_after (state_from env accepted cursor active) (Withdraw id)
  withdrawn_state id stamp items new is inside at forth ok =
      rw ok (taken (Withdrawn stamp) items new (active_without (faults_at accepted active) id) is forth (withdrawn_faults id stamp inside at))

  pub all_withdrawn_state : (stamps : Vec ℕ Global) (items : List AcceptedStep) (new : State) → items ≡ put (WithdrawnAll stamps)
      → new ≡ state_forth_to (state_from env items cursor active) (future_of items cursor (length items - cursor))
      → withdraw_all_answer (state_from env accepted cursor active) ≡ StepAnswer.Ok
      → new ≡ state_after (state_from env accepted cursor active) WithdrawAll
  all_withdrawn_state stamps items new is forth ok = rw ok (taken (WithdrawnAll stamps) items new [] is forth refl)

  -- a step that is accepted could be taken, and there is room for it
  pub withdraw_right : (nodes stamp : ℕ) → Contains active stamp → IsRight nodes accepted cursor (Withdrawn stamp)
  withdraw_right nodes stamp inside = rw sound.now at inside

  pub withdraw_room : (id : ℕ) → withdraw_answer (state_from env accepted cursor active) id ≡ StepAnswer.Ok → cursor < max_steps
  withdraw_room id ok =
      room_left accepted cursor
      (withdraw_tests_fail (is_active (faults_at accepted active) id) (nat_le max_steps (length (past_of accepted cursor))) ok)

  pub all_room : withdraw_all_answer (state_from env accepted cursor active) ≡ StepAnswer.Ok → cursor < max_steps
  all_room ok =
      room_left accepted cursor
      (all_tests_fail (is_empty (faults_at accepted active)) (nat_le max_steps (length (past_of accepted cursor))) ok)

  pub all_right : (nodes : ℕ) (stamps : Vec ℕ Global) → stamps.items ≡ active → IsRight nodes accepted cursor (WithdrawnAll stamps)
  all_right nodes stamps is = is ∙ sound.now

  pub begin_right : (id : ℕ) (fault : FaultValue) → begin_answer (state_from env accepted cursor active) id ≡ StepAnswer.Ok
      → FitsCount (length env.names) fault
      → IsRight (length env.names) accepted cursor (Begun id fault) × (cursor < max_steps)
  begin_right id fault ok fits =
      let t =
      tests_fail (is_active (faults_at accepted active) id) (nat_le max_active (length (faults_at accepted active)))
      (nat_le max_steps (length (past_of accepted cursor))) ok in
      let few : length (faults_at accepted active) < max_active = leb-false max_active (length (faults_at accepted active)) t.1 in
      let few : length active < max_active = rw (length-map active (λ k. begun_fault (accepted_at accepted k))) at few in
      let free : is_active (faults_at accepted active) id ≡ false = t.0 in
      ((fits, rw sound.now at few, rw sound.now at free), room_left accepted cursor t.2)
