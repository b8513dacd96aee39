-- The replay: the edits of steps, and that no list has two faults of one id.
use Rattle.std.proofs.Common.{◌≡◌, ℕ, suc, ◌+◌, ◌<◌, Bool, true, false, cond, List, [], ◌∷◌, ◌++◌, length, get_or, Option, Some, None, refl, sym, ap, ◌∙◌, arith, subst}
use Rattle.std.specs.Prelude.{ℤ, ◌||◌, insert, not, position, remove}
use Rattle.std.specs.List.{position_from}
use Rattle.std.specs.Option.{option_map_or}
use Rattle.std.specs.Ordering.{int_eq}
use Rattle.std.proofs.lemmas.List.Edits.{insert_end}
use Rattle.std.proofs.lemmas.Iterator.Adapters.{position_from-zero}
use Rattle.jh_edn.specs.Edn.{Edn, is_empty}
use Rattle.jh_ops.specs.Operation.{Operation, is_client}
use Rattle.jh_bands.specs.Bands.{MomentValue, active_lists, asked_in, done_step, moment_behind}
use Rattle.jh_bands.specs.BandsInside.{AllHaveOwnIds, HaveOwnIds, HasOwnIds, IsNewAt, IsOnlyAt, view_begun, view_all_begun, view_step}
use Rattle.jh_bands.specs.Replay.{ActiveList, ReplayValue, StepValue, begin, withdraw, withdraw_all, undo, redo, list_without, is_under, is_id_active, next_active, next_replay, replay_after, replay_back_to, replay_forth_to}
use Rattle.jh_bands.specs.declared.step.Fault.{Fault}
use Rattle.jh_bands.specs.declared.step.Step.{Step}
use Rattle.jh_bands.proofs.ActiveLemmas.{active_at, distinct_behind, distinct_filtered, only_at, same_id, withdrawn}
use Rattle.jh_bands.proofs.EditLemmas.{length_views}

-- ---- places

none_from : (id : ℤ) (i : ℕ) (xs : List Fault) → position_from (λ fault. int_eq fault.id id) i xs ≡ None → is_id_active id (view_all_begun xs) ≡ false
none_from id i [] e = refl
none_from id i (x ∷ xs) e = decided (int_eq x.id id) (position_from (λ fault. int_eq fault.id id) (i + 1) xs) e (none_from id (i + 1) xs)
  where
    decided : (b : Bool) (found : Option ℕ) → cond b (Some i) found ≡ None → (found ≡ None → is_id_active id (view_all_begun xs) ≡ false)
        → (b || is_id_active id (view_all_begun xs)) ≡ false
    decided true found e rest = absurd (cc)
    decided false found e rest = rest e

-- a fault of the id stands so many places behind the first
pub record IsFound (id : ℤ) (place : ℕ) (active : ActiveList) : Type 0 where
  pub within : place < length active
  pub same : (d : ℤ × Edn) → int_eq (get_or active place d).0 id ≡ true

found_from : (id : ℤ) (i place : ℕ) (xs : List Fault) → position_from (λ fault. int_eq fault.id id) i xs ≡ Some place
    → (k : ℕ) × (place ≡ i + k) × IsFound id k (view_all_begun xs)
found_from id i place [] e = absurd (cc)
found_from id i place (x ∷ xs) e =
    decided (int_eq x.id id) (position_from (λ fault. int_eq fault.id id) (i + 1) xs) refl e (found_from id (i + 1) place xs)
  where
    decided : (b : Bool) (found : Option ℕ) → int_eq x.id id ≡ b → cond b (Some i) found ≡ Some place
        → (found ≡ Some place → (k : ℕ) × (place ≡ i + 1 + k) × IsFound id k (view_all_begun xs)) → (k : ℕ) × (place ≡ i + k) × IsFound id k (view_all_begun (x ∷ xs))
    decided true found alike e rest = let here : i ≡ place = cc in (0, omega arith, record { within = omega arith; same = λ d. alike })
    decided false found unlike e rest =
        let more = rest e in (suc more.0, omega (arith, more.1), record { within = omega (arith, more.2.within); same = more.2.same })

not_found : (id : ℤ) (xs : List Fault) → position (λ fault. int_eq fault.id id) xs ≡ None → is_id_active id (view_all_begun xs) ≡ false
not_found id xs e = none_from id 0 xs (sym (position_from-zero (λ fault. int_eq fault.id id) xs) ∙ e)

found_at : (id : ℤ) (place : ℕ) (xs : List Fault) → position (λ fault. int_eq fault.id id) xs ≡ Some place → IsFound id place (view_all_begun xs)
found_at id place xs e =
    let found = found_from id 0 place xs (sym (position_from-zero (λ fault. int_eq fault.id id) xs) ∙ e) in
    let same : found.0 ≡ place = omega (arith, found.1) in
    subst (λ k. IsFound id k (view_all_begun xs)) same found.2

found_active : (id : ℤ) (place : ℕ) (active : ActiveList) (d : ℤ × Edn) → IsFound id place active → is_id_active id active ≡ true
found_active id place active d found =
    subst (λ i. is_id_active i active ≡ true) (same_id (get_or active place d).0 id (found.same d)) (active_at active place d found.within)

-- ---- the edits of steps

pub begun_already : (fault : Fault) (place : ℕ) (xs : List Fault) → position (λ other. int_eq other.id fault.id) xs ≡ Some place
    → None ≡ next_active (view_all_begun xs) (begin fault.id (view_begun fault).1)
begun_already fault place xs e =
    ap (λ b. cond b None (Some (view_all_begun xs ++ view_begun fault ∷ []))) (sym (found_active fault.id place (view_all_begun xs) (view_begun fault) (found_at fault.id place xs e)))

pub begun_last : (fault : Fault) (place : ℕ) (xs : List Fault) → place ≡ length xs → position (λ other. int_eq other.id fault.id) xs ≡ None
    → Some (insert (view_all_begun xs) place (view_begun fault)) ≡ next_active (view_all_begun xs) (begin fault.id (view_begun fault).1)
begun_last fault place xs last e =
    ap (λ p. Some (insert (view_all_begun xs) p (view_begun fault))) (last ∙ sym (length_views xs)) ∙ ap (λ a. Some a) (insert_end (view_all_begun xs) (view_begun fault))
    ∙ ap (λ b. cond b None (Some (view_all_begun xs ++ view_begun fault ∷ []))) (sym (not_found fault.id xs e))

pub new_last : (fault : Fault) (place : ℕ) (xs : List Fault) → place ≡ length xs → position (λ other. int_eq other.id fault.id) xs ≡ None
    → IsNewAt place (view_begun fault) (view_all_begun xs)
new_last fault place xs last e = record { within = omega (arith, length_views xs, last); new = not_found fault.id xs e }

pub withdrawn_at : (id : ℤ) (place : ℕ) (xs : List Fault) → HaveOwnIds (view_all_begun xs) → position (λ fault. int_eq fault.id id) xs ≡ Some place
    → Some (remove (view_all_begun xs) place) ≡ next_active (view_all_begun xs) (withdraw id)
withdrawn_at id place xs distinct e = at (view_all_begun xs) distinct (found_at id place xs e)
  where
    at : (active : ActiveList) → HaveOwnIds active → IsFound id place active → Some (remove active place) ≡ next_active active (withdraw id)
    at [] distinct found = absurd (omega (arith, found.within))
    at (f ∷ fs) distinct found =
        ap (λ left. Some left) (sym (withdrawn (f ∷ fs) place f id distinct found.within (found.same f)))
        ∙ ap (λ b. cond b (Some (list_without id (f ∷ fs))) None) (sym (found_active id place (f ∷ fs) f found))

pub only_found : (id : ℤ) (place : ℕ) (xs : List Fault) → HaveOwnIds (view_all_begun xs) → position (λ fault. int_eq fault.id id) xs ≡ Some place
    → IsOnlyAt place (view_all_begun xs)
only_found id place xs distinct e =
    let found = found_at id place xs e in
    record { within = found.within; only = λ d. only_at (view_all_begun xs) place d distinct found.within }

pub not_withdrawn : (id : ℤ) (xs : List Fault) → position (λ fault. int_eq fault.id id) xs ≡ None → None ≡ next_active (view_all_begun xs) (withdraw id)
not_withdrawn id xs e = ap (λ b. cond b (Some (list_without id (view_all_begun xs))) None) (sym (not_found id xs e))

-- ---- no two of one id

distinct_next : (active next : ActiveList) (step : StepValue) → HaveOwnIds active → next_active active step ≡ Some next → HaveOwnIds next
distinct_next active next (begin id fault) distinct e = tested (is_id_active id active) refl e
  where
    tested : (b : Bool) → is_id_active id active ≡ b → cond b None (Some (active ++ (id, fault) ∷ [])) ≡ Some next → HaveOwnIds next
    tested true is e = absurd (cc)
    tested false unlike e = let same : active ++ (id, fault) ∷ [] ≡ next = cc in subst HaveOwnIds same (distinct_behind active (id, fault) distinct unlike)
distinct_next active next (withdraw id) distinct e = tested (is_id_active id active) e
  where
    tested : (b : Bool) → cond b (Some (list_without id active)) None ≡ Some next → HaveOwnIds next
    tested true e =
        let same : list_without id active ≡ next = cc in
        subst HaveOwnIds same (distinct_filtered (λ fault. not (is_under id fault)) active distinct)
    tested false e = absurd (cc)
distinct_next active next withdraw_all distinct e = tested (is_empty active) e
  where
    tested : (b : Bool) → cond b None (Some []) ≡ Some next → HaveOwnIds next
    tested true e = absurd (cc)
    tested false e = let same : [] ≡ next = cc in subst HaveOwnIds same tt
distinct_next active next undo distinct e = absurd (cc)
distinct_next active next redo distinct e = absurd (cc)

distinct_on : (r : ReplayValue) (next : Option ActiveList) → HasOwnIds r → ((a : ActiveList) → next ≡ Some a → HaveOwnIds a) → HasOwnIds (option_map_or (next_replay r) next r)
distinct_on r None has h = has
distinct_on r (Some a) has h = record { past = (has.active, has.past); active = h a refl; future = tt }

distinct_back : (r : ReplayValue) (lists : List ActiveList) → HasOwnIds r → AllHaveOwnIds lists → HasOwnIds (replay_back_to r lists)
distinct_back r [] has all = has
distinct_back r (last ∷ before) has all = record { past = all.1; active = all.0; future = (has.active, has.future) }

distinct_forth : (r : ReplayValue) (lists : List ActiveList) → HasOwnIds r → AllHaveOwnIds lists → HasOwnIds (replay_forth_to r lists)
distinct_forth r [] has all = has
distinct_forth r (first ∷ after) has all = record { past = (has.active, has.past); active = all.0; future = all.1 }

pub distinct_after : (r : ReplayValue) (step : StepValue) → HasOwnIds r → HasOwnIds (replay_after r step)
distinct_after r (begin id fault) has =
    distinct_on r (next_active r.active (begin id fault)) has (λ a e. distinct_next r.active a (begin id fault) has.active e)
distinct_after r (withdraw id) has = distinct_on r (next_active r.active (withdraw id)) has (λ a e. distinct_next r.active a (withdraw id) has.active e)
distinct_after r withdraw_all has = distinct_on r (next_active r.active withdraw_all) has (λ a e. distinct_next r.active a withdraw_all has.active e)
distinct_after r undo has = distinct_back r r.past has has.past
distinct_after r redo has = distinct_forth r r.future has has.future

distinct_done : (r : ReplayValue) (step : Option StepValue) → HasOwnIds r → HasOwnIds (option_map_or (replay_after r) step r)
distinct_done r None has = has
distinct_done r (Some step) has = distinct_after r step has

pub distinct_passed : (steps : List Edn) (m : MomentValue) (op : Operation) → HasOwnIds m.replay → HasOwnIds (moment_behind steps m op).replay
distinct_passed steps m op has = passed (is_client op.process)
  where
    passed : (b : Bool) → HasOwnIds (cond b m (record { asked = asked_in steps op; replay = option_map_or (replay_after m.replay) (done_step m.asked op) m.replay })).replay
    passed true = has
    passed false = distinct_done m.replay (done_step m.asked op) has

pub distinct_lists : (steps : List Edn) (m : MomentValue) (ops : List Operation) → HasOwnIds m.replay → AllHaveOwnIds (active_lists steps m ops)
distinct_lists steps m [] has = tt
distinct_lists steps m (op ∷ ops) has =
    let next = distinct_passed steps m op has in (next.active, distinct_lists steps (moment_behind steps m op) ops next)

-- a step that begins or withdraws, by the list that it makes
pub replayed : (r : ReplayValue) (step : Step) (next : Option ActiveList) → (step ≡ Step.Undo → ⊥) → (step ≡ Step.Redo → ⊥)
    → next ≡ next_active r.active (view_step step) → option_map_or (next_replay r) next r ≡ replay_after r (view_step step)
replayed r (Step.Begin fault) next unlike_undo unlike_redo e = ap (λ n. option_map_or (next_replay r) n r) e
replayed r (Step.Withdraw id) next unlike_undo unlike_redo e = ap (λ n. option_map_or (next_replay r) n r) e
replayed r Step.WithdrawAll next unlike_undo unlike_redo e = ap (λ n. option_map_or (next_replay r) n r) e
replayed r Step.Undo next unlike_undo unlike_redo e = absurd (unlike_undo refl)
replayed r Step.Redo next unlike_undo unlike_redo e = absurd (unlike_redo refl)
