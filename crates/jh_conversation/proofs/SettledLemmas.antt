-- A turn ends, and what a machine then waits for.
use Rattle.std.proofs.Common.{◌≡◌, ◌≢◌, ℕ, zero, suc, ◌+◌, ◌<◌, ◌≤◌, ◌==◌, Bool, true, false, not}
use Rattle.std.proofs.Common.{◌&&◌, ◌||◌, nat_le, List, [], ◌∷◌, length, set, get_or, refl, sym, ap}
use Rattle.std.proofs.Common.{◌∙◌, arith, length-set}
use mathlib.Core.Logic.{◌⊎◌, inl, inr}
use Rattle.std.specs.Prelude.{Option, None, Some, if◌then◌else◌}
use Rattle.std.proofs.lemmas.Bool.{and_from, not_from_false, false≢true, true≢false, eqb-true}
use Rattle.std.proofs.lemmas.Bool.{eqb-false, leb-false, cases_Bool}
use Rattle.jh_edn.specs.Edn.{is_empty}
use Rattle.jh_gen.specs.DriverState.{DriverState}
use Rattle.jh_lines.specs.Answering.{after_lines}
use Rattle.jh_nemesis.specs.State.{first_state}
use Rattle.jh_conversation.specs.Laws.{Drivers, Waits, run, start}
use Rattle.jh_conversation.specs.Laws.Waits.{IsOver, ForCall, ForStep, ForRate, ForRecovery}
use Rattle.jh_conversation.specs.Laws.Waits.{ForGenerator}
use Rattle.jh_conversation.specs.Lines.{at_first, is_test_over, count_line, take_line, take_in}
use Rattle.jh_test_parts.specs.LineMeanings.{line_meaning}
use Rattle.jh_conversation.specs.Machine.{Machine, are_free, has_no_call, no_caller, caller_of}
use Rattle.jh_test_parts.specs.Test.{TestValue}
use Rattle.jh_conversation.specs.Turn.{after_rest, begin_due, call_made, calls, due_in_phase, end}
use Rattle.jh_conversation.specs.Turn.{final, go_on, has_come, has_healed, has_recovered}
use Rattle.jh_conversation.specs.Turn.{keeps_rate, may_call, may_call_in_phase, move, move_from}
use Rattle.jh_conversation.specs.Turn.{are_calls_stopped, passes, round, rounds, step, turn, when}
use Rattle.jh_conversation.specs.Turn.{work}
use Rattle.jh_conversation.specs.declared.turns.Due.{Due}
use Rattle.jh_test_parts.specs.declared.calls.ValuedCall.{ValuedCall}
use Rattle.jh_conversation.specs.declared.callers.Caller.{Caller}
use Rattle.jh_conversation.specs.declared.callers.OpenStep.{OpenStep}
use Rattle.jh_conversation.specs.declared.phase.Phase.{Phase}
use Rattle.jh_conversation.specs.declared.phase.Phase.TheVariants.{Main, Heal, Rest, Final, Over}
use Rattle.jh_conversation.proofs.CallLemmas.{over_is}
use Rattle.jh_conversation.proofs.FormedLemmas.{Holds, holds_at_first, holds_by_line, holds_in_turn}
use Rattle.jh_conversation.proofs.KeptLemmas.{IfMoved, IsKeptByCalls, by_answers, kept_calls}
use Rattle.jh_conversation.proofs.KeptLemmas.{kept_move, kept_line, kept_round, kept_run}
use Rattle.jh_conversation.proofs.KeptLemmas.{kept_step, kept_take_in, kept_turn, kept_work}

-- rounds: each call takes a free caller

abbrev free_callers : List Caller → ℕ
free_callers [] = 0
free_callers (x ∷ callers) = if has_no_call x.call then suc (free_callers callers) else free_callers callers

few_free : (callers : List Caller) → free_callers callers ≤ length callers
few_free [] = omega arith
few_free (x ∷ callers) = let h = few_free callers in elim (has_no_call x.call) as (λ b. (if b then suc (free_callers callers) else free_callers callers) ≤ suc (length callers)) [ true ↦ omega arith | false ↦ omega arith ]

caller_taken : (callers : List Caller) (t : ℕ) (call : ValuedCall) (life : ℕ) → t < length callers → (get_or callers t no_caller).call ≡ None
    → suc (free_callers (set callers t (record { used_numbers = life; call = Some call }))) ≡ free_callers callers
caller_taken [] t call life h e = absurd (omega arith)
caller_taken (x ∷ callers) zero call life h e = sym (ap (λ c. if has_no_call c then suc (free_callers callers) else free_callers callers) e)
caller_taken (x ∷ callers) (suc t) call life h e =
    let rest = caller_taken callers t call life (omega arith) e in
    elim (has_no_call x.call) as (λ b. suc ((if b then suc (free_callers (set callers t (record { used_numbers = life; call = Some call }))) else free_callers (set callers t (record { used_numbers = life; call = Some call }))))
    ≡ (if b then suc (free_callers callers) else free_callers callers)) [ true ↦ ap suc rest | false ↦ rest ]

-- calls given and free callers are so many together, and no fewer calls than before were given
record Trades (clients total before : ℕ) (callers : List Caller) (given : ℕ) : Type 0 where
  all : given + free_callers callers ≡ total
  more : before ≤ given
  wide : length callers ≡ clients

trades_by_calls : (s : TestValue) (total before : ℕ) → IsKeptByCalls s (λ m. Trades s.clients total before m.callers m.given)
trades_by_calls s total before = by_answers _ _ (record {
  asks = λ m d w h. h;
  spends = λ m h. h;
  invokes = λ m thread request within idle may h.
      let taken = caller_taken m.callers thread (call_made s m thread request) (caller_of m thread).used_numbers (omega (arith, h.wide)) idle in
      record { all = omega (arith, h.all, taken); more = omega (arith, h.more); wide = length-set m.callers thread _ ∙ h.wide };
})

abbrev HasLast : TestValue → Machine → Type 0
HasLast s after = (last : Machine) × (after ≡ round s last) × ((round s last).given ≡ last.given)

rounds_settle : (s : TestValue) (n : ℕ) (m : Machine) → length m.callers ≡ s.clients → free_callers m.callers < n → HasLast s (rounds s n m)
rounds_settle s zero m wide h = absurd (omega arith)
rounds_settle s (suc n) m wide h =
    (elim ((round s m).given == m.given) as (λ b. ((round s m).given == m.given) ≡ b → HasLast s (if b then round s m else rounds s n (round s m))) [
      | true ↦ λ e. (m, refl, eqb-true _ _ e)
      | false ↦ λ e.
          let trade = kept_round s (λ c. Trades s.clients (m.given + free_callers m.callers) m.given c.callers c.given) (trades_by_calls s (m.given + free_callers m.callers) m.given) m
          (record { all = refl; more = omega arith; wide = wide }) in
          let differ : (round s m).given ≢ m.given = eqb-false _ _ e in
          rounds_settle s n (round s m) trade.wide (omega (arith, trade.all, trade.more, differ))
    ]) refl

calls_settle : (s : TestValue) (m : Machine) → length m.callers ≡ s.clients → HasLast s (calls s m)
calls_settle s m wide = let few = few_free m.callers in rounds_settle s (suc s.clients) m wide (omega (arith, few, wide))

-- passes: the phase goes down

abbrev rank : Phase → ℕ
rank Main = 4
rank Heal = 3
rank Rest = 2
rank Final = 1
rank Over = 0

rank_few : (phase : Phase) → rank phase < 5
rank_few Main = omega arith
rank_few Heal = omega arith
rank_few Rest = omega arith
rank_few Final = omega arith
rank_few Over = omega arith

when_is : (b : Bool) (m next : Machine) → when b m ≡ Some next → m ≡ next
when_is true m next e = cc
when_is false m next e = absurd (cc e)

when_not : (b : Bool) (m : Machine) → when b m ≡ None → b ≡ false
when_not true m e = absurd (cc e)
when_not false m e = refl

lower_rest : (s : TestValue) (m next : Machine) (f : Option DriverState) → after_rest s f m ≡ Some next → rank next.phase < 2
lower_rest s m next None e = let k : end m ≡ next = cc e in let j : 0 ≡ rank next.phase = ap (λ x. rank x.phase) k in omega arith
lower_rest s m next (Some g) e =
    (elim (nat_le 2 m.stops) as (λ b. (if b then Some (end m) else when (has_recovered s m) (final s g m)) ≡ Some next → rank next.phase < 2) [
      | true ↦ λ f. let k : end m ≡ next = cc f in let j : 0 ≡ rank next.phase = ap (λ x. rank x.phase) k in omega arith
      | false ↦ λ f. let k : 1 ≡ rank next.phase = ap (λ x. rank x.phase) (when_is _ _ next f) in omega arith
    ]) e

lower_from : (s : TestValue) (m next : Machine) (phase : Phase) → move_from phase s m ≡ Some next → rank next.phase < rank phase
lower_from s m next Main e = let k : 3 ≡ rank next.phase = ap (λ x. rank x.phase) (when_is _ _ next e) in omega arith
lower_from s m next Heal e = let k : 2 ≡ rank next.phase = ap (λ x. rank x.phase) (when_is _ _ next e) in omega arith
lower_from s m next Rest e = lower_rest s m next m.final_calls e
lower_from s m next Final e = let k : 0 ≡ rank next.phase = ap (λ x. rank x.phase) (when_is _ _ next e) in omega arith
lower_from s m next Over e = absurd (cc e)

abbrev IsIn : Phase → Machine → Type 0
IsIn phase m = m.phase ≡ phase

stays_by_calls : (s : TestValue) (phase : Phase) → IsKeptByCalls s (IsIn phase)
stays_by_calls s phase = by_answers _ _ (record { asks = λ m d w h. h; spends = λ m h. h; invokes = λ m t c w i y h. h })

step_stays : (s : TestValue) (m : Machine) → (step s m).phase ≡ m.phase
step_stays s m = go m.step (due_in_phase m.phase s m)
  where
    go : (w : Option OpenStep) (due : Option Due) → (begin_due m w due).phase ≡ m.phase
    go None None = refl
    go None (Some due) = refl
    go (Some w) None = refl
    go (Some w) (Some due) = refl

work_stays : (s : TestValue) (m : Machine) → (work s m).phase ≡ m.phase
work_stays s m = kept_calls s (IsIn m.phase) (stays_by_calls s m.phase) (step s m) (step_stays s m)

-- in *heal* no step is due that doesn't wait
abbrev IsHealing : TestValue → Machine → Type 0
IsHealing s m = m.phase ≡ Heal → m.step ≡ None → is_empty m.nemesis.active ≡ true

healing_by_calls : (s : TestValue) → IsKeptByCalls s (IsHealing s)
healing_by_calls s = by_answers _ _ (record { asks = λ m d w h. h; spends = λ m h. h; invokes = λ m t c w i y h. h })

step_heals : (s : TestValue) (m : Machine) → IsHealing s (step s m)
step_heals s m = go m.step (due_in_phase m.phase s m) refl refl
  where
    quiet : (b : Bool) (due : Due) → (if b then None else Some due) ≡ None → b ≡ true
    quiet true due e = refl
    quiet false due e = absurd (cc e)

    go : (w : Option OpenStep) (due : Option Due) → m.step ≡ w → due_in_phase m.phase s m ≡ due → IsHealing s (begin_due m w due)
    go None None e f is none = quiet _ _ (ap (λ p. due_in_phase p s m) (sym is) ∙ f)
    go None (Some due) e f is none = absurd (cc none)
    go (Some w) None e f is none = absurd (cc (e, none))
    go (Some w) (Some due) e f is none = absurd (cc (e, none))

pub record Settled (s : TestValue) (m : Machine) : Type 0 where
  pub last : Machine
  pub is : m ≡ round s last
  pub same : (round s last).given ≡ last.given
  pub stays : move s (round s last) ≡ None
  pub heals : IsHealing s m

passes_settle : (s : TestValue) (n : ℕ) (m : Machine) → Holds s m → rank m.phase < n → Settled s (passes s n m)
passes_settle s zero m h few = absurd (omega arith)
passes_settle s (suc n) m h few = go (λ next less kept. passes_settle s n next kept less) (move s (work s m)) refl (kept_move s (Holds s) (holds_in_turn s) (work s m) (kept_work s (Holds s) (holds_in_turn s) m h))
  where
    go : ((next : Machine) → rank next.phase < n → Holds s next → Settled s (passes s n next)) → (next : Option Machine) → move s (work s m) ≡ next
        → IfMoved (Holds s) next → Settled s (go_on (passes s n) (work s m) next)
    go more None e kept =
        let settled = calls_settle s (step s m) (kept_step s (Holds s) (holds_in_turn s) m h).0.wide in
        record { last = settled.0; is = settled.1; same = settled.2; stays = ap (move s) (sym settled.1) ∙ e; heals = kept_calls s (IsHealing s) (healing_by_calls s) (step s m) (step_heals s m) }
    go more (Some next) e kept =
        let less = lower_from s (work s m) next (work s m).phase e in
        let same = ap rank (work_stays s m) in
        more next (omega (arith, less, same)) kept

pub turn_settles : (s : TestValue) (m : Machine) → Holds s m → Settled s (turn s m)
unfolding turn
turn_settles s m h = passes_settle s 5 m h (rank_few m.phase)

pub turn_law : (t : TestValue) (d : Drivers t) (lines : List (List ℕ)) (line : List ℕ) → is_test_over (run t d lines) ≡ false
    → (last : Machine) × (take_line t (run t d lines) line ≡ round t last)
    × ((round t last).given ≡ last.given) × (move t (round t last) ≡ None)
turn_law t d lines line goes =
    let h = turn_settles t (take_in t (line_meaning line) (count_line (run t d lines))) (kept_take_in t (Holds t) (holds_by_line t) (count_line (run t d lines)) (line_meaning line)
    (kept_run t d (Holds t) (holds_in_turn t) (holds_by_line t) lines (holds_at_first t d))) in
    (h.last, ap (λ b. if b then count_line (run t d lines) else turn t (take_in t (line_meaning line) (count_line (run t d lines)))) goes ∙ h.is, h.same, h.stays)

-- what it waits for

free_or_busy : (free spent more : Bool) → (free && (spent || more)) ≡ false → (free ≡ false) ⊎ ((free ≡ true) × (spent ≡ false) × (more ≡ false))
free_or_busy false spent more e = inl refl
free_or_busy true true more e = absurd (true≢false e)
free_or_busy true false more e = inr (refl, refl, e)

main_goes : (stopped late : Bool) → (not stopped || late) ≡ false → (stopped ≡ true) × (late ≡ false)
main_goes true late e = (refl, e)
main_goes false late e = absurd (true≢false e)

may_be : (t : TestValue) (m : Machine) → m.has_spent ≡ false → may_call_in_phase m.phase t m.stops m.given m.clock ≡ true → may_call t m ≡ true
may_be t m goes may = and_from _ _ (not_from_false _ goes) may

waits_rest : (t : TestValue) (m : Machine) (f : Option DriverState) → m.phase ≡ Rest → after_rest t f m ≡ None → Waits t m
waits_rest t m None is e = absurd (cc e)
waits_rest t m (Some d) is e =
    (elim (nat_le 2 m.stops) as (λ b. (if b then Some (end m) else when (has_recovered t m) (final t d m)) ≡ None → Waits t m) [
      | true ↦ λ f. absurd (cc f)
      | false ↦ λ f. ForRecovery is (leb-false _ _ (when_not _ _ f))
    ]) e

waits_settled : (t : TestValue) (m : Machine) → Settled t m → Waits t m
waits_settled t m h = go m.phase refl
  where
    stays : (phase : Phase) → m.phase ≡ phase → move_from phase t m ≡ None
    stays phase is = ap (λ p. move_from p t m) (sym is) ∙ ap (move t) h.is ∙ h.stays

    asked : are_free m.callers ≡ true → may_call t m ≡ true → Waits t m
    asked free may = ForGenerator h.last h.is (ap (λ c. c.given) h.is ∙ h.same) free may

    ended : (phase : Phase) → m.phase ≡ phase → (are_free m.callers && (m.has_spent || are_calls_stopped m.phase t m.stops m.clock)) ≡ false
        → (are_free m.callers ≡ false) ⊎ ((are_free m.callers ≡ true) × (m.has_spent ≡ false) × (are_calls_stopped phase t m.stops m.clock ≡ false))
    ended phase is e = free_or_busy _ _ _ (ap (λ p. are_free m.callers && (m.has_spent || are_calls_stopped p t m.stops m.clock)) (sym is) ∙ e)

    in_main : m.phase ≡ Main → (are_free m.callers ≡ false) ⊎ ((are_free m.callers ≡ true) × (m.has_spent ≡ false) × (are_calls_stopped Main t m.stops m.clock ≡ false)) → Waits t m
    in_main is (inl busy) = ForCall busy
    in_main is (inr (free, goes, more)) = rated (main_goes _ _ more) (cases_Bool (keeps_rate t.rate m.given m.clock))
      where
        rated : ((m.stops == 0) ≡ true) × (has_come t.time_limit m.clock ≡ false) → (keeps_rate t.rate m.given m.clock ≡ true) ⊎ (keeps_rate t.rate m.given m.clock ≡ false) → Waits t m
        rated early (inr fast) = ForRate is fast
        rated early (inl slow) = asked free (may_be t m goes (ap (λ p. may_call_in_phase p t m.stops m.given m.clock) is ∙ and_from _ _ early.0 (and_from _ _ (not_from_false _ early.1) slow)))

    in_final : m.phase ≡ Final → (are_free m.callers ≡ false) ⊎ ((are_free m.callers ≡ true) × (m.has_spent ≡ false) × (are_calls_stopped Final t m.stops m.clock ≡ false)) → Waits t m
    in_final is (inl busy) = ForCall busy
    in_final is (inr (free, goes, more)) = asked free (may_be t m goes (ap (λ p. may_call_in_phase p t m.stops m.given m.clock) is ∙ not_from_false _ more))

    in_heal : m.phase ≡ Heal → (w : Option OpenStep) → m.step ≡ w → has_healed m w ≡ false → Waits t m
    in_heal is None none e = absurd (false≢true (sym e ∙ h.heals is none))
    in_heal is (Some w) waits e = ForStep w waits

    go : (phase : Phase) → m.phase ≡ phase → Waits t m
    go Main is = in_main is (ended Main is (when_not _ _ (stays Main is)))
    go Heal is = in_heal is m.step refl (when_not _ _ (stays Heal is))
    go Rest is = waits_rest t m m.final_calls is (stays Rest is)
    go Final is = in_final is (ended Final is (when_not _ _ (stays Final is)))
    go Over is = IsOver is

waits_line : (t : TestValue) (m : Machine) (line : List ℕ) → Holds t m → Waits t (take_line t m line)
waits_line t m line h =
    (elim (is_test_over m) as (λ b. is_test_over m ≡ b → Waits t (if b then count_line m else turn t (take_in t (line_meaning line) (count_line m)))) [
      | true ↦ λ e. IsOver (over_is m.phase e)
      | false ↦ λ _. waits_settled t (turn t (take_in t (line_meaning line) (count_line m))) (turn_settles t (take_in t (line_meaning line) (count_line m)) (kept_take_in t (Holds t) (holds_by_line t) (count_line m) (line_meaning line) h))
    ]) refl

waits_lines : (t : TestValue) (lines : List (List ℕ)) (m : Machine) → Holds t m → Waits t m → Waits t (after_lines (take_line t) m lines)
waits_lines t [] m h w = w
waits_lines t (line ∷ lines) m h w =
    waits_lines t lines (take_line t m line) (kept_line t (Holds t) (holds_in_turn t) (holds_by_line t) m line h) (waits_line t m line h)

pub always_waits : (t : TestValue) (d : Drivers t) (lines : List (List ℕ)) → Waits t (run t d lines)
always_waits t d lines =
    waits_lines t lines (start t d) (kept_turn t (Holds t) (holds_in_turn t) (at_first t d.first d.final_calls (first_state t.start)) (holds_at_first t d))
    (waits_settled t (start t d) (turn_settles t (at_first t d.first d.final_calls (first_state t.start)) (holds_at_first t d)))
