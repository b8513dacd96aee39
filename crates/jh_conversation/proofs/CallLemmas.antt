-- When calls are given.
use Rattle.std.proofs.Common.{◌≡◌, ◌≢◌, ℕ, suc, ◌+◌, ◌≤◌, true, false, List, [], ◌∷◌, ◌++◌, refl}
use Rattle.std.proofs.Common.{sym, ap, ◌∙◌, arith, subst}
use mathlib.Core.Logic.{◌⊎◌, inl, inr}
use Rattle.std.specs.Prelude.{None, Option, Some, if◌then◌else◌}
use Rattle.std.proofs.lemmas.Bool.{and_parts, eqb-true, false≢true, le-leb, leb-false, leb-true}
use Rattle.std.proofs.lemmas.Bool.{not-true}
use Rattle.jh_lines.specs.Answering.{after_lines}
use Rattle.jh_conversation.specs.Laws.{AreTimely, Drivers, IsAtRate, IsBeforeFinal, IsBeforeLimit}
use Rattle.jh_conversation.specs.Laws.{invocations_in, run, start, took}
use Rattle.jh_conversation.specs.Lines.{is_test_over, is_end_phase, count_line, take_line, stops_after}
use Rattle.jh_conversation.specs.Lines.{stops_by, take_in}
use Rattle.jh_test_parts.specs.LineMeanings.{line_meaning}
use Rattle.jh_conversation.specs.Machine.{Machine}
use Rattle.jh_test_parts.specs.Test.{TestValue}
use Rattle.jh_conversation.specs.Turn.{has_come, keeps_rate, may_call, may_call_in_phase, turn}
use Rattle.jh_conversation.specs.declared.phase.Phase.{Phase}
use Rattle.jh_conversation.specs.declared.phase.Phase.TheVariants.{Main, Heal, Rest, Final, Over}
use Rattle.jh_conversation.proofs.KeptLemmas.{IsKeptByLine, IsKeptInTurn, by_answers, kept_lines}
use Rattle.jh_conversation.proofs.KeptLemmas.{kept_run, kept_take_in, kept_turn}

-- It is over, or was stopped so often.
abbrev HasStopped : ℕ → Machine → Type 0
HasStopped count m = (m.phase ≡ Over) ⊎ (count ≤ m.stops)

-- and until *final* begins so many calls were given
abbrev HasGivenMain : ℕ → Machine → Type 0
HasGivenMain n m = HasStopped 1 m × (IsBeforeFinal m.phase → invocations_in m.history ≡ n)

-- and so many calls were given
abbrev HasGiven : ℕ → Machine → Type 0
HasGiven n m = HasStopped 2 m × (invocations_in m.history ≡ n)

phase_before : (phase next : Phase) → phase ≡ next → IsBeforeFinal next → IsBeforeFinal phase
phase_before phase next is h = subst IsBeforeFinal (sym is) h

main_over : Main ≢ Over
main_over e = cc

heal_over : Heal ≢ Over
heal_over e = cc

rest_over : Rest ≢ Over
rest_over e = cc

final_over : Final ≢ Over
final_over e = cc

-- a phase that goes over to the next one was not the end
still : (count : ℕ) (m : Machine) (phase : Phase) → phase ≢ Over → m.phase ≡ phase → HasStopped count m → count ≤ m.stops
still count m phase differs is (inl over) = absurd (differs (sym is ∙ over))
still count m phase differs is (inr stopped) = stopped

main_gives_none : (t : TestValue) (phase : Phase) (stops given now : ℕ) → 1 ≤ stops → may_call_in_phase phase t stops given now ≡ true → IsBeforeFinal phase → ⊥
main_gives_none t Main stops given now stopped may before =
    let none : stops ≡ 0 = eqb-true _ _ (and_parts _ _ may).0 in omega (arith, stopped, none)
main_gives_none t Heal stops given now stopped may before = false≢true may
main_gives_none t Rest stops given now stopped may before = false≢true may
main_gives_none t Final stops given now stopped may before = before
main_gives_none t Over stops given now stopped may before = before

gives_none : (t : TestValue) (phase : Phase) (stops given now : ℕ) → 2 ≤ stops → may_call_in_phase phase t stops given now ≡ true → ⊥
gives_none t Main stops given now stopped may =
    let none : stops ≡ 0 = eqb-true _ _ (and_parts _ _ may).0 in omega (arith, stopped, none)
gives_none t Heal stops given now stopped may = false≢true may
gives_none t Rest stops given now stopped may = false≢true may
gives_none t Final stops given now stopped may = false≢true (sym (not-true _ may) ∙ le-leb 2 stops stopped)
gives_none t Over stops given now stopped may = false≢true may

over_gives_none : (t : TestValue) (m : Machine) → m.phase ≡ Over → may_call t m ≡ true → ⊥
over_gives_none t m over may = false≢true (ap (λ p. may_call_in_phase p t m.stops m.given m.clock) (sym over) ∙ (and_parts _ _ may).1)

stopped_gives_none : (t : TestValue) (m : Machine) → HasStopped 2 m → may_call t m ≡ true → ⊥
stopped_gives_none t m (inl over) may = over_gives_none t m over may
stopped_gives_none t m (inr stopped) may = gives_none t m.phase m.stops m.given m.clock stopped (and_parts _ _ may).1

stopped_gives_none_before : (t : TestValue) (m : Machine) → HasStopped 1 m → may_call t m ≡ true → IsBeforeFinal m.phase → ⊥
stopped_gives_none_before t m (inl over) may before = over_gives_none t m over may
stopped_gives_none_before t m (inr stopped) may before = main_gives_none t m.phase m.stops m.given m.clock stopped (and_parts _ _ may).1 before

main_in_turn : (t : TestValue) (n : ℕ) → IsKeptInTurn t (HasGivenMain n)
main_in_turn t n = record {
  calls = by_answers _ _ (record {
    asks = λ m d w h. h;
    spends = λ m h. h;
    invokes = λ m thread request within idle may h. (h.0, λ before. absurd (stopped_gives_none_before t m h.0 may before));
  });
  begins = λ m due w d h. h;
  heals = λ m is e h. (inr (still 1 m Main main_over is h.0), λ _. h.1 (phase_before _ _ is tt));
  rests = λ m is w q h. (inr (still 1 m Heal heal_over is h.0), λ _. h.1 (phase_before _ _ is tt));
  ends_rest = λ m is h. (inl refl, λ b. absurd b);
  finals = λ m d is f h. (inr (still 1 m Rest rest_over is h.0), λ b. absurd b);
  ends_final = λ m is e h. (inl refl, λ b. absurd b);
}

more_stops : (count : ℕ) (m : Machine) (more : ℕ) → count ≤ 2 → HasStopped count m → (m.phase ≡ Over) ⊎ (count ≤ stops_after more m.stops)
more_stops count m more few (inl over) = inl over
more_stops count m more few (inr stopped) = inr (omega (arith, few, stopped))

main_by_line : (t : TestValue) (n : ℕ) → IsKeptByLine t (HasGivenMain n)
main_by_line t n = record {
  counts_line = λ m h. h;
  clocks = λ m time h. h;
  stops = λ m h. (more_stops 1 m (stops_by m.phase) (omega arith) h.0, h.1);
  refuses = λ m why h. (more_stops 1 m 2 (omega arith) h.0, h.1);
  step_ends = λ m w op e h. h;
  finishes = λ m thread c op e no fits h. h;
}

given_in_turn : (t : TestValue) (n : ℕ) → IsKeptInTurn t (HasGiven n)
given_in_turn t n = record {
  calls = by_answers _ _ (record {
    asks = λ m d w h. h;
    spends = λ m h. h;
    invokes = λ m thread request within idle may h. absurd (stopped_gives_none t m h.0 may);
  });
  begins = λ m due w d h. h;
  heals = λ m is e h. (inr (still 2 m Main main_over is h.0), h.1);
  rests = λ m is w q h. (inr (still 2 m Heal heal_over is h.0), h.1);
  ends_rest = λ m is h. (inl refl, h.1);
  finals = λ m d is f h. (inr (still 2 m Rest rest_over is h.0), h.1);
  ends_final = λ m is e h. (inl refl, h.1);
}

given_by_line : (t : TestValue) (n : ℕ) → IsKeptByLine t (HasGiven n)
given_by_line t n = record {
  counts_line = λ m h. h;
  clocks = λ m time h. h;
  stops = λ m h. (more_stops 2 m (stops_by m.phase) (omega arith) h.0, h.1);
  refuses = λ m why h. (more_stops 2 m 2 (omega arith) h.0, h.1);
  step_ends = λ m w op e h. h;
  finishes = λ m thread c op e no fits h. h;
}

-- a line gives no call by itself
same_calls : (t : TestValue) (n : ℕ) → IsKeptByLine t (λ m. invocations_in m.history ≡ n)
same_calls t n = record {
  counts_line = λ m h. h;
  clocks = λ m time h. h;
  stops = λ m h. h;
  refuses = λ m why h. h;
  step_ends = λ m w op e h. h;
  finishes = λ m thread c op e no fits h. h;
}

pub after_both : (t : TestValue) (m : Machine) (lines more : List (List ℕ)) → after_lines (take_line t) m (lines ++ more) ≡ after_lines (take_line t) (after_lines (take_line t) m lines) more
after_both t m [] more = refl
after_both t m (line ∷ lines) more = after_both t (take_line t m line) lines more

pub over_is : (phase : Phase) → is_end_phase phase ≡ true → phase ≡ Over
over_is Main e = absurd (false≢true e)
over_is Heal e = absurd (false≢true e)
over_is Rest e = absurd (false≢true e)
over_is Final e = absurd (false≢true e)
over_is Over e = refl

-- what a line is taken in for
took_same : (t : TestValue) (m : Machine) (line : List ℕ) → invocations_in (take_in t (line_meaning line) (count_line m)).history ≡ invocations_in m.history
took_same t m line = kept_take_in t (λ n. invocations_in n.history ≡ invocations_in m.history) (same_calls t (invocations_in m.history)) (count_line m) (line_meaning line) refl

module _ (t : TestValue) (m : Machine) (line : List ℕ) where
  main_stops : 1 ≤ (take_in t (line_meaning line) (count_line m)).stops → HasGivenMain (invocations_in m.history) (take_line t m line)
  main_stops stopped =
      (elim (is_test_over m) as (λ b. is_test_over m ≡ b → HasGivenMain (invocations_in m.history) (if b then count_line m else turn t (take_in t (line_meaning line) (count_line m)))) [
        | true ↦ λ e. (inl (over_is m.phase e), λ _. refl)
        | false ↦ λ _. kept_turn t (HasGivenMain (invocations_in m.history)) (main_in_turn t (invocations_in m.history)) (take_in t (line_meaning line) (count_line m))
            (inr stopped, λ _. took_same t m line)
      ]) refl

  all_stop : 2 ≤ (take_in t (line_meaning line) (count_line m)).stops → HasGiven (invocations_in m.history) (take_line t m line)
  all_stop stopped =
      (elim (is_test_over m) as (λ b. is_test_over m ≡ b → HasGiven (invocations_in m.history) (if b then count_line m else turn t (take_in t (line_meaning line) (count_line m)))) [
        | true ↦ λ e. (inl (over_is m.phase e), refl)
        | false ↦ λ _. kept_turn t (HasGiven (invocations_in m.history)) (given_in_turn t (invocations_in m.history)) (take_in t (line_meaning line) (count_line m))
            (inr stopped, took_same t m line)
      ]) refl

pub stop_ends_main : (t : TestValue) (d : Drivers t) (lines more : List (List ℕ)) (line : List ℕ) → 1 ≤ (took t d lines line).stops
    → IsBeforeFinal (run t d (lines ++ line ∷ more)).phase → invocations_in (run t d (lines ++ line ∷ more)).history ≡ invocations_in (run t d lines).history
stop_ends_main t d lines more line stopped before =
    let n = invocations_in (run t d lines).history in
    let late = kept_lines t (HasGivenMain n) (main_in_turn t n) (main_by_line t n) more (take_line t (run t d lines) line) (main_stops t (run t d lines) line stopped) in
    let both = after_both t (start t d) lines (line ∷ more) in
    ap (λ m. invocations_in m.history) both ∙ late.1 (subst (λ (m : Machine). IsBeforeFinal m.phase) both before)

pub two_stops_end : (t : TestValue) (d : Drivers t) (lines more : List (List ℕ)) (line : List ℕ) → 2 ≤ (took t d lines line).stops
    → invocations_in (run t d (lines ++ line ∷ more)).history ≡ invocations_in (run t d lines).history
two_stops_end t d lines more line stopped =
    let n = invocations_in (run t d lines).history in
    let late = kept_lines t (HasGiven n) (given_in_turn t n) (given_by_line t n) more (take_line t (run t d lines) line) (all_stop t (run t d lines) line stopped) in
    ap (λ m. invocations_in m.history) (after_both t (start t d) lines (line ∷ more)) ∙ late.1

-- Calls come in time.

abbrev IsInTime : TestValue → Machine → Type 0
IsInTime t m = (IsBeforeFinal m.phase → AreTimely t m.history) × (invocations_in m.history ≡ m.given)

before_limit : (most : Option ℕ) (now : ℕ) → has_come most now ≡ false → IsBeforeLimit most now
before_limit None now e = tt
before_limit (Some most) now e = leb-false _ _ e

at_rate : (rate : Option ℕ) (given now : ℕ) → keeps_rate rate given now ≡ true → IsAtRate rate given now
at_rate None given now e = tt
at_rate (Some rate) given now e = leb-true _ _ e

timely_call : (t : TestValue) (phase : Phase) (stops given now : ℕ) → IsBeforeFinal phase → may_call_in_phase phase t stops given now ≡ true
    → IsBeforeLimit t.time_limit now × IsAtRate t.rate given now
timely_call t Main stops given now before may =
    let both = and_parts _ _ (and_parts _ _ may).1 in (before_limit t.time_limit now (not-true _ both.0), at_rate t.rate given now both.1)
timely_call t Heal stops given now before may = absurd (false≢true may)
timely_call t Rest stops given now before may = absurd (false≢true may)
timely_call t Final stops given now before may = absurd before
timely_call t Over stops given now before may = absurd before

timely_in_turn : (t : TestValue) → IsKeptInTurn t (IsInTime t)
timely_in_turn t = record {
  calls = by_answers _ _ (record {
    asks = λ m d w h. h;
    spends = λ m h. h;
    invokes = λ m thread request within idle may h. (
      (λ before. let c = timely_call t m.phase m.stops m.given m.clock before (and_parts _ _ may).1 in
          (c.0, subst (λ n. IsAtRate t.rate n m.clock) (sym h.1) c.1, h.0 before)),
      ap suc h.1 ∙ omega arith,
    );
  });
  begins = λ m due w d h. h;
  heals = λ m is e h. ((λ _. h.0 (phase_before _ _ is tt)), h.1);
  rests = λ m is w q h. ((λ _. h.0 (phase_before _ _ is tt)), h.1);
  ends_rest = λ m is h. ((λ b. absurd b), h.1);
  finals = λ m d is f h. ((λ b. absurd b), h.1);
  ends_final = λ m is e h. ((λ b. absurd b), h.1);
}

timely_by_line : (t : TestValue) → IsKeptByLine t (IsInTime t)
timely_by_line t = record {
  counts_line = λ m h. h;
  clocks = λ m time h. h;
  stops = λ m h. h;
  refuses = λ m why h. h;
  step_ends = λ m w op e h. h;
  finishes = λ m thread c op e no fits h. h;
}

pub calls_timely : (t : TestValue) (d : Drivers t) (lines : List (List ℕ)) → IsBeforeFinal (run t d lines).phase → AreTimely t (run t d lines).history
calls_timely t d lines before = (kept_run t d (IsInTime t) (timely_in_turn t) (timely_by_line t) lines ((λ _. tt), refl)).0 before
