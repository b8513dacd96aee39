-- The times of records never go back.
use Rattle.std.proofs.Common.{ℕ, ◌<◌, ◌≤◌, ◌^◌, List, [], ◌∷◌, arith}
use Rattle.jh_conversation.specs.Laws.{Drivers, AreTimesInOrder, run, time_of}
use Rattle.jh_conversation.specs.Lines.{clock_after}
use Rattle.jh_conversation.specs.Machine.{Machine}
use Rattle.jh_test_parts.specs.Test.{TestValue}
use Rattle.jh_test_parts.specs.declared.records.Recorded.{Recorded}
use Rattle.jh_conversation.proofs.KeptLemmas.{IsKeptByLine, IsKeptInTurn, by_answers, kept_run}

abbrev KeepsTime : Machine → Type 0
KeepsTime m = (m.clock < 2 ^ 63) × AreTimesInOrder m.clock m.history

later : (now then : ℕ) (past : List Recorded) → now ≤ then → AreTimesInOrder now past → AreTimesInOrder then past
later now then [] h order = tt
later now then (r ∷ past) h order = (let k : time_of r ≤ now = order.0 in omega arith, order.1)

time_in_turn : (t : TestValue) → IsKeptInTurn t KeepsTime
time_in_turn t = record {
  calls = by_answers _ _ (record { asks = λ m d w h. h; spends = λ m h. h; invokes = λ m thread request w i y h. (h.0, (omega arith, h.1)) });
  begins = λ m due w d h. (h.0, (omega arith, h.1));
  heals = λ m is e h. h;
  rests = λ m is w q h. h;
  ends_rest = λ m is h. h;
  finals = λ m d is f h. h;
  ends_final = λ m is e h. h;
}

time_by_line : (t : TestValue) → IsKeptByLine t KeepsTime
time_by_line t = record {
  counts_line = λ m h. h;
  clocks = λ m time h. (omega arith, later m.clock (clock_after m.clock time) m.history (omega (arith, h.0)) h.1);
  stops = λ m h. h;
  refuses = λ m why h. h;
  step_ends = λ m w op e h. (h.0, (omega arith, h.1));
  finishes = λ m thread c op e no fits h. (h.0, (omega arith, h.1));
}

pub times_in_order : (t : TestValue) (d : Drivers t) (lines : List (List ℕ)) → AreTimesInOrder (run t d lines).clock (run t d lines).history
times_in_order t d lines = (kept_run t d KeepsTime (time_in_turn t) (time_by_line t) lines (omega arith, tt)).1
