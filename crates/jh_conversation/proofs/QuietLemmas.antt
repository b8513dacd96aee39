-- From *rest* on no fault is active.
use Rattle.std.proofs.Common.{◌≡◌, ℕ, true, List, sym, subst}
use Rattle.std.specs.Prelude.{None, Some}
use Rattle.jh_edn.specs.Edn.{is_empty}
use Rattle.jh_conversation.specs.Laws.{Drivers, IsPastHeal, run}
use Rattle.jh_conversation.specs.Machine.{Machine}
use Rattle.jh_test_parts.specs.Test.{TestValue}
use Rattle.jh_conversation.specs.Turn.{due_in_phase}
use Rattle.jh_conversation.specs.declared.turns.Due.{Due}
use Rattle.jh_conversation.specs.declared.phase.Phase.{Phase}
use Rattle.jh_conversation.specs.declared.phase.Phase.TheVariants.{Main, Heal, Rest, Final, Over}
use Rattle.jh_conversation.proofs.KeptLemmas.{IsKeptByLine, IsKeptInTurn, by_answers, kept_run}

abbrev IsQuietNow : Machine → Type 0
IsQuietNow m = IsPastHeal m.phase → is_empty m.nemesis.active ≡ true

none-some : {A : Type 0} (x : A) → None ≡ Some x → ⊥
none-some x e = cc

none_due : (t : TestValue) (m : Machine) (due : Due) (phase : Phase) → IsPastHeal phase → due_in_phase phase t m ≡ Some due → ⊥
none_due t m due Main past is = past
none_due t m due Heal past is = past
none_due t m due Rest past is = none-some due is
none_due t m due Final past is = none-some due is
none_due t m due Over past is = none-some due is

past : (phase next : Phase) → next ≡ phase → IsPastHeal phase → IsPastHeal next
past phase next is h = subst IsPastHeal (sym is) h

quiet_in_turn : (t : TestValue) → IsKeptInTurn t IsQuietNow
quiet_in_turn t = record {
  calls = by_answers _ _ (record { asks = λ m d w h. h; spends = λ m h. h; invokes = λ m thread request within idle may h. h });
  begins = λ m due w d h p. absurd (none_due t m due m.phase p d);
  heals = λ m is e h p. absurd p;
  rests = λ m is w quiet h _. quiet;
  ends_rest = λ m is h _. h (past Rest m.phase is tt);
  finals = λ m d is f h _. h (past Rest m.phase is tt);
  ends_final = λ m is e h _. h (past Final m.phase is tt);
}

quiet_by_line : (t : TestValue) → IsKeptByLine t IsQuietNow
quiet_by_line t = record {
  counts_line = λ m h. h;
  clocks = λ m time h. h;
  stops = λ m h. h;
  refuses = λ m why h. h;
  step_ends = λ m w op e h. h;
  finishes = λ m thread c op e no fits h. h;
}

pub rest_is_quiet : (t : TestValue) (d : Drivers t) (lines : List (List ℕ)) → IsPastHeal (run t d lines).phase → is_empty (run t d lines).nemesis.active ≡ true
rest_is_quiet t d lines = kept_run t d IsQuietNow (quiet_in_turn t) (quiet_by_line t) lines (λ p. absurd p)
