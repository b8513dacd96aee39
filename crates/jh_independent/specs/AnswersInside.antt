-- What the keys that threads share are answered: proofs rest on it, and no public clause names it.
-- This project's own.
use Rattle.std.specs.Prelude.{◌≡◌, ℕ, List, [], length, slice_get, Option, Some}
use Rattle.std.specs.Prelude.{Result, Ok, Err, IsErrOf}
use Rattle.jh_edn.specs.Edn.{Edn}
use Rattle.jh_ops.specs.Operation.{Operation}
use Rattle.jh_tasks.specs.Answers.{AreTaskAnswers}
use Rattle.jh_independent.specs.Keys.{history_keys}
use Rattle.jh_independent.specs.SplitInside.{groups_of, view_groups}
use Rattle.jh_independent.specs.declared.split.KeyPlaces.{KeyPlaces}
use Rattle.jh_independent.specs.Refusals.{KeysQuestion, IsFindingOf, RefusesKey, keys_question}
use Rattle.jh_independent.specs.declared.error.KeysError.{KeysError}
use Rattle.jh_independent.specs.declared.error.KeysError.TheVariants.{Thread}
use Rattle.jh_checkers.specs.declared.checker.Checker.{Checker}
use Rattle.jh_checkers.specs.Findings.{judging_by}
use Rattle.jh_checkers.specs.declared.finding.Judging.{Judging}
use Rattle.jh_checkers.specs.declared.finding.Finding.{Finding}

-- what no call asks
abbrev pub no_question : KeysQuestion
no_question = record { history = []; judging = judging_by Checker.Set 0 }

-- how many keys are to be judged
abbrev pub keys_count : KeysQuestion → ℕ
keys_count asked = length (history_keys asked.history)

-- a key was judged so
abbrev pub IsAnswer : KeysQuestion → Edn → Result Finding KeysError → Type 0
IsAnswer asked key (Ok found) = IsFindingOf asked key found
IsAnswer asked key (Err error) = RefusesKey asked key error

-- the key of this place, if there is one, was judged so
abbrev pub IsAnswerAt : KeysQuestion → ℕ → Result Finding KeysError → Type 0
IsAnswerAt asked place answer =
    (key : Edn) → slice_get (history_keys asked.history) place ≡ Some key
    → IsAnswer asked key answer

-- the key of this place was judged so, and had no thread only where it may be refused one
pub record IsAnswerThrough (asked : KeysQuestion) (MayRefuse : ℕ → Type 0) (place : ℕ)
    (answer : Result Finding KeysError) : Type 0 where
  pub judged : IsAnswerAt asked place answer
  pub let_in : IsErrOf answer Thread → MayRefuse place

-- a place for the answer of each key, and what was answered
abbrev pub AreAnswers : KeysQuestion → (ℕ → Type 0) → List (Option (Result Finding KeysError))
    → Type 0
AreAnswers asked MayRefuse answers =
    AreTaskAnswers (keys_count asked) (IsAnswerThrough asked MayRefuse) answers

-- a key of some place may be refused its thread
abbrev pub RefusesSome : (ℕ → Type 0) → Type 0
RefusesSome MayRefuse = (place : ℕ) × MayRefuse place

-- the question, and the places of the keys in the history that is asked about
pub record AreKeysAsked (asked : KeysQuestion) (judging : Judging) (history : List Operation)
    (groups : List KeyPlaces) : Type 0 where
  pub question_is : keys_question judging history ≡ asked
  pub groups_are : view_groups groups ≡ groups_of history
