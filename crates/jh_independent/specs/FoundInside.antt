-- What is found so far, of the keys in front: proofs rest on it, and no public clause names it.
-- This project's own.
use Rattle.std.specs.Prelude.{◌≡◌, ℕ, ◌+◌, List, length, map, ◌++◌, All, slice_get, Option, Some}
use Rattle.std.specs.Prelude.{Result}
use Rattle.jh_edn.specs.View.{view}
use Rattle.jh_independent.specs.AnswersInside.{IsAnswerThrough}
use Rattle.jh_independent.specs.Keys.{history_keys, places_of}
use Rattle.jh_independent.specs.Refusals.{KeysQuestion, IsFindingOf}
use Rattle.jh_independent.specs.declared.error.KeysError.{KeysError}
use Rattle.jh_checkers.specs.declared.finding.Finding.{Finding}
use Rattle.jh_independent.specs.declared.serial.KeyFinding.{KeyFinding}
use Rattle.jh_independent.specs.declared.split.KeyPlaces.{KeyPlaces}

-- The keys that are left stand behind those that were judged, each with its places.
pub record IsFoundSoFar (asked : KeysQuestion) (found : List KeyFinding)
    (rest : List KeyPlaces) : Type 0 where
  pub keys : map (λ one. view one.key) found
      ++ map (λ group. view group.key) rest ≡ history_keys asked.history
  pub each : All (λ one. IsFindingOf asked (view one.key) one.finding) found
  pub places : All (λ group. group.places.items ≡ places_of (view group.key) asked.history) rest

-- the answers that are left, each at its place behind so many others
abbrev pub AreAnswersFrom : KeysQuestion → (ℕ → Type 0) → ℕ
    → List (Option (Result Finding KeysError)) → Type 0
AreAnswersFrom asked MayRefuse front answers =
    (place : ℕ) (answer : Result Finding KeysError) → slice_get answers place ≡ Some (Some answer)
    → IsAnswerThrough asked MayRefuse (front + place) answer

-- one answer is left for each key that is left
pub record AreCollected (asked : KeysQuestion) (MayRefuse : ℕ → Type 0) (found : List KeyFinding)
    (rest : List KeyPlaces) (left : List (Option (Result Finding KeysError))) : Type 0 where
  pub keys : IsFoundSoFar asked found rest
  pub answers : AreAnswersFrom asked MayRefuse (length found) left
  pub size : length left ≡ length rest
