-- The answers to numbered tasks (this project's own).
use Rattle.std.specs.Prelude.{◌≡◌, ◌<◌, ℕ, Bool, true, List, length, slice_get, Option, Some, None}

-- A place for the answer to each of so many tasks; each that is there is a right one of its number.
pub record AreTaskAnswers {A : Type 0} (count : ℕ) (Right : ℕ → A → Type 0)
    (answers : List (Option A)) : Type 0 where
  pub size : length answers ≡ count
  pub each : (number : ℕ) (answer : A) → slice_get answers number ≡ Some (Some answer)
      → Right number answer

-- a last answer stands before this number
abbrev pub HasLastBefore : {A : Type 0} → (A → Bool) → List (Option A) → ℕ → Type 0
HasLastBefore {A} is_last answers number =
    (earlier : ℕ) × (answer : A) × (earlier < number)
    × (slice_get answers earlier ≡ Some (Some answer)) × (is_last answer ≡ true)

-- No task was left undone, but behind a last answer.
abbrev pub AreDone : {A : Type 0} → (A → Bool) → List (Option A) → Type 0
AreDone is_last answers =
    (number : ℕ) → slice_get answers number ≡ Some None → HasLastBefore is_last answers number
