-- What is left of a failing schedule when entries are taken out (this project's own). That no
-- single entry can be spared is what Zeller and Hildebrandt call 1-minimal ("Simplifying and
-- Isolating Failure-Inducing Input", 2002). `Answers` stands for what a judge answered of a
-- schedule: that it fails, that it passes, or nothing.
use Rattle.std.specs.Prelude.{◌≡◌, ℕ, ◌<◌, ◌⊎◌, Bool, true, false, List, [], ◌∷◌, length, Option}
use Rattle.std.specs.Prelude.{Some, None, ⊤}
use Rattle.std.specs.List.{remove}
use Rattle.jh_simnode.specs.declared.schedule.Entry.{Entry}
use Rattle.jh_shrink.specs.declared.shrinking.Shrunk.{Shrunk}
use Rattle.jh_shrink.specs.declared.shrinking.Shrunk.TheVariants.{Minimal, Budget, NotFailing}
use Rattle.jh_shrink.specs.declared.shrinking.ShrinkError.{ShrinkError}
use Rattle.jh_shrink.specs.declared.shrinking.ShrinkError.TheVariants.{Judge, OutOfMemory}

-- the one list is what is left of the other when some of its elements are taken out
abbrev pub IsSubsequence : {X : Type 0} → List X → List X → Type 0
IsSubsequence [] ys = ⊤
IsSubsequence (x ∷ xs) [] = ⊥
IsSubsequence (x ∷ xs) (y ∷ ys) = ((x ≡ y) × IsSubsequence xs ys) ⊎ IsSubsequence (x ∷ xs) ys

-- it is what is left of the given schedule, and fails still
abbrev pub IsFailing : (List Entry → Option Bool → Type 0) → List Entry → List Entry → Type 0
IsFailing Answers given schedule = IsSubsequence schedule given × Answers schedule (Some true)

-- it passes without any one of its entries
abbrev pub NeedsEach : (List Entry → Option Bool → Type 0) → List Entry → Type 0
NeedsEach Answers schedule =
    (place : ℕ) → place < length schedule → Answers (remove schedule place) (Some false)

-- The schedule is what its name says, by a judge that was asked so often at most. Of a minimal one the
-- judge was asked once, and once of it without each of its entries, so it has fewer entries than that. The
-- given one is the answer unasked only where the judge may not be asked at all.
abbrev pub IsShrunk : (List Entry → Option Bool → Type 0) → ℕ → List Entry → Shrunk → Type 0
IsShrunk Answers budget given (Minimal schedule) =
    IsFailing Answers given schedule × NeedsEach Answers schedule × (length schedule < budget)
IsShrunk Answers budget given (Budget schedule) =
    ((budget ≡ 0) × (schedule ≡ given)) ⊎ IsFailing Answers given schedule
IsShrunk Answers budget given (NotFailing schedule) =
    (schedule ≡ given) × Answers schedule (Some false) × (0 < budget)

-- why a schedule is not made small: the judge had no answer to what was left of it, or memory was
-- refused
abbrev pub RefusesShrink : (List Entry → Option Bool → Type 0) → List Entry → ShrinkError → Type 0
RefusesShrink Answers given Judge =
    (schedule : List Entry) × IsSubsequence schedule given × Answers schedule None
RefusesShrink Answers given OutOfMemory = ⊤

-- it was not seen to be minimal when the judge had been asked as often as it might
abbrev pub IsBudget : Shrunk → Type 0
IsBudget (Minimal schedule) = ⊥
IsBudget (Budget schedule) = ⊤
IsBudget (NotFailing schedule) = ⊥
