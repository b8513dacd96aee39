-- What is known while a schedule is made small (this project's own).
use Rattle.std.specs.Prelude.{◌≡◌, ℕ, ◌+◌, ◌<◌, ◌≤◌, Bool, false, List, length, Option, Some, None, ⊤}
use Rattle.std.specs.List.{remove}
use Rattle.jh_simnode.specs.declared.schedule.Entry.{Entry}
use Rattle.jh_shrink.specs.declared.shrinking.Halt.{Halt}
use Rattle.jh_shrink.specs.Shrunk.{IsSubsequence}

-- why the work ended: the judge had no answer to what was left of a schedule, or may be asked no
-- more, or memory was refused
abbrev pub HaltsWork : (List Entry → Option Bool → Type 0) → List Entry → ℕ → Halt → Type 0
HaltsWork Answers given left Halt.Judge =
    (schedule : List Entry) × IsSubsequence schedule given × Answers schedule None
HaltsWork Answers given left Halt.Budget = left ≡ 0
HaltsWork Answers given left Halt.OutOfMemory = ⊤

-- it passes without any one of its entries below a place
abbrev pub NeedsThose : (List Entry → Option Bool → Type 0) → List Entry → ℕ → Type 0
NeedsThose Answers schedule below =
    (place : ℕ) → place < below → place < length schedule
    → Answers (remove schedule place) (Some false)

-- A judge that may be asked so often still is what became of another by being asked: each time one
-- of those times was used up.
pub record AskedSince {J : Type 0} (is_ready : J → Type 0) (becomes : J → J → Type 0) (asked : J → ℕ)
    (old : J) (left_before : ℕ) (new : J) (left : ℕ) : Type 0 where
  pub ready : is_ready new
  pub later : becomes old new
  pub spent : asked new + left ≡ asked old + left_before
  pub fewer : left ≤ left_before
