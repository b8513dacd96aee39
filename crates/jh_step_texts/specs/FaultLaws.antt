-- What the laws of faults in order say (this project's own).
use Rattle.std.specs.Prelude.{List, ◌∷◌, ◌++◌}
use Rattle.jh_env.specs.Cells.{Table}
use Rattle.jh_env.specs.Faults.{FaultValue}
use Rattle.jh_env.specs.Overlay.{IsOverlay}

-- among any faults before and after, one does what the other does
abbrev pub DoesAs : FaultValue → FaultValue → Type 0
DoesAs fault other =
    (before after : List FaultValue) (start now : Table)
    → IsOverlay start (before ++ other ∷ after) now → IsOverlay start (before ++ fault ∷ after) now
