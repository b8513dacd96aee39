-- The kinds of faults and their names (this project's own).
use Rattle.std.specs.Prelude.{ℕ, List, [], ◌∷◌, codes, Option}
use Rattle.std.specs.List.{find}
use Rattle.std.specs.Str.{bytes_eq}
use Rattle.jh_step_texts.specs.declared.kinds.FaultKind.{FaultKind}

-- the name of a kind
abbrev pub fault_kind_name : FaultKind → List ℕ
fault_kind_name FaultKind.Cut = codes "cut"
fault_kind_name FaultKind.Slow = codes "slow"
fault_kind_name FaultKind.Loss = codes "loss"
fault_kind_name FaultKind.Fix = codes "fix"
fault_kind_name FaultKind.Pause = codes "pause"
fault_kind_name FaultKind.Kill = codes "kill"
fault_kind_name FaultKind.Bump = codes "bump"

-- all kinds
abbrev pub fault_kinds : List FaultKind
fault_kinds =
    FaultKind.Cut ∷ FaultKind.Slow ∷ FaultKind.Loss ∷ FaultKind.Fix ∷ FaultKind.Pause
    ∷ FaultKind.Kill ∷ FaultKind.Bump ∷ []

-- the kind of this name, where there is one
unfoldable pub fault_kind_named : List ℕ → Option FaultKind
fault_kind_named name = find (λ kind. bytes_eq (fault_kind_name kind) name) fault_kinds
