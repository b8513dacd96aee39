-- The clusters, in lists: no public clause names it.
use Rattle.std.specs.Prelude.{◌≡◌, ℕ, ◌+◌, ℤ, Option, List, [], length, Vec}
use Rattle.std.specs.Prelude.{slice_get, unwrap_or, option_map}
use Rattle.std.specs.declared.alloc.Global.{Global}
use Rattle.jh_linear.specs.declared.register.RegOp.{RegOp}
use Rattle.jh_unique.specs.Steps.{IsClusterList}

-- the list of a cluster; past the end there is an empty one
abbrev pub members_in : List (Vec ℕ Global) → ℕ → List ℕ
members_in lists cluster = unwrap_or (option_map (λ list. list.items) (slice_get lists cluster)) []

-- a list for each cluster
abbrev pub AreLists : List RegOp → Option ℤ → List (Vec ℕ Global) → Type 0
AreLists ops initial lists =
    (cluster : ℕ) → IsClusterList ops initial cluster (members_in lists cluster)

-- lists of the start's cluster and of one for each operation
abbrev pub HaveLists : List RegOp → Option ℤ → List (Vec ℕ Global) → Type 0
HaveLists ops initial lists = (length lists ≡ length ops + 1) × AreLists ops initial lists
