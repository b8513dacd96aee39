-- The value that is written of a fault (this project's own): `[:cut LINKS]`, `[:slow MS LINKS]`,
-- `[:loss LEVEL LINKS]`, `[:fix MS LINKS]`, `[:pause NODES]`, `[:kill NODES]` and
-- `[:bump {"n1" 500, ..}]`, where LINKS are `[["n2" "n1"] ..]` and NODES `["n1" ..]`: links by the
-- place of their source and then of their destination, nodes and bumps by place.
use Rattle.std.specs.Prelude.{ℕ, ℤ, pos, List, [], ◌∷◌, map, slice_index_or}
use Rattle.jh_edn.specs.Edn.{Edn, int, str, keyword, vector, mapping, items_of, members_of}
pub use Rattle.jh_env.specs.FaultOrder.{is_link_before, is_node_before, is_bump_before}
pub use Rattle.jh_env.specs.FaultOrder.{fault_in_order}
use Rattle.jh_env.specs.Faults.{FaultValue}
use Rattle.jh_tables.specs.Faults.FaultValue.{Cut, Slow, Loss, Fix, Pause, Kill, Bump}
use Rattle.jh_step_texts.specs.Kinds.{fault_kind_name}
use Rattle.jh_step_texts.specs.declared.kinds.FaultKind.{FaultKind}

-- the string with the name of the node at this place
abbrev pub edn_of_name : List (List ℕ) → ℕ → Edn
edn_of_name names a = str (slice_index_or names a [])

abbrev pub edn_of_link : List (List ℕ) → (ℕ × ℕ) → Edn
edn_of_link names link =
    vector (items_of (edn_of_name names link.0 ∷ edn_of_name names link.1 ∷ []))

abbrev pub edn_of_links : List (List ℕ) → List (ℕ × ℕ) → Edn
edn_of_links names links = vector (items_of (map (edn_of_link names) links))

abbrev pub edn_of_nodes : List (List ℕ) → List ℕ → Edn
edn_of_nodes names nodes = vector (items_of (map (edn_of_name names) nodes))

abbrev pub edn_of_bump : List (List ℕ) → (ℕ × ℤ) → Edn × Edn
edn_of_bump names bump = (edn_of_name names bump.0, int bump.1)

abbrev pub edn_of_bumps : List (List ℕ) → List (ℕ × ℤ) → Edn
edn_of_bumps names bumps = mapping (members_of (map (edn_of_bump names) bumps))

-- what stands in the value, in the order in which the fault holds its links, nodes or bumps
abbrev pub fault_values : List (List ℕ) → FaultValue → List Edn
fault_values names (Cut links) =
    keyword (fault_kind_name FaultKind.Cut) ∷ edn_of_links names links ∷ []
fault_values names (Slow ms links) =
    keyword (fault_kind_name FaultKind.Slow) ∷ int (pos ms) ∷ edn_of_links names links ∷ []
fault_values names (Loss level links) =
    keyword (fault_kind_name FaultKind.Loss) ∷ int (pos level) ∷ edn_of_links names links ∷ []
fault_values names (Fix ms links) =
    keyword (fault_kind_name FaultKind.Fix) ∷ int (pos ms) ∷ edn_of_links names links ∷ []
fault_values names (Pause nodes) =
    keyword (fault_kind_name FaultKind.Pause) ∷ edn_of_nodes names nodes ∷ []
fault_values names (Kill nodes) =
    keyword (fault_kind_name FaultKind.Kill) ∷ edn_of_nodes names nodes ∷ []
fault_values names (Bump bumps) =
    keyword (fault_kind_name FaultKind.Bump) ∷ edn_of_bumps names bumps ∷ []

-- the value that spells a fault on nodes of these names
abbrev pub edn_of_fault : List (List ℕ) → FaultValue → Edn
edn_of_fault names fault = vector (items_of (fault_values names (fault_in_order fault)))
