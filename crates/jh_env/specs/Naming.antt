-- The ways to name what a fault is about (this project's own): a link as its two nodes, as their
-- places or as the value `[SOURCE DESTINATION]` of their names; a node as itself or by its name; a
-- clock that is moved as its node, or its name, with milliseconds. A fault is judged by the places
-- alone, so it is judged alike however they are given. Why one is refused stands here and nowhere
-- else.
use Rattle.std.specs.Prelude.{◌≡◌, ◌≢◌, ◌⊎◌, ℕ, ◌&&◌, Bool, true, not, ℤ, pos, negsuc}
use Rattle.std.specs.Prelude.{List, [], ◌∷◌, ◌++◌, length, nat_lt, nat_le, if◌then◌else◌}
use Rattle.std.specs.Prelude.{is_none, Option, Some, None, option_and_then, option_map, ok_or}
use Rattle.std.specs.Prelude.{Result, Ok, Err, IsOk}
use Rattle.std.specs.List.{filter_map, list_all, list_any}
use Rattle.jh_edn.specs.Edn.{Edn, int, str, elements_of}
use Rattle.jh_tables.specs.Limits.{max_bumped_ms}
use Rattle.jh_tables.specs.Plain.{fault_on_links, fault_on_nodes}
use Rattle.jh_tables.specs.declared.faults.LinkFault.{LinkFault}
use Rattle.jh_tables.specs.declared.faults.NodeFault.{NodeFault}
use Rattle.jh_env.specs.Faults.{FaultValue, Bump, is_same_bumped, is_self_link, is_unknown_bump}
use Rattle.jh_env.specs.Faults.{is_unknown_link, is_unknown_node, kept_links, kept_nodes}
use Rattle.jh_env.specs.TextErrors.{place_of}
use Rattle.jh_env.specs.declared.faults.FaultError.{FaultError}
use Rattle.jh_env.specs.declared.faults.FaultError.TheVariants.{UnknownNode, SelfLink, BadAmount}
use Rattle.jh_env.specs.declared.faults.FaultError.TheVariants.{OutOfMemory}

-- the link between two places, where both are those of nodes
abbrev pub known_link : List (List ℕ) → (ℕ × ℕ) → Option (ℕ × ℕ)
known_link names l = if is_unknown_link (length names) l then None else Some l

-- the place, where it is a node's
abbrev pub known_node : List (List ℕ) → ℕ → Option ℕ
known_node names node = if is_unknown_node (length names) node then None else Some node

-- the bump, where its place is a node's
abbrev pub known_bump : List (List ℕ) → (ℕ × ℤ) → Option (ℕ × ℤ)
known_bump names bump = if is_unknown_bump (length names) bump then None else Some bump

abbrev pub two_names : List Edn → Option (List ℕ × List ℕ)
two_names (str source ∷ str destination ∷ []) = Some (source, destination)
two_names _ = None

-- the source's and the destination's name of a link
abbrev pub link_names : Edn → Option (List ℕ × List ℕ)
link_names v = option_and_then two_names (elements_of v)

-- the name of a node
abbrev pub node_name : Edn → Option (List ℕ)
node_name (str name) = Some name
node_name _ = None

-- the name of a node and the milliseconds by which its clock is moved
abbrev pub bump_spelled : Edn × Edn → Option (List ℕ × ℤ)
bump_spelled (str name, int ms) = Some (name, ms)
bump_spelled _ = None

abbrev pub known_pair : Option ℕ → Option ℕ → Option (ℕ × ℕ)
known_pair (Some a) (Some b) = Some (a, b)
known_pair _ _ = None

-- the places of a link's nodes, where both are known
abbrev pub ends_of : List (List ℕ) → Edn → Option (ℕ × ℕ)
ends_of names v =
    option_and_then (λ l. known_pair (place_of names l.0) (place_of names l.1)) (link_names v)

-- the place of a node that is named, where it is known
abbrev pub named_node : List (List ℕ) → Edn → Option ℕ
named_node names v = option_and_then (place_of names) (node_name v)

-- the place of a node and by how much its clock is moved, where it is known
abbrev pub bump_of : List (List ℕ) → Edn × Edn → Option (ℕ × ℤ)
bump_of names b =
    option_and_then (λ written. option_map (λ node. (node, written.1)) (place_of names written.0))
    (bump_spelled b)

-- By so many milliseconds a fault may move a clock. It decides `IsBumpAmount` of jh_tables:
-- `bump_in_range` and `range_in_bump` in proofs/BumpLemmas.antt hold both ways.
abbrev pub is_bump_amount : ℤ → Bool
is_bump_amount (pos n) = nat_lt 0 n && nat_le n max_bumped_ms
is_bump_amount (negsuc n) = nat_lt n max_bumped_ms

-- none of these is the same as one before it, or as one of those before all of them
abbrev pub are_apart_after : List (ℕ × ℤ) → List (ℕ × ℤ) → Bool
are_apart_after before [] = true
are_apart_after before (b ∷ bs) =
    not (list_any (λ x. is_same_bumped x b) before) && are_apart_after (before ++ b ∷ []) bs

-- Each bump is in its range, and no node is bumped twice. It decides `AreBumps` of jh_tables:
-- `bumps_right` and `right_bumps` in proofs/BumpLemmas.antt hold both ways.
abbrev pub are_bumps : List (ℕ × ℤ) → Bool
are_bumps bumps = list_all (λ b. is_bump_amount b.1) bumps && are_apart_after [] bumps

-- The fault that does this to the links that are found, each once, or why there is none, whatever
-- memory there is: an unknown node anywhere, else a node linked with itself, else an amount out of
-- its range, of which `None` tells in place of what the fault does.
abbrev pub judged_links : {A : Type 0} → (A → Option (ℕ × ℕ)) → Option LinkFault → List A
    → Result FaultValue FaultError
judged_links ends kind links =
    if list_any (λ l. is_none (ends l)) links then Err UnknownNode
    else if list_any is_self_link (filter_map ends links) then Err SelfLink
    else ok_or (option_map (λ k. fault_on_links k (kept_links (filter_map ends links))) kind)
    BadAmount

-- the fault of this kind on the nodes that are found, each once, if each node is
abbrev pub judged_nodes : {A : Type 0} → (A → Option ℕ) → NodeFault → List A
    → Result FaultValue FaultError
judged_nodes found kind nodes =
    if list_any (λ n. is_none (found n)) nodes then Err UnknownNode
    else Ok (fault_on_nodes kind (kept_nodes (filter_map found nodes)))

-- The fault of the bumps that are found, or why there is none: an unknown node anywhere, else an
-- amount out of range or a node that is bumped twice.
abbrev pub judged_bumps : {A : Type 0} → (A → Option (ℕ × ℤ)) → List A
    → Result FaultValue FaultError
judged_bumps found bumps =
    if list_any (λ b. is_none (found b)) bumps then Err UnknownNode
    else if are_bumps (filter_map found bumps) then Ok (Bump (filter_map found bumps))
    else Err BadAmount

-- Why a fault of what is given is refused: as it is judged, or else for memory, which only
-- something to keep needs.
abbrev pub RefusesFault : {A : Type 0} → Result FaultValue FaultError → List A → FaultError → Type 0
RefusesFault judged given refusal =
    (judged ≡ Err refusal) ⊎ ((refusal ≡ OutOfMemory) × IsOk judged × (given ≢ []))
