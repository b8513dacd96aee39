-- Which links, nodes and bumps are unknown, and what a fault keeps of those that it is given (this
-- project's own). What a fault is stands with the tables that it is put on.
use Rattle.std.specs.Prelude.{◌≡◌, ℕ, ◌==◌, ◌||◌, Bool, false, ℤ, List, [], ◌∷◌, ◌++◌}
use Rattle.std.specs.Prelude.{if◌then◌else◌, nat_le}
use Rattle.std.specs.List.{list_any}
pub use Rattle.jh_tables.specs.Faults.{FaultValue, FitsCount, IsFault, AreApart, AreBumps}
pub use Rattle.jh_tables.specs.Faults.{AreKnownLinks}
pub use Rattle.jh_tables.specs.Faults.FaultValue.{Cut, Slow, Loss, Fix, Pause, Kill, Bump}
pub use Rattle.jh_tables.specs.Faults.{IsSlowAmount, IsLossAmount, IsFixAmount, IsBumpAmount}
pub use Rattle.jh_tables.specs.Faults.{names_link, names_node, is_same_link, is_same_node}
pub use Rattle.jh_tables.specs.Faults.{is_same_bumped, fault_size}

-- these, after those that are kept already: each once, in the order of their first mentions
abbrev pub kept_list : {A : Type 0} → (A → A → Bool) → List A → List A → List A
kept_list same kept [] = kept
kept_list same kept (x ∷ xs) =
    kept_list same (if list_any (λ k. same k x) kept then kept else kept ++ x ∷ []) xs

-- each link once
abbrev pub kept_links : List (ℕ × ℕ) → List (ℕ × ℕ)
kept_links links = kept_list is_same_link [] links

-- each node once
abbrev pub kept_nodes : List ℕ → List ℕ
kept_nodes nodes = kept_list is_same_node [] nodes

-- a link with an end that is none of count nodes
abbrev pub is_unknown_link : ℕ → (ℕ × ℕ) → Bool
is_unknown_link count l = nat_le count l.0 || nat_le count l.1

-- a link from a node to itself
abbrev pub is_self_link : (ℕ × ℕ) → Bool
is_self_link l = l.0 == l.1

-- each link is between two different nodes of count
abbrev pub AreLinksOf : ℕ → List (ℕ × ℕ) → Type 0
AreLinksOf count links =
    (list_any (is_unknown_link count) links ≡ false) × (list_any is_self_link links ≡ false)

-- a node that is none of count nodes
abbrev pub is_unknown_node : ℕ → ℕ → Bool
is_unknown_node count node = nat_le count node

-- a bump of a node that is none of count nodes
abbrev pub is_unknown_bump : ℕ → (ℕ × ℤ) → Bool
is_unknown_bump count bump = nat_le count bump.0
