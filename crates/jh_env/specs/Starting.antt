-- A starting environment while it is set up (this project's own).
use Rattle.std.specs.Prelude.{◌≡◌, ℕ, ◌≤◌, ◌<◌, ◌==◌, ◌&&◌, List, length, if◌then◌else◌, not}
use Rattle.std.specs.Prelude.{nat_lt, Some, None}
use Rattle.jh_tables.specs.declared.cells.Link.{Link}
use Rattle.jh_tables.specs.declared.cells.NodeCell.{NodeCell}
use Rattle.jh_env.specs.declared.starting.StartError.{StartError}
use Rattle.jh_env.specs.declared.starting.StartError.TheVariants.{UnknownNode, SelfLink, BadAmount}
use Rattle.jh_env.specs.Cells.{Table, calm_link, running_node, link_at, node_at}
use Rattle.jh_tables.specs.Faults.{is_same_link}
pub use Rattle.jh_tables.specs.Standing.{IsStartingLink, IsStartingNode}

-- what callers see of it: the names and the cells set so far
pub record StartValue : Type 0 where
  pub names : List (List ℕ)
  pub cells : Table

-- nothing is set: each link is calm and each node runs
pub record IsCalm (s : StartValue) : Type 0 where
  pub links : (a b : ℕ)
      → link_at s.cells a b
      ≡ (if nat_lt a (length s.names) && (nat_lt b (length s.names) && not (a == b))
      then Some calm_link else None)
  pub nodes : (a : ℕ)
      → node_at s.cells a ≡ (if nat_lt a (length s.names) then Some running_node else None)

-- the link from a to b is set, within the ranges, and nothing else changes
pub record SetsLink (old : StartValue) (a b : ℕ) (l : Link) (new : StartValue) : Type 0 where
  pub names : new.names ≡ old.names
  pub amounts : IsStartingLink l
  pub links : (c d : ℕ)
      → link_at new.cells c d
      ≡ (if is_same_link (c, d) (a, b) then Some l else link_at old.cells c d)
  pub nodes : (c : ℕ) → node_at new.cells c ≡ node_at old.cells c

-- the node's cell is set, within the range, and nothing else changes
pub record SetsNode (old : StartValue) (a : ℕ) (n : NodeCell) (new : StartValue) : Type 0 where
  pub names : new.names ≡ old.names
  pub amount : IsStartingNode n
  pub links : (c d : ℕ) → link_at new.cells c d ≡ link_at old.cells c d
  pub nodes : (c : ℕ) → node_at new.cells c ≡ (if c == a then Some n else node_at old.cells c)

-- both ends are nodes of the environment
abbrev pub AreEnds : StartValue → ℕ → ℕ → Type 0
AreEnds s a b = (a < length s.names) × (b < length s.names)

-- why a link is not set: an unknown node, a node linked with itself, an amount out of range, in
-- this order
abbrev pub RefusesLink : StartValue → ℕ → ℕ → Link → StartError → Type 0
RefusesLink s a b l UnknownNode = AreEnds s a b → ⊥
RefusesLink s a b l SelfLink = AreEnds s a b × (a ≡ b)
RefusesLink s a b l BadAmount = AreEnds s a b × (a ≡ b → ⊥) × (IsStartingLink l → ⊥)

-- why a node is not set: it is unknown, else its clock is out of range
abbrev pub RefusesNode : StartValue → ℕ → NodeCell → StartError → Type 0
RefusesNode s a n UnknownNode = length s.names ≤ a
RefusesNode s a n SelfLink = ⊥
RefusesNode s a n BadAmount = (a < length s.names) × (IsStartingNode n → ⊥)
