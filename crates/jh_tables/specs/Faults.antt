-- Faults, as contracts see them (Jepsen's pages on nemeses and nets name cuts of links, slow and
-- lossy links, paused and killed processes and bumped clocks; fixed delays and the amounts are this
-- project's own).
use Rattle.std.specs.Prelude.{◌≡◌, ◌≢◌, ℕ, ◌+◌, ◌-◌, ◌==◌, ◌&&◌, ◌<◌, ◌≤◌, Bool, false, ℤ, pos}
use Rattle.std.specs.Prelude.{negsuc, ◌≤ℤ◌, List, length, take, slice_index_or, Option, Some, None}
use Rattle.std.specs.Prelude.{is_some, if◌then◌else◌}
use Rattle.std.specs.List.{list_any, All}
use Rattle.jh_tables.specs.Limits.{max_bumped_ms, max_fixed_ms, max_loss, max_slowed_ms}

-- A link is the pair of its source's place and its destination's. Delays and bumps are in
-- milliseconds, a level of loss is one twentieth. Each link and node stands once.
pub data FaultValue : Type 0 where
  Cut : List (ℕ × ℕ) → FaultValue
  Slow : ℕ → List (ℕ × ℕ) → FaultValue
  Loss : ℕ → List (ℕ × ℕ) → FaultValue
  Fix : ℕ → List (ℕ × ℕ) → FaultValue
  Pause : List ℕ → FaultValue
  Kill : List ℕ → FaultValue
  Bump : List (ℕ × ℤ) → FaultValue

-- the two are one link
abbrev pub is_same_link : (ℕ × ℕ) → (ℕ × ℕ) → Bool
is_same_link k l = (k.0 == l.0) && (k.1 == l.1)

-- the link from a to b is among these
abbrev pub names_link : List (ℕ × ℕ) → ℕ → ℕ → Bool
names_link links a b = list_any (λ l. is_same_link l (a, b)) links

-- the two are one node
abbrev pub is_same_node : ℕ → ℕ → Bool
is_same_node a b = a == b

-- the node is among these
abbrev pub names_node : List ℕ → ℕ → Bool
names_node nodes a = list_any (λ n. n == a) nodes

-- the two bumps are of one node
abbrev pub is_same_bumped : (ℕ × ℤ) → (ℕ × ℤ) → Bool
is_same_bumped x y = x.0 == y.0

-- none is the same as one before it
abbrev pub AreApart : {A : Type 0} → (A → A → Bool) → List A → Type 0
AreApart {A} same xs =
    (i : ℕ) (d : A) → i < length xs
    → list_any (λ x. same x (slice_index_or xs i d)) (take i xs) ≡ false

-- by how many milliseconds a fault may slow a link
abbrev pub IsSlowAmount : ℕ → Type 0
IsSlowAmount ms = (0 < ms) × (ms ≤ max_slowed_ms)

-- the level of loss that a fault may have
abbrev pub IsLossAmount : ℕ → Type 0
IsLossAmount level = (0 < level) × (level ≤ max_loss)

-- at how many milliseconds a fault may fix a delay
abbrev pub IsFixAmount : ℕ → Type 0
IsFixAmount ms = ms ≤ max_fixed_ms

-- by how many milliseconds a fault may move a clock: not 0, and at most so many either way
abbrev pub IsBumpAmount : ℤ → Type 0
IsBumpAmount ms =
    (ms ≢ pos 0) × (negsuc (max_bumped_ms - 1) ≤ℤ ms) × (ms ≤ℤ pos max_bumped_ms)

-- each bump is in its range, and no node is bumped twice
abbrev pub AreBumps : List (ℕ × ℤ) → Type 0
AreBumps bumps = All (λ b. IsBumpAmount b.1) bumps × AreApart is_same_bumped bumps

-- each link and node stands once, and amounts are in their ranges
abbrev pub IsFault : FaultValue → Type 0
IsFault (Cut links) = AreApart is_same_link links
IsFault (Slow ms links) = IsSlowAmount ms × AreApart is_same_link links
IsFault (Loss level links) = IsLossAmount level × AreApart is_same_link links
IsFault (Fix ms links) = IsFixAmount ms × AreApart is_same_link links
IsFault (Pause nodes) = AreApart is_same_node nodes
IsFault (Kill nodes) = AreApart is_same_node nodes
IsFault (Bump bumps) = AreBumps bumps

-- each link is between two of count nodes
abbrev pub AreKnownLinks : ℕ → List (ℕ × ℕ) → Type 0
AreKnownLinks count links = All (λ l. (l.0 < count) × (l.1 < count)) links

-- each node that the fault names is one of count nodes
abbrev pub FitsCount : ℕ → FaultValue → Type 0
FitsCount count (Cut links) = AreKnownLinks count links
FitsCount count (Slow ms links) = AreKnownLinks count links
FitsCount count (Loss level links) = AreKnownLinks count links
FitsCount count (Fix ms links) = AreKnownLinks count links
FitsCount count (Pause nodes) = All (λ n. n < count) nodes
FitsCount count (Kill nodes) = All (λ n. n < count) nodes
FitsCount count (Bump nodes) = All (λ n. n.0 < count) nodes

-- how many links or nodes the fault names
abbrev pub named_count : FaultValue → ℕ
named_count (Cut links) = length links
named_count (Slow ms links) = length links
named_count (Loss level links) = length links
named_count (Fix ms links) = length links
named_count (Pause nodes) = length nodes
named_count (Kill nodes) = length nodes
named_count (Bump bumps) = length bumps

-- a delay and the links for which it is fixed
abbrev pub FixValue : Type 0
FixValue = ℕ × List (ℕ × ℕ)

-- the delay that the fault fixes and its links, where it fixes any
abbrev pub fix_value : FaultValue → Option FixValue
fix_value (Fix ms links) = Some (ms, links)
fix_value _ = None

-- the size of the fault, which bounds how often it makes the tables write: one for each link or node
-- that it names, and for a fix one more
abbrev pub fault_size : FaultValue → ℕ
fault_size fault = named_count fault + (if is_some (fix_value fault) then 1 else 0)
