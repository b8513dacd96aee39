-- Which faults tables stand for (this project's own).
use Rattle.std.specs.Prelude.{◌≡◌, ℕ, ◌+◌, ◌==◌, ◌<◌, ◌≤◌, ◌++◌, ◌∷◌, Bool, ℤ, pos, ◌+ℤ◌, ◌≤ℤ◌}
use Rattle.std.specs.Prelude.{List, length, map, fold, Option, Some, slice_index_or, is_some}
use Rattle.std.specs.Prelude.{⊤}
use Rattle.std.specs.List.{All, AllPairs, Contains, sum_by, count_by}
use Rattle.jh_tables.specs.declared.counted.LinkTally.{LinkTally}
use Rattle.jh_tables.specs.declared.counted.NodeTally.{NodeTally}
use Rattle.jh_tables.specs.declared.counted.FixEntry.{FixEntry}
use Rattle.jh_tables.specs.declared.cells.Link.{Link}
use Rattle.jh_tables.specs.declared.cells.NodeCell.{NodeCell}
use Rattle.jh_tables.specs.Cells.{Table}
use Rattle.jh_tables.specs.Limits.{max_delay_ms, max_loss, max_offset_ms, max_start_delay_ms}
use Rattle.jh_tables.specs.Limits.{max_start_offset_ms}
use Rattle.jh_tables.specs.Faults.{FaultValue, IsFault, FitsCount, fix_value, names_link}
use Rattle.jh_tables.specs.Faults.FaultValue.{Fix}
use Rattle.jh_tables.specs.Overlay.{IsOverlay, cuts, delay_by, loss_by, pauses, kills, bump_by}
use Rattle.jh_tables.specs.Tallies.{Tallies, is_fixed_in, link_tally, node_tally}

-- What callers see: the cells at the start and now, what is kept of them, and how many faults are
-- put and not taken.
pub record TablesValue : Type 0 where
  pub start : Table
  pub cells : Table
  pub tallies : Tallies
  pub laid : ℕ

-- the fault's level of loss on the link is this one
abbrev pub loses : ℕ → ℕ → ℕ → FaultValue → Bool
loses a b level fault = loss_by a b fault == level

-- the fault fixes delays
abbrev pub is_fix : FaultValue → Bool
is_fix fault = is_some (fix_value fault)

-- the counts and the sum of the link from a to b are those of the faults
pub record IsLinkTally (a b : ℕ) (faults : List FaultValue) (tally : LinkTally) : Type 0 where
  pub cuts : tally.cuts ≡ count_by (cuts a b) faults
  pub slowed_ms : tally.slowed_ms ≡ sum_by (delay_by a b) faults
  pub levels : length tally.losses ≡ max_loss
  pub losses : (i : ℕ) → i < max_loss
      → slice_index_or tally.losses i 0 ≡ count_by (loses a b (i + 1)) faults

-- the counts and the sum of the node are those of the faults
pub record IsNodeTally (a : ℕ) (faults : List FaultValue) (tally : NodeTally) : Type 0 where
  pub pauses : tally.pauses ≡ count_by (pauses a) faults
  pub kills : tally.kills ≡ count_by (kills a) faults
  pub bumped_ms : tally.bumped_ms ≡ fold (λ z f. z +ℤ bump_by a f) (pos 0) faults

-- all counts and sums of n nodes are those of the faults, and as many entries are in use as faults
-- are fixes
pub record AreTallies (n : ℕ) (tallies : Tallies) (faults : List FaultValue) : Type 0 where
  pub right : All (λ f. IsFault f × FitsCount n f) faults
  pub links : (a b : ℕ) → a < n → b < n → IsLinkTally a b faults (link_tally n tallies.links a b)
  pub nodes : (a : ℕ) → a < n → IsNodeTally a faults (node_tally tallies.nodes a)
  pub fixes : count_by is_some tallies.fixes ≡ count_by is_fix faults

-- the entry holds this fix of links among n nodes
pub record IsEntryOf (n : ℕ) (stamp ms : ℕ) (links : List (ℕ × ℕ)) (entry : FixEntry) : Type 0 where
  pub stamped : entry.stamp ≡ stamp
  pub delay : entry.ms ≡ ms
  pub named : (a b : ℕ) → a < n → b < n → is_fixed_in entry a b ≡ names_link links a b

-- two entries in use have different stamps
abbrev pub HaveOtherStamps : Option FixEntry → Option FixEntry → Type 0
HaveOtherStamps (Some x) (Some y) = x.stamp ≡ y.stamp → ⊥
HaveOtherStamps _ _ = ⊤

-- the entries in use hold just the fixes among the stamped faults, each once
pub record AreEntries (n : ℕ) (entries : List (Option FixEntry))
    (stamped : List (ℕ × FaultValue)) : Type 0 where
  pub all : (stamp ms : ℕ) (links : List (ℕ × ℕ)) → Contains stamped (stamp, Fix ms links)
      → (entry : FixEntry) × Contains entries (Some entry) × IsEntryOf n stamp ms links entry
  pub only : (entry : FixEntry) → Contains entries (Some entry)
      → (ms : ℕ) × (links : List (ℕ × ℕ)) × Contains stamped (entry.stamp, Fix ms links)
      × IsEntryOf n entry.stamp ms links entry
  pub once : AllPairs HaveOtherStamps entries

-- the stamps rise from each fault to the next
abbrev pub AreInOrder : List (ℕ × FaultValue) → Type 0
AreInOrder stamped = AllPairs (λ x y. x.0 < y.0) stamped

-- the faults without their stamps
abbrev pub faults_of : List (ℕ × FaultValue) → List FaultValue
faults_of stamped = map (λ s. s.1) stamped

-- the tables stand for these stamped faults: what they keep is kept of these, and the cells are
-- what these make of those at the start
pub record StandsAt (tables : TablesValue) (stamped : List (ℕ × FaultValue)) : Type 0 where
  pub order : AreInOrder stamped
  pub laid : tables.laid ≡ length stamped
  pub tallies : AreTallies (length tables.tallies.nodes) tables.tallies (faults_of stamped)
  pub entries : AreEntries (length tables.tallies.nodes) tables.tallies.fixes stamped
  pub cells : IsOverlay tables.start (faults_of stamped) tables.cells

-- the tables stand for some faults among which is this one, with its stamp
abbrev pub StandsAtSome : TablesValue → ℕ × FaultValue → Type 0
StandsAtSome tables fault =
    (before after : List (ℕ × FaultValue)) × StandsAt tables (before ++ fault ∷ after)

-- for every list of faults: the tables stood for it, and now for that list with one fault more, at
-- its stamp's place
abbrev pub IsPut : ℕ × FaultValue → TablesValue → TablesValue → Type 0
IsPut fault old new =
    (before after : List (ℕ × FaultValue)) → AreInOrder (before ++ fault ∷ after)
    → StandsAt old (before ++ after) → StandsAt new (before ++ fault ∷ after)

-- for every list of faults that has this one: the tables stood for it, and now for that list
-- without this fault
abbrev pub IsTaken : ℕ × FaultValue → TablesValue → TablesValue → Type 0
IsTaken fault old new =
    (before after : List (ℕ × FaultValue))
    → StandsAt old (before ++ fault ∷ after) → StandsAt new (before ++ after)

-- a link as it may be at the start: its delay and its level of loss are in their ranges
abbrev pub IsStartingLink : Link → Type 0
IsStartingLink l = (l.delay ≤ max_start_delay_ms) × (l.loss ≤ max_loss)

-- at most so many milliseconds either way
abbrev pub IsWithin : ℕ → ℤ → Type 0
IsWithin most z = (pos 0 ≤ℤ (z +ℤ pos most)) × (z ≤ℤ pos most)

-- a node as it may be at the start: its clock is off by so much at most
abbrev pub IsStartingNode : NodeCell → Type 0
IsStartingNode n = IsWithin max_start_offset_ms n.clock

-- a link as so many faults can make it at most
abbrev pub IsLinkInRange : Link → Type 0
IsLinkInRange l = (l.delay ≤ max_delay_ms) × (l.loss ≤ max_loss)

-- a node as so many faults can make it at most
abbrev pub IsNodeInRange : NodeCell → Type 0
IsNodeInRange n = IsWithin max_offset_ms n.clock
