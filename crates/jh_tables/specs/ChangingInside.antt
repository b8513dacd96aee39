-- What putting a fault or taking it off changes (this project's own).
use Rattle.std.specs.Prelude.{◌≡◌, ℕ, suc, zero, ◌+◌, ◌-◌, ◌^◌, ◌<◌, ◌≤◌, Bool, true, false, ℤ}
use Rattle.std.specs.Prelude.{◌+ℤ◌, ◌-ℤ◌, List, length, min, if◌then◌else◌, slice_index_or}
use Rattle.std.specs.Prelude.{slice_set, slice_get, Option, Some, None, ◌==◌, ◌||◌, is_some, ⊤}
use Rattle.std.specs.List.{All, count_by, list_any}
use Rattle.jh_tables.specs.Standing.{IsEntryOf, IsWithin, loses}
use Rattle.std.specs.Int.{bit_at}
use Rattle.jh_tables.specs.declared.counted.LinkTally.{LinkTally}
use Rattle.jh_tables.specs.declared.counted.NodeTally.{NodeTally}
use Rattle.jh_tables.specs.declared.counted.FixEntry.{FixEntry}
use Rattle.jh_tables.specs.declared.counted.TableWrite.{TableWrite}
use Rattle.jh_tables.specs.declared.counted.LinkCount.{LinkCount}
use Rattle.jh_tables.specs.declared.counted.NodeCount.{NodeCount}
use Rattle.jh_tables.specs.declared.faults.LinkFault.{LinkFault}
use Rattle.jh_tables.specs.declared.faults.NodeFault.{NodeFault}
use Rattle.jh_tables.specs.declared.changing.Change.{Change}
use Rattle.jh_tables.specs.Faults.{FaultValue, FixValue, names_link, names_node}
use Rattle.jh_tables.specs.Faults.FaultValue.{Bump}
use Rattle.jh_tables.specs.Limits.{max_loss, max_nodes}
use Rattle.jh_tables.specs.Overlay.{cuts, delay_by, loss_by, pauses, kills, bump_by}
use Rattle.jh_tables.specs.Tallies.{Tallies, calm_tally, link_tally, node_tally, running_tally}

-- if it is the count of a level of loss, there is such a level
abbrev pub IsLevelThere : LinkCount → Type 0
IsLevelThere (LinkCount.Cuts count) = ⊤
IsLevelThere (LinkCount.Slowed ms) = ⊤
IsLevelThere (LinkCount.Losses level count) = level < max_loss

-- there is something to write over
abbrev pub IsThere : Tallies → ℕ → TableWrite → Type 0
IsThere t place (TableWrite.Link count) = (place < length t.links) × IsLevelThere count
IsThere t place (TableWrite.Node count) = place < length t.nodes
IsThere t place (TableWrite.Fix entry) = place < length t.fixes

-- one more, up to 2^64 - 1
abbrev pub next_work : ℕ → ℕ
next_work work = min (work + 1) (2 ^ 64 - 1)

-- the tally of a link after one of its counts or sums is written
abbrev pub link_written : LinkCount → LinkTally → LinkTally
link_written (LinkCount.Cuts count) t = record t { cuts = count }
link_written (LinkCount.Slowed ms) t = record t { slowed_ms = ms }
link_written (LinkCount.Losses level count) t = record t { losses = slice_set t.losses level count }

-- the tally of a node likewise
abbrev pub node_written : NodeCount → NodeTally → NodeTally
node_written (NodeCount.Pauses count) t = record t { pauses = count }
node_written (NodeCount.Kills count) t = record t { kills = count }
node_written (NodeCount.Bumped ms) t = record t { bumped_ms = ms }

-- the tallies after a count, a sum or an entry is written
abbrev pub written_tallies : Tallies → ℕ → TableWrite → Tallies
written_tallies t place (TableWrite.Link count) = record t {
  links = slice_set t.links place (link_written count (slice_index_or t.links place calm_tally));
  work = next_work t.work;
}
written_tallies t place (TableWrite.Node count) = record t {
  nodes = slice_set t.nodes place (node_written count (slice_index_or t.nodes place running_tally));
  work = next_work t.work;
}
written_tallies t place (TableWrite.Fix entry) =
    record t { fixes = slice_set t.fixes place entry; work = next_work t.work }

-- a number after a fault is put or taken that counts for so much in it
abbrev pub changed_number : Change → ℕ → ℕ → ℕ
changed_number Change.Add n amount = n + amount
changed_number Change.Remove n amount = n - amount

-- the number stays in its range
abbrev pub CanChange : Change → ℕ → ℕ → ℕ → Type 0
CanChange Change.Add most n amount = n + amount ≤ most
CanChange Change.Remove most n amount = amount ≤ n

-- the same of an integer
abbrev pub int_changed : Change → ℤ → ℤ → ℤ
int_changed Change.Add z amount = z +ℤ amount
int_changed Change.Remove z amount = z -ℤ amount

-- what a fault that does something, or does not, counts for
abbrev pub one_if : Bool → ℕ
one_if does = if does then 1 else 0

-- the counts of levels, after that of a level is changed; there is none for level 0
abbrev pub losses_changed : Change → List ℕ → ℕ → List ℕ
losses_changed change losses zero = losses
losses_changed change losses (suc i) =
    slice_set losses i (changed_number change (slice_index_or losses i 0) 1)

-- the tally of the link from a to b, after the fault is put or taken
abbrev pub link_changed : Change → FaultValue → ℕ → ℕ → LinkTally → LinkTally
link_changed change fault a b t = record t {
  cuts = changed_number change t.cuts (one_if (cuts a b fault));
  slowed_ms = changed_number change t.slowed_ms (delay_by a b fault);
  losses = losses_changed change t.losses (loss_by a b fault);
}

-- the tally of the node, after the fault is put or taken
abbrev pub node_changed : Change → FaultValue → ℕ → NodeTally → NodeTally
node_changed change fault a t = record t {
  pauses = changed_number change t.pauses (one_if (pauses a fault));
  kills = changed_number change t.kills (one_if (kills a fault));
  bumped_ms = int_changed change t.bumped_ms (bump_by a fault);
}

-- the tally of a link that the fault names
abbrev pub named_link_changed : Change → LinkFault → LinkTally → LinkTally
named_link_changed change LinkFault.Cut t = record t { cuts = changed_number change t.cuts 1 }
named_link_changed change (LinkFault.Slow ms) t = record t {
  slowed_ms = changed_number change t.slowed_ms ms;
}
named_link_changed change (LinkFault.Loss level) t =
    record t { losses = losses_changed change t.losses level }
named_link_changed change (LinkFault.Fix ms) t = t

-- the tally of a node that the fault names
abbrev pub named_node_changed : Change → NodeFault → NodeTally → NodeTally
named_node_changed change NodeFault.Pause t = record t { pauses = changed_number change t.pauses 1 }
named_node_changed change NodeFault.Kill t = record t { kills = changed_number change t.kills 1 }

-- the tally of a link that the fault names can be changed
abbrev pub CanChangeLink : Change → LinkFault → LinkTally → Type 0
CanChangeLink change LinkFault.Cut t = CanChange change 65535 t.cuts 1
CanChangeLink change (LinkFault.Slow ms) t = CanChange change (2 ^ 64 - 1) t.slowed_ms ms
CanChangeLink change (LinkFault.Loss level) t =
    (0 < level) × (level ≤ max_loss)
    × CanChange change 65535 (slice_index_or t.losses (level - 1) 0) 1
CanChangeLink change (LinkFault.Fix ms) t = ⊤

-- the tally of a node that the fault names can be changed
abbrev pub CanChangeNode : Change → NodeFault → NodeTally → Type 0
CanChangeNode change NodeFault.Pause t = CanChange change 65535 t.pauses 1
CanChangeNode change NodeFault.Kill t = CanChange change 65535 t.kills 1

-- each of these links' tallies can be changed
abbrev pub CanChangeLinks : Change → LinkFault → List (ℕ × ℕ) → ℕ → List LinkTally → Type 0
CanChangeLinks change fault links n tallies =
    (a b : ℕ) → a < n → b < n → names_link links a b ≡ true
    → CanChangeLink change fault (link_tally n tallies a b)

-- each of these nodes' tallies can be changed
abbrev pub CanChangeNodes : Change → NodeFault → List ℕ → List NodeTally → Type 0
CanChangeNodes change fault nodes tallies =
    (a : ℕ) → a < length tallies → names_node nodes a ≡ true
    → CanChangeNode change fault (node_tally tallies a)

-- in the table of n nodes the tally of each of these links is changed, and every other stays
abbrev pub AreLinksChanged
    : Change → LinkFault → List (ℕ × ℕ) → ℕ → List LinkTally → List LinkTally → Type 0
AreLinksChanged change fault links n old new =
    (a b : ℕ) → a < n → b < n
    → link_tally n new a b
    ≡ (if names_link links a b then named_link_changed change fault (link_tally n old a b)
    else link_tally n old a b)

-- the tally of each of these nodes is changed, and every other stays
abbrev pub AreNodesChanged : Change → NodeFault → List ℕ → List NodeTally → List NodeTally → Type 0
AreNodesChanged change fault nodes old new =
    (a : ℕ) → a < length old
    → node_tally new a
    ≡ (if names_node nodes a then named_node_changed change fault (node_tally old a)
    else node_tally old a)

-- the clock of each node is changed by what the bumps move it
abbrev pub AreClocksChanged : Change → List (ℕ × ℤ) → List NodeTally → List NodeTally → Type 0
AreClocksChanged change bumps old new =
    (a : ℕ) → a < length old
    → node_tally new a
    ≡ (let t = node_tally old a in
    record t { bumped_ms = int_changed change t.bumped_ms (bump_by a (Bump bumps)) })

-- the fault is put or taken in all tallies; entries of fixes are another matter
pub record AreChanged (change : Change) (fault : FaultValue) (old new : Tallies) : Type 0 where
  pub many_links : length new.links ≡ length old.links
  pub many_nodes : length new.nodes ≡ length old.nodes
  pub links : (a b : ℕ) → a < length old.nodes → b < length old.nodes
      → link_tally (length old.nodes) new.links a b
      ≡ link_changed change fault a b (link_tally (length old.nodes) old.links a b)
  pub nodes : (a : ℕ) → a < length old.nodes
      → node_tally new.nodes a ≡ node_changed change fault a (node_tally old.nodes a)

-- the entry is in use with this stamp
abbrev pub has_stamp : ℕ → Option FixEntry → Bool
has_stamp stamp None = false
has_stamp stamp (Some fix) = fix.stamp == stamp

-- the entry at this place is in use with this stamp
abbrev pub IsPlaceOfStamp : ℕ → List (Option FixEntry) → ℕ → Type 0
IsPlaceOfStamp stamp entries place =
    (fix : FixEntry) × (slice_get entries place ≡ Some (Some fix)) × (fix.stamp ≡ stamp)

-- a free entry holds the fix, and nothing else changes
abbrev pub IsEntryPut : FixEntry → Tallies → Tallies → Type 0
IsEntryPut fix old new =
    (place : ℕ) × (slice_get old.fixes place ≡ Some None)
    × (new ≡ written_tallies old place (TableWrite.Fix (Some fix)))

-- the entry with the stamp is free, and nothing else changes
abbrev pub IsEntryTaken : ℕ → Tallies → Tallies → Type 0
IsEntryTaken stamp old new =
    (place : ℕ) × (fix : FixEntry) × (slice_get old.fixes place ≡ Some (Some fix))
    × (fix.stamp ≡ stamp) × (new ≡ written_tallies old place (TableWrite.Fix None))

-- the bits of these links are set too, and every other stays
abbrev pub AreMarked : List (ℕ × ℕ) → List ℕ → List ℕ → Type 0
AreMarked links old new =
    (a b : ℕ) → a < max_nodes → b < max_nodes
    → (bit_at (slice_index_or new a 0) b == 1)
    ≡ ((bit_at (slice_index_or old a 0) b == 1) || names_link links a b)

-- the counts and the sum of a link can be changed
pub record CanChangeCounts (change : Change) (fault : FaultValue) (a b : ℕ) (t : LinkTally)
    : Type 0 where
  pub cuts : CanChange change 65535 t.cuts (one_if (cuts a b fault))
  pub slowed_ms : CanChange change (2 ^ 64 - 1) t.slowed_ms (delay_by a b fault)
  pub losses : (i : ℕ) → i < max_loss
      → CanChange change 65535 (slice_index_or t.losses i 0) (one_if (loses a b (i + 1) fault))

-- all counts and sums can be changed
pub record CanChangeTallies (change : Change) (fault : FaultValue) (t : Tallies) : Type 0 where
  pub links : (a b : ℕ) → a < length t.nodes → b < length t.nodes
      → CanChangeCounts change fault a b (link_tally (length t.nodes) t.links a b)
  pub pauses : (a : ℕ) → a < length t.nodes
      → CanChange change 65535 (node_tally t.nodes a).pauses (one_if (pauses a fault))
  pub kills : (a : ℕ) → a < length t.nodes
      → CanChange change 65535 (node_tally t.nodes a).kills (one_if (kills a fault))
  pub clocks : All (λ n. IsWithin (2 ^ 61) n.bumped_ms) t.nodes

-- there is a free entry for a fix that is put, and one with the stamp where it is taken
abbrev pub CanChangeEntries : Change → ℕ → Option FixValue → List (Option FixEntry) → Type 0
CanChangeEntries change stamp None entries = ⊤
CanChangeEntries Change.Add stamp (Some fix) entries = count_by is_some entries < length entries
CanChangeEntries Change.Remove stamp (Some fix) entries = list_any (has_stamp stamp) entries ≡ true

-- an entry that was free holds the fix, or the one that held it is free
abbrev pub AreEntriesChanged
    : Change → ℕ → Option FixValue → List (Option FixEntry) → List (Option FixEntry) → Type 0
AreEntriesChanged change stamp None old new = new ≡ old
AreEntriesChanged Change.Add stamp (Some fix) old new =
    (place : ℕ) × (entry : FixEntry) × (slice_get old place ≡ Some None)
    × IsEntryOf max_nodes stamp fix.0 fix.1 entry × (new ≡ slice_set old place (Some entry))
AreEntriesChanged Change.Remove stamp (Some fix) old new =
    (place : ℕ) × (entry : FixEntry) × (slice_get old place ≡ Some (Some entry))
    × (entry.stamp ≡ stamp) × (new ≡ slice_set old place None)
