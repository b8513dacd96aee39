-- Whole tables, before and after a fault is put or taken.
use Rattle.std.proofs.Common.{◌≡◌, ℕ, ◌+◌, ◌*◌, ◌/◌, ◌%◌, ◌<◌, ◌≤◌, true, false, List, ◌∷◌, ◌++◌, length, get_or, map, refl, ap, ◌∙◌, sym, arith, Option, Some, None, length-append, length-set, mod-lt, div-add-mod'}
use Rattle.std.specs.Prelude.{◌==◌, ⊤}
use Rattle.std.specs.List.{All}
use Rattle.std.proofs.lemmas.Bool.{eqb-true, eqb-false}
use Rattle.std.proofs.lemmas.Nat.{div_below}
use Rattle.std.proofs.lemmas.List.{get_or-map, length-map}
use Rattle.std.proofs.lemmas.List.Elements.{All-set}
use Rattle.jh_tables.specs.declared.counted.FixEntry.{FixEntry}
use Rattle.jh_tables.specs.declared.counted.LinkTally.{LinkTally}
use Rattle.jh_tables.specs.declared.counted.NodeTally.{NodeTally}
use Rattle.jh_tables.specs.declared.changing.Change.{Change}
use Rattle.jh_tables.specs.Cells.{calm_link, running_node}
use Rattle.jh_tables.specs.Faults.{FaultValue, IsFault, IsFixAmount, FitsCount, fix_value}
use Rattle.jh_tables.specs.Faults.FaultValue.{Cut, Slow, Loss, Fix, Pause, Kill, Bump}
use Rattle.jh_tables.specs.Tallies.{Tallies, calm_tally, running_tally, cells_now, cells_at_start}
use Rattle.jh_tables.specs.Standing.{TablesValue, AreEntries, AreInOrder, AreTallies, StandsAt, faults_of}
use Rattle.jh_tables.specs.TablesInside.{HasFixAmount}
use Rattle.jh_tables.specs.ChangingInside.{AreEntriesChanged, AreChanged}
use Rattle.jh_tables.proofs.MiddleLemmas.{pairs_without, same_lists, all_middle}
use Rattle.jh_tables.proofs.OverlayLemmas.{cells_are_overlay}
use Rattle.jh_tables.proofs.StandingLemmas.{stamped_from, stamped_to, faults_of_from, faults_of_to, entries_changed, used_changed}
use Rattle.jh_tables.proofs.TallyLemmas.{faults_from, tallies_changed}

-- the tables of these tallies, with so many faults put
abbrev pub tables_of : Tallies → ℕ → TablesValue
tables_of t laid = record { start = cells_at_start t; cells = cells_now t; tallies = t; laid = laid }

module _ (change : Change) (fault : FaultValue) (old new : Tallies) (are : AreChanged change fault old new)
    (square : length old.links ≡ length old.nodes * length old.nodes) where
  link_starts : (k : ℕ) → k < length old.links → (get_or new.links k calm_tally).start ≡ (get_or old.links k calm_tally).start
  link_starts k h =
      let n = length old.nodes in
      let within : k < n * n = rw (← square) h in
      let some : 0 < n = elim (n == 0) as (λ s. (n == 0) ≡ s → 0 < n) [
        | true ↦ λ s. let none = eqb-true n 0 s in absurd (let nothing : k < 0 * 0 = rw none at within in omega (arith, nothing))
        | false ↦ λ s. let more = eqb-false n 0 s in omega (arith, more)
      ] refl in
      let place : k / n * n + k % n ≡ k = div-add-mod' k n in
      let changed = are.links (k / n) (k % n) (div_below k n n some within) (mod-lt k some) in
      ap (λ (t : LinkTally). t.start) (rw place at changed)

  -- the cells at the start stay
  pub start_stays : cells_at_start new ≡ cells_at_start old
  start_stays =
      let links : map (λ (t : LinkTally). t.start) new.links ≡ map (λ (t : LinkTally). t.start) old.links =
      same_lists calm_link _ _ (length-map new.links (λ t. t.start) ∙ are.many_links ∙ sym (length-map old.links (λ t. t.start))) (λ k h.
      let below : k < length new.links = rw (length-map new.links (λ t. t.start)) at h in
      let before : k < length old.links = rw (← are.many_links) below in
      get_or-map (λ (t : LinkTally). t.start) new.links k calm_tally calm_link below ∙ link_starts k before
      ∙ sym (get_or-map (λ (t : LinkTally). t.start) old.links k calm_tally calm_link before)) in
      let nodes : map (λ (t : NodeTally). t.start) new.nodes ≡ map (λ (t : NodeTally). t.start) old.nodes =
      same_lists running_node _ _ (length-map new.nodes (λ t. t.start) ∙ are.many_nodes ∙ sym (length-map old.nodes (λ t. t.start))) (λ k h.
      let below : k < length new.nodes = rw (length-map new.nodes (λ t. t.start)) at h in
      let before : k < length old.nodes = rw (← are.many_nodes) below in
      get_or-map (λ (t : NodeTally). t.start) new.nodes k running_tally running_node below ∙ ap (λ (t : NodeTally). t.start) (are.nodes k before)
      ∙ sym (get_or-map (λ (t : NodeTally). t.start) old.nodes k running_tally running_node before)) in
      rw (links, nodes) refl

  pub square_stays : length new.links ≡ length new.nodes * length new.nodes
  square_stays = are.many_links ∙ square ∙ rw are.many_nodes refl

order_changed : (change : Change) (before after : List (ℕ × FaultValue)) (fault : ℕ × FaultValue) → AreInOrder (before ++ fault ∷ after)
    → AreInOrder (stamped_to change before fault after)
order_changed Change.Add before after fault order = order
order_changed Change.Remove before after fault order = pairs_without (λ x y. x.0 < y.0) before after fault order

-- the tables stand for the faults that are left
pub stands_changed : (change : Change) (stamp : ℕ) (fault : FaultValue) (before after : List (ℕ × FaultValue)) (old new : Tallies) (was laid : ℕ)
    → length old.nodes ≤ 64 → length old.links ≡ length old.nodes * length old.nodes → IsFault fault → FitsCount (length old.nodes) fault
    → AreChanged change fault old new → AreEntriesChanged change stamp (fix_value fault) old.fixes new.fixes
    → AreInOrder (before ++ (stamp, fault) ∷ after) → laid ≡ length (stamped_to change before (stamp, fault) after)
    → StandsAt (tables_of old was) (stamped_from change before (stamp, fault) after)
    → StandsAt (tables_of new laid) (stamped_to change before (stamp, fault) after)
stands_changed change stamp fault before after old new was laid few square right fits are entries order long stands =
    let from = faults_of_from change before after (stamp, fault) in
    let to = faults_of_to change before after (stamp, fault) in
    let begun : AreTallies (length old.nodes) old (faults_from change (faults_of before) fault (faults_of after)) = rw from at stands.tallies in
    let left = tallies_changed change (faults_of before) fault (faults_of after) right old new fits are (used_changed change stamp fault old.fixes new.fixes entries) begun in
    let tallies : AreTallies (length new.nodes) new (faults_of (stamped_to change before (stamp, fault) after)) = rw (are.many_nodes, to) left in
    let held : AreEntries (length new.nodes) new.fixes (stamped_to change before (stamp, fault) after) =
    rw are.many_nodes (entries_changed change (length old.nodes) stamp fault before after old.fixes new.fixes few order entries stands.entries) in
    let rising = order_changed change before after (stamp, fault) order in
    record {
      order = rising;
      laid = long;
      tallies = tallies;
      entries = held;
      cells = cells_are_overlay new (stamped_to change before (stamp, fault) after) tallies held rising (square_stays change fault old new are square);
    }

-- there are as many entries as before
pub room_changed : (change : Change) (stamp : ℕ) (parts : Option (ℕ × List (ℕ × ℕ))) (old new : List (Option FixEntry))
    → AreEntriesChanged change stamp parts old new → length new ≡ length old
room_changed change stamp None old new are = ap length are
room_changed Change.Add stamp (Some fix) old new are = ap length are.4 ∙ length-set old are.0 (Some are.1)
room_changed Change.Remove stamp (Some fix) old new are = ap length are.4 ∙ length-set old are.0 None

-- the delay is one that a fix may have
abbrev HasRightDelay : Option (ℕ × List (ℕ × ℕ)) → Type 0
HasRightDelay None = ⊤
HasRightDelay (Some fix) = IsFixAmount fix.0

right_delay : (fault : FaultValue) → IsFault fault → HasRightDelay (fix_value fault)
right_delay (Fix ms links) right = right.0
right_delay (Cut links) right = tt
right_delay (Slow ms links) right = tt
right_delay (Loss level links) right = tt
right_delay (Pause nodes) right = tt
right_delay (Kill nodes) right = tt
right_delay (Bump bumps) right = tt

entry_delays : (change : Change) (stamp : ℕ) (parts : Option (ℕ × List (ℕ × ℕ))) (old new : List (Option FixEntry)) → HasRightDelay parts
    → AreEntriesChanged change stamp parts old new → All HasFixAmount old → All HasFixAmount new
entry_delays change stamp None old new right are all = rw are all
entry_delays Change.Add stamp (Some fix) old new right are all = rw are.4 (All-set HasFixAmount old are.0 (Some are.1) (rw (are.3).delay right) all)
entry_delays Change.Remove stamp (Some fix) old new right are all = rw are.4 (All-set HasFixAmount old are.0 None tt all)

-- entries in use keep delays that fixes may have
pub delays_changed : (change : Change) (stamp : ℕ) (fault : FaultValue) (old new : List (Option FixEntry)) → IsFault fault
    → AreEntriesChanged change stamp (fix_value fault) old new → All HasFixAmount old → All HasFixAmount new
delays_changed change stamp fault old new right = entry_delays change stamp (fix_value fault) old new (right_delay fault right)

-- what follows where tables stand for a fault among others
module _ (stamp : ℕ) (fault : FaultValue) (before after : List (ℕ × FaultValue)) (t : Tallies) (laid : ℕ)
    (stands : StandsAt (tables_of t laid) (before ++ (stamp, fault) ∷ after)) where
  pub held_tallies : AreTallies (length t.nodes) t (faults_of before ++ fault ∷ faults_of after)
  held_tallies = rw (faults_of_from Change.Remove before after (stamp, fault)) at stands.tallies

  pub held_fault : IsFault fault × FitsCount (length t.nodes) fault
  held_fault = all_middle (λ f. IsFault f × FitsCount (length t.nodes) f) (faults_of before) (faults_of after) fault held_tallies.right

  pub held_few : laid ≤ 256 → length (faults_of before ++ faults_of after) < 256
  held_few h =
      omega (
        arith,
        h,
        stands.laid,
        length-append before ((stamp, fault) ∷ after),
        length-append (faults_of before) (faults_of after),
        length-map before (λ (s : ℕ × FaultValue). s.1),
        length-map after (λ (s : ℕ × FaultValue). s.1),
      )
