-- The cells that are read off the tallies of faults are what the faults make of the cells at the start.
use Rattle.std.proofs.Common.{◌≡◌, ℕ, ◌+◌, ◌*◌, ◌<◌, ◌≤◌, Bool, true, false, List, length, get_or, refl, ap, ◌∙◌, sym, subst, arith, Some, None}
use Rattle.std.specs.Prelude.{if◌then◌else◌, ◌==◌, ◌||◌, ◌&&◌, not, nat_lt, option_map, slice_get, ℤ}
use Rattle.std.proofs.lemmas.Bool.{ltb-true, lt-ltb, and_parts}
use Rattle.std.proofs.lemmas.Nat.{mul-add-lt, div-mul-add, mod-mul-add}
use Rattle.std.proofs.lemmas.List.{get_or-map, length-map}
use Rattle.std.proofs.lemmas.List.FromFn.{get_or-map-range_with_len}
use Rattle.std.proofs.lemmas.Option.{slice_get-map, slice_get_within, slice_get-get_or, slice_get_past, same_Some}
use Rattle.jh_tables.specs.declared.cells.Life.{Life}
use Rattle.jh_tables.specs.declared.cells.Link.{Link}
use Rattle.jh_tables.specs.declared.cells.NodeCell.{NodeCell}
use Rattle.jh_tables.specs.declared.counted.LinkTally.{LinkTally}
use Rattle.jh_tables.specs.declared.counted.NodeTally.{NodeTally}
use Rattle.jh_tables.specs.Cells.{calm_link, link_at, node_at}
use Rattle.jh_tables.specs.Faults.{FaultValue}
use Rattle.jh_tables.specs.Overlay.{IsOverlay, link_over, node_over, cuts, kills, pauses, bump_by}
use Rattle.jh_tables.specs.Tallies.{Tallies, calm_tally, running_tally, latest_fix, link_now, node_now, link_of_place, cells_now, cells_at_start}
use Rattle.jh_tables.specs.Standing.{AreTallies, AreEntries, AreInOrder, IsLinkTally, IsNodeTally, faults_of}
use Rattle.jh_tables.proofs.CountLemmas.{some_counted, total_from}
use Rattle.jh_tables.proofs.FixLemmas.{delay_is_over}
use Rattle.jh_tables.proofs.LevelLemmas.{level_is_over}

same_link_cell : (c d : Bool) (m n s t : ℕ) → c ≡ d → m ≡ n → s ≡ t → (let l : Link = record { cut = c; delay = m; loss = s } in l) ≡ record { cut = d; delay = n; loss = t }
same_link_cell c d m n s t p q r = rw (p, q, r) refl

same_node_cell : (p q : Life) (c d : ℤ) → p ≡ q → c ≡ d → (let n : NodeCell = record { process = p; clock = c } in n) ≡ record { process = q; clock = d }
same_node_cell p q c d e f = rw (e, f) refl

-- the link from a to b is read off its tally
pub link_read : (t : Tallies) → length t.links ≡ length t.nodes * length t.nodes → (a b : ℕ) → a < length t.nodes → b < length t.nodes
    → get_or (cells_now t).links (a * length t.nodes + b) calm_link ≡ link_now (get_or t.links (a * length t.nodes + b) calm_tally) (latest_fix a b t.fixes)
link_read t square a b ha hb =
    let n = length t.nodes in
    let below : a * n + b < length t.links = rw square (mul-add-lt a n b n ha hb) in
    let here : link_of_place t n (a * n + b) ≡ link_now (get_or t.links (a * n + b) calm_tally) (latest_fix a b t.fixes) =
    rw (div-mul-add a n b hb, mod-mul-add a n b hb) refl in
    get_or-map-range_with_len (link_of_place t n) 0 (length t.links) (a * n + b) (a * n + b) calm_link below (omega arith) ∙ here

pub link_at_now : (t : Tallies) → length t.links ≡ length t.nodes * length t.nodes → (a b : ℕ) → a < length t.nodes → b < length t.nodes → (a == b) ≡ false
    → link_at (cells_now t) a b ≡ Some (link_now (get_or t.links (a * length t.nodes + b) calm_tally) (latest_fix a b t.fixes))
link_at_now t square a b ha hb apart =
    rw (length-map t.nodes, lt-ltb a (length t.nodes) ha, lt-ltb b (length t.nodes) hb, apart) (ap Some (link_read t square a b ha hb))

pub node_at_now : (t : Tallies) (a : ℕ) → a < length t.nodes → node_at (cells_now t) a ≡ Some (node_now (get_or t.nodes a running_tally))
node_at_now t a ha = slice_get-map node_now t.nodes a ∙ ap (option_map node_now) (slice_get-get_or t.nodes a running_tally ha)

pub no_node_now : (t : Tallies) (a : ℕ) → length t.nodes ≤ a → node_at (cells_now t) a ≡ None
no_node_now t a past = slice_get-map node_now t.nodes a ∙ ap (option_map node_now) (slice_get_past t.nodes a past)

module _ (t : Tallies) (stamped : List (ℕ × FaultValue)) (are : AreTallies (length t.nodes) t (faults_of stamped))
    (entries : AreEntries (length t.nodes) t.fixes stamped) (order : AreInOrder stamped) where
  abbrev faults : List FaultValue
  faults = faults_of stamped

  link_is_over : (a b : ℕ) → a < length t.nodes → b < length t.nodes
      → (let tally = get_or t.links (a * length t.nodes + b) calm_tally in link_now tally (latest_fix a b t.fixes) ≡ link_over faults a b tally.start)
  link_is_over a b ha hb =
      let tally = get_or t.links (a * length t.nodes + b) calm_tally in
      let is : IsLinkTally a b faults tally = are.links a b ha hb in
      same_link_cell _ _ _ _ _ _
      (ap (λ s. tally.start.cut || s) (ap (nat_lt 0) is.cuts ∙ some_counted (cuts a b) faults))
      (rw (delay_is_over (length t.nodes) a b tally.start.delay t.fixes stamped ha hb entries order, is.slowed_ms) refl)
      (level_is_over (length t.nodes) a b tally.start.loss tally.losses faults are.right is.losses)

  node_is_over : (a : ℕ) → a < length t.nodes → (let tally = get_or t.nodes a running_tally in node_now tally ≡ node_over faults a tally.start)
  node_is_over a ha =
      let tally = get_or t.nodes a running_tally in
      let is : IsNodeTally a faults tally = are.nodes a ha in
      same_node_cell _ _ _ _
      (rw (is.kills, is.pauses, some_counted (kills a) faults, some_counted (pauses a) faults) refl)
      (rw is.bumped_ms (sym (total_from (bump_by a) tally.start.clock faults)))

  pub cells_are_overlay : length t.links ≡ length t.nodes * length t.nodes → IsOverlay (cells_at_start t) faults (cells_now t)
  cells_are_overlay square = record {
    links = λ a b. rw (length-map t.nodes, length-map t.nodes)
        (elim (nat_lt a (length t.nodes) && (nat_lt b (length t.nodes) && not (a == b)))
        as (λ s. (nat_lt a (length t.nodes) && (nat_lt b (length t.nodes) && not (a == b))) ≡ s
        → (if s then Some (get_or (cells_now t).links (a * length t.nodes + b) calm_link) else None)
        ≡ option_map (link_over faults a b) (if s then Some (get_or (cells_at_start t).links (a * length t.nodes + b) calm_link) else None)) [
          | true ↦ λ s.
              let n = length t.nodes in
              let parts = and_parts (nat_lt a n) (nat_lt b n && not (a == b)) s in
              let ha : a < n = ltb-true a n parts.0 in
              let hb : b < n = ltb-true b n (and_parts (nat_lt b n) (not (a == b)) parts.1).0 in
              let below : a * n + b < length t.links = rw square (mul-add-lt a n b n ha hb) in
              let start : get_or (cells_at_start t).links (a * n + b) calm_link ≡ (get_or t.links (a * n + b) calm_tally).start =
              get_or-map (λ (x : LinkTally). x.start) t.links (a * n + b) calm_tally calm_link below in
              ap Some (link_read t square a b ha hb ∙ link_is_over a b ha hb ∙ ap (link_over faults a b) (sym start))
          | false ↦ λ s. refl
        ] refl);
    nodes = λ a. slice_get-map node_now t.nodes a
        ∙ elim (slice_get t.nodes a) as (λ o. slice_get t.nodes a ≡ o → option_map node_now o ≡ option_map (node_over faults a) (option_map (λ (x : NodeTally). x.start) o)) [
          | Some x ↦ λ s.
              let ha : a < length t.nodes = slice_get_within t.nodes a x s in
              let same : get_or t.nodes a running_tally ≡ x = same_Some (get_or t.nodes a running_tally) x (sym (slice_get-get_or t.nodes a running_tally ha) ∙ s) in
              ap Some (subst (λ y. node_now y ≡ node_over faults a y.start) same (node_is_over a ha))
          | None ↦ λ s. refl
        ] refl
        ∙ ap (option_map (node_over faults a)) (sym (slice_get-map (λ (x : NodeTally). x.start) t.nodes a));
  }
