-- The ranges of the cells that are read off tallies of at most 256 faults.
use Rattle.std.proofs.Common.{◌≡◌, ℕ, ◌+◌, ◌*◌, ◌<◌, ◌≤◌, ◌^◌, true, false, List, [], ◌∷◌, length, get_or, ◌∙◌, subst, arith, Option, Some, None}
use Rattle.std.specs.Prelude.{if◌then◌else◌, ◌&&◌, fold, nat_lt, ⊤, pos}
use Rattle.std.specs.List.{All, range_with_len}
use Rattle.std.proofs.lemmas.Int.{ints}
use Rattle.std.proofs.lemmas.Nat.{mul-add-lt, mul-le}
use Rattle.std.proofs.lemmas.List.{get_or-map, length-map}
use Rattle.std.proofs.lemmas.List.Elements.{All-head, All-tail, All-weaker, All-from_get_or}
use Rattle.std.proofs.lemmas.List.FromFn.{length-range_with_len, get_or-range_with_len}
use Rattle.std.proofs.lemmas.List.Sums.{sum_by-le}
use Rattle.jh_tables.specs.declared.counted.FixEntry.{FixEntry}
use Rattle.jh_tables.specs.declared.counted.FixedDelay.{FixedDelay}
use Rattle.jh_tables.specs.declared.counted.LinkTally.{LinkTally}
use Rattle.jh_tables.specs.declared.counted.NodeTally.{NodeTally}
use Rattle.jh_tables.specs.Cells.{calm_link, running_node}
use Rattle.jh_tables.specs.Faults.{FaultValue, IsFault}
use Rattle.jh_tables.specs.Overlay.{delay_by}
use Rattle.jh_tables.specs.Tallies.{Tallies, calm_tally, running_tally, cells_at_start, delay_fixed, greatest_level, is_after, is_fixed_in, later_fix, latest_fix, level_held, link_now, node_now}
use Rattle.jh_tables.specs.Standing.{AreTallies, IsLinkInRange, IsNodeInRange, IsStartingLink, IsStartingNode, IsWithin}
use Rattle.jh_tables.specs.TablesInside.{HasFixAmount}
use Rattle.jh_tables.proofs.CountLemmas.{max_bound}
use Rattle.jh_tables.proofs.RoomLemmas.{delay_at_most, total_at_most}

-- the delay found so far is one that a fix may have
abbrev IsShort : Option FixedDelay → Type 0
IsShort None = ⊤
IsShort (Some fix) = fix.ms ≤ 60000

later_short : (a b : ℕ) (best : Option FixedDelay) (next : Option FixEntry) → IsShort best → HasFixAmount next → IsShort (later_fix a b best next)
later_short a b best None short right = short
later_short a b best (Some fix) short right =
    elim (is_fixed_in fix a b && is_after fix.stamp best) as (λ s. IsShort (if s then Some (record { stamp = fix.stamp; ms = fix.ms }) else best)) [
      | true ↦ right
      | false ↦ short
    ]

latest_short : (a b : ℕ) (entries : List (Option FixEntry)) (best : Option FixedDelay) → IsShort best → All HasFixAmount entries → IsShort (fold (later_fix a b) best entries)
latest_short a b [] best short all = short
latest_short a b (e ∷ es) best short all =
    latest_short a b es (later_fix a b best e) (later_short a b best e short (All-head HasFixAmount e es all)) (All-tail HasFixAmount e es all)

fixed_short : (fix : Option FixedDelay) (delay : ℕ) → IsShort fix → delay ≤ 60000 → delay_fixed fix delay ≤ 60000
fixed_short None delay short h = h
fixed_short (Some fix) delay short h = short

held_short : (losses : List ℕ) (i : ℕ) → i < 20 → level_held losses i ≤ 20
held_short losses i h = elim (nat_lt 0 (get_or losses i 0)) as (λ s. (if s then i + 1 else 0) ≤ 20) [
  | true ↦ omega (arith, h)
  | false ↦ omega arith
]

level_at_most : (losses : List ℕ) (start : ℕ) → start ≤ 20 → greatest_level losses start ≤ 20
level_at_most losses start h =
    max_bound (level_held losses) start 20 (range_with_len 0 20) h (All-from_get_or (λ i. level_held losses i ≤ 20) (range_with_len 0 20) 0 (λ i below.
    let short : i < 20 = rw (length-range_with_len 0 20) at below in
    let same : get_or (range_with_len 0 20) i 0 ≡ i = get_or-range_with_len 0 20 i 0 short ∙ omega arith in
    rw same (held_short losses i short)))

module _ (t : Tallies) (faults : List FaultValue) (are : AreTallies (length t.nodes) t faults) (few : length faults ≤ 256) where
  right : All IsFault faults
  right k d h = (are.right k d h).0

  pub link_in_range : length t.links ≡ length t.nodes * length t.nodes → All IsStartingLink (cells_at_start t).links → All HasFixAmount t.fixes
      → (a b : ℕ) → a < length t.nodes → b < length t.nodes
      → IsLinkInRange (link_now (get_or t.links (a * length t.nodes + b) calm_tally) (latest_fix a b t.fixes))
  link_in_range square starting delays a b ha hb =
      let n = length t.nodes in
      let k = a * n + b in
      let tally = get_or t.links k calm_tally in
      let below : k < length t.links = rw square (mul-add-lt a n b n ha hb) in
      let there : k < length (cells_at_start t).links = rw (length-map t.links (λ (x : LinkTally). x.start)) below in
      let same : get_or (cells_at_start t).links k calm_link ≡ tally.start = get_or-map (λ (x : LinkTally). x.start) t.links k calm_tally calm_link below in
      let start : IsStartingLink tally.start = subst IsStartingLink same (starting k calm_link there) in
      let fixed = fixed_short (latest_fix a b t.fixes) tally.start.delay (latest_short a b t.fixes None tt delays) start.0 in
      let slowed_ms = sum_by-le (delay_by a b) 60000 faults (All-weaker IsFault (λ f. delay_by a b f ≤ 60000) (delay_at_most a b) faults right) in
      let many : length faults * 60000 ≤ 256 * 60000 = mul-le (length faults) 60000 256 60000 few (omega arith) in
      (omega (arith, fixed, slowed_ms, many, (are.links a b ha hb).slowed_ms), level_at_most tally.losses tally.start.loss start.1)

  pub bumped_in_range : (a : ℕ) → a < length t.nodes → IsWithin (256 * 10 ^ 9) (get_or t.nodes a running_tally).bumped_ms
  bumped_in_range a ha =
      let zero : IsWithin 0 (pos 0) = (omega (arith, ints), omega (arith, ints)) in
      let total = total_at_most a faults (pos 0) 0 right zero in
      rw (are.nodes a ha).bumped_ms (omega (arith, ints, total.0, few), omega (arith, ints, total.1, few))

  pub clock_at_start : All IsStartingNode (cells_at_start t).nodes → (a : ℕ) → a < length t.nodes → IsStartingNode (get_or t.nodes a running_tally).start
  clock_at_start starting a ha =
      let there : a < length (cells_at_start t).nodes = rw (length-map t.nodes (λ (x : NodeTally). x.start)) ha in
      let same : get_or (cells_at_start t).nodes a running_node ≡ (get_or t.nodes a running_tally).start = get_or-map (λ (x : NodeTally). x.start) t.nodes a running_tally running_node ha in
      subst IsStartingNode same (starting a running_node there)

  pub node_in_range : All IsStartingNode (cells_at_start t).nodes → (a : ℕ) → a < length t.nodes → IsNodeInRange (node_now (get_or t.nodes a running_tally))
  node_in_range starting a ha =
      let start = clock_at_start starting a ha in
      let bumped_ms = bumped_in_range a ha in
      (omega (arith, ints, start.0, bumped_ms.0), omega (arith, ints, start.1, bumped_ms.1))
