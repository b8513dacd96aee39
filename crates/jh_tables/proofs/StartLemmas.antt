-- Fresh tallies stand for no fault.
use Rattle.std.proofs.Common.{◌≡◌, ℕ, ◌+◌, ◌*◌, ◌<◌, List, [], ◌∷◌, length, get_or, map, refl, ap, arith, zero, suc, Option, Some, None, replicate}
use Rattle.std.specs.List.{All, Contains}
use Rattle.std.proofs.lemmas.Nat.{mul-add-lt}
use Rattle.std.proofs.lemmas.Option.{get_or_from_slice_get, none-some}
use Rattle.std.proofs.lemmas.List.{get_or-map, length-map, length-replicate}
use Rattle.std.proofs.lemmas.List.Elements.{All-nil, All-replicate}
use Rattle.jh_tables.specs.declared.counted.FixEntry.{FixEntry}
use Rattle.jh_tables.specs.declared.counted.LinkTally.{LinkTally}
use Rattle.jh_tables.specs.declared.counted.NodeTally.{NodeTally}
use Rattle.jh_tables.specs.declared.cells.Link.{Link}
use Rattle.jh_tables.specs.declared.cells.NodeCell.{NodeCell}
use Rattle.jh_tables.specs.Cells.{calm_link, running_node}
use Rattle.jh_tables.specs.Faults.{IsFault, FitsCount}
use Rattle.jh_tables.specs.Tallies.{Tallies, calm_tally, running_tally, cells_at_start, faultless_tallies, fresh_link, fresh_node}
use Rattle.jh_tables.specs.Standing.{AreEntries, AreTallies, StandsAt}
use Rattle.jh_tables.specs.TablesInside.{HasFixAmount}
use Rattle.jh_tables.proofs.AllEntriesLemmas.{free_at, none_used}
use Rattle.jh_tables.proofs.OverlayLemmas.{cells_are_overlay}
use Rattle.jh_tables.proofs.WholeLemmas.{tables_of}

zeros : (n i : ℕ) → ◌≡◌ {A = ℕ} (get_or (replicate n 0) i 0) 0
zeros zero i = refl
zeros (suc n) zero = refl
zeros (suc n) (suc i) = zeros n i

all_free : (n : ℕ) (entry : FixEntry) → Contains (replicate n None) (Some entry) → ⊥
all_free zero entry among = omega (arith, among.1)
all_free (suc n) entry (zero, h, is) = none-some entry is
all_free (suc n) entry (suc k, h, is) = all_free n entry (k, omega (arith, h), is)

module _ (links : List Link) (nodes : List NodeCell) (square : length links ≡ length nodes * length nodes) where
  abbrev t : Tallies
  t = faultless_tallies links nodes

  pub fresh_square : length t.links ≡ length t.nodes * length t.nodes
  fresh_square = rw (length-map links fresh_link, length-map nodes fresh_node) square

  pub fresh_tallies : AreTallies (length t.nodes) t []
  fresh_tallies = record {
    right = All-nil (λ f. IsFault f × FitsCount (length t.nodes) f);
    links = λ a b ha hb.
        let n = length nodes in
        let la : a < n = rw (length-map nodes fresh_node) at ha in
        let lb : b < n = rw (length-map nodes fresh_node) at hb in
        let below : a * n + b < length links = rw square (mul-add-lt a n b n la lb) in
        rw (length-map nodes fresh_node, get_or-map fresh_link links (a * n + b) calm_link calm_tally below)
        (record { cuts = refl; slowed_ms = refl; levels = refl; losses = λ i h. zeros 20 i });
    nodes = λ a ha.
        let la : a < length nodes = rw (length-map nodes fresh_node) at ha in
        rw (get_or-map fresh_node nodes a running_node running_tally la) (record { pauses = refl; kills = refl; bumped_ms = refl });
    fixes = none_used 256;
  }

  pub fresh_entries : AreEntries (length t.nodes) t.fixes []
  fresh_entries = record {
    all = λ stamp ms ls among. absurd (omega (arith, among.1));
    only = λ entry among. absurd (all_free 256 entry among);
    once = λ i j d p q. let long = length-replicate 256 (let none : Option FixEntry = None in none) in
        rw (get_or_from_slice_get (replicate 256 None) i None d (free_at 256 i (omega (arith, long, p, q)))) tt;
  }

  pub fresh_stands : StandsAt (tables_of t 0) []
  fresh_stands = record {
    order = λ i j d p q. absurd (omega (arith, q));
    laid = refl;
    tallies = fresh_tallies;
    entries = fresh_entries;
    cells = cells_are_overlay t [] fresh_tallies fresh_entries (λ i j d p q. absurd (omega (arith, q))) fresh_square;
  }

  links_again : (ls : List Link) → map (λ (l : LinkTally). l.start) (map fresh_link ls) ≡ ls
  links_again [] = refl
  links_again (l ∷ ls) = ap (λ rest. l ∷ rest) (links_again ls)

  nodes_again : (ns : List NodeCell) → map (λ (n : NodeTally). n.start) (map fresh_node ns) ≡ ns
  nodes_again [] = refl
  nodes_again (n ∷ ns) = ap (λ rest. n ∷ rest) (nodes_again ns)

  pub fresh_start : cells_at_start t ≡ record { links = links; nodes = nodes }
  fresh_start = rw (links_again links, nodes_again nodes) refl

pub fresh_delays : (n : ℕ) → All HasFixAmount (replicate n None)
fresh_delays n = All-replicate HasFixAmount n None tt
