-- Faults that are named by a grudge (Jepsen's page on nemeses: the partitions of `bisect`,
-- `split-one`, `bridge` and `majorities-ring`; their texts, and the rings in another order, are
-- this project's own). Each cuts the links between all nodes on which its grudge drops messages. A
-- link is the pair of its source's place and its destination's. A new name is a new case of
-- `named_links`.
use Rattle.std.specs.Prelude.{◌≢◌, ◌<◌, ℕ, ◌+◌, ◌-◌, ◌/◌, ◌%◌, ◌==◌, ◌&&◌, ◌||◌, Bool, false, not}
use Rattle.std.specs.Prelude.{pos, negsuc, List, map, length, filter, flat_map, nat_lt, slice_get}
use Rattle.std.specs.Prelude.{Option, Some, None, IsPermutation}
use Rattle.std.specs.List.{All, list_any, range_with_len}
use Rattle.rand_core.specs.Pcg32Seed.{pcg32_seed}
use Rattle.rand_core.specs.Steps.{steps_u32, stream_of}
use Rattle.rand_pcg.specs.Pcg.{pcg32, pcg32_of_seed}
use Rattle.rand.specs.Shuffle.{shuffled}
use Rattle.jh_env.specs.Names.{node_places}
use Rattle.jh_step_texts.specs.declared.spelling.NamedGrudge.{NamedGrudge}

-- all pairs of places, by the first and then by the second
abbrev pub all_pairs : ℕ → List (ℕ × ℕ)
all_pairs n = flat_map (λ a. map (λ b. (a, b)) (node_places n)) (node_places n)

-- of all links between n nodes those that are such
abbrev pub links_that : ((ℕ × ℕ) → Bool) → ℕ → List (ℕ × ℕ)
links_that is n = filter is (all_pairs n)

-- each of these links joins two different nodes of n
abbrev pub AreLinksAmong : ℕ → List (ℕ × ℕ) → Type 0
AreLinksAmong n links = All (λ l. (l.0 < n) × (l.1 < n) × (l.0 ≢ l.1)) links

-- just one end of a link is such
abbrev pub crosses : (ℕ → Bool) → (ℕ × ℕ) → Bool
crosses is l = (is l.0 && not (is l.1)) || (not (is l.0) && is l.1)

-- from one half of n nodes to the other; the first half is rounded down
abbrev pub crosses_halves : ℕ → (ℕ × ℕ) → Bool
crosses_halves n = crosses (λ a. nat_lt a (n / 2))

-- between one node and the rest
abbrev pub touches : ℕ → (ℕ × ℕ) → Bool
touches loner = crosses (λ a. a == loner)

-- from one side to the other of the bridge, which is the first node of the second half
abbrev pub crosses_bridge : ℕ → (ℕ × ℕ) → Bool
crosses_bridge n l =
    (nat_lt l.0 (n / 2) && nat_lt (n / 2) l.1) || (nat_lt (n / 2) l.0 && nat_lt l.1 (n / 2))

abbrev pub is_option_of : ℕ → Option ℕ → Bool
is_option_of a (Some b) = b == a
is_option_of a None = false

-- this node stands at this place of an order
abbrev pub is_at : List ℕ → ℕ → ℕ → Bool
is_at order place node = is_option_of node (slice_get order place)

-- In a ring of n nodes in this order, the source comes behind the majority that begins with the
-- destination: k places on from it, around, for a k from the majority to n - 1.
abbrev pub leaves_majority : List ℕ → (ℕ × ℕ) → Bool
leaves_majority order l =
    (let n = length order in let majority = n / 2 + 1 in
    list_any (λ i. is_at order i l.1
    && list_any (λ k. is_at order ((i + k) % n) l.0) (range_with_len majority (n - majority)))
    (node_places n))

-- the links that a ring in this order cuts
abbrev pub ring_links : List ℕ → ℕ → List (ℕ × ℕ)
ring_links order n = links_that (leaves_majority order) n

-- the order that a seed gives: the places, shuffled by the generator that is seeded with it
abbrev pub seeded_order : ℕ → ℕ → List ℕ
seeded_order seed n =
    (shuffled (node_places n) 0
    (stream_of (steps_u32 pcg32) (pcg32_of_seed (pcg32_seed 16 seed)))).0

-- a ring in the order that a seed gives is laid over all n nodes, each once
abbrev pub IsOverAll : ℕ → NamedGrudge → Type 0
IsOverAll n (NamedGrudge.ShuffledRing (pos seed)) = IsPermutation (node_places n) (seeded_order seed n)
IsOverAll n _ = Unit {0}

-- the links that a named fault cuts between n nodes; a seed below zero is none
abbrev pub named_links : NamedGrudge → ℕ → Option (List (ℕ × ℕ))
named_links NamedGrudge.Halves n = Some (links_that (crosses_halves n) n)
named_links NamedGrudge.Bridge n = Some (links_that (crosses_bridge n) n)
named_links NamedGrudge.Ring n = Some (ring_links (node_places n) n)
named_links (NamedGrudge.ShuffledRing (pos seed)) n = Some (ring_links (seeded_order seed n) n)
named_links (NamedGrudge.ShuffledRing (negsuc z)) n = None
