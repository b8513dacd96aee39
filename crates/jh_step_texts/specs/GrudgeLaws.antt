-- Faults that are named by a grudge, and these grudges (Jepsen's page on nemeses). Nodes are their
-- places.
use Rattle.std.specs.Prelude.{ℕ, ◌<◌, List, [], ◌∷◌, IsPermutation}
use Rattle.jh_grudge.specs.Lists.{first_half, second_half, split_of}
use Rattle.jh_grudge.specs.Grudges.{CutsExactly, CompleteDrops, BridgeDrops, RingDrops}
use Rattle.jh_env.specs.Names.{node_places}
use Rattle.jh_step_texts.specs.NamedFaults.{links_that, crosses_halves, touches, crosses_bridge}
use Rattle.jh_step_texts.specs.NamedFaults.{ring_links}

-- The halves of all nodes are the components of a complete grudge.
abbrev pub HalvesAreComplete : Type 0
HalvesAreComplete =
    (n : ℕ) → CutsExactly
    (CompleteDrops (first_half (node_places n) ∷ second_half (node_places n) ∷ []))
    (links_that (crosses_halves n) n)

-- One node and the rest are the components of a complete grudge.
abbrev pub SplitIsComplete : Type 0
SplitIsComplete =
    (n loner : ℕ) → loner < n
    → CutsExactly (CompleteDrops (split_of loner (node_places n))) (links_that (touches loner) n)

-- The bridge is that of all nodes, in order.
abbrev pub BridgeIsBridge : Type 0
BridgeIsBridge =
    (n : ℕ) → CutsExactly (BridgeDrops (node_places n)) (links_that (crosses_bridge n) n)

-- A ring in any order of all nodes is the ring of majorities in that order.
abbrev pub RingIsRing : Type 0
RingIsRing =
    (n : ℕ) (order : List ℕ) → IsPermutation (node_places n) order
    → CutsExactly (RingDrops order) (ring_links order n)
