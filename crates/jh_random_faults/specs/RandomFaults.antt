-- The fault that random numbers make (this project's own). As in Jepsen's nemeses all nodes are shuffled,
-- and the fault names nodes or links by their places in that order (jepsen.nemesis:
-- partition-random-node, partition-random-halves, partition-majorities-ring).
use Rattle.std.specs.Prelude.{ℕ, ◌-◌, ◌/◌, ◌%◌, ◌==◌, ℤ, pos, List, [], ◌∷◌, drop, flat_map}
use Rattle.std.specs.Prelude.{map, take, if◌then◌else◌, nat_lt, negsuc}
use Rattle.jh_env.specs.Faults.{FaultValue, kept_links, kept_nodes}
use Rattle.jh_env.specs.Faults.{Cut, Slow, Loss, Fix, Pause, Kill, Bump}
use Rattle.jh_grudge.specs.Grudges.{majority}
use Rattle.jh_step_texts.specs.NamedFaults.{ring_links, seeded_order}
use Rattle.jh_random_faults.specs.declared.draws.Draw.{Draw}
use Rattle.jh_step_texts.specs.declared.kinds.FaultKind.{FaultKind}
use Rattle.jh_step_texts.specs.declared.kinds.FaultKind.TheVariants as kind

-- the places of all nodes, shuffled
abbrev pub order_of : ℕ → Draw → List ℕ
order_of count d = seeded_order d.order count

-- ---- the nodes

-- the largest number below half of so many, but one at least
abbrev pub minority : ℕ → ℕ
minority count = if nat_lt count 3 then 1 else (count - 1) / 2

-- how many: one, a minority, or a majority
abbrev pub nodes_named : ℕ → ℕ → ℕ
nodes_named count choice =
    if choice == 0 then 1 else if choice == 1 then minority count else majority count

abbrev pub drawn_nodes : ℕ → Draw → List ℕ
drawn_nodes count d = take (nodes_named count (d.shape % 3)) (order_of count d)

-- ---- the links

-- those between one node and others, both ways
abbrev pub links_both_ways : ℕ → List ℕ → List (ℕ × ℕ)
links_both_ways node others = flat_map (λ other. (node, other) ∷ (other, node) ∷ []) others

-- those between each of these nodes and each of the rest
abbrev pub links_between : List ℕ → List ℕ → List (ℕ × ℕ)
links_between side rest = flat_map (λ node. links_both_ways node rest) side

-- those between the first so many nodes of an order and the rest (Jepsen's complete-grudge of two
-- components)
abbrev pub links_apart : ℕ → List ℕ → List (ℕ × ℕ)
links_apart first order = links_between (take first order) (drop first order)

-- the one from the first node of an order to the second
abbrev pub first_link : List ℕ → List (ℕ × ℕ)
first_link (source ∷ destination ∷ rest) = (source, destination) ∷ []
first_link _ = []

-- one link, those of one node, those between two halves, or those that a ring of majorities cuts
abbrev pub links_named : ℕ → List ℕ → ℕ → List (ℕ × ℕ)
links_named count order choice =
    if choice == 0 then first_link order
    else if choice == 1 then links_apart 1 order
    else if choice == 2 then links_apart (count / 2) order
    else ring_links order count

abbrev pub drawn_links : ℕ → Draw → List (ℕ × ℕ)
drawn_links count d = links_named count (order_of count d) (d.shape % 4)

-- ---- the amounts

-- milliseconds of a delay: an answer has to come within 1,000
abbrev pub drawn_delay : ℕ → ℕ
drawn_delay choice =
    if choice == 0 then 50 else if choice == 1 then 400 else if choice == 2 then 600 else 1500

-- a level of loss, in twentieths
abbrev pub level_of : ℕ → ℕ
level_of choice =
    if choice == 0 then 2 else if choice == 1 then 6 else if choice == 2 then 12 else 20

-- milliseconds by which a clock is moved
abbrev pub offset_of : ℕ → ℤ
offset_of choice =
    if choice == 0 then pos 100 else if choice == 1 then negsuc 99
    else if choice == 2 then pos 100000 else negsuc 99999

-- ---- the fault

abbrev pub fault_drawn : FaultKind → ℕ → Draw → FaultValue
fault_drawn kind.Cut count d = Cut (kept_links (drawn_links count d))
fault_drawn kind.Slow count d = Slow (drawn_delay (d.amount % 4)) (kept_links (drawn_links count d))
fault_drawn kind.Loss count d = Loss (level_of (d.amount % 4)) (kept_links (drawn_links count d))
fault_drawn kind.Fix count d = Fix (drawn_delay (d.amount % 4)) (kept_links (drawn_links count d))
fault_drawn kind.Pause count d = Pause (kept_nodes (drawn_nodes count d))
fault_drawn kind.Kill count d = Kill (kept_nodes (drawn_nodes count d))
fault_drawn kind.Bump count d =
    Bump (map (λ node. (node, offset_of (d.amount % 4))) (drawn_nodes count d))
