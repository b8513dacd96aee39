-- The order of what a fault names (this project's own): links by the place of their source and then
-- of their destination, nodes and bumps by place.
use Rattle.std.specs.Prelude.{ℕ, Bool, ℤ}
use Rattle.std.specs.Ordering.{nat_cmp, ordering_then, is_lt}
use Rattle.jh_edn.specs.Order.{in_order}
use Rattle.jh_tables.specs.Faults.{FaultValue}
use Rattle.jh_tables.specs.Faults.FaultValue.{Cut, Slow, Loss, Fix, Pause, Kill, Bump}

-- the source's place comes first, or else the destination's
abbrev pub is_link_before : (ℕ × ℕ) → (ℕ × ℕ) → Bool
is_link_before k l = is_lt (ordering_then (nat_cmp k.0 l.0) (nat_cmp k.1 l.1))

-- the place comes first
abbrev pub is_node_before : ℕ → ℕ → Bool
is_node_before a b = is_lt (nat_cmp a b)

-- the place of the node that is bumped comes first
abbrev pub is_bump_before : (ℕ × ℤ) → (ℕ × ℤ) → Bool
is_bump_before x y = is_node_before x.0 y.0

-- the same fault, with its links, nodes or bumps in order
abbrev pub fault_in_order : FaultValue → FaultValue
fault_in_order (Cut links) = Cut (in_order is_link_before links)
fault_in_order (Slow ms links) = Slow ms (in_order is_link_before links)
fault_in_order (Loss level links) = Loss level (in_order is_link_before links)
fault_in_order (Fix ms links) = Fix ms (in_order is_link_before links)
fault_in_order (Pause nodes) = Pause (in_order is_node_before nodes)
fault_in_order (Kill nodes) = Kill (in_order is_node_before nodes)
fault_in_order (Bump bumps) = Bump (in_order is_bump_before bumps)
