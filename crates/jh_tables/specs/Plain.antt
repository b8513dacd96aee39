-- Which fault plain data is (this project's own).
use Rattle.std.specs.Prelude.{ℕ, List}
use Rattle.jh_tables.specs.Faults.{FaultValue}
use Rattle.jh_tables.specs.Faults.FaultValue.{Cut, Slow, Loss, Fix, Pause, Kill, Bump}
use Rattle.jh_tables.specs.declared.faults.LinkFault.{LinkFault}
use Rattle.jh_tables.specs.declared.faults.NodeFault.{NodeFault}
use Rattle.jh_tables.specs.declared.faults.PlainFault.{PlainFault}

-- a fault of links
abbrev pub fault_on_links : LinkFault → List (ℕ × ℕ) → FaultValue
fault_on_links LinkFault.Cut links = Cut links
fault_on_links (LinkFault.Slow ms) links = Slow ms links
fault_on_links (LinkFault.Loss level) links = Loss level links
fault_on_links (LinkFault.Fix ms) links = Fix ms links

-- a fault of nodes
abbrev pub fault_on_nodes : NodeFault → List ℕ → FaultValue
fault_on_nodes NodeFault.Pause nodes = Pause nodes
fault_on_nodes NodeFault.Kill nodes = Kill nodes

-- the fault that plain data is
abbrev pub fault_of : PlainFault → FaultValue
fault_of (PlainFault.OnLinks fault links) = fault_on_links fault links.items
fault_of (PlainFault.OnNodes fault nodes) = fault_on_nodes fault nodes.items
fault_of (PlainFault.Bump bumps) = Bump bumps.items
