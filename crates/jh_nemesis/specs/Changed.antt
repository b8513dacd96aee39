-- Which faults a step begins or ends, and that every cell which none of them names stays as it is (this
-- project's own).
use Rattle.std.specs.Prelude.{◌≡◌, ℕ, ◌==◌, ◌++◌, Bool, false, List}
use Rattle.std.specs.List.{list_any}
use Rattle.jh_env.specs.Cells.{Link, NodeCell}
use Rattle.jh_env.specs.Faults.{FaultValue, names_link, names_node}
use Rattle.jh_env.specs.Faults.{Cut, Slow, Loss, Fix, Pause, Kill, Bump}
use Rattle.jh_env.specs.Overlay.{link_over, node_over}
use Rattle.jh_nemesis.specs.State.{State, faults_in}
use Rattle.jh_nemesis.specs.Steps.{state_after}
use Rattle.jh_nemesis.specs.Work.{faults_only_in}
use Rattle.jh_nemesis.specs.declared.steps.Step.{Step}

-- the faults that are active before the step or after it, and not at both moments
abbrev pub changed_by : State → Step → List FaultValue
changed_by s step =
    let after = (state_after s step).active in
    faults_in (faults_only_in s.active after ++ faults_only_in after s.active)

-- the fault names the link from a to b
abbrev pub fault_names_link : ℕ → ℕ → FaultValue → Bool
fault_names_link a b (Cut links) = names_link links a b
fault_names_link a b (Slow ms links) = names_link links a b
fault_names_link a b (Loss level links) = names_link links a b
fault_names_link a b (Fix ms links) = names_link links a b
fault_names_link a b (Pause nodes) = false
fault_names_link a b (Kill nodes) = false
fault_names_link a b (Bump bumps) = false

-- the fault names the node
abbrev pub fault_names_node : ℕ → FaultValue → Bool
fault_names_node a (Cut links) = false
fault_names_node a (Slow ms links) = false
fault_names_node a (Loss level links) = false
fault_names_node a (Fix ms links) = false
fault_names_node a (Pause nodes) = names_node nodes a
fault_names_node a (Kill nodes) = names_node nodes a
fault_names_node a (Bump bumps) = list_any (λ b. b.0 == a) bumps

-- the two lists of faults make the same of each cell that none of the named ones names
pub record AgreeElsewhere (named before after : List FaultValue) : Type 0 where
  pub links : (a b : ℕ) (l : Link) → list_any (fault_names_link a b) named ≡ false
      → link_over before a b l ≡ link_over after a b l
  pub nodes : (a : ℕ) (n : NodeCell) → list_any (fault_names_node a) named ≡ false
      → node_over before a n ≡ node_over after a n
