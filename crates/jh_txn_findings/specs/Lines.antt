-- The line of a finding, without its line feed (this project's own; `:valid?` and the names of
-- anomalies are those of Jepsen and Elle): the printed text of a map.
use Rattle.std.specs.Prelude.{ℕ, pos, List, [], ◌∷◌, map, codes, Option, Some, None, Vec}
use Rattle.std.specs.Global.{Global}
use Rattle.jh_edn.specs.Edn.{Edn, int, keyword}
use Rattle.jh_edn.specs.Parts.{vector_of}
use Rattle.jh_edn.specs.Print.{print}
use Rattle.jh_edn.specs.View.{view}
use Rattle.jh_ops.specs.declared.operation.Op.{Op}
use Rattle.jh_check.specs.Lines.{map_with_verdict, operations_value}
use Rattle.jh_txn_findings.specs.CycleNames.{cycle_name, cycle_name_text}
use Rattle.jh_txn_findings.specs.Findings.{anomaly_text, txn_finding_verdict}
use Rattle.jh_txn_findings.specs.declared.finding.FoundStep.{FoundStep}
use Rattle.jh_txn_findings.specs.declared.finding.FoundWhy.{FoundWhy}
use Rattle.jh_txn_findings.specs.declared.finding.FoundWhy.TheVariants.{WriteRead, WriteWrite}
use Rattle.jh_txn_findings.specs.declared.finding.FoundWhy.TheVariants.{FirstCommitter, ReadWrite}
use Rattle.jh_txn_findings.specs.declared.finding.FoundWhy.TheVariants.{RealTime}
use Rattle.jh_txn_findings.specs.declared.finding.TxnFinding.{TxnFinding}
use Rattle.jh_txn_findings.specs.declared.finding.TxnFinding.TheVariants.{Valid, BadRead, Cycle}
use Rattle.jh_txn_findings.specs.declared.finding.TxnFinding.TheVariants.{Unknown}

-- ---- parts

-- a place, an index
abbrev pub number_value : ℕ → Edn
number_value number = int (pos number)

abbrev pub named_values : List ℕ → Edn → Edn → List Edn
named_values name key element = keyword name ∷ key ∷ element ∷ []

-- why a step is one: its name, the key and the element
abbrev pub why_values : FoundWhy → List Edn
why_values (WriteRead key element) = named_values (codes "wr") (view key) (view element)
why_values (WriteWrite key element) = named_values (codes "ww") (view key) (view element)
why_values (FirstCommitter key element) = named_values (codes "fcw") (view key) (view element)
why_values (ReadWrite key element) = named_values (codes "rw") (view key) (view element)
why_values RealTime = keyword (codes "rt") ∷ []

-- a step as its place, and why it is one
abbrev pub step_value : FoundStep → Edn
step_value step = vector_of (number_value step.place ∷ why_values step.why)

-- the operations, where they are there
abbrev pub operations_pairs : Option (Vec Op Global) → List (Edn × Edn)
operations_pairs None = []
operations_pairs (Some ops) = (keyword (codes "operations"), operations_value ops.items) ∷ []

-- ---- all

-- what stands behind the verdict
abbrev pub pairs_of_finding : TxnFinding → List (Edn × Edn)
pairs_of_finding (Valid order) =
    (keyword (codes "order"), vector_of (map number_value order.items)) ∷ []
pairs_of_finding (BadRead place index kind operations) =
    (keyword (codes "anomaly"), keyword (anomaly_text kind))
    ∷ (keyword (codes "place"), number_value place)
    ∷ (keyword (codes "op"), number_value index) ∷ operations_pairs operations
pairs_of_finding (Cycle steps operations) =
    (keyword (codes "anomaly"), keyword (cycle_name_text (cycle_name steps.items)))
    ∷ (keyword (codes "cycle"), vector_of (map step_value steps.items))
    ∷ operations_pairs operations
pairs_of_finding Unknown = []

-- what is found, as a map
abbrev pub txn_finding_value : TxnFinding → Edn
txn_finding_value finding = map_with_verdict (txn_finding_verdict finding) (pairs_of_finding finding)

abbrev pub txn_finding_line : TxnFinding → List ℕ
txn_finding_line finding = print (txn_finding_value finding)
