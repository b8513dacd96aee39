-- What a contract sees of the values that are written of a fault (this project's own).
use Rattle.std.specs.Prelude.{List, [], ◌∷◌, pos}
use Rattle.jh_edn.specs.Edn.{Edn, int, keyword}
use Rattle.jh_tables.specs.declared.faults.LinkFault.{LinkFault}
use Rattle.jh_step_texts.specs.Kinds.{fault_kind_name}
use Rattle.jh_step_texts.specs.declared.kinds.FaultKind.{FaultKind}

-- the keyword of a fault of links and its amount, before the links of a fault's text
abbrev pub link_fault_values : LinkFault → List Edn
link_fault_values LinkFault.Cut = keyword (fault_kind_name FaultKind.Cut) ∷ []
link_fault_values (LinkFault.Slow ms) = keyword (fault_kind_name FaultKind.Slow) ∷ int (pos ms) ∷ []
link_fault_values (LinkFault.Loss level) = keyword (fault_kind_name FaultKind.Loss) ∷ int (pos level) ∷ []
link_fault_values (LinkFault.Fix ms) = keyword (fault_kind_name FaultKind.Fix) ∷ int (pos ms) ∷ []
