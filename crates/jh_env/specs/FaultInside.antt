-- What a contract sees of a fault's fields, and what holds of them (this project's own).
use Rattle.jh_tables.specs.Faults.{FaultValue, IsFault}
use Rattle.jh_tables.specs.Plain.{fault_of}
use Rattle.jh_env.specs.declared.faults.Fault.TheInside.{Inside}

-- the fault of the fields
abbrev pub view_fault : Inside → FaultValue
view_fault a = fault_of a.fault

-- each link and node stands once, and amounts are in their ranges
abbrev pub IsWellMade : Inside → Type 0
IsWellMade a = IsFault (fault_of a.fault)
