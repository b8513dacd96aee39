-- What a contract sees of the keys of the table of numbers, and of what is looked up there.
use Rattle.std.specs.Prelude.{ℕ}
use Rattle.jh_edn.specs.Edn.{Edn}
use Rattle.jh_edn.specs.View.{view}
use Rattle.jh_numbers.specs.declared.owned.OwnedValue.{OwnedValue}
use Rattle.jh_numbers.specs.declared.sought.Sought.{Sought}

-- an owner with a value
abbrev pub view_owned : OwnedValue → ℕ × Edn
view_owned owned = (owned.owner, view owned.value)

-- the same of one that is looked up
abbrev pub view_sought : Sought → ℕ × Edn
view_sought sought = (sought.owner, view sought.value.now)
