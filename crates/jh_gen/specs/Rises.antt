-- What a generator of rising numbers asks with each of them: adds, as Jepsen's workload `set` makes
-- them, or writes, as a register's history is decided at once where each value is written once (this
-- project's own).
use Rattle.std.specs.Prelude.{ℤ}
use Rattle.jh_gen.specs.declared.rise.Rise.{Rise}
use Rattle.jh_gen.specs.declared.rise.Rise.TheVariants.{Adds, Writes}
use Rattle.jh_ops.specs.declared.call.Call.{Call}
use Rattle.jh_ops.specs.declared.call.Call.TheVariants.{Client}
use Rattle.jh_ops.specs.declared.call.Request.TheVariants.{Write, Add}

-- the call with a number
abbrev pub risen : Rise → ℤ → Call
risen Adds n = Client (Add n)
risen Writes n = Client (Write n)
