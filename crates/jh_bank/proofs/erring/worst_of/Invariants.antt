use Rattle.std.proofs.Common.{take}
use Rattle.std.specs.List.{filter}
use Rattle.jh_bank.specs.BankInside.{IsWorstOf, errs_by}
use Rattle.jh_bank.specs.declared.errors.BankError.TheVariants.{WrongTotal}
use Rattle.jh_bank.proofs.erring.worst_of.Given as goal

abbrev pub invariant-loop-read : goal.invariant-loop-read
invariant-loop-read l = IsWorstOf (filter (errs_by WrongTotal) (take l.read-index l.erring)) l.worst
