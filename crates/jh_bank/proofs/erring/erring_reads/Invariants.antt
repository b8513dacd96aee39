use Rattle.std.proofs.Common.{◌≡◌, take}
use Rattle.jh_ops.specs.Operation.{operations}
use Rattle.jh_bank.specs.BankInside.{erring_reads}
use Rattle.jh_bank.proofs.erring.erring_reads.Given as goal

abbrev pub invariant-loop-place : goal.invariant-loop-place
invariant-loop-place l = l.erring.items ≡ erring_reads l.bank (operations (take l.place l.history))
