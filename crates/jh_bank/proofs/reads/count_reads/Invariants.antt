use Rattle.std.proofs.Common.{◌≡◌, codes, take}
use Rattle.std.specs.List.{count_by}
use Rattle.jh_ops.specs.Operation.{operation, is_asked}
use Rattle.jh_ops.specs.declared.operation.Kind.{Kind}
use Rattle.jh_bank.proofs.reads.count_reads.Given as goal

abbrev pub invariant-loop-op : goal.invariant-loop-op
invariant-loop-op l = l.count ≡ count_by (λ op. is_asked Kind.Ok (codes "read") (operation op)) (take l.op-index l.history)
