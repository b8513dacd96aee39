-- How the calls of a test ended (this project's own).
use Rattle.std.specs.Prelude.{ℕ, ◌&&◌, Bool, List, count_by}
use Rattle.jh_drive.specs.declared.calls.CallCounts.{CallCounts}
use Rattle.jh_ops.specs.Operation.{Operation, is_client, is_kind}
use Rattle.jh_ops.specs.declared.operation.Kind.{Kind}

-- a client's operation of this kind
abbrev pub is_call_of : Kind → Operation → Bool
is_call_of kind op = is_client op.process && is_kind kind op.kind

-- how many there are
abbrev pub count_of_kind : Kind → List Operation → ℕ
count_of_kind kind history = count_by (is_call_of kind) history

-- the calls of a history: those that were given out, and those that ended in each way
abbrev pub call_counts : List Operation → CallCounts
call_counts history = record {
  given = count_of_kind Kind.Invoke history;
  ok = count_of_kind Kind.Ok history;
  failed = count_of_kind Kind.Fail history;
  unknown = count_of_kind Kind.Info history;
}
