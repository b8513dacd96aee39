-- Operations as contracts see them (jepsen.history: an operation is a map with a type, a process, a
-- function `:f` and a value, usually a time and an index, and any other keys).
use Rattle.std.specs.Prelude.{ℕ, ◌&&◌, Bool, true, false, ℤ, List, map, Option}
use Rattle.jh_edn.specs.Edn.{Edn, is_keyword}
use Rattle.jh_edn.specs.View.{view}
use Rattle.jh_ops.specs.declared.operation.Kind.{Kind}
use Rattle.jh_ops.specs.declared.operation.Process.{Process}
use Rattle.jh_ops.specs.declared.operation.Op.{Op}

pub record Operation : Type 0 where
  pub kind : Kind
  pub process : Process
  pub f : Edn
  pub value : Edn
  pub time : Option ℤ
  pub index : Option ℤ
  -- all other keys, in order
  pub rest : List (Edn × Edn)

-- what a contract sees of an operation that a program holds
abbrev pub operation : Op → Operation
operation op =
    record {
      kind = op.kind;
      process = op.process;
      f = view op.f;
      value = view op.value;
      time =
          op.time;
      index = op.index;
      rest = op.rest;
    }

abbrev pub operations : List Op → List Operation
operations ops = map operation ops

-- the operation with another value
abbrev pub operation_with_value : Edn → Operation → Operation
operation_with_value value op =
    record {
      kind = op.kind;
      process = op.process;
      f = op.f;
      value = value;
      time = op.time;
      index =
          op.index;
      rest = op.rest;
    }

-- a client's process, and not the nemesis
abbrev pub is_client : Process → Bool
is_client (Process.Client number) = true
is_client Process.Nemesis = false

-- the two kinds are one
abbrev pub is_kind : Kind → Kind → Bool
is_kind Kind.Invoke Kind.Invoke = true
is_kind Kind.Ok Kind.Ok = true
is_kind Kind.Fail Kind.Fail = true
is_kind Kind.Info Kind.Info = true
is_kind _ _ = false

-- a client's operation of this kind, of the function of this name
abbrev pub is_asked : Kind → List ℕ → Operation → Bool
is_asked kind name op = is_client op.process && (is_kind kind op.kind && is_keyword name op.f)
