-- Operations by what they ask for. Checkers judge what clients did (jepsen.checker): the nemesis
-- has no part in it, whatever its operations look like.
use Rattle.std.specs.Prelude.{ℕ, List, map, filter}
use Rattle.jh_edn.specs.Edn.{Edn}
use Rattle.jh_edn.specs.Normal.{normal}
use Rattle.jh_ops.specs.Operation.{Operation, is_asked}
use Rattle.jh_ops.specs.declared.operation.Kind.{Kind}

-- the values of these, in normal form
abbrev pub values_of : Kind → List ℕ → List Operation → List Edn
values_of kind name history = map (λ op. normal op.value) (filter (is_asked kind name) history)
