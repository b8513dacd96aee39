-- What the checker of unique ids finds (jepsen.checker, `unique-ids`). Operations are not paired
-- here.
use Rattle.std.specs.Prelude.{ℕ, ◌==◌, List, map, filter, count_by, length, codes}
use Rattle.jh_edn.specs.Edn.{Edn}
use Rattle.jh_ops.specs.Operation.{Operation, is_asked}
use Rattle.jh_ops.specs.declared.operation.Kind.{Kind}
use Rattle.jh_check.specs.Asked.{values_of}
use Rattle.jh_check.specs.Distinct.{set_of, count_of}
use Rattle.jh_check.specs.Tallies.{is_repeated}
use Rattle.jh_check.specs.Verdicts.{verdict_of}
use Rattle.jh_check.specs.declared.ids.IdsResult.{IdsResult}

-- the ids that were given, each as often as it was
abbrev pub given : List Operation → List Edn
given history = values_of Kind.Ok (codes "generate") history

-- the ids with how often each was given
abbrev pub counted_ids : List Edn → List (Edn × ℕ)
counted_ids ids = map (λ id. (id, count_of ids id)) (set_of ids)

-- those that were given more than once
abbrev pub duplicated_ids : List Edn → List (Edn × ℕ)
duplicated_ids ids = filter is_repeated (counted_ids ids)

abbrev pub ids_result : List Operation → IdsResult
ids_result history =
    let found = duplicated_ids (given history) in
    record {
      verdict = verdict_of (length found == 0);
      attempted = count_by (is_asked Kind.Invoke (codes "generate")) history;
      acknowledged = length (given history);
      duplicated = found;
    }
