-- What the set checker finds (jepsen.checker, `set`): of the elements that clients tried to add,
-- those that the last read shows. Operations are not paired here.
use Rattle.std.specs.Prelude.{◌≡◌, ℕ, ◌-◌, ◌==◌, ◌&&◌, Bool, not, List, map, filter, length}
use Rattle.std.specs.Prelude.{slice_get, codes, Option, Some, None, option_and_then, IsSome, IfSome}
use Rattle.std.specs.List.{enumerate_from}
use Rattle.jh_edn.specs.Edn.{Edn, set, list_of, elements_of}
use Rattle.jh_edn.specs.Normal.{normal}
use Rattle.jh_ops.specs.Operation.{Operation, is_asked}
use Rattle.jh_ops.specs.declared.operation.Kind.{Kind}
use Rattle.jh_check.specs.Asked.{values_of}
use Rattle.jh_check.specs.Distinct.{has_same_value, set_of}
use Rattle.jh_check.specs.Verdicts.{verdict_of}
use Rattle.jh_check.specs.declared.error.CheckError.{CheckError}
use Rattle.jh_check.specs.declared.error.CheckError.TheVariants.{Pair, BadValue, NegativeAdd}
use Rattle.jh_check.specs.declared.error.CheckError.TheVariants.{RepeatedAppend, OutOfMemory}
use Rattle.jh_check.specs.declared.set.SetFound.{SetFound}
use Rattle.jh_check.specs.declared.set.SetResult.{SetResult}
use Rattle.jh_check.specs.declared.verdict.Verdict.TheVariants.{Unknown}

-- the values that clients tried to add
abbrev pub attempts : List Operation → List Edn
attempts history = values_of Kind.Invoke (codes "add") history

-- the values of the adds that are known to have happened
abbrev pub acknowledged_values : List Operation → List Edn
acknowledged_values history = values_of Kind.Ok (codes "add") history

-- the reads that happened, with their places
abbrev pub ok_reads : List Operation → List (ℕ × Operation)
ok_reads history =
    filter (λ read. is_asked Kind.Ok (codes "read") read.1) (enumerate_from 0 history)

-- the last of them
abbrev pub final_read : List Operation → Option (ℕ × Operation)
final_read history = let reads = ok_reads history in slice_get reads (length reads - 1)

-- the elements that a read shows: those of a list, a vector or a set
abbrev pub elements_shown : Edn → Option (List Edn)
elements_shown (set xs) = Some (list_of xs)
elements_shown value = elements_of value

-- those that the last read shows
abbrev pub elements_read : List Operation → Option (List Edn)
elements_read history = option_and_then (λ read. elements_shown read.1.value) (final_read history)

-- What is found where the last read shows this set:
-- ok: what was read and attempted. unexpected: what was read and never attempted.
-- lost: what was acknowledged and not read. recovered: what is ok and was not acknowledged.
abbrev pub set_found : List Operation → List Edn → SetFound
set_found history read =
    let ok = filter (has_same_value (attempts history)) read in
    record {
      ok = ok;
      lost = filter (λ x. not (has_same_value read x)) (set_of (acknowledged_values history));
      unexpected = filter (λ x. not (has_same_value (attempts history) x)) read;
      recovered = filter (λ x. not (has_same_value (acknowledged_values history) x)) ok;
    }

-- nothing was lost, and nothing is there that was not attempted
abbrev pub is_whole_set : SetFound → Bool
is_whole_set found = (length found.lost == 0) && (length found.unexpected == 0)

abbrev pub result_of_found : SetFound → SetResult
result_of_found found = record { verdict = verdict_of (is_whole_set found); found = Some found }

abbrev pub never_read_result : SetResult
never_read_result = record { verdict = Unknown; found = None }

abbrev pub result_with : List Operation → Option (List Edn) → SetResult
result_with history None = never_read_result
result_with history (Some elements) =
    result_of_found (set_found history (set_of (map normal elements)))

-- the result of a history
abbrev pub set_result : List Operation → SetResult
set_result history = result_with history (elements_read history)

-- the last read, if there is one, shows elements
abbrev pub IsJudgeable : List Operation → Type 0
IsJudgeable history = IfSome (final_read history) (λ read. IsSome (elements_shown read.1.value))

-- Why there is no result: the last read shows no elements. Memory can run out only where it
-- shows some.
abbrev pub RefusesSet : List Operation → CheckError → Type 0
RefusesSet history (Pair error) = ⊥
RefusesSet history (BadValue place) =
    (op : Operation) × (final_read history ≡ Some (place, op)) × (elements_shown op.value ≡ None)
RefusesSet history (NegativeAdd place) = ⊥
RefusesSet history (RepeatedAppend place) = ⊥
RefusesSet history OutOfMemory = IsSome (elements_read history)
