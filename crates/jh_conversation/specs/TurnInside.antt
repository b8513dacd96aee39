-- What the code of a turn finds on its way; `Turn` has the rule. This project's own.
use Rattle.std.specs.Prelude.{ℕ, pos, [], ◌∷◌, Option, None, Some}
use Rattle.jh_edn.specs.Edn.{Edn, int}
use Rattle.jh_edn.specs.Parts.{vector_of}
use Rattle.jh_conversation.specs.Machine.{Machine}
use Rattle.jh_test_parts.specs.Test.{TestValue}
use Rattle.jh_conversation.specs.Turn.{counts_after, source_after, value_with_key}
use Rattle.jh_ops.specs.declared.call.Request.{Request}
use Rattle.jh_test_parts.specs.declared.calls.ValuedCall.{ValuedCall}

abbrev pub value_behind_key : ℕ → Edn → Edn
value_behind_key key value = vector_of (int (pos key) ∷ value ∷ [])

-- the next machine where there is one, else this one
abbrev pub moved : Machine → Option Machine → Machine
moved m None = m
moved m (Some next) = next

-- the call of a request that asks with a value
abbrev pub asked_with : TestValue → Machine → ℕ → Request → Edn → ValuedCall
asked_with t m thread request value = record {
  request = request;
  value = value_with_key t t.keys thread m.calls_by_group value;
}

-- the transaction of a request is taken
abbrev pub sourced : Request → Machine → Machine
sourced request m = record m { transactions = source_after m.transactions request }

-- one more call of the thread's group is counted
abbrev pub counted : TestValue → ℕ → Machine → Machine
counted t thread m = record m { calls_by_group = counts_after t.keys thread m.calls_by_group }
