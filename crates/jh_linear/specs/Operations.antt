-- The operations in a history of an object that clients share (Herlihy and Wing 1990). A register
-- is that of Jepsen's register workloads: `:read`, `:write` with a value, and `:cas` with `[old new]`.
-- A mutex is the model `mutex` of `knossos.model`: `:acquire` and `:release`, whose values mean
-- nothing. An operation is an invocation with its completion. That a mutex is a register which has
-- one number while it is free and another while it is held, that a read which did not complete
-- `:ok` gives no value, that a missing completion leaves as much open as an `:info`, and where a
-- bad value is reported, are this project's own. Places count from 0 in the whole history.
use Rattle.std.specs.Prelude.{◌≡◌, ℕ, ◌≤◌, Bool, false, List, [], ◌∷◌, map, codes, if◌then◌else◌}
use Rattle.std.specs.Prelude.{slice_get, Option, Some, None, IfSome, is_some, unwrap_or, option_map}
use Rattle.std.specs.Prelude.{ℤ, pos, option_and_then}
use Rattle.std.specs.List.{All, Contains}
use Rattle.jh_edn.specs.Edn.{Edn, nil, int, elements_of, is_keyword, integer_of}
use Rattle.jh_ops.specs.Operation.{Operation}
use Rattle.jh_ops.specs.declared.operation.Kind.{Kind}
use Rattle.jh_ops.specs.declared.pairs.Pair.{Pair}
use Rattle.jh_linear.specs.declared.operations.Object.{Object}
use Rattle.jh_linear.specs.declared.operations.Object.TheVariants.{Register, Mutex}
use Rattle.jh_linear.specs.declared.operations.RegOpsError.{RegOpsError}
use Rattle.jh_linear.specs.declared.operations.RegOpsError.TheVariants.{BadValue, OutOfMemory}
use Rattle.jh_linear.specs.declared.register.Outcome.{Outcome}
use Rattle.jh_linear.specs.declared.register.Outcome.TheVariants.{Done, Failed, Unsure}
use Rattle.jh_linear.specs.declared.register.RegCall.{RegCall}
use Rattle.jh_linear.specs.declared.register.RegCall.TheVariants.{Read, Write, Cas}
use Rattle.jh_linear.specs.declared.register.RegOp.{RegOp}

-- the read that answered a value: an integer, or nil, which stands for no value
abbrev pub read_of : Edn → Option RegCall
read_of nil = Some (Read None)
read_of (int seen) = Some (Read (Some seen))
read_of _ = None

-- the write of a value, which has to be an integer
abbrev pub write_of : Edn → Option RegCall
write_of value = option_map Write (integer_of value)

-- the compare-and-set of a list that holds two integers, and nothing else
abbrev pub swap_of : List Edn → Option RegCall
swap_of (int old ∷ int new ∷ []) = Some (Cas old new)
swap_of _ = None

-- the compare-and-set of a value, which has to be a vector or a list of two integers
abbrev pub cas_of : Edn → Option RegCall
cas_of value = option_and_then swap_of (elements_of value)

abbrev pub is_read : Edn → Bool
is_read f = is_keyword (codes "read") f

-- What an invocation asks of a register, by its function. A read is known by what it answered, a
-- write and a compare-and-set by what they were invoked with.
abbrev pub register_call_of : Edn → Edn → Option Edn → Option RegCall
register_call_of f value answered =
    if is_read f then read_of (unwrap_or answered nil)
    else if is_keyword (codes "write") f then write_of value
    else if is_keyword (codes "cas") f then cas_of value
    else None

-- the numbers of a mutex as the register that it is judged as: free, and held
abbrev pub free : ℤ
free = pos 0

abbrev pub held : ℤ
held = pos 1

-- what an invocation asks of a mutex, by its function alone
abbrev pub mutex_call_of : Edn → Option RegCall
mutex_call_of f =
    if is_keyword (codes "acquire") f then Some (Cas free held)
    else if is_keyword (codes "release") f then Some (Cas held free)
    else None

-- what an invocation asks of the object
abbrev pub reg_call_of : Object → Edn → Edn → Option Edn → Option RegCall
reg_call_of Register f value answered = register_call_of f value answered
reg_call_of Mutex f value answered = mutex_call_of f

-- how an operation with this completion ended; one without a completion may have happened
abbrev pub outcome_of : Option Kind → Outcome
outcome_of (Some Kind.Ok) = Done
outcome_of (Some Kind.Fail) = Failed
outcome_of _ = Unsure

-- the value of a completion, where it is `:ok`
abbrev pub answer_in : Kind → Edn → Option Edn
answer_in Kind.Ok value = Some value
answer_in _ value = None

-- what a completion answered, if there is one and it is `:ok`
abbrev pub answered_value : Option Operation → Option Edn
answered_value completion =
    option_and_then (λ found. answer_in found.kind found.value) completion

-- the completion of a pair, if there is one
abbrev pub completion_of : List Operation → Pair → Option Operation
completion_of history pair = option_and_then (λ place. slice_get history place) pair.outcome

-- the operation of a pair that asks this of the object
abbrev pub op_with_call : List Operation → Pair → RegCall → RegOp
op_with_call history pair call = record {
  invoked = pair.invoke;
  ended = pair.outcome;
  outcome = outcome_of (option_map (λ found. found.kind) (completion_of history pair));
  call = call;
}

-- the operation of a pair, where the object has its function and that takes its value
abbrev pub reg_op_of : Object → List Operation → Pair → Option RegOp
reg_op_of object history pair =
    option_map (op_with_call history pair)
    (option_and_then
    (λ invocation.
    reg_call_of object invocation.f invocation.value
    (answered_value (completion_of history pair)))
    (slice_get history pair.invoke))

-- whether a read is invoked at a place
abbrev pub is_read_at : List Operation → ℕ → Bool
is_read_at history place =
    unwrap_or (option_map (λ found. is_read found.f) (slice_get history place)) false

-- where a bad value would be reported, of a register: that of a read at its completion, that of any
-- other operation at its invocation
abbrev pub register_place : List Operation → Pair → ℕ
register_place history pair =
    if is_read_at history pair.invoke then unwrap_or pair.outcome pair.invoke else pair.invoke

-- where a bad value would be reported; of a mutex it is a function, which stands at the invocation
abbrev pub place_of_value : Object → List Operation → Pair → ℕ
place_of_value Register history pair = register_place history pair
place_of_value Mutex history pair = pair.invoke

-- where a bad value is reported, if one is
abbrev pub bad_place : Object → List Operation → Pair → Option ℕ
bad_place object history pair =
    if is_some (reg_op_of object history pair) then None
    else Some (place_of_value object history pair)

-- The operations are those of the pairs, one for each, in the order of the pairs.
abbrev pub AreRegOps : Object → List Operation → List Pair → List RegOp → Type 0
AreRegOps object history pairs ops = map (reg_op_of object history) pairs ≡ map Some ops

-- The least place of a bad value, or none where there is none.
abbrev pub IsLeastBad : Object → List Operation → List Pair → Option ℕ → Type 0
IsLeastBad object history pairs None = All (λ pair. bad_place object history pair ≡ None) pairs
IsLeastBad object history pairs (Some place) =
    Contains (map (bad_place object history) pairs) (Some place)
    × All (λ pair. IfSome (bad_place object history pair) (λ other. place ≤ other)) pairs

-- Why the pairs of a history are refused: for a bad value, at the least place of one, or because
-- memory ran out, which is told only where no value is bad.
abbrev pub RefusesPairs : Object → List Operation → List Pair → RegOpsError → Type 0
RefusesPairs object history pairs (BadValue place) = IsLeastBad object history pairs (Some place)
RefusesPairs object history pairs OutOfMemory = IsLeastBad object history pairs None
