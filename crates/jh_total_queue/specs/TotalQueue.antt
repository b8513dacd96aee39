-- What the checker of queues finds (jepsen.checker, `total-queue`: "What goes in *must* come out.
-- Verifies that every successful enqueue has a successful dequeue. Queues only obey this property
-- if the history includes draining them completely."). Quotes below are of the same page.
--
-- Values are taken as multisets: of each it counts how often it is there. So two multisets have in
-- common of each value the lesser of the two counts, and one less another has of each what its
-- count is above the other's. Operations are not paired, and the nemesis has no part in it.
use Rattle.std.specs.Prelude.{◌≡◌, ℕ, ◌-◌, min, ◌==◌, ◌&&◌, ◌||◌, nat_lt, Bool, true, false, not}
use Rattle.std.specs.Prelude.{if◌then◌else◌, List, [], ◌∷◌, map, filter, flat_map, length, sum_by}
use Rattle.std.specs.Prelude.{position, codes, Option, Some, None, is_none, unwrap_or}
use Rattle.jh_edn.specs.Edn.{Edn, nil, elements_of}
use Rattle.jh_edn.specs.Normal.{normal}
use Rattle.jh_ops.specs.Operation.{Operation, is_asked}
use Rattle.jh_ops.specs.declared.operation.Kind.{Kind}
use Rattle.jh_check.specs.Asked.{values_of}
use Rattle.jh_check.specs.Distinct.{count_of, set_of}
use Rattle.jh_check.specs.Verdicts.{verdict_of}
use Rattle.jh_check.specs.declared.error.CheckError.{CheckError}
use Rattle.jh_check.specs.declared.error.CheckError.TheVariants.{Pair, BadValue, NegativeAdd}
use Rattle.jh_check.specs.declared.error.CheckError.TheVariants.{RepeatedAppend, OutOfMemory}
use Rattle.jh_total_queue.specs.declared.total_queue.TotalQueueResult.{TotalQueueResult}

-- ---- what went in and what came out

-- the values that clients tried to put in
abbrev pub enqueue_attempts : List Operation → List Edn
enqueue_attempts history = values_of Kind.Invoke (codes "enqueue") history

-- the values that are known to have been put in
abbrev pub enqueues : List Operation → List Edn
enqueues history = values_of Kind.Ok (codes "enqueue") history

-- what an operation is known to have taken out: a dequeue its value, a drain each of its elements
abbrev pub taken_by : Operation → List Edn
taken_by op =
    if is_asked Kind.Ok (codes "dequeue") op then op.value ∷ []
    else if is_asked Kind.Ok (codes "drain") op then unwrap_or (elements_of op.value) [] else []

-- the values that are known to have been taken out
abbrev pub dequeues : List Operation → List Edn
dequeues history = map normal (flat_map taken_by history)

-- ---- how often a value is in a part of the result

-- "every dequeue which we attempted": what dequeues and attempts have in common
abbrev pub ok_count : List Operation → Edn → ℕ
ok_count history x = min (count_of (dequeues history) x) (count_of (enqueue_attempts history) x)

-- "ones which we definitely enqueued but never came out": enqueues less dequeues
abbrev pub lost_count : List Operation → Edn → ℕ
lost_count history x = count_of (enqueues history) x - count_of (dequeues history) x

-- "those we *never* tried to enqueue": the dequeues of values that nobody attempted
abbrev pub unexpected_count : List Operation → Edn → ℕ
unexpected_count history x =
    if count_of (enqueue_attempts history) x == 0 then count_of (dequeues history) x else 0

-- "dequeued more times than they could have been enqueued": dequeues less attempts, and less what
-- is unexpected
abbrev pub duplicated_count : List Operation → Edn → ℕ
duplicated_count history x =
    count_of (dequeues history) x - count_of (enqueue_attempts history) x
    - unexpected_count history x

-- "where we didn't know if the enqueue succeeded or not, but an attempt took place": ok less
-- enqueues
abbrev pub recovered_count : List Operation → Edn → ℕ
recovered_count history x = ok_count history x - count_of (enqueues history) x

-- ---- the result

-- a value that is there
abbrev pub is_counted : Edn × ℕ → Bool
is_counted entry = nat_lt 0 entry.1

-- those of the values of which there is one or more, each with how many
abbrev pub above_zero : (Edn → ℕ) → List Edn → List (Edn × ℕ)
above_zero count values = filter is_counted (map (λ x. (x, count x)) values)

-- the same of a set of values
abbrev pub tally_of : (Edn → ℕ) → List Edn → List (Edn × ℕ)
tally_of count values = above_zero count (set_of values)

-- nothing is lost, and nothing came out that nobody tried to put in
abbrev pub is_whole_queue : List (Edn × ℕ) → List (Edn × ℕ) → Bool
is_whole_queue lost unexpected = (length lost == 0) && (length unexpected == 0)

-- the result of a history
abbrev pub total_queue_result : List Operation → TotalQueueResult
total_queue_result history =
    let lost = tally_of (lost_count history) (enqueues history) in
    let unexpected = tally_of (unexpected_count history) (dequeues history) in
    record {
      verdict = verdict_of (is_whole_queue lost unexpected);
      attempted = length (enqueue_attempts history);
      acknowledged = length (enqueues history);
      ok = sum_by (ok_count history) (set_of (dequeues history));
      lost = lost;
      unexpected = unexpected;
      duplicated = tally_of (duplicated_count history) (dequeues history);
      recovered = tally_of (recovered_count history) (dequeues history);
    }

-- ---- refusals

-- nil, by which a drain says nothing of elements
abbrev pub says_nothing : Edn → Bool
says_nothing nil = true
says_nothing _ = false

-- A drain whose value is none that it can have: it is ok and its value is no list or vector, or it
-- failed or is not known to have happened, and yet says what it took out. (That page refuses all
-- "crashed drains".)
abbrev pub is_bad_drain : Operation → Bool
is_bad_drain op =
    if is_asked Kind.Ok (codes "drain") op then is_none (elements_of op.value)
    else (is_asked Kind.Fail (codes "drain") op || is_asked Kind.Info (codes "drain") op)
    && not (says_nothing op.value)

-- the place of the first one
abbrev pub first_bad_drain : List Operation → Option ℕ
first_bad_drain history = position is_bad_drain history

-- there is none
abbrev pub AreDrainsKnown : List Operation → Type 0
AreDrainsKnown history = first_bad_drain history ≡ None

-- Why there is no result: first for the first bad drain. Memory can run out only where there is none.
abbrev pub RefusesTotalQueue : List Operation → CheckError → Type 0
RefusesTotalQueue history (Pair error) = ⊥
RefusesTotalQueue history (BadValue place) = first_bad_drain history ≡ Some place
RefusesTotalQueue history (NegativeAdd place) = ⊥
RefusesTotalQueue history (RepeatedAppend place) = ⊥
RefusesTotalQueue history OutOfMemory = AreDrainsKnown history
