-- What the checker of a first-in-first-out queue finds. The reasons are those of Henzinger, Sezgin and
-- Vafeiadis, as `jh_fifo` has them; that operations have numbers, and are shown, is this project's own.
use Rattle.std.specs.Prelude.{◌≡◌, ℕ, Bool, if◌then◌else◌, List, [], ◌∷◌, map}
use Rattle.std.specs.Prelude.{slice_index_or}
use Rattle.jh_ops.specs.Operation.{Operation}
use Rattle.jh_ops.specs.Pairing.{history_pairs}
use Rattle.jh_ops.specs.declared.pairs.Pair.{Pair}
use Rattle.jh_check.specs.Shown.{AreOperationsAt}
use Rattle.jh_check.specs.declared.verdict.Verdict.{Verdict}
use Rattle.jh_fifo.specs.Judged.{IsFifoVerdict}
use Rattle.jh_fifo.specs.declared.verdict.FifoReason.{FifoReason}
use Rattle.jh_fifo.specs.declared.verdict.FifoReason.TheVariants.{EndedBeforeInvoked, NeverEnqueued, DequeuedTwice}
use Rattle.jh_fifo.specs.declared.verdict.FifoReason.TheVariants.{DequeuedBeforeEnqueued, OutOfOrder, NeverEmpty}
use Rattle.jh_fifo.specs.declared.verdict.FifoVerdict.{FifoVerdict}
use Rattle.jh_fifo.specs.declared.verdict.FifoVerdict.TheVariants.{Valid, Invalid, EnqueuedTwice, UnknownDequeue}
use Rattle.jh_fifo_check.specs.FifoHistories.{fifo_ops_of, numbers_not_failed, pairs_not_failed}
use Rattle.jh_fifo_check.specs.declared.finding.FifoFinding.{FifoFinding}

-- ---- numbers in place of places

-- the number of the operation at a place among those that were judged
abbrev pub number_of_place : List ℕ → ℕ → ℕ
number_of_place numbers place = slice_index_or numbers place 0

abbrev pub numbered_reason : List ℕ → FifoReason → FifoReason
numbered_reason numbers (EndedBeforeInvoked place) = EndedBeforeInvoked (number_of_place numbers place)
numbered_reason numbers (NeverEnqueued place) = NeverEnqueued (number_of_place numbers place)
numbered_reason numbers (DequeuedTwice first second) =
    DequeuedTwice (number_of_place numbers first) (number_of_place numbers second)
numbered_reason numbers (DequeuedBeforeEnqueued dequeue enqueue) =
    DequeuedBeforeEnqueued (number_of_place numbers dequeue) (number_of_place numbers enqueue)
numbered_reason numbers (OutOfOrder first second) =
    OutOfOrder (number_of_place numbers first) (number_of_place numbers second)
numbered_reason numbers (NeverEmpty place) = NeverEmpty (number_of_place numbers place)

-- The verdict of the judge, and the same with numbers in place of places.
abbrev pub IsNumberedVerdict : List ℕ → FifoVerdict → FifoVerdict → Type 0
IsNumberedVerdict numbers (Valid order) (Valid numbered) =
    numbered.items ≡ map (number_of_place numbers) order.items
IsNumberedVerdict numbers (Invalid reason) (Invalid numbered) =
    numbered ≡ numbered_reason numbers reason
IsNumberedVerdict numbers (EnqueuedTwice first second) (EnqueuedTwice one other) =
    (one ≡ number_of_place numbers first) × (other ≡ number_of_place numbers second)
IsNumberedVerdict numbers (UnknownDequeue place) (UnknownDequeue number) = number ≡ number_of_place numbers place
IsNumberedVerdict numbers _ _ = ⊥

-- ---- what is found

-- the operations that a reason names
abbrev pub named_by_reason : FifoReason → List ℕ
named_by_reason (EndedBeforeInvoked number) = number ∷ []
named_by_reason (NeverEnqueued number) = number ∷ []
named_by_reason (DequeuedTwice first second) = first ∷ second ∷ []
named_by_reason (DequeuedBeforeEnqueued dequeue enqueue) = dequeue ∷ enqueue ∷ []
named_by_reason (OutOfOrder first second) = first ∷ second ∷ []
named_by_reason (NeverEmpty number) = number ∷ []

-- the operations that a verdict names: of a yes none
abbrev pub named_by_verdict : FifoVerdict → List ℕ
named_by_verdict (Valid order) = []
named_by_verdict (Invalid reason) = named_by_reason reason
named_by_verdict (EnqueuedTwice first second) = first ∷ second ∷ []
named_by_verdict (UnknownDequeue number) = number ∷ []

-- those that are shown: where that is asked for
abbrev pub shown_by_verdict : (explain : Bool) → FifoVerdict → List ℕ
shown_by_verdict explain verdict = if explain then named_by_verdict verdict else []

-- What is found in a history with these pairs: the verdict of the judge on its operations, with their
-- numbers, and where it is asked for the operations that this names. Which order and which reason is
-- found is free.
abbrev pub IsFoundOf : (explain : Bool) → List Operation → List Pair → FifoFinding → Type 0
IsFoundOf explain history pairs found =
    (judged : FifoVerdict)
    × IsFifoVerdict (fifo_ops_of history (pairs_not_failed history pairs)) judged
    × IsNumberedVerdict (numbers_not_failed history pairs) judged found.verdict
    × AreOperationsAt history pairs (shown_by_verdict explain found.verdict) found.operations.items

abbrev pub IsFifoFinding : (explain : Bool) → List Operation → FifoFinding → Type 0
IsFifoFinding explain history found = IsFoundOf explain history (history_pairs history) found

-- What a verdict says of its history: nothing, where a value is enqueued twice, or where it is not known
-- what a dequeue did.
abbrev pub verdict_of_fifo : FifoVerdict → Verdict
verdict_of_fifo (Valid order) = Verdict.True
verdict_of_fifo (Invalid reason) = Verdict.False
verdict_of_fifo (EnqueuedTwice first second) = Verdict.Unknown
verdict_of_fifo (UnknownDequeue number) = Verdict.Unknown
