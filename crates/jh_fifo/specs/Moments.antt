-- When no value has to be in the queue.
use Rattle.std.specs.Prelude.{◌≡◌, ◌⊎◌, ℕ, ◌<◌, ◌≤◌, List, length}
use Rattle.jh_fifo.specs.declared.moments.Emptied.{Emptied}
use Rattle.jh_fifo.specs.declared.moments.Emptied.TheVariants.{All, Never}
use Rattle.jh_fifo.specs.declared.operations.FifoCall.TheVariants.{Empty}
use Rattle.jh_fifo.specs.declared.operations.FifoOp.{FifoOp}
use Rattle.jh_fifo.specs.declared.spans.Span.{Span}
use Rattle.jh_fifo.specs.Order.{IsKnownDone}
use Rattle.jh_fifo.specs.Reasons.{call_at, IsNeverEmpty}
use Rattle.jh_fifo.specs.Sorted.{key_entry_at}
use Rattle.jh_fifo.specs.Spans.{span_at, IsValueSpan, IsEmptySpan, AreFair, AreSpansApart, AreSpans}

-- each dequeue that found the queue empty is known to have happened
abbrev pub EmptiesAreDone : List FifoOp → Type 0
EmptiesAreDone ops = (place : ℕ) → place < length ops → call_at ops place ≡ Empty → IsKnownDone ops place

-- by its span a value has to be in the queue at this place of the history
abbrev pub IsCovered : List Span → ℕ → Type 0
IsCovered spans at = (i : ℕ) × (i < length spans)
    × ((span_at spans i).entered < at) × (at < (span_at spans i).leaving)

-- no value has to be in it
abbrev pub IsFree : List Span → ℕ → Type 0
IsFree spans at = (i : ℕ) → i < length spans → (span_at spans i).entered < at
    → (span_at spans i).leaving ≤ at

-- what the entries in front of a number stand for has left by then
abbrev pub IsSwept : List Span → List (ℕ × ℕ) → ℕ → ℕ → Type 0
IsSwept spans entries number at = (k : ℕ) → k < number → k < length entries
    → (span_at spans (key_entry_at entries k).1).leaving ≤ at

abbrev pub IsEmptied : List FifoOp → Emptied → Type 0
IsEmptied ops (All spans) = AreSpans ops spans.items
IsEmptied ops (Never place) = IsNeverEmpty ops place

-- The spans of values, and of the dequeues that found the queue empty, of those in front of a
-- number.
pub record IsFilled (ops : List FifoOp) (values : List Span) (entries : List (ℕ × ℕ)) (number : ℕ)
    (spans : List Span) : Type 0 where
  pub each : (i : ℕ) → i < length spans
      → IsValueSpan ops (span_at spans i) ⊎ IsEmptySpan ops (span_at spans i)
  pub fair : AreFair spans
  pub apart : AreSpansApart spans
  pub free : (i j : ℕ) → i < length spans → j < length spans
      → call_at ops (span_at spans i).place ≡ Empty
      → (span_at spans j).entered < (span_at spans i).from
      → (span_at spans j).leaving ≤ (span_at spans i).from
  pub kept : (m : ℕ) → m < length values
      → (i : ℕ) × (i < length spans) × (span_at spans i ≡ span_at values m)
  pub known : (i : ℕ) → i < length spans
      → ((m : ℕ) × (m < length values) × (span_at spans i ≡ span_at values m))
      ⊎ ((k : ℕ) × (k < number) × (k < length entries)
      × ((key_entry_at entries k).1 ≡ (span_at spans i).place) × IsEmptySpan ops (span_at spans i))
  pub found : (k : ℕ) → k < number → k < length entries
      → call_at ops (key_entry_at entries k).1 ≡ Empty
      → (i : ℕ) × (i < length spans) × ((span_at spans i).place ≡ (key_entry_at entries k).1)

-- What is known in the midst of it: the values before a place of the history are gone through, and
-- each later dequeue finds one at each place from its invocation to there.
pub record IsFilling (ops : List FifoOp) (values : List Span) (entered invoked : List (ℕ × ℕ))
    (number : ℕ) (spans : List Span) (passed at : ℕ) : Type 0 where
  pub filled : IsFilled ops values invoked number spans
  pub swept : IsSwept values entered passed at
  pub covered : (k place : ℕ) → number ≤ k → k < length invoked
      → (key_entry_at invoked k).0 ≤ place → place < at → IsCovered values place
