-- Spans, put in their turn.
use Rattle.std.specs.Prelude.{◌≡◌, ℕ, ◌<◌, ◌≤◌, Bool, true, false, List, length, slice_index_or}
use Rattle.jh_fifo.specs.declared.spans.Span.{Span}
use Rattle.jh_fifo.specs.declared.turn.Step.{Step}
use Rattle.jh_fifo.specs.declared.turn.Step.TheVariants.{PassFirst, PassSecond, TakeFirst, TakeSecond, Cross}
use Rattle.jh_fifo.specs.declared.turn.Turn.{Turn}
use Rattle.jh_fifo.specs.declared.turn.Turn.TheVariants.{All, Crossed}
use Rattle.jh_fifo.specs.Sorted.{key_entry_at}
use Rattle.jh_fifo.specs.Times.{never}
use Rattle.jh_fifo.specs.Spans.{span_at, AreSpansApart}

-- the span, put in and taken out at these times at the earliest
abbrev pub moved_span : Span → ℕ → ℕ → Span
moved_span span from leaving = record span { from = from; leaving = leaving }

-- The new span is the old one, put in and taken out no earlier, and still in time.
pub record IsMovedSpan (old new : Span) : Type 0 where
  pub place : new.place ≡ old.place
  pub dequeue : new.dequeue ≡ old.dequeue
  pub from : old.from ≤ new.from
  pub entered : new.from ≤ old.entered
  pub leaving : old.leaving ≤ new.leaving
  pub left : new.leaving ≤ old.left
  pub passes : new.from ≤ new.leaving
  pub soon : new.from < never

-- All spans, each moved, so that none is put in or taken out earlier than one in front of it.
pub record IsLined (spans turn : List Span) : Type 0 where
  pub each : (i : ℕ) → i < length turn
      → (m : ℕ) × (m < length spans) × IsMovedSpan (span_at spans m) (span_at turn i)
  pub whole : (m : ℕ) → m < length spans
      → (i : ℕ) × (i < length turn) × IsMovedSpan (span_at spans m) (span_at turn i)
  pub come_in_turn : (i j : ℕ) → i ≤ j → j < length turn
      → (span_at turn i).from ≤ (span_at turn j).from
  pub go_in_turn : (i j : ℕ) → i ≤ j → j < length turn
      → (span_at turn i).leaving ≤ (span_at turn j).leaving
  pub apart : AreSpansApart turn

-- The first span has to enter before the second one does, which has to leave before it.
pub record AreCrossedSpans (spans : List Span) (first second : ℕ) : Type 0 where
  pub one : first < length spans
  pub other : second < length spans
  pub enters : (span_at spans first).entered < (span_at spans second).from
  pub leaves : (span_at spans second).left < (span_at spans first).leaving

abbrev pub IsTurnOf : List Span → Turn → Type 0
IsTurnOf spans (All turn) = IsLined spans turn.items
IsTurnOf spans (Crossed first second) = AreCrossedSpans spans first second

-- whether a span was put in its turn
abbrev pub is_put : List Bool → ℕ → Bool
is_put taken number = slice_index_or taken number false

abbrev pub IsStep : List Span → List Bool → ℕ → ℕ → Step → Type 0
IsStep spans taken first second PassFirst = is_put taken first ≡ true
IsStep spans taken first second PassSecond = is_put taken second ≡ true
IsStep spans taken first second TakeFirst = (is_put taken first ≡ false)
    × ((span_at spans first).leaving ≤ (span_at spans second).left)
IsStep spans taken first second TakeSecond = (is_put taken first ≡ false)
    × (is_put taken second ≡ false)
    × ((span_at spans second).from ≤ (span_at spans first).entered)
IsStep spans taken first second Cross =
    ((span_at spans first).entered < (span_at spans second).from)
    × ((span_at spans second).left < (span_at spans first).leaving)

-- What was put in its turn so far, and that all else can come later.
pub record IsPartlyLined (spans : List Span) (taken : List Bool) (turn : List Span) (from leaving : ℕ)
    : Type 0 where
  pub same : length taken ≡ length spans
  pub low : (m : ℕ) → m < length spans → is_put taken m ≡ false
      → (from ≤ (span_at spans m).entered) × (leaving ≤ (span_at spans m).left)
  pub each : (i : ℕ) → i < length turn → (m : ℕ) × (m < length spans)
      × (is_put taken m ≡ true) × IsMovedSpan (span_at spans m) (span_at turn i)
  pub whole : (m : ℕ) → m < length spans → is_put taken m ≡ true
      → (i : ℕ) × (i < length turn) × IsMovedSpan (span_at spans m) (span_at turn i)
  pub come_in_turn : (i j : ℕ) → i ≤ j → j < length turn
      → (span_at turn i).from ≤ (span_at turn j).from
  pub go_in_turn : (i j : ℕ) → i ≤ j → j < length turn
      → (span_at turn i).leaving ≤ (span_at turn j).leaving
  pub last : (i : ℕ) → i < length turn
      → ((span_at turn i).from ≤ from) × ((span_at turn i).leaving ≤ leaving)
  pub apart : AreSpansApart turn
  pub passes : from ≤ leaving
  pub soon : from < never

-- each entry in front of a number was put in its turn
abbrev pub ArePassed : List Bool → List (ℕ × ℕ) → ℕ → Type 0
ArePassed taken entries number = (k : ℕ) → k < number → k < length entries
    → is_put taken (key_entry_at entries k).1 ≡ true

-- Spans are put in their turn by two lists of them, which were gone through up to two numbers.
pub record IsTaking (spans : List Span) (entered left : List (ℕ × ℕ)) (taken : List Bool)
    (turn : List Span) (from leaving early late : ℕ) : Type 0 where
  pub line : IsPartlyLined spans taken turn from leaving
  pub firsts : ArePassed taken entered early
  pub seconds : ArePassed taken left late
