-- What is kept of rates. Proofs rest on it, and no public clause names it.
use Rattle.std.specs.Prelude.{ℕ, ◌+◌, ◌*◌, ◌/◌, ◌<◌, ◌≤◌, ◌^◌, List, All, Option, Some, None, map}
use Rattle.std.specs.List.{enumerate_from}
use Rattle.std.specs.Prelude.{IfSome, slice_index_or, slice_set}
use Rattle.jh_ops.specs.declared.operation.Kind.{Kind}
use Rattle.jh_plots.specs.Rates.{RATE_WINDOWS, rate_row, width_of}
use Rattle.jh_plots.specs.declared.calls.TimedCall.{TimedCall}
use Rattle.jh_plots.specs.declared.plot.Rate.{Rate}
use Rattle.jh_plots.specs.declared.rates.Counts.{Counts}
use Rattle.jh_plots.specs.declared.scale.Scale.{Scale}

-- each count is at most the number of calls, which are so few
pub record AreSmallCounts (counts : Counts) : Type 0 where
  pub ok : counts.ok < 2 ^ 63
  pub fail : counts.fail < 2 ^ 63
  pub info : counts.info < 2 ^ 63

-- the counts with one more call of a kind
abbrev pub with_one : Counts → Kind → Counts
with_one counts Kind.Invoke = counts
with_one counts Kind.Ok =
    record { ok = counts.ok + 1; fail = counts.fail; info = counts.info }
with_one counts Kind.Fail =
    record { ok = counts.ok; fail = counts.fail + 1; info = counts.info }
with_one counts Kind.Info =
    record { ok = counts.ok; fail = counts.fail; info = counts.info + 1 }

abbrev pub no_counts : Counts
no_counts = record { ok = 0; fail = 0; info = 0 }

abbrev pub counted_at : List Counts → Kind → ℕ → List Counts
counted_at rows kind window =
    slice_set rows window (with_one (slice_index_or rows window no_counts) kind)

abbrev pub counted_ended : ℕ → List Counts → Kind → Option ℕ → List Counts
counted_ended width rows kind None = rows
counted_ended width rows kind (Some ended) = counted_at rows kind (ended / width)

-- the counts of windows with a call more
abbrev pub counted_call : ℕ → List Counts → TimedCall → List Counts
counted_call width rows call = counted_ended width rows call.kind call.ended

-- a call ended in one of so many windows, if it did
abbrev pub IsEndedBefore : ℕ → ℕ → TimedCall → Type 0
IsEndedBefore width windows call = IfSome call.ended (λ ended. ended / width < windows)

-- the counts of a window are on the axis of rates
pub record AreOnAxis (width : ℕ) (scale : Scale) (counts : Counts) : Type 0 where
  pub ok : counts.ok * 10 ^ 9 ≤ width * scale.top
  pub fail : counts.fail * 10 ^ 9 ≤ width * scale.top
  pub info : counts.info * 10 ^ 9 ≤ width * scale.top

abbrev pub AreAllOnAxis : Scale → List Counts → Type 0
AreAllOnAxis scale rows = All (AreOnAxis (width_of RATE_WINDOWS scale.end) scale) rows

-- the rows of counts, of windows from 0 on
abbrev pub rows_of : Scale → List Counts → List Rate
rows_of scale rows =
    map (λ numbered. rate_row (width_of RATE_WINDOWS scale.end) scale numbered.0 numbered.1)
    (enumerate_from 0 rows)
