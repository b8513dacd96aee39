use Rattle.std.proofs.Common.{nat_lt, length}
use Rattle.std.specs.List.{AllZip, filter, range_with_len}
use Rattle.jh_plots.specs.Percentiles.{IsRowOf, latencies_in}
use Rattle.jh_plots.proofs.percentiles.percentiles_of.Given as goal

abbrev pub invariant-loop-window : goal.invariant-loop-window
invariant-loop-window l =
    AllZip (λ window. IsRowOf l.width l.scale window (latencies_in l.width l.calls window)) (filter (λ window. nat_lt 0 (length (latencies_in l.width l.calls window))) (range_with_len 0 l.window)) l.rows.items
