use Rattle.std.proofs.Common.{◌≡◌, ℕ, List, subst}
use Rattle.std.specs.List.{All}
use Rattle.std.specs.List.Sorted.{IsPermutation}
use Rattle.std.proofs.lemmas.List.Elements.{All-same}
use Rattle.std.proofs.lemmas.List.Sorted.{All-permutation, IsNonDecreasingBy-from_sort}
use Rattle.jh_plots.specs.Latencies.{IsLatencyPixel}
use Rattle.jh_plots.specs.Percentiles.{nearest_rank}
use Rattle.jh_plots.specs.PercentilesInside.{IsOnAxis}
use Rattle.jh_plots.specs.declared.scale.Scale.{Scale}
use Rattle.jh_plots.proofs.percentiles.row_of.Goals as goal

sorted_on_axis : (scale : Scale) (xs ys zs : List ℕ) → All (IsOnAxis scale) xs → IsPermutation xs ys → zs ≡ ys → All (IsOnAxis scale) zs
sorted_on_axis scale xs ys zs all moved same = All-same (IsOnAxis scale) zs ys same (All-permutation (IsOnAxis scale) xs ys moved all)

pub percentile-requires-clause-latencies : goal.percentile-requires-clause-latencies
percentile-requires-clause-latencies c = sorted_on_axis c.args.scale.now c.args.latencies.items c.sort_unstable.new.self.items c.deref.result.now c.requires.latencies c.sort_unstable.ensures.permutation c.deref.ensures.value

pub percentile-requires-2-clause-latencies : goal.percentile-requires-2-clause-latencies
percentile-requires-2-clause-latencies c = sorted_on_axis c.args.scale.now c.args.latencies.items c.sort_unstable.new.self.items c.deref-2.result.now c.requires.latencies c.sort_unstable.ensures.permutation c.deref-2.ensures.value

pub percentile-requires-3-clause-latencies : goal.percentile-requires-3-clause-latencies
percentile-requires-3-clause-latencies c = sorted_on_axis c.args.scale.now c.args.latencies.items c.sort_unstable.new.self.items c.deref-3.result.now c.requires.latencies c.sort_unstable.ensures.permutation c.deref-3.ensures.value

pub percentile-requires-4-clause-latencies : goal.percentile-requires-4-clause-latencies
percentile-requires-4-clause-latencies c = sorted_on_axis c.args.scale.now c.args.latencies.items c.sort_unstable.new.self.items c.deref-4.result.now c.requires.latencies c.sort_unstable.ensures.permutation c.deref-4.ensures.value

pub returns : goal.returns
returns c =
    let decades = c.args.scale.now.decades in
    record {
      sorted = c.sort_unstable.new.self.items;
      permutation = c.sort_unstable.ensures.permutation;
      ascends = IsNonDecreasingBy-from_sort (λ x. x) c.sort_unstable.new.self.items c.sort_unstable.ensures.sorted;
      x = c.middle_pixel.ensures;
      p50 = subst (λ xs. IsLatencyPixel decades (nearest_rank 50 xs) c.percentile.result) c.deref.ensures.value c.percentile.ensures;
      p95 = subst (λ xs. IsLatencyPixel decades (nearest_rank 95 xs) c.percentile-2.result) c.deref-2.ensures.value c.percentile-2.ensures;
      p99 = subst (λ xs. IsLatencyPixel decades (nearest_rank 99 xs) c.percentile-3.result) c.deref-3.ensures.value c.percentile-3.ensures;
      greatest = subst (λ xs. IsLatencyPixel decades (nearest_rank 100 xs) c.percentile-4.result) c.deref-4.ensures.value c.percentile-4.ensures;
    }
