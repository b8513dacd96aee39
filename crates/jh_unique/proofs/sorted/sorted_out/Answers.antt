use Rattle.std.proofs.Common.{ap, ◌∙◌}
use Rattle.std.proofs.lemmas.List.{take_all}
use Rattle.jh_unique.specs.Sorted.{seconds_of}
use Rattle.jh_unique.proofs.SortedLemmas.{they_rise}
use Rattle.jh_unique.proofs.sorted.sorted_out.Goals as goal

pub returns : goal.returns
returns c =
    let ys = c.sort.new.self.items in (
      ys,
      c.in_ok-sort.ensures.permutation,
      they_rise ys c.in_ok-sort.ensures.sorted,
      c.loop-entry.invariant ∙ ap seconds_of (take_all c.loop-entry.entry-index c.deref-entry-items.result.now c.loop-entry-test.false) ∙ ap seconds_of c.deref-entry-items.ensures.value,
    )
