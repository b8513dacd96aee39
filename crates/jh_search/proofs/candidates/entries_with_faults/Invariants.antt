use Rattle.std.proofs.Common.{◌≡◌, ◌*◌, ◌+◌, ℕ}
use Rattle.std.specs.List.{fold, range_with_len}
use Rattle.jh_search.specs.Candidates.{entries_with_random}
use Rattle.jh_search.specs.CandidatesInside.{AreEntriesFor}
use Rattle.jh_random_faults.specs.Draws.{numbers_after}
use Rattle.jh_search.proofs.candidates.entries_with_faults.Given as goal

abbrev pub invariant-loop-fault : goal.invariant-loop-fault
invariant-loop-fault l = record {
  so_far : (seed : ℕ) → l.fn.numbers ≡ numbers_after seed 1
      → (l.entries.items ≡ fold (entries_with_random l.plan l.fn.options seed) l.plan.schedule (range_with_len 0 l.fault))
      × (l.numbers ≡ numbers_after seed (7 * l.fault + 1));
  kept : AreEntriesFor l.plan l.entries.items;
}
