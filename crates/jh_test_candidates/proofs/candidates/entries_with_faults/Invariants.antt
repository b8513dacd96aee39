use Rattle.std.proofs.Common.{◌≡◌, ◌*◌, ◌+◌, ℕ}
use Rattle.std.specs.List.{fold, range_with_len}
use Rattle.jh_random_faults.specs.Draws.{numbers_after}
use Rattle.jh_test_candidates.specs.Candidates.{test_entries_with_random}
use Rattle.jh_test_candidates.specs.CandidatesInside.{AreEntriesForTest}
use Rattle.jh_test_candidates.proofs.candidates.entries_with_faults.Given as goal

abbrev pub invariant-loop-fault : goal.invariant-loop-fault
invariant-loop-fault l = record {
  so_far : (seed : ℕ) → l.fn.numbers ≡ numbers_after seed 1
      → (l.entries.items ≡ fold (test_entries_with_random l.test l.fn.palette seed) l.test.schedule (range_with_len 0 l.fault))
      × (l.numbers ≡ numbers_after seed (7 * l.fault + 1));
  kept : AreEntriesForTest l.test l.entries.items;
}
