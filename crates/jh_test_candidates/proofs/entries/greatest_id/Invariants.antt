use Rattle.std.proofs.Common.{◌≡◌, take}
use Rattle.std.specs.List.{fold}
use Rattle.jh_random_faults.specs.Ids.{greater_id}
use Rattle.jh_test_candidates.proofs.entries.greatest_id.Given as goal

abbrev pub invariant-loop-entry : goal.invariant-loop-entry
invariant-loop-entry l = l.greatest ≡ fold (λ id entry. greater_id id entry.step) 0 (take l.entry-index l.entries)
