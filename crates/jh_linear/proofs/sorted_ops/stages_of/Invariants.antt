use Rattle.std.proofs.Common.{ℕ, ◌<◌, ◌≤◌, take, length, get_or}
use Rattle.jh_linear.specs.SearchInside.{no_entry}
use Rattle.jh_linear.specs.SearchInside.{AreStages}
use Rattle.jh_linear.proofs.sorted_ops.stages_of.Given as goal

abbrev pub invariant-ending : goal.invariant-ending
invariant-ending l = record {
  stages : AreStages l.invocations (take l.entry-index l.ends) l.stages.items;
  low : l.arrived ≤ length l.invocations;
  before : (i k : ℕ) → i < l.arrived → l.entry-index ≤ k → k < length l.ends → (get_or l.invocations i no_entry).0 ≤ (get_or l.ends k no_entry).0;
}
