use Rattle.std.proofs.Common.{◌≡◌, ℕ, ◌+◌, ◌<◌, length}
use Rattle.jh_unique.specs.Steps.{IsClusterList}
use Rattle.jh_unique.specs.Lists.{members_in}
use Rattle.jh_unique.proofs.lists.lists_of.Given as goal

abbrev pub invariant-loop-number : goal.invariant-loop-number
invariant-loop-number l = record {
  count : length l.lists.items ≡ l.number + 1;
  each : (c : ℕ) → c < l.number + 1 → IsClusterList l.ops l.fn.initial c (members_in l.lists.items c);
}
