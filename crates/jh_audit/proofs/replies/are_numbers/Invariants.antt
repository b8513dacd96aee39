use Rattle.std.proofs.Common.{◌≡◌, drop}
use Rattle.jh_edn.specs.View.{views}
use Rattle.jh_audit.specs.RepliesInside.{are_numbers}
use Rattle.jh_audit.proofs.replies.are_numbers.Given as goal

-- what is left to compare decides
abbrev pub invariant-loop-value : goal.invariant-loop-value
invariant-loop-value l = are_numbers l.numbers (views l.values) ≡ are_numbers l.rest (views (drop l.value-index l.values))
