use Rattle.std.proofs.Common.{◌≡◌, ◌+◌, drop}
use Rattle.jh_gen.specs.Generator.{share_list}
use Rattle.jh_gen.specs.View.{shares_of}
use Rattle.jh_gen.specs.Fits.{shares_sum}
use Rattle.jh_gen.proofs.generator.Shares.sum.Given as goal

abbrev pub invariant-loop-count : goal.invariant-loop-count
invariant-loop-count l = l.sum + shares_sum (share_list (shares_of (drop l.count-index l.count-items))) ≡ shares_sum (share_list l.self)
