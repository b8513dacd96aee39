use Rattle.std.proofs.Common.{◌≡◌, take}
use Rattle.jh_gen.specs.View.{generators_of, shares_of}
use Rattle.jh_gen.proofs.+copy.Given as goal

abbrev pub invariant-copy::copy_members-loop-member : goal.invariant-copy::copy_members-loop-member
invariant-copy::copy_members-loop-member l = generators_of l.copies.items ≡ generators_of (take l.member-index l.member-items)

abbrev pub invariant-copy::copy_shares-loop-count : goal.invariant-copy::copy_shares-loop-count
invariant-copy::copy_shares-loop-count l = shares_of l.copies.items ≡ shares_of (take l.count-index l.count-items)
