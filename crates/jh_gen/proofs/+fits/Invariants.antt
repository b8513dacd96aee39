use Rattle.std.proofs.Common.{◌≡◌, drop}
use Rattle.jh_gen.specs.Generator.{row_of, share_list}
use Rattle.jh_gen.specs.View.{generators_of, shares_of}
use Rattle.jh_gen.specs.Fits.{all_fit, shares_fit}
use Rattle.jh_gen.proofs.+fits.Given as goal

abbrev pub invariant-generator::Gens::all_fit-loop-member : goal.invariant-generator::Gens::all_fit-loop-member
invariant-generator::Gens::all_fit-loop-member l =
    all_fit l.clients (row_of (generators_of (drop l.member-index l.member-items))) ≡ all_fit l.clients (row_of l.self)

abbrev pub invariant-generator::Shares::all_fit-loop-member : goal.invariant-generator::Shares::all_fit-loop-member
invariant-generator::Shares::all_fit-loop-member l =
    shares_fit l.clients (share_list (shares_of (drop l.member-index l.member-items))) ≡ shares_fit l.clients (share_list l.self)
