use Rattle.std.proofs.Common.{◌≡◌, drop}
use Rattle.jh_gen.specs.Generator.{row_of, share_list}
use Rattle.jh_gen.specs.View.{generators_of, shares_of}
use Rattle.jh_gen.specs.Suits.{all_have_only, shares_have_only}
use Rattle.jh_gen.specs.SuitsInside.{is_call_wanted}
use Rattle.jh_gen.proofs.generator.+only.Given as goal

abbrev pub invariant-Gens::all_have_only-loop-member : goal.invariant-Gens::all_have_only-loop-member
invariant-Gens::all_have_only-loop-member l =
    all_have_only (is_call_wanted l.wanted) (row_of (generators_of (drop l.member-index l.member-items)))
    ≡ all_have_only (is_call_wanted l.wanted) (row_of l.self)

abbrev pub invariant-Shares::all_have_only-loop-member : goal.invariant-Shares::all_have_only-loop-member
invariant-Shares::all_have_only-loop-member l =
    shares_have_only (is_call_wanted l.wanted) (share_list (shares_of (drop l.member-index l.member-items)))
    ≡ shares_have_only (is_call_wanted l.wanted) (share_list l.self)
