use Rattle.std.proofs.Common.{◌≡◌, ℕ, List, true, refl, subst, sym, ◌∙◌}
use Rattle.std.specs.Prelude.{ℤ}
use Rattle.std.specs.List.{filter_map}
use Rattle.jh_env.specs.Faults.{AreBumps}
use Rattle.jh_env.specs.Naming.{are_bumps}
use Rattle.jh_env.proofs.BumpLemmas.{bumps_right}
use Rattle.jh_env.proofs.faults.Fault.of_bumps.Goals as goal

pub invariant_of-result : goal.invariant_of-result
invariant_of-result g c =
    let found = filter_map (g.B.NamesBump.bumped c.args.nodes.now) c.args.bumps.now in
    let right : are_bumps found ≡ true =
    rw (sym c.are_bump_amounts.ensures ∙ c.if-not-are_bump_amounts.false, sym c.are_apart.ensures ∙ c.if-not-are_apart.false) refl in
    let P : List (ℕ × ℤ) → Type 0 = AreBumps in
    subst P (sym c.in-Ok.ensures.all) (bumps_right found right)
