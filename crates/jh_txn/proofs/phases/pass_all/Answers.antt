use Rattle.std.proofs.Common.{◌<◌, ◌+◌, ◌++◌, ◌∷◌, [], length, take, drop, get_or, sym, subst, ◌∙◌, arith}
use Rattle.std.proofs.lemmas.Bool.{false≢true}
use Rattle.std.proofs.lemmas.List.{take_more}
use Rattle.jh_txn.specs.declared.txn.Point.TheVariants.{Start}
use Rattle.jh_txn.specs.SnapshotCheckInside.{ArePointsInTurn, ArePhases}
use Rattle.jh_txn.proofs.PhaseLemmas.{cut_points, turn_more, phases_more, phase_fits}
use Rattle.jh_txn.proofs.phases.pass_all.Goals as goal

pub returns-then-not-pass-clause-turn : goal.returns-then-not-pass-clause-turn
returns-then-not-pass-clause-turn c =
    let points = c.args.points.now in
    let i = c.loop-point.point-index in
    let count = length c.args.phases.now in
    let low : i < length points = omega arith in (
      λ e. absurd (false≢true e),
      λ turn. absurd (false≢true (sym c.if-not-pass.true ∙ c.pass.ensures.fits.1 (phase_fits count (take i points) c.loop-point.phases (get_or points i (Start 0)) c.loop-point.invariant.behind (drop (i + 1) points) (subst (ArePointsInTurn count) (cut_points points i low) turn)))),
    )

pub loop-point-preserved : goal.loop-point-preserved
loop-point-preserved c =
    let points = c.args.points.now in
    let i = c.loop-point.point-index in
    let count = length c.args.phases.now in
    let low : i < length points = omega arith in
    let point = get_or points i (Start 0) in
    let fits = c.pass.ensures.fits.0 c.if-not-pass.false in
    let phases = subst (ArePhases count (take i points ++ point ∷ [])) (sym (c.pass.ensures.passed c.if-not-pass.false)) (phases_more count (take i points) c.loop-point.phases point c.loop-point.invariant.behind fits) in
    record {
      turn = subst (ArePointsInTurn count) (sym (take_more points i (Start 0) low)) (turn_more count (take i points) c.loop-point.phases point c.loop-point.invariant.behind c.loop-point.invariant.turn fits);
      behind = subst (λ xs. ArePhases count xs c.pass.new.phases) (sym (take_more points i (Start 0) low)) phases;
    }
