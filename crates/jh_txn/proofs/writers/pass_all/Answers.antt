use Rattle.std.proofs.Common.{◌<◌, ◌+◌, [], ◌∷◌, ◌++◌, length, take, drop, get_or, sym, subst, ◌∙◌, arith}
use Rattle.std.proofs.lemmas.Bool.{false≢true}
use Rattle.std.proofs.lemmas.List.{take_more}
use Rattle.jh_txn.specs.declared.txn.Point.TheVariants.{Start}
use Rattle.jh_txn.specs.OrderCheckInside.{AreMarks}
use Rattle.jh_txn.specs.SnapshotCheckInside.{AreLastWriters}
use Rattle.jh_txn.specs.SnapshotOrders.{AreWritersApart, commits}
use Rattle.jh_txn.proofs.PhaseLemmas.{cut_points}
use Rattle.jh_txn.proofs.SnapshotTimeLemmas.{low_points}
use Rattle.jh_txn.proofs.WriterLemmas.{apart_more, count_behind, last_more, marks_behind, may_pass_if}
use Rattle.jh_txn.proofs.writers.pass_all.Goals as goal

pub pass-requires-clause-there : goal.pass-requires-clause-there
pass-requires-clause-there c =
    let low : c.loop-point.point-index < length c.args.points.now = omega arith in
    low_points c.args.txns.now c.args.points.now c.requires.placed c.loop-point.point-index (Start 0) low

pub returns-then-not-pass : goal.returns-then-not-pass
returns-then-not-pass c =
    let txns = c.args.txns.now in
    let points = c.args.points.now in
    let i = c.loop-point.point-index in
    let low : i < length points = omega arith in
    let point = get_or points i (Start 0) in (
      λ e. absurd (false≢true e),
      λ apart. absurd (false≢true (sym c.if-not-pass.true ∙ c.pass.ensures.may.1
          (may_pass_if txns points c.requires.placed (take i points) c.loop-point.over c.loop-point.last c.loop-point.invariant.over c.loop-point.invariant.last point (drop (i + 1) points) (cut_points points i low) apart))),
    )

pub loop-point-preserved : goal.loop-point-preserved
loop-point-preserved c =
    let txns = c.args.txns.now in
    let points = c.args.points.now in
    let i = c.loop-point.point-index in
    let low : i < length points = omega arith in
    let point = get_or points i (Start 0) in
    let over = c.loop-point.over in
    let last = c.loop-point.last in
    let marks = c.loop-point.invariant.over in
    let writers = c.loop-point.invariant.last in
    let may = c.pass.ensures.may.0 c.if-not-pass.false in
    let behind = c.pass.ensures.last c.if-not-pass.false in
    let cut = cut_points points i low in
    let more = sym (take_more points i (Start 0) low) in
    let there = low_points txns points c.requires.placed i (Start 0) low in
    record {
      count = count_behind txns point last c.pass.new.last behind ∙ c.loop-point.invariant.count;
      over = subst (λ xs. AreMarks (length txns) (commits xs) c.pass.new.over) more (subst (AreMarks (length txns) (commits (take i points ++ point ∷ []))) (sym c.pass.ensures.over) (marks_behind (length txns) (take i points) point over there marks));
      last = subst (λ xs. AreLastWriters txns xs c.pass.new.last) more (last_more txns points c.requires.placed (take i points) over last marks writers point (drop (i + 1) points) c.pass.new.last cut may behind);
      apart = subst (AreWritersApart txns) more (apart_more txns points c.requires.placed (take i points) over last marks writers point (drop (i + 1) points) cut may c.loop-point.invariant.apart);
    }
