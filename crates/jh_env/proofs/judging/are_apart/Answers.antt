use Rattle.std.proofs.Common.{sym, ◌∙◌}
use Rattle.jh_env.proofs.BumpLemmas.{apart_skip, apart_next, not_apart}
use Rattle.jh_env.proofs.judging.are_apart.Goals as goal
use Rattle.jh_env.proofs.judging.are_apart.Goals.{in-Some+else-is_bumped, in_default}

pub loop-place-preserved : goal.loop-place-preserved
loop-place-preserved g c =
    let i = c.loop-place.place in
    let x = c.index-bumps-place.result in
    let f = g.B.NamesBump.bumped c.args.nodes.now in
    elim c.match-bump.branch [
      | in-Some+else-is_bumped w ↦
          apart_next f c.args.bumps.now i x w.in-Some.bump _ c.loop-place-test.true c.index-bumps-place.is
          (sym c.bump.ensures.bump ∙ w.in-Some.is) (sym w.is_bumped.ensures ∙ w.if-is_bumped.false) c.loop-place.invariant
      | in_default w ↦
          apart_skip f c.args.bumps.now i x _ c.loop-place-test.true c.index-bumps-place.is (sym c.bump.ensures.bump ∙ w.in_default.is) c.loop-place.invariant
    ]

pub returns-then-is_bumped : goal.returns-then-is_bumped
returns-then-is_bumped g c =
    not_apart (g.B.NamesBump.bumped c.args.nodes.now) c.args.bumps.now c.loop-place.place c.index-bumps-place.result c.in-Some.bump _ c.loop-place-test.true c.index-bumps-place.is
    (sym c.bump.ensures.bump ∙ c.in-Some.is) (sym c.is_bumped.ensures ∙ c.if-is_bumped.true) c.loop-place.invariant
