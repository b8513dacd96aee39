use Rattle.std.proofs.Common.{◌≡◌, ◌<◌, ◌∷◌, ◌++◌, [], Some, ap, length, sym, ◌∙◌}
use Rattle.std.proofs.lemmas.List.Elements.{All-push}
use Rattle.jh_env.proofs.BumpLemmas.{found_next, found_skip}
use Rattle.jh_env.proofs.keeping.all_bumps.Goals as goal
use Rattle.jh_env.proofs.keeping.all_bumps.Goals.{in-Some+in_ok-push, in_default}

pub loop-bump-preserved : goal.loop-bump-preserved
loop-bump-preserved g c =
    let f = g.B.NamesBump.bumped c.args.nodes.now in
    let xs = c.args.bumps.now in let i = c.loop-bump.bump-index in let x = c.bump-item.result in
    elim c.match-bump.branch [
      | in-Some+in_ok-push w ↦
          let y = w.in-Some.bump in
          let there : f x ≡ Some y = sym c.bump.ensures.bump ∙ w.in-Some.is in
          rw (w.all-is, w.in_ok-push.ensures.items) (
            ap (λ t. t ++ y ∷ []) c.loop-bump.invariant.0 ∙ sym (found_next f xs i x y c.loop-bump-test.true c.bump-item.is there),
            All-push (λ b. b.0 < length c.args.nodes.now) c.loop-bump.all.items y c.loop-bump.invariant.1 w.in-Some.ensures.known,
          )
      | in_default w ↦
          rw w.all-is (
            c.loop-bump.invariant.0 ∙ sym (found_skip f xs i x c.loop-bump-test.true c.bump-item.is (sym c.bump.ensures.bump ∙ w.in_default.is)),
            c.loop-bump.invariant.1,
          )
    ]
