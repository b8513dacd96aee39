use Rattle.std.proofs.Common.{◌≡◌, ◌<◌, Some, length, sym, ◌∙◌}
use Rattle.jh_env.specs.Faults.{is_same_link}
use Rattle.jh_env.proofs.FaultLemmas.{kept_all_one}
use Rattle.jh_env.proofs.BumpLemmas.{kept_next, kept_skip}
use Rattle.jh_env.proofs.keeping.kept_links.Goals as goal
use Rattle.jh_env.proofs.keeping.kept_links.Goals.{in-Some+in_ok-keep, in_default}

pub loop-link-preserved : goal.loop-link-preserved
loop-link-preserved g c =
    let f = g.L.NamesLink.linked c.args.nodes.now in
    let xs = c.args.links.now in let i = c.loop-link.link-index in let x = c.link-item.result in
    let before = c.loop-link.invariant in
    elim c.match-ends.branch [
      | in-Some+in_ok-keep w ↦
          let y = w.in-Some.ends in
          let there : f x ≡ Some y = sym c.ends.ensures.ends ∙ w.in-Some.is in
          rw (w.seen-is, w.kept-is) (
            w.in_ok-keep.ensures.0,
            kept_next is_same_link f xs i x y c.loop-link.kept.items w.keep.new.kept.items _ c.loop-link-test.true c.link-item.is there w.in_ok-keep.ensures.1 before.1,
            kept_all_one (λ l. (l.0 < length c.args.nodes.now) × (l.1 < length c.args.nodes.now)) is_same_link c.loop-link.kept.items y w.keep.new.kept.items before.2 w.in-Some.ensures.known w.in_ok-keep.ensures.1,
          )
      | in_default w ↦
          rw (w.seen-is, w.kept-is)
          (before.0, kept_skip is_same_link f xs i x c.loop-link.kept.items _ c.loop-link-test.true c.link-item.is (sym c.ends.ensures.ends ∙ w.in_default.is) before.1, before.2)
    ]
