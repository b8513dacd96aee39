use Rattle.std.proofs.Common.{◌<◌, ◌++◌, length, ap, ◌∙◌, subst, arith}
use Rattle.jh_linear.specs.SearchInside.{stages_in}
use Rattle.jh_linear.proofs.PlacingLemmas.{passes_one, seen_at, coming_same}
use Rattle.jh_linear.proofs.config.pass_stages.Goals as goal
use Rattle.jh_linear.proofs.config.pass_stages.Goals.{then-later-stages+in_ok-extend_from_slice, else-later-stages}

pub stages-preserved : goal.stages-preserved
stages-preserved c =
    let l = c.stages in
    let p = c.args.problem.now in
    let h = p.sorted in
    let parsed = c.is_passed.ensures.passed c.stages-test.true in
    let lt : l.later < stages_in p = subst (λ s. l.later < length s) c.as_slice-stages.ensures.value parsed.0 in
    let gone = seen_at h.stages.items c.as_slice-stages.result.now l.pending.items c.as_slice.result.now l.later _ c.as_slice-stages.ensures.value c.as_slice.ensures.value parsed.1 in
    record {
      rises = omega (arith, l.invariant.rises);
      low = omega (arith, lt);
      at = passes_one p c.requires.problem c.args.stage c.args.pending.now.items l.later l.pending.items c.if-later-stages.pending.items lt gone
          (elim c.if-later-stages.branch [
            | then-later-stages+in_ok-extend_from_slice w ↦ λ _.
                ap (λ v. v.items) w.pending-is
                ∙ w.in_ok-extend_from_slice.ensures.items
                ∙ ap (λ xs. l.pending.items ++ xs) (w.coming-more.ensures ∙ coming_same h.arrivals.items _ h.stages.items _ l.later w.as_slice-then-later-stages.ensures.value c.as_slice-stages.ensures.value)
            | else-later-stages w ↦ λ room. absurd (omega arith)
          ]) l.invariant.at;
    }
