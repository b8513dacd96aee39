use Rattle.std.proofs.Common.{◌≡◌, ◌+◌, length, sym, ap, subst, ◌∙◌, arith}
use Rattle.jh_linear.specs.SearchInside.{AreClassesUpTo}
use Rattle.jh_linear.proofs.SortedLemmas.{AreTogether, runs_none, runs_push, together_more, together_one}
use Rattle.jh_linear.proofs.sorted_ops.classes_of.Goals as goal
use Rattle.jh_linear.proofs.sorted_ops.classes_of.Goals.{then-ends_at+in_ok-push, else-ends_at}

pub loop-index-init : goal.loop-index-init
loop-index-init c =
    let entries = c.args.entries.now in
    record {
      runs = runs_none entries c.new-classes.result.items c.new-classes.ensures.items;
      low = omega arith;
      open' = λ lt. together_one entries 0;
      closed = λ le. le;
    }

pub loop-index-preserved : goal.loop-index-preserved
loop-index-preserved c =
    let entries = c.args.entries.now in
    let l = c.loop-index in
    let upto = l.index + 1 in
    let so_far = l.invariant.open' c.loop-index-test.true in
    elim c.if-ends_at.branch [
      | then-ends_at+in_ok-push w ↦
          let items = ap (λ v. v.items) w.classes-is ∙ w.in_ok-push.ensures.items in
          let runs = runs_push entries l.classes.items l.from upto (omega (arith, l.invariant.low)) l.invariant.runs so_far in
          record {
            runs = subst (λ f. AreClassesUpTo entries c.if-ends_at.classes.items f) (sym w.from-is) (subst (λ cs. AreClassesUpTo entries cs upto) (sym items) runs);
            low = omega (arith, w.from-is);
            open' = λ lt. subst (λ f. AreTogether entries f (upto + 1)) (sym w.from-is) (together_one entries upto);
            closed = λ le. omega (arith, le, w.from-is);
          }
      | else-ends_at w ↦
          let next = c.ends_at.ensures w.if-ends_at.false in
          let items = ap (λ v. v.items) w.classes-is in
          record {
            runs = subst (λ f. AreClassesUpTo entries c.if-ends_at.classes.items f) (sym w.from-is) (subst (λ cs. AreClassesUpTo entries cs l.from) (sym items) l.invariant.runs);
            low = omega (arith, w.from-is, l.invariant.low);
            open' = λ lt. subst (λ f. AreTogether entries f (upto + 1)) (sym w.from-is) (together_more entries l.from upto (omega (arith, l.invariant.low)) so_far next.1);
            closed = λ le. absurd (omega (arith, le, next.0));
          }
    ]

pub returns : goal.returns
returns c =
    let entries = c.args.entries.now in
    let l = c.loop-index in
    let whole = l.invariant.closed c.loop-index-test.false in
    let end : l.from ≡ length entries = omega (arith, whole, l.invariant.low) in
    subst (AreClassesUpTo entries l.classes.items) end l.invariant.runs
