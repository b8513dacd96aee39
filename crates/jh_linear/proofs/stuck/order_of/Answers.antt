use Rattle.std.proofs.Common.{◌≡◌, ◌++◌, get_or, reverse, sym, ap, ◌∙◌, arith}
use Rattle.std.proofs.lemmas.List.{append_assoc, get_or_read, reverse-append, reverse-reverse}
use Rattle.jh_linear.specs.declared.verdict.Step.{Step}
use Rattle.jh_linear.specs.Reached.{order_at, root}
use Rattle.jh_linear.proofs.StepLemmas.{order_first, order_step}
use Rattle.jh_linear.proofs.stuck.order_of.Goals as goal

pub steps-preserved : goal.steps-preserved
steps-preserved c =
    let steps = c.args.steps.now in
    let l = c.steps in
    let step : Step = c.index-steps-at.result in
    let is : step ≡ get_or steps l.at root = get_or_read steps l.at step (omega (arith, l.invariant.low)) c.index-steps-at.is root in
    let up = c.requires.earlier l.at (omega arith) l.invariant.low in
    let behind : reverse c.push_reversed.new.order.items ≡ step.placed ++ reverse l.order.items =
    ap reverse c.in_ok-push_reversed.ensures ∙ reverse-append l.order.items (reverse c.as_slice.result.now) ∙ ap (λ o. o ++ reverse l.order.items) (reverse-reverse c.as_slice.result.now ∙ c.as_slice.ensures) in
    record {
      low = omega (arith, up, l.invariant.low, ap (λ (s : Step). s.parent) is);
      joins =
          l.invariant.joins
          ∙ ap (λ o. o ++ reverse l.order.items) (order_step steps l.at (omega arith) l.invariant.low c.requires.earlier ∙ ap (λ (s : Step). order_at steps s.parent ++ s.placed) (sym is))
          ∙ append_assoc (order_at steps step.parent) step.placed (reverse l.order.items)
          ∙ ap (λ o. order_at steps step.parent ++ o) (sym behind);
    }

pub returns : goal.returns
returns c =
    let steps = c.args.steps.now in
    let l = c.steps in
    let end : l.at ≡ 0 = omega arith in
    c.reverse.ensures.items
    ∙ sym (l.invariant.joins ∙ ap (λ i. order_at steps i ++ reverse l.order.items) end ∙ ap (λ o. o ++ reverse l.order.items) (order_first steps (omega (arith, l.invariant.low))))
