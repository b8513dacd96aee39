use Rattle.std.proofs.Common.{◌≡◌, ℕ, ◌∙◌, ap, subst}
use Rattle.std.specs.List.{enumerate_from}
use Rattle.jh_ops.specs.Operation.{operations}
use Rattle.jh_timeline.specs.Lanes.{places_shown, takes_effect_behind}
use Rattle.jh_timeline.specs.LanesInside.{count_left_out_with, drawn_with, is_behind}
use Rattle.jh_timeline.proofs.DrawnLemmas.{drawn_is, left_out_is}
use Rattle.jh_timeline.proofs.drawn.drawn_in.Goals as goal

pub returns-clause-calls : goal.returns-clause-calls
returns-clause-calls c =
    let history = operations c.args.history.now in
    let behind = is_behind c.in_ok-order.order in
    c.in_ok-drawn.ensures ∙ ap (drawn_with c.args.window history behind) (c.deref-2.ensures.value ∙ c.in_ok-calls.ensures.calls)
    ∙ drawn_is c.args.window history c.args.marks.now behind
    (subst (λ calls. (number : ℕ) → behind number ≡ takes_effect_behind (places_shown c.args.window c.args.marks.now (enumerate_from 0 calls)) c.args.marks.now number)
    (c.deref.ensures.value ∙ c.in_ok-calls.ensures.calls) c.in_ok-order.ensures)

pub returns-clause-left_out : goal.returns-clause-left_out
returns-clause-left_out c =
    let history = operations c.args.history.now in
    let behind = is_behind c.in_ok-order.order in
    c.count_left_out.ensures ∙ ap (count_left_out_with c.args.window history behind) (c.deref-3.ensures.value ∙ c.in_ok-calls.ensures.calls)
    ∙ left_out_is c.args.window history c.args.marks.now behind
    (subst (λ calls. (number : ℕ) → behind number ≡ takes_effect_behind (places_shown c.args.window c.args.marks.now (enumerate_from 0 calls)) c.args.marks.now number)
    (c.deref.ensures.value ∙ c.in_ok-calls.ensures.calls) c.in_ok-order.ensures)
