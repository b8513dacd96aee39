use Rattle.std.proofs.Common.{◌∙◌, ◌+◌, sym, ap, get_or, cond, drop}
use Rattle.std.specs.Prelude.{None, Some}
use Rattle.jh_ops.specs.declared.pairs.Pair.{Pair}
use Rattle.jh_set_full.specs.Inside.{first_lacking, sighted_pairs}
use Rattle.jh_set_full.proofs.SpotLemmas.{missing_step, next_got}
use Rattle.jh_set_full.proofs.spots.first_lacking.Goals as goal

pub returns-then-not-same_place : goal.returns-then-not-same_place
returns-then-not-same_place c =
    let none : Pair = record { invoke = 0; outcome = None } in
    let reads = c.args.reads.now in
    let shown = c.args.shown.now in
    let i = c.loop-place.place in
    let step = missing_step reads (sighted_pairs shown) i none c.next_invoked.result c.loop-place-test.true (c.next_invoked.ensures ∙ next_got shown i) in
    sym (c.loop-place.invariant ∙ step
    ∙ ap (λ b. cond b (first_lacking (drop (i + 1) reads) (drop (i + 1) (sighted_pairs shown))) (Some (get_or reads i none).invoke)) (sym c.same_place.ensures ∙ c.if-not-same_place.true))

pub loop-place-preserved : goal.loop-place-preserved
loop-place-preserved c =
    let none : Pair = record { invoke = 0; outcome = None } in
    let reads = c.args.reads.now in
    let shown = c.args.shown.now in
    let i = c.loop-place.place in
    let step = missing_step reads (sighted_pairs shown) i none c.next_invoked.result c.loop-place-test.true (c.next_invoked.ensures ∙ next_got shown i) in
    c.loop-place.invariant ∙ step
    ∙ ap (λ b. cond b (first_lacking (drop (i + 1) reads) (drop (i + 1) (sighted_pairs shown))) (Some (get_or reads i none).invoke)) (sym c.same_place.ensures ∙ c.if-not-same_place.false)
