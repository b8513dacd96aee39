use Rattle.std.proofs.Common.{◌≡◌, ◌∙◌, ◌+◌, ◌/◌, ◌^◌, ◌<◌, ◌++◌, ◌∷◌, [], length, get_or, map, refl, sym, ap, subst, take, drop, arith}
use Rattle.std.specs.List.{range_with_len}
use Rattle.std.proofs.lemmas.List.{length-take-le, take_at}
use Rattle.std.proofs.lemmas.List.FromFn.{length-map-range_with_len}
use Rattle.jh_plots.specs.Rates.{counts_in}
use Rattle.jh_plots.specs.RatesInside.{IsEndedBefore}
use Rattle.jh_plots.proofs.CountLemmas.{all_few, counted_more, ended_before, no_call, no_rows}
use Rattle.jh_plots.proofs.PointLemmas.{taken}
use Rattle.jh_plots.proofs.rates.counts_of.Goals as goal

pub loop-call-init : goal.loop-call-init
loop-call-init c = c.in_ok-rows.ensures.items_if_clones_equal (λ y same. same) ∙ no_rows c.width_of-width.result 0 (c.args.end / c.width_of-width.result + 1)

pub count_call-requires-clause-within : goal.count_call-requires-clause-within
count_call-requires-clause-within c =
    let width = c.width_of-width.result in
    let n = c.args.end / width + 1 in
    let l = c.loop-call in
    let call = get_or c.args.calls.now l.call-index no_call in
    let long : length c.deref_mut.result.now ≡ n = ap length (c.deref_mut.ensures.value ∙ l.invariant) ∙ length-map-range_with_len (counts_in width (take l.call-index c.args.calls.now)) 0 n in
    subst (λ m. IsEndedBefore width m call) (sym long) (ended_before width c.args.end call (omega (arith, c.width_of-width.ensures.long)) (c.requires l.call-index no_call c.loop-call-test.true))

pub count_call-requires-clause-few : goal.count_call-requires-clause-few
count_call-requires-clause-few c =
    let width = c.width_of-width.result in
    let l = c.loop-call in
    let few : length c.args.calls.now < 2 ^ 63 = omega arith in
    all_few width (take l.call-index c.args.calls.now) 0 (c.args.end / width + 1) c.deref_mut.result.now (c.deref_mut.ensures.value ∙ l.invariant)
    (let short = length-take-le l.call-index c.args.calls.now (omega arith) in omega (arith, short, few))

pub loop-call-preserved : goal.loop-call-preserved
loop-call-preserved c =
    let width = c.width_of-width.result in
    let n = c.args.end / width + 1 in
    let l = c.loop-call in
    let calls = c.args.calls.now in
    let before = take l.call-index calls in
    let call = get_or calls l.call-index no_call in
    let rows : c.deref_mut.result.now ≡ map (counts_in width before) (range_with_len 0 n) = c.deref_mut.ensures.value ∙ l.invariant in
    let new : c.count_call.new.rows ≡ map (counts_in width (before ++ call ∷ [])) (range_with_len 0 n) =
    c.count_call.ensures ∙ counted_more width n before call c.deref_mut.result.now rows (ended_before width c.args.end call (omega (arith, c.width_of-width.ensures.long)) (c.requires l.call-index no_call c.loop-call-test.true)) in
    let long : length c.count_call.new.rows ≡ l.rows.len =
    ap length new ∙ length-map-range_with_len (counts_in width (before ++ call ∷ [])) 0 n
    ∙ sym (ap length rows ∙ length-map-range_with_len (counts_in width before) 0 n) ∙ c.deref_mut.ensures.len in
    take_at c.count_call.new.rows (drop (length c.count_call.new.rows) l.rows.items) l.rows.len long
    ∙ new ∙ ap (λ xs. map (counts_in width xs) (range_with_len 0 n)) (sym (taken calls l.call-index call no_call c.loop-call-test.true refl))

pub returns-clause-few : goal.returns-clause-few
returns-clause-few c =
    let width = c.width_of-width.result in
    let l = c.loop-call in
    let few : length c.args.calls.now < 2 ^ 63 = omega arith in
    all_few width (take l.call-index c.args.calls.now) 0 (c.args.end / width + 1) l.rows.items l.invariant
    (let short = length-take-le l.call-index c.args.calls.now (omega arith) in omega (arith, short, few))
