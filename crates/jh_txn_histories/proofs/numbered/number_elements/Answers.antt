use Rattle.std.proofs.Common.{ℕ, ◌<◌, length, take, arith}
use Rattle.jh_edn.specs.Edn.{Edn}
use Rattle.jh_edn.specs.Normal.{normal}
use Rattle.jh_edn.specs.View.{view, views}
use Rattle.jh_numbers.specs.Numbers.{HasNumber}
use Rattle.jh_txn_histories.proofs.GrowLemmas.{elements_stay, map_zip_push, stays_then, stays_with}
use Rattle.jh_txn_histories.proofs.numbered.number_elements.Goals as goal

pub loop-element-preserved : goal.loop-element-preserved
loop-element-preserved c =
    let l = c.loop-element in
    let seen = c.args.seen.now in
    let new = c.number.new.self in
    let low : l.element-index < length seen = omega arith in
    let stay = stays_with l.elements new (c.args.key, normal (view c.element-item.result)) c.in_ok-number.ensures.values in
    record {
      numbers = map_zip_push view (λ (x : Edn) (n : ℕ). HasNumber new (c.args.key, normal x) n) seen l.element-index c.element-item.result l.numbers.items c.push.new.self.items c.in_ok-number.field-0 low c.element-item.is c.in_ok-push.ensures.items
          (elements_stay l.elements new c.args.key stay (views (take l.element-index seen)) l.numbers.items l.invariant.numbers) c.in_ok-number.ensures.number;
      stays = stays_then c.args.elements.now l.elements new l.invariant.stays stay;
    }
