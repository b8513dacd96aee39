use Rattle.std.proofs.Common.{◌≡◌, ◌+◌, ◌≤◌, sym, ap, ◌∙◌, subst, arith}
use Rattle.jh_slots.proofs.StepRuleLemmas.{takes}
use Rattle.jh_slots.proofs.SeatLemmas.{takes_stay, cap_is}
use Rattle.jh_slots.proofs.slots.Slots.take.Goals as goal

pub compare_exchange-requires : goal.compare_exchange-requires
compare_exchange-requires c =
    let own = c.self.invariant in
    let rows : c.self.inside.rows ≡ c.args.self.now.rows = ap (λ s. s.rows) c.self.view_is in
    let fit : c.args.first + c.args.rows ≤ c.self.inside.table.shared.key = let f = c.requires.fits.1 in let k = own.0 in omega arith in
    (ap (λ s. s.table) c.seat.view_is ∙ (c.requires.own ∙ sym (ap (λ s. s.table) c.self.view_is)), omega arith, takes _ _ _ _ _ _ c.requires.fits.0 fit)

pub invariant_of-seat : goal.invariant_of-seat
invariant_of-seat c =
    let e = c.compare_exchange.ensures in
    let size = c.self.invariant in
    let same : c.seat.inside.inner.table_id ≡ c.self.inside.table.shared.table_id = ap (λ s. s.table) c.seat.view_is ∙ (c.requires.own ∙ sym (ap (λ s. s.table) c.self.view_is)) in
    let rows : c.self.inside.rows ≡ c.args.self.now.rows = ap (λ s. s.rows) c.self.view_is in
    let here : c.seat.inside.inner.me.0.cap ≡ c.self.inside.rows = cap_is _ _ _ c.seat.invariant.1 (ap (λ z. z.words) same ∙ c.self.invariant.1) in
    takes_stay c.self.inside.rows c.self.inside.table.shared.table_id.slots c.args.first c.args.rows _ c.seat.inside.inner.me c.compare_exchange.new.seat.me _ _ c.seat.invariant.0 e.0 c.seat.invariant.1 here c.requires.fits.0 (subst (λ k. c.args.first + c.args.rows ≤ k) (sym rows) c.requires.fits.1) e.2
