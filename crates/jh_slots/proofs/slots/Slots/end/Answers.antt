use Rattle.std.proofs.Common.{◌≡◌, ◌+◌, ◌*◌, ◌<◌, sym, ap, ◌∙◌, arith}
use Rattle.jh_slots.specs.Seats.{claim_at}
use Rattle.jh_slots.specs.Stored.{status_at}
use Rattle.jh_slots.proofs.EndLemmas.{ends_at, mark_there}
use Rattle.jh_slots.proofs.SeatLemmas.{seat_ended, stays, own_claim, cap_is}
use Rattle.jh_slots.proofs.slots.Slots.end.Goals as goal

fits : (c : goal.After-store-arg-1) → 1 + (5 * c.self.inside.rows + c.args.claim.first) < 1 + 6 * c.self.inside.rows
fits c =
    let same : c.seat.inside.inner.table_id ≡ c.self.inside.table.shared.table_id = ap (λ s. s.table) c.seat.view_is ∙ (c.requires.own ∙ sym (ap (λ s. s.table) c.self.view_is)) in
    let o = own_claim _ _ _ _ _ _ c.seat.invariant.1 (ap (λ z. z.words) same ∙ c.self.invariant.1) (ap (λ s. s.knows) c.seat.view_is) c.requires.holds in
    let a = o.3 in let b = o.4 in omega arith

pub overflow_add-self-inside : goal.overflow_add-self-inside
overflow_add-self-inside c = let f = fits c in let first : c.claim.inside.first ≡ c.args.claim.first = ap (λ z. z.first) c.claim.view_is in let s = c.self.invariant.2 in omega arith

pub overflow_add-self-inside-2 : goal.overflow_add-self-inside-2
overflow_add-self-inside-2 c = let f = fits c in let first : c.claim.inside.first ≡ c.args.claim.first = ap (λ z. z.first) c.claim.view_is in let s = c.self.invariant.2 in omega arith

pub store-requires : goal.store-requires
store-requires c =
    let first : c.claim.inside.first ≡ c.args.claim.first = ap (λ z. z.first) c.claim.view_is in
    let same : c.seat.inside.inner.table_id ≡ c.self.inside.table.shared.table_id = ap (λ s. s.table) c.seat.view_is ∙ (c.requires.own ∙ sym (ap (λ s. s.table) c.self.view_is)) in
    let o = own_claim _ _ _ _ _ _ c.seat.invariant.1 (ap (λ z. z.words) same ∙ c.self.invariant.1) (ap (λ s. s.knows) c.seat.view_is) c.requires.holds in
    let a = o.3 in let b = o.4 in let rows = o.2 in let words = c.self.invariant.1 in let key = c.self.invariant.0 in
    let here = cap_is _ _ _ c.seat.invariant.1 (ap (λ z. z.words) same ∙ c.self.invariant.1) in
    let mark = mark_there c.args.status o.0.words c.requires.status.0 in
    (same, omega arith, ends_at c.self.inside.table.shared.key _ _ c.args.claim.first _ _ _ o.0 mark.0 (ap (λ n. 1 + (5 * c.self.inside.rows + n)) first ∙ ap (λ k. status_at k c.args.claim.first) (sym key)) c.seat.invariant.1.live (here ∙ sym key) o.1 (let l = c.requires.status.1 in omega arith) mark.1)

pub invariant_of-seat : goal.invariant_of-seat
invariant_of-seat c =
    let first : c.claim.inside.first ≡ c.args.claim.first = ap (λ z. z.first) c.claim.view_is in
    let e = c.store.ensures in
    let same : c.seat.inside.inner.table_id ≡ c.self.inside.table.shared.table_id = ap (λ s. s.table) c.seat.view_is ∙ (c.requires.own ∙ sym (ap (λ s. s.table) c.self.view_is)) in
    let o = own_claim _ _ _ _ _ _ c.seat.invariant.1 (ap (λ z. z.words) same ∙ c.self.invariant.1) (ap (λ s. s.knows) c.seat.view_is) c.requires.holds in
    let a = o.3 in let b = o.4 in
    let here : c.seat.inside.inner.me.0.cap ≡ c.self.inside.rows = cap_is _ _ _ c.seat.invariant.1 (ap (λ z. z.words) same ∙ c.self.invariant.1) in
    let mark = mark_there c.args.status (claim_at c.seat.inside.inner.me.0.knows c.args.claim.first).words c.requires.status.0 in
    stays _ _ _ _ _ _ c.seat.invariant.0 e.2.0 e.0 (e.2.1 c.args.claim.first mark.0 (ap (λ n. 1 + (5 * c.self.inside.rows + n)) first ∙ ap (λ k. status_at k c.args.claim.first) (sym here)) mark.1) (seat_ended _ _ c.seat.invariant.1 c.args.claim.first _ (omega arith))
