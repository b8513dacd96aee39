use Rattle.std.proofs.Common.{◌≡◌, ◌+◌, ◌*◌, ◌<◌, ◌≤◌, length, Some, sym, ap, ◌∙◌, arith}
use Rattle.std.specs.FinMap as map
use Rattle.jh_slots.specs.Seats.{Claim, knowledge_after_write}
use Rattle.jh_slots.specs.Stored.{View}
use Rattle.jh_slots.proofs.MapLemmas.{holds_wrote}
use Rattle.jh_slots.proofs.WriteLemmas.{writes}
use Rattle.jh_slots.proofs.SeatLemmas.{seat_wrote, stays, own_claim}
use Rattle.jh_slots.proofs.slots.Slots.write.Goals as goal

abbrev Own : goal.After-row_known-1 → Type 0
Own c = (d : Claim) × (map.get c.seat.inside.inner.me.0.knows.claims c.args.claim.now.first ≡ Some d) × (d.rows ≡ c.args.claim.now.rows) × (1 ≤ c.args.claim.now.rows) × (c.args.claim.now.first + c.args.claim.now.rows ≤ c.self.inside.rows) × (length d.words ≡ 5 * c.args.claim.now.rows)

own : (c : goal.After-row_known-1) → Own c
own c =
    let same : c.seat.inside.inner.table_id ≡ c.self.inside.table.shared.table_id = ap (λ s. s.table) c.seat.view_is ∙ (c.requires.own ∙ sym (ap (λ s. s.table) c.self.view_is)) in
    own_claim _ _ _ _ _ _ c.seat.invariant.1 (ap (λ z. z.words) same ∙ c.self.invariant.1) (ap (λ s. s.knows) c.seat.view_is) c.requires.holds

fits : (c : goal.After-row_known-1) → 1 + (5 * c.args.claim.now.first + c.args.place) < 1 + 6 * c.self.inside.rows
fits c = let o = own c in let a = o.4 in let p = c.requires.place in omega arith

pub overflow_mul-claim-inside : goal.overflow_mul-claim-inside
overflow_mul-claim-inside c = let f = fits c in let first : c.claim.inside.first ≡ c.args.claim.now.first = ap (λ z. z.first) c.claim.view_is in let s = c.self.invariant.2 in omega arith

pub overflow_add-claim-inside : goal.overflow_add-claim-inside
overflow_add-claim-inside c = let f = fits c in let first : c.claim.inside.first ≡ c.args.claim.now.first = ap (λ z. z.first) c.claim.view_is in let s = c.self.invariant.2 in omega arith

pub overflow_add-claim-inside-2 : goal.overflow_add-claim-inside-2
overflow_add-claim-inside-2 c = let f = fits c in let first : c.claim.inside.first ≡ c.args.claim.now.first = ap (λ z. z.first) c.claim.view_is in let s = c.self.invariant.2 in omega arith

pub store-requires : goal.store-requires
store-requires c =
    let first : c.claim.inside.first ≡ c.args.claim.now.first = ap (λ z. z.first) c.claim.view_is in
    let o = own c in
    let f = fits c in
    let words = c.self.invariant.1 in
    let rows = o.2 in
    let p = c.requires.place in
    let lt : c.args.place < 5 * o.0.rows = omega arith in
    (ap (λ s. s.table) c.seat.view_is ∙ (c.requires.own ∙ sym (ap (λ s. s.table) c.self.view_is)), omega arith, rw first (writes _ _ _ c.args.claim.now.first c.args.place _ _ o.0 o.1 lt))

pub invariant_of-seat : goal.invariant_of-seat
invariant_of-seat c =
    let first : c.claim.inside.first ≡ c.args.claim.now.first = ap (λ z. z.first) c.claim.view_is in
    let e = c.store.ensures in
    let same : c.seat.inside.inner.table_id ≡ c.self.inside.table.shared.table_id = ap (λ s. s.table) c.seat.view_is ∙ (c.requires.own ∙ sym (ap (λ s. s.table) c.self.view_is)) in
    let o = own_claim _ _ _ _ _ _ c.seat.invariant.1 (ap (λ z. z.words) same ∙ c.self.invariant.1) (ap (λ s. s.knows) c.seat.view_is) c.requires.holds in
    let rows = o.2 in
    let p = c.requires.place in
    let lt : c.args.place < 5 * o.0.rows = omega arith in
    stays _ _ _ _ _ _ c.seat.invariant.0 e.2.0 e.0 (e.2.1 c.args.claim.now.first c.args.place o.0 o.1 lt (ap (λ n. 1 + (5 * n + c.args.place)) first)) (seat_wrote _ _ c.seat.invariant.1 _ _ _ o.0 o.1)

pub returns-clause-held : goal.returns-clause-held
returns-clause-held c =
    let first : c.claim.inside.first ≡ c.args.claim.now.first = ap (λ z. z.first) c.claim.view_is in
    let e = c.store.ensures in
    let same : c.seat.inside.inner.table_id ≡ c.self.inside.table.shared.table_id = ap (λ s. s.table) c.seat.view_is ∙ (c.requires.own ∙ sym (ap (λ s. s.table) c.self.view_is)) in
    let o = own_claim _ _ _ _ _ _ c.seat.invariant.1 (ap (λ z. z.words) same ∙ c.self.invariant.1) (ap (λ s. s.knows) c.seat.view_is) c.requires.holds in
    let rows = o.2 in
    let p = c.requires.place in
    let lt : c.args.place < 5 * o.0.rows = omega arith in
    holds_wrote c.args.seat.now.knows _ _ _ c.args.place c.args.value (ap (λ (u : View). u.knows) (e.2.1 c.args.claim.now.first c.args.place o.0 o.1 lt (ap (λ n. 1 + (5 * n + c.args.place)) first)) ∙ ap (λ s. knowledge_after_write c.args.claim.now.first c.args.place c.args.value s.knows) c.seat.view_is) c.requires.holds
