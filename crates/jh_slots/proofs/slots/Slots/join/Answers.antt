use Rattle.std.proofs.Common.{◌≡◌, sym, ap, ◌∙◌, subst, arith}
use Rattle.jh_slots.specs.Stored.{IsSeat}
use Rattle.jh_slots.specs.Steps.{view_forgetting}
use Rattle.jh_slots.proofs.JoinRuleLemmas.{unites, recalls}
use Rattle.jh_slots.proofs.SeatLemmas.{seat_joined, stays}
use Rattle.jh_slots.proofs.slots.Slots.join.Goals as goal

pub join_seat-requires : goal.join_seat-requires
join_seat-requires c =
    let words = c.self.invariant.1 in
    let here = sym (ap (λ s. s.table) c.self.view_is) in
    (ap (λ s. s.table) c.seat.view_is ∙ (c.requires.0 ∙ here), ap (λ s. s.table) c.other.view_is ∙ (c.requires.1 ∙ here), c.other.invariant.0, omega arith, unites _ _ _ _ _)

pub load-requires : goal.load-requires
load-requires c =
    let words = c.self.invariant.1 in
    (c.join_seat.ensures.0 ∙ (ap (λ s. s.table) c.seat.view_is ∙ (c.requires.0 ∙ sym (ap (λ s. s.table) c.self.view_is))), omega arith, recalls _ _ _ _)

pub invariant_of-result : goal.invariant_of-result
invariant_of-result c =
    let j = c.join_seat.ensures in
    let e = c.load.ensures in
    let same : c.other.inside.inner.table_id ≡ c.seat.inside.inner.table_id = ap (λ s. s.table) c.other.view_is ∙ (c.requires.1 ∙ (sym c.requires.0 ∙ sym (ap (λ s. s.table) c.seat.view_is))) in
    stays _ _ _ _ _ _ c.seat.invariant.0 (e.2.0 ∙ ap (λ p. p.1) j.2) (e.0 ∙ j.0) (e.2.1 ∙ ap (λ p. view_forgetting p.0) j.2)
    (seat_joined _ c.seat.inside.inner.me.0 c.other.inside.inner.me.0 c.seat.invariant.1 (subst (λ z. IsSeat z.words c.other.inside.inner.me.0) same c.other.invariant.1))
