use Rattle.std.proofs.Common.{[], refl, sym, ap, ◌∙◌, arith}
use Rattle.jh_slots.proofs.JoinRuleLemmas.{splits}
use Rattle.jh_slots.proofs.SeatLemmas.{seat_copied, stays}
use Rattle.jh_slots.proofs.slots.Slots.split.Goals as goal

pub split_seat-other-requires : goal.split_seat-other-requires
split_seat-other-requires c =
    let words = c.self.invariant.1 in
    (ap (λ s. s.table) c.seat.view_is ∙ (c.requires ∙ sym (ap (λ s. s.table) c.self.view_is)), omega arith, splits _ _ _)

pub invariant_of-result-2 : goal.invariant_of-result-2
invariant_of-result-2 c =
    let e = c.split_seat-other.ensures in
    stays [] _ _ _ _ _ refl (ap (λ p. p.1) e.4) e.3 (ap (λ p. p.0) e.4) (seat_copied _ _ c.seat.invariant.1)
