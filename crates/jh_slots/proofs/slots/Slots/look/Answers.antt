use Rattle.std.proofs.Common.{sym, ap, ◌∙◌, arith}
use Rattle.jh_slots.proofs.StepRuleLemmas.{looks}
use Rattle.jh_slots.proofs.SeatLemmas.{seat_looked, stays}
use Rattle.jh_slots.proofs.slots.Slots.look.Goals as goal

pub load-requires : goal.load-requires
load-requires c =
    let own = c.self.invariant in
    (ap (λ s. s.table) c.seat.view_is ∙ (c.requires ∙ sym (ap (λ s. s.table) c.self.view_is)), omega arith, looks _ _ _ _)

pub invariant_of-seat : goal.invariant_of-seat
invariant_of-seat c = let e = c.load.ensures in stays _ _ _ _ _ _ c.seat.invariant.0 e.2.0 e.0 e.2.1 (seat_looked _ _ c.seat.invariant.1 _)
