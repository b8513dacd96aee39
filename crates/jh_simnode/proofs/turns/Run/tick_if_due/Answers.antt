use Rattle.std.proofs.Common.{◌≡◌, ◌<◌, true, length, ap, sym, ◌∙◌, arith}
use Rattle.jh_simnode.specs.Runs.{ticks_at}
use Rattle.jh_simnode.specs.Counts.{calls_by}
use Rattle.jh_simnode.proofs.BetweenTurnsLemmas.{tick_stands}
use Rattle.jh_simnode.proofs.TurnLemmas.{any_default}
use Rattle.jh_simnode.proofs.turns.Run.tick_if_due.Goals as goal

pub returns-in_ok-tick-clause-stands : goal.returns-in_ok-tick-clause-stands
returns-in_ok-tick-clause-stands c =
    let h = c.requires in
    let p = c.args.plan.now in
    let xs = c.args.self.now.calls.items in
    let t = c.args.thread in
    let within : t < length xs = (let long = h.keeps.counts.long in let below = h.within in omega (arith, long, below)) in
    let made = c.index.ensures ∙ any_default xs t c.index.result.now 0 within ∙ h.keeps.counts.calls t h.within in
    let due : ticks_at p (calls_by p.clients t c.args.world.now.journal) ≡ true = ap (ticks_at p) (sym made) ∙ sym c.ticks_at.ensures ∙ c.if-ticks_at.true in
    tick_stands p c.args.self.now c.args.world.now c.tick.new.self t c.in_ok-tick.field-0 h due c.in_ok-tick.ensures.added
