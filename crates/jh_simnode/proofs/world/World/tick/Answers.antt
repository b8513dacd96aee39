use Rattle.std.proofs.Common.{◌<◌, length, rules}
use Rattle.jh_simnode.specs.TakingInside.{replicas_with_all}
use Rattle.jh_simnode.proofs.JournalLemmas.{tick_goes_on}
use Rattle.jh_simnode.proofs.world.World.tick.Goals as goal

pub invariant_of-self-2 : goal.invariant_of-self-2
invariant_of-self-2 c =
    let i = c.self.inside in
    let few : length i.journal.items < 65536 = search rules in
    rw (c.push_reserved.ensures.items, c.reserve.ensures.items, c.take_over.ensures)
    (tick_goes_on i.nemesis.state i.database i.replicas.items (replicas_with_all i.replicas.items c.in_ok-taken.taken.items) i.journal.items c.env.result.now
    c.self.invariant few c.env.ensures.overlay c.env.ensures.start (rw c.deref.ensures.value at c.in_ok-taken.ensures).replicas)
