use Rattle.std.proofs.Common.{◌≡◌, ◌<◌, length, rules}
use Rattle.jh_simnode.specs.TakingInside.{replicas_with_all}
use Rattle.jh_simnode.proofs.JournalLemmas.{call_goes_on}
use Rattle.jh_simnode.proofs.world.World.call.Goals as goal

pub invariant_of-self-2 : goal.invariant_of-self-2
invariant_of-self-2 c =
    let i = c.self.inside in
    let few : length i.journal.items < 65536 = search rules in
    let number : c.len-number.result ≡ length i.journal.items = search rules in
    let known : c.args.node < length i.nemesis.state.names = search rules in
    let given = rw c.deref.ensures.value at c.in_ok-served.ensures in
    rw (c.push_reserved.ensures.items, c.reserve.ensures.items, c.take_over.ensures)
    (call_goes_on i.nemesis.state i.database i.replicas.items (replicas_with_all i.replicas.items c.in_ok-served.served.taken.items) i.journal.items c.env.result.now c.len-number.result c.args.process c.args.node c.args.request c.args.draw c.in_ok-served.served.reply
    c.self.invariant few c.env.ensures.overlay c.env.ensures.start number known (given.reply, given.replicas.replicas))
