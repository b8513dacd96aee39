use Rattle.std.proofs.Common.{ℕ, ◌≡◌, ◌+◌, ◌*◌, ◌<◌, ◌≤◌, ◌/◌, arith}
use Rattle.std.proofs.Math.Nat.{div-le_self, mul-le-mul}
use Rattle.jh_conversation.proofs.machine.Machine.key_of.Goals as goal

pub returns-clause-small : goal.returns-clause-small
returns-clause-small c =
    let few : c.clients.result ≤ 16 = (let a = c.clients.ensures.fit.clients.1 in let b = c.clients.ensures.clients in omega (arith, a, b)) in
    let group : c.from.result ≤ 16 =
    (let a = c.from.ensures in let b = div-le_self c.args.thread c.args.shares.threads in let d = c.requires.within in let e = c.clients.ensures.fit.clients.1 in omega (arith, a, b, d, e)) in
    let groups : c.from-2.result ≤ 16 = (let a = c.from-2.ensures in let b = div-le_self c.clients.result c.args.shares.threads in omega (arith, a, b, few)) in
    let number : c.number_in.result ≤ 2000000 =
    (let a = c.requires.small.groups.each (c.args.thread / c.args.shares.threads) in let b = c.requires.small.given in let d = c.number_in.ensures in omega (arith, a, b, d)) in
    let calls : c.number_in.result / c.from-3.result ≤ 2000000 = (let a = div-le_self c.number_in.result c.from-3.result in omega (arith, a, number)) in
    let product : c.from-2.result * (c.number_in.result / c.from-3.result) ≤ 16 * 2000000 = mul-le-mul groups calls in
    omega (arith, group, product)
