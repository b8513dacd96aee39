use Rattle.std.proofs.Common.{ℕ, ◌*◌, ◌/◌, ◌≤◌, ◌^◌, arith}
use Rattle.std.proofs.Math.Nat.{div-le_self, mul-le-mul}
use Rattle.jh_settings_texts.proofs.schedule.time_of.Goals as goal

pub returns-clause-within : goal.returns-clause-within
returns-clause-within c =
    let at = c.from.result in
    let ms = c.from-2.result in
    let short : at ≤ 10000 = omega (arith, c.from.ensures, c.requires.few) in
    let small : ms ≤ 2 ^ 32 = omega (arith, c.from-2.ensures, c.ranges.milliseconds.fits) in
    let product : at * ms ≤ 10000 * 2 ^ 32 = mul-le-mul short small in
    omega (arith, product, div-le_self (at * ms) c.from-3.result)
