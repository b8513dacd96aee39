use Rattle.std.proofs.Common.{◌≡◌, ℕ, ◌+◌, ◌-◌, ◌*◌, ◌^◌, ◌<◌, ◌≤◌, get_or, ap, arith}
use Rattle.std.proofs.Math.Nat.{pow-lt-pow_left}
use Rattle.jh_plots.specs.declared.thresholds.TheConstants.{THRESHOLDS}
use Rattle.jh_plots.proofs.PositionLemmas.{below_unscaled, lower_exponent, place_below, place_reached, pow_pow, reached_unscaled, scaled_below, scaled_from, table_of_roots}
use Rattle.jh_plots.proofs.latency.hundredths.Goals as goal

digits_few : (number digits : ℕ) → number < 10 ^ 19 → 10 ^ digits ≤ number → digits ≤ 18
digits_few number digits h l = let less : digits < 19 = lower_exponent 10 digits 19 (omega arith) (omega (arith, h, l)) in omega (arith, less)

pub overflow_sub-digits : goal.overflow_sub-digits
overflow_sub-digits c = digits_few c.args.number c.ilog10-digits.result c.requires.fits c.ilog10-digits.ensures.power_le

pub overflow_mul-scaled : goal.overflow_mul-scaled
overflow_mul-scaled c =
    let d = c.ilog10-digits.result in
    let few = digits_few c.args.number d c.requires.fits c.ilog10-digits.ensures.power_le in
    let below = scaled_below 10 c.args.number d (18 - d) 19 (omega arith) (omega (arith, few)) c.ilog10-digits.ensures.next_power_gt in
    let same : c.args.number * c.pow.result ≡ c.args.number * 10 ^ (18 - d) = ap (λ w. c.args.number * w) c.pow.ensures in
    omega (arith, below, same)

pub returns : goal.returns
returns c =
    let number = c.args.number in
    let d = c.ilog10-digits.result in
    let r = c.thresholds_below.result in
    let few = digits_few number d c.requires.fits c.ilog10-digits.ensures.power_le in
    let below = scaled_below 10 number d (18 - d) 19 (omega arith) (omega (arith, few)) c.ilog10-digits.ensures.next_power_gt in
    let from = scaled_from 10 number d (18 - d) 18 (omega (arith, few)) c.ilog10-digits.ensures.power_le in
    let same : number * c.pow.result ≡ number * 10 ^ (18 - d) = ap (λ w. number * w) c.pow.ensures in
    let scaled = number * 10 ^ (18 - d) in
    let above = c.thresholds_below.ensures in
    let begins = λ (k : ℕ) (low : k < r). (let it = above.before k low in let less : get_or THRESHOLDS k 0 < scaled = omega (arith, it, same) in less) in
    let ends = λ (k : ℕ) (from : r ≤ k) (low : k < 99). (let it = above.behind k from low in let less : scaled ≤ get_or THRESHOLDS k 0 = omega (arith, it, same) in less) in
    let up = place_reached 10 100 1800 THRESHOLDS (10 ^ 18) scaled r table_of_roots (pow_pow 10 18 100) from above.within begins in
    let last : scaled ^ 100 < 10 ^ (1800 + 1 + 99) = omega (arith, pow-lt-pow_left {n = 100} below (omega arith), pow_pow 10 19 100) in
    let down = place_below 10 100 1800 THRESHOLDS scaled r table_of_roots above.within ends last in
    record {
      reached = reached_unscaled 10 100 number (18 - d) (d * 100 + r) (1800 + r) (omega arith) (omega (arith, few)) up;
      below = below_unscaled 10 100 number (18 - d) (d * 100 + r + 1) (1800 + 1 + r) (omega (arith, few)) down;
    }
