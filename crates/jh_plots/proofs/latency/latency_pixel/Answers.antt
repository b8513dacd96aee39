use Rattle.std.proofs.Common.{◌≡◌, ◌+◌, ◌-◌, ◌*◌, ◌/◌, ◌∙◌, max, subst, arith}
use Rattle.jh_plots.specs.Latencies.{IsHundredths}
use Rattle.jh_plots.proofs.PositionLemmas.{first_within, position_some, position_within}
use Rattle.jh_plots.proofs.latency.latency_pixel.Goals as goal

pub hundredths-position-requires-clause-fits : goal.hundredths-position-requires-clause-fits
hundredths-position-requires-clause-fits c = omega (arith, c.max.ensures)

pub overflow_sub-position : goal.overflow_sub-position
overflow_sub-position c =
    position_some c.max.result c.hundredths-position.result (omega (arith, c.max.ensures)) c.hundredths-position.ensures.below

pub pixel-requires-clause-within : goal.pixel-requires-clause-within
pixel-requires-clause-within c =
    let within = position_within c.max.result c.hundredths-position.result c.args.decades (omega (arith, c.max.ensures, first_within c.args.decades c.requires.some)) c.hundredths-position.ensures.reached in
    omega (arith, within)

pub returns-clause-pixel : goal.returns-clause-pixel
returns-clause-pixel c =
    let some = position_some c.max.result c.hundredths-position.result (omega (arith, c.max.ensures)) c.hundredths-position.ensures.below in
    let position = c.hundredths-position.result - 500 in
    let whole : c.hundredths-position.result ≡ 500 + position = omega (arith, some) in
    let number : c.max.result ≡ max 100000 c.args.latency = omega (arith, c.max.ensures) in (
      position,
      subst (λ w. IsHundredths (max 100000 c.args.latency) w) whole (subst (λ n. IsHundredths n c.hundredths-position.result) number c.hundredths-position.ensures),
      c.pixel.ensures.pixel ∙ (λ i. c.from.ensures i * 299 / (100 * c.from-2.ensures i)),
    )
