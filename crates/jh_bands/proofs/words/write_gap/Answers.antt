use Rattle.std.proofs.Common.{◌-◌, ◌∙◌, length, arith}
use Rattle.std.proofs.lemmas.Grind.{common_steps}
use Rattle.jh_bands.proofs.WordsLemmas.{gap_last}
use Rattle.jh_bands.proofs.words.write_gap.Goals as goal

pub returns-in-len1-up : goal.returns-in-len1-up
returns-in-len1-up c =
    let last = gap_last c.args.before.now (length c.args.before.now - 1) c.args.value.now c.last-item.result (omega (arith, c.in-len1-up.len_at_least)) c.last-item.is in
    let gap = c.gap_between.ensures ∙ last in
    grind (arith, common_steps, gap)
