use Rattle.std.proofs.Common.{ap, ◌∙◌}
use Rattle.rand_pcg.specs.Lcg.{Lcg}
use Rattle.rand_pcg.specs.Pcg.{pcg64}
use Rattle.jh_random_faults.proofs.DrawLemmas.{one_number_more}
use Rattle.jh_random_faults.proofs.draws.next_number.Goals as goal

pub returns : goal.returns
returns c seed n at =
    let drawn = c.next_word.ensures in (
      ap (λ step. step.0) drawn ∙ ap (λ (g : Lcg). (pcg64 g).0) at,
      ap (λ step. step.1) drawn ∙ ap (λ (g : Lcg). (pcg64 g).1) at ∙ one_number_more seed n,
    )
