use Rattle.std.proofs.Common.{ap, ◌∙◌}
use Rattle.rand_pcg.specs.Lcg.{started, increment_of}
use Rattle.rand_pcg.specs.Pcg.{multiplier_128}
use Rattle.jh_simnode.specs.Runs.{random_numbers_after}
use Rattle.jh_random_faults.proofs.draws.numbers_of.Goals as goal

pub returns : goal.returns
unfolding random_numbers_after
returns c = c.new.ensures ∙ ap (λ seed. started 128 multiplier_128 seed (increment_of 128 1)) c.from.ensures
