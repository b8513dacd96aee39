-- One random number after another.
use Rattle.std.proofs.Common.{◌≡◌, ℕ, suc, ◌+◌, ap, arith}
use Rattle.rand_pcg.specs.Pcg.{pcg64}
use Rattle.jh_simnode.specs.Runs.{random_numbers_after}
use Rattle.jh_random_faults.specs.Draws.{numbers_after}

pub one_number_more : (seed n : ℕ) → (pcg64 (numbers_after seed n)).1 ≡ numbers_after seed (n + 1)
unfolding random_numbers_after
one_number_more seed n = let more : suc n ≡ n + 1 = omega arith in ap (numbers_after seed) more
