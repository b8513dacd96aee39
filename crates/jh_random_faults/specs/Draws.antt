-- The random numbers of a candidate (this project's own): as a run has them, on a stream that is
-- not the one of its run.
use Rattle.std.specs.Prelude.{ℕ, ◌+◌, ◌*◌, ◌%◌, ◌^◌}
use Rattle.rand_pcg.specs.Lcg.{Lcg}
use Rattle.jh_simnode.specs.Runs.{random_number_at, random_numbers_after}
use Rattle.jh_random_faults.specs.declared.draws.Draw.{Draw}

-- The seed of the candidate of a number, where what it is made of has this seed. Behind the greatest
-- that settings may have comes 0.
abbrev pub candidate_seed : ℕ → ℕ → ℕ
candidate_seed seed number = (seed + number) % 2 ^ 63

-- the stream that a candidate takes its random numbers from
abbrev pub candidate_stream : ℕ
candidate_stream = 1

-- the source of random numbers that a seed makes, after so many
abbrev pub numbers_after : ℕ → ℕ → Lcg
numbers_after seed n = random_numbers_after candidate_stream seed n

-- the random number of this index, from 0
abbrev pub random_number : ℕ → ℕ → ℕ
random_number seed n = random_number_at candidate_stream seed n

-- the seven random numbers from an index on, as those of one fault
abbrev pub draw_from : ℕ → ℕ → Draw
draw_from seed n = record {
  kind = random_number seed n;
  shape = random_number seed (n + 1);
  order = random_number seed (n + 2);
  amount = random_number seed (n + 3);
  begin = random_number seed (n + 4);
  stay = random_number seed (n + 5);
  length = random_number seed (n + 6);
}

-- the random numbers of a fault: by the first a candidate heals or doesn't, and each fault has the
-- next seven
abbrev pub draw_of : ℕ → ℕ → Draw
draw_of seed fault = draw_from seed (7 * fault + 1)
