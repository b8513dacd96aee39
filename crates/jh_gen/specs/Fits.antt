-- Which generators a driver takes: no reserve names more client threads than there are (this
-- project's own).
use Rattle.std.specs.Prelude.{ℕ, ◌+◌, nat_le, Bool, true, ◌&&◌}
use Rattle.jh_gen.specs.Generator.{Generator, nothing, once, rising, forever, seq, limit, mix}
use Rattle.jh_gen.specs.Generator.{phases, reserve, each_thread, clients, nemesis_only, Generators}
use Rattle.jh_gen.specs.Generator.{no_generators, generator, ShareList, no_shares, share}

-- how many client threads have a share
abbrev pub shares_sum : ShareList → ℕ
shares_sum no_shares = 0
shares_sum (share n g rest) = n + shares_sum rest

-- the numbers of each reserve sum to at most the number of client threads
abbrev mutual
  pub fits : ℕ → Generator → Bool
  fits n nothing = true
  fits n (once c) = true
  fits n (rising r z) = true
  fits n (forever c) = true
  fits n (seq gs) = all_fit n gs
  fits n (limit k g) = fits n g
  fits n (mix gs) = all_fit n gs
  fits n (phases gs) = all_fit n gs
  fits n (reserve ms g) = nat_le (shares_sum ms) n && (shares_fit n ms && fits n g)
  fits n (each_thread g) = fits n g
  fits n (clients g) = fits n g
  fits n (nemesis_only g) = fits n g

  pub all_fit : ℕ → Generators → Bool
  all_fit n no_generators = true
  all_fit n (generator g gs) = fits n g && all_fit n gs

  pub shares_fit : ℕ → ShareList → Bool
  shares_fit n no_shares = true
  shares_fit n (share k g ms) = fits n g && shares_fit n ms
