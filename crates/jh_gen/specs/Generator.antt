-- Generators as plain data (this project's own).
use Rattle.std.specs.Prelude.{ℕ, suc, ◌+◌, ℤ, List, [], ◌∷◌}
use Rattle.jh_gen.specs.declared.rise.Rise.{Rise}
use Rattle.jh_ops.specs.declared.call.Call.{Call}

mutual
  pub data Generator : Type 0 where
    nothing : Generator
    once : Call → Generator
    rising : Rise → ℤ → Generator
    forever : Call → Generator
    seq : Generators → Generator
    limit : ℕ → Generator → Generator
    mix : Generators → Generator
    phases : Generators → Generator
    reserve : ShareList → Generator → Generator
    each_thread : Generator → Generator
    clients : Generator → Generator
    nemesis_only : Generator → Generator

  pub data Generators : Type 0 where
    no_generators : Generators
    generator : Generator → Generators → Generators

  pub data ShareList : Type 0 where
    no_shares : ShareList
    share : ℕ → Generator → ShareList → ShareList

abbrev pub row_of : List Generator → Generators
row_of [] = no_generators
row_of (g ∷ gs) = generator g (row_of gs)

abbrev pub share_list : List (ℕ × Generator) → ShareList
share_list [] = no_shares
share_list (m ∷ ms) = share m.0 m.1 (share_list ms)

abbrev mutual
  pub generator_size : Generator → ℕ
  generator_size nothing = 0
  generator_size (once c) = 0
  generator_size (rising r n) = 0
  generator_size (forever c) = 0
  generator_size (seq gs) = suc (size_generators gs)
  generator_size (limit n g) = suc (generator_size g)
  generator_size (mix gs) = suc (size_generators gs)
  generator_size (phases gs) = suc (size_generators gs)
  generator_size (reserve ms g) = suc (share_list_size ms + generator_size g)
  generator_size (each_thread g) = suc (generator_size g)
  generator_size (clients g) = suc (generator_size g)
  generator_size (nemesis_only g) = suc (generator_size g)

  pub size_generators : Generators → ℕ
  size_generators no_generators = 0
  size_generators (generator g gs) = suc (generator_size g + size_generators gs)

  pub share_list_size : ShareList → ℕ
  share_list_size no_shares = 0
  share_list_size (share n g gs) = suc (generator_size g + share_list_size gs)

abbrev pub generator_list_size : List Generator → ℕ
generator_list_size gs = size_generators (row_of gs)

abbrev pub size_shares : List (ℕ × Generator) → ℕ
size_shares ms = share_list_size (share_list ms)
