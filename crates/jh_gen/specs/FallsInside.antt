-- A generator is larger than those in it (this project's own).
use Rattle.std.specs.Prelude.{ℕ, ◌≤◌, List, [], ◌∷◌}
use Rattle.std.proofs.Common.{arith}
use denote.Param.Weighed.{most}
use Rattle.jh_gen.specs.Generator.{generator_size, generator_list_size, size_shares}
use Rattle.jh_gen.specs.View.{generator_of, generators_of, shares_of}
use Rattle.jh_gen.specs.declared.generator.Gen.{Gen}
use Rattle.jh_gen.specs.declared.generator.Gen.TheVariants.{Nil, Once, Rising, Forever, Seq, Limit}
use Rattle.jh_gen.specs.declared.generator.Gen.TheVariants.{Mix, Phases, Reserve, EachThread}
use Rattle.jh_gen.specs.declared.generator.Gen.TheVariants.{Clients, NemesisOnly}
use Rattle.jh_gen.specs.declared.generator.Gens.TheDeep.{deep-Gen, deep-Shares}
use Rattle.jh_gen.specs.declared.generator.Shares.TheInside.{Inside}
use Rattle.jh_gen.specs.declared.generator.Gens.TheShapes.{weighed-Shares-items-at-2}
use Rattle.jh_gen.specs.declared.generator.Gen.TheVariants.{the_data}

pub gen_falls : (g : Gen) → deep-Gen g ≤ generator_size (generator_of g)
gen_falls Nil = omega arith
gen_falls (Once c) = omega arith
gen_falls (Rising r c) = omega arith
gen_falls (Forever c) = omega arith
gen_falls (Seq b) = omega arith
gen_falls (Limit n b) = omega arith
gen_falls (Mix b) = omega arith
gen_falls (Phases b) = omega arith
gen_falls (Reserve m b) = omega arith
gen_falls (EachThread b) = omega arith
gen_falls (Clients b) = omega arith
gen_falls (NemesisOnly b) = omega arith

pub gens_fall : (xs : List Gen) → most (λ x. deep-Gen x) xs ≤ generator_list_size (generators_of xs)
gens_fall [] = omega arith
gens_fall (x ∷ xs) = omega (arith, gen_falls x, gens_fall xs)

shares_most : (xs : List (ℕ × Gen))
    → most (λ x. weighed-Shares-items-at-2.weight the_data deep-Gen x) xs
    ≤ size_shares (shares_of xs)
shares_most [] = omega arith
shares_most (x ∷ xs) = omega (arith, gen_falls x.1, shares_most xs)

pub shares_fall : (a : Inside) → deep-Shares a ≤ size_shares (shares_of a.items.items)
shares_fall a = omega (arith, shares_most a.items.items)
