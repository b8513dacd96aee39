-- A value is larger than those in it, so that a walk down a value ends (this project's own).
use Rattle.std.specs.Prelude.{◌≤◌, List, [], ◌∷◌}
use Rattle.std.proofs.Common.{arith}
use denote.Param.Weighed.{most}
use Rattle.jh_edn.specs.Edn.{size_of, size_list, size_pairs}
use Rattle.jh_edn.specs.View.{view, views, view_pairs}
use Rattle.jh_edn.specs.declared.value.Value.{Value}
use Rattle.jh_edn.specs.declared.value.Value.TheVariants.{Nil, Bool, Int, Char, Str, Keyword}
use Rattle.jh_edn.specs.declared.value.Value.TheVariants.{Symbol, List as Listed, Vector, Map, Set}
use Rattle.jh_edn.specs.declared.value.Value.TheVariants.{Tagged}
use Rattle.jh_edn.specs.declared.value.Pairs.TheDeep.{deep-Value, deep-Pairs}
use Rattle.jh_edn.specs.declared.value.Pairs.TheInside.{Inside}
use Rattle.jh_edn.specs.declared.value.Pairs.TheShapes.{weighed-Pairs-items-at-2}
use Rattle.jh_edn.specs.declared.value.Value.TheVariants.{the_data}

pub deep : (v : Value) → deep-Value v ≤ size_of (view v)
deep Nil = omega arith
deep (Bool b) = omega arith
deep (Int b) = omega arith
deep (Char b) = omega arith
deep (Str b) = omega arith
deep (Keyword b) = omega arith
deep (Symbol b) = omega arith
deep (Listed b) = omega arith
deep (Vector b) = omega arith
deep (Map b) = omega arith
deep (Set b) = omega arith
deep (Tagged b) = omega arith

pub values_fall : (xs : List Value) → most (λ x. deep-Value x) xs ≤ size_list (views xs)
values_fall [] = omega arith
values_fall (x ∷ xs) = omega (arith, deep x, values_fall xs)

pairs_most : (xs : List (Value × Value))
    → most (λ x. weighed-Pairs-items-at-2.weight the_data deep-Value x) xs
    ≤ size_pairs (view_pairs xs)
pairs_most [] = omega arith
pairs_most (x ∷ xs) = omega (arith, deep x.0, deep x.1, pairs_most xs)

pub pairs_fall : (a : Inside) → deep-Pairs a ≤ size_pairs (view_pairs a.items.items)
pairs_fall a = omega (arith, pairs_most a.items.items)
