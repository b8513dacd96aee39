use Rattle.std.proofs.Common.{◌≡◌, ◌+◌, suc, ◌∷◌, [], sym, subst, arith}
use Rattle.jh_unique.specs.Walk.{HasComeTo}
use Rattle.jh_unique.specs.Steps.{IsClusterList}
use Rattle.jh_unique.proofs.StepLemmas.{come_write, none_write}
use Rattle.jh_unique.proofs.lists.write_list.Goals as goal

pub walk-requires-clause-begun : goal.walk-requires-clause-begun
walk-requires-clause-begun c =
    let ops = c.args.ops.now in
    let w = c.args.number in
    let v = c.in-Some.value.int in
    let is : suc w ≡ w + 1 = omega arith in
    let wrote = c.in-Some.ensures {u = tt} in
    subst (HasComeTo ops c.args.initial (w + 1) v) (sym c.in_ok-list_of_one-in-Some.ensures) (subst (λ k. HasComeTo ops c.args.initial k v (w ∷ [])) is (come_write ops c.args.initial c.requires.once w v wrote.0 wrote.1))

pub returns-in-None : goal.returns-in-None
returns-in-None c =
    let ops = c.args.ops.now in
    let w = c.args.number in
    let is : suc w ≡ w + 1 = omega arith in
    subst (IsClusterList ops c.args.initial (w + 1)) (sym c.new.ensures.items) (subst (λ k. IsClusterList ops c.args.initial k []) is (none_write ops c.args.initial c.requires.once w c.in-None.ensures))
