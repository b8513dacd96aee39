use Rattle.std.proofs.Common.{◌≡◌, find, Some, None, refl, rules}
use Rattle.jh_edn.specs.Edn.{is_keyword}
use Rattle.jh_edn.specs.View.{view}
use Rattle.jh_edn.proofs.PairLemmas.{value_under-found}
use Rattle.jh_edn.proofs.keyed.value_under.Goals as goal

pub returns-in_err-pair : goal.returns-in_err-pair
returns-in_err-pair c =
    let none : find (λ pair. is_keyword c.args.name.now (view pair.0)) c.args.pairs.now ≡ None = search rules in
    let parsed = value_under-found c.args.name.now c.args.pairs.now in
    rw (c.from_residual.ensures, ← parsed, none) refl

pub returns : goal.returns
returns c =
    let found : find (λ pair. is_keyword c.args.name.now (view pair.0)) c.args.pairs.now ≡ Some c.in_ok-pair.pair.now = search rules in
    let parsed = value_under-found c.args.name.now c.args.pairs.now in
    rw (← parsed, found) refl
