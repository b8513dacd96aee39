use Rattle.std.proofs.Common.{rules, ◌≡◌}
use Rattle.std.specs.Prelude.{None}
use Rattle.jh_edn.specs.View.{views}
use Rattle.jh_gen.specs.BadPart.{first_no_generator}
use Rattle.jh_gen.proofs.BadLemmas.{first_found, found_falls, none_found}
use Rattle.jh_gen.proofs.bad_parts.first_bad_of.Goals as goal

pub returns-in_err-place-clause-found : goal.returns-in_err-place-clause-found
returns-in_err-place-clause-found c =
    let none : None ≡ first_no_generator (views c.args.parts.now) = none_found c.args.parts.now (search rules) in
    search (rules, none)

pub returns-clause-found : goal.returns-clause-found
returns-clause-found c = first_found c.args.parts.now c.in_ok-place.place c.index-parts-place.result (search rules) (search rules)

pub returns-clause-smaller : goal.returns-clause-smaller
returns-clause-smaller c = found_falls c.args.parts.now c.in_ok-place.place c.index-parts-place.result (search rules) (search rules)
