use Rattle.std.proofs.Common.{rules, ◌≡◌, ◌∙◌, sym}
use Rattle.std.specs.Prelude.{None, Some}
use Rattle.jh_edn.specs.View.{view, views}
use Rattle.jh_gen.specs.BadPart.{behind_numbers, first_no_generator}
use Rattle.jh_gen.proofs.BadLemmas.{found_last, found_one, from_none, searched_one, two_next}
use Rattle.jh_gen.proofs.bad_parts.first_bad_behind_numbers.Goals as goal

pub loop-rest-init : goal.loop-rest-init
loop-rest-init c = record { same = from_none (first_no_generator (behind_numbers (views c.args.parts.now))); smaller = search rules; count = search rules }

pub returns-then-not-is_generator-clause-found : goal.returns-then-not-is_generator-clause-found
returns-then-not-is_generator-clause-found c =
    let two = two_next c.loop-rest.rest.now c.part-item.result c.in-len2-up.len_at_least c.part-item.is in
    (found_one c.args.parts.now c.loop-rest.rest.now _ two.0 c.part-item.result c.loop-rest.before c.loop-rest.invariant two.1 (sym c.is_generator.ensures ∙ c.if-not-is_generator.true)).found

pub loop-rest-preserved : goal.loop-rest-preserved
loop-rest-preserved c =
    let two = two_next c.loop-rest.rest.now c.part-item.result c.in-len2-up.len_at_least c.part-item.is in
    searched_one c.args.parts.now c.loop-rest.rest.now _ two.0 c.part-item.result c.loop-rest.before c.loop-rest.invariant two.1 (sym c.is_generator.ensures ∙ c.if-not-is_generator.false)

pub returns-in_err-place-clause-found : goal.returns-in_err-place-clause-found
returns-in_err-place-clause-found c =
    let none : None ≡ first_no_generator (views c.loop-rest.rest.now) = search rules in
    let last : None ≡ first_no_generator (behind_numbers (views c.args.parts.now)) = found_last c.args.parts.now c.loop-rest.rest.now c.loop-rest.before None c.loop-rest.invariant (search rules) none in
    search (rules, last)

pub returns-clause-found : goal.returns-clause-found
returns-clause-found c =
    let some : Some (c.in_ok-place.place, view c.in_ok-place.part.now) ≡ first_no_generator (views c.loop-rest.rest.now) = search rules in
    found_last c.args.parts.now c.loop-rest.rest.now c.loop-rest.before _ c.loop-rest.invariant (search rules) some
