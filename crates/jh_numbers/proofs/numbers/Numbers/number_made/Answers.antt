use Rattle.std.proofs.Common.{◌≡◌, ◌∙◌, true, map, ap, subst}
use Rattle.jh_edn.specs.Normal.{normal}
use Rattle.jh_edn.specs.View.{view}
use Rattle.jh_numbers.specs.Numbers.{is_same_owned, with_value}
use Rattle.jh_numbers.specs.View.{view_owned}
use Rattle.jh_numbers.proofs.KeyLemmas.{listed, inserted, distinct_listed}
use Rattle.jh_numbers.proofs.numbers.Numbers.number_made.Goals as goal

pub returns-clause-number : goal.returns-clause-number
returns-clause-number c =
    let stored = c.in_ok-number.ensures.stored in
    let one = subst (λ v. is_same_owned (c.args.owner, v) (view_owned stored.0) ≡ true) c.in_ok-value.ensures stored.2 in
    (view_owned stored.0, listed c.insert_full.new.self.keys c.in_ok-number.number stored.0 stored.1, one)

pub returns-clause-values : goal.returns-clause-values
returns-clause-values c =
    let old = c.self.inside.values.keys in
    ap (map view_owned) c.in_ok-number.ensures.keys
    ∙ inserted old (record { owner = c.args.owner; value = c.in_ok-value.value })
    ∙ ap (λ v. with_value (map view_owned old) (c.args.owner, v)) c.in_ok-value.ensures
    ∙ ap (λ values. with_value values (c.args.owner, normal (view c.args.value.now))) (c.self.view_is ∙ c.make_room.ensures)

pub returns-clause-distinct : goal.returns-clause-distinct
returns-clause-distinct c = distinct_listed c.insert_full.new.self.keys c.insert_full.ensures.unique
