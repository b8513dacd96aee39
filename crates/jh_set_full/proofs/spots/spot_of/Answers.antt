use Rattle.std.proofs.Common.{◌≡◌, ◌∙◌, sym, ap, length}
use Rattle.std.specs.Prelude.{None, Some, slice_get}
use Rattle.std.specs.List.{filter}
use Rattle.std.specs.Option.{option_map_or}
use Rattle.jh_edn.specs.View.{view}
use Rattle.jh_ops.specs.Operation.{operations}
use Rattle.jh_ops.specs.Pairing.{IsPairWithin}
use Rattle.jh_set_full.specs.SetFull.{has_element, is_add_of, last_add}
use Rattle.jh_set_full.specs.Inside.{no_spot, sighted_pairs, seen, sees, spot_with}
use Rattle.jh_set_full.proofs.TableLemmas.{first_has, last_found, spot_found}
use Rattle.jh_set_full.proofs.spots.spot_of.Goals as goal

pub spot_since-requires : goal.spot_since-requires
spot_since-requires c =
    let history = operations c.args.history.now in
    let tables = c.args.tables.now in
    let x = view c.args.element.now in
    let last : last_add history tables.pairs.items x ≡ Some c.in-Some.add =
    sym (last_found history tables c.requires.tables x)
    ∙ sym (ap (λ ss. slice_get (sighted_pairs (filter (λ s. sees x (seen s)) ss)) 0) c.deref.ensures.value)
    ∙ sym (ap (λ ss. slice_get (sighted_pairs ss) 0) c.sightings_of.ensures)
    ∙ sym c.first_pair.ensures ∙ c.in-Some.is in
    (first_has (IsPairWithin (length tables.newest.items)) (is_add_of history x) tables.pairs.items c.in-Some.add c.requires.within last).invoke

pub returns-in-Some : goal.returns-in-Some
returns-in-Some c =
    let history = operations c.args.history.now in
    let tables = c.args.tables.now in
    let x = view c.args.element.now in
    let last : last_add history tables.pairs.items x ≡ Some c.in-Some.add =
    sym (last_found history tables c.requires.tables x)
    ∙ sym (ap (λ ss. slice_get (sighted_pairs (filter (λ s. sees x (seen s)) ss)) 0) c.deref.ensures.value)
    ∙ sym (ap (λ ss. slice_get (sighted_pairs ss) 0) c.sightings_of.ensures)
    ∙ sym c.first_pair.ensures ∙ c.in-Some.is in
    let less = (first_has (IsPairWithin (length tables.newest.items)) (is_add_of history x) tables.pairs.items c.in-Some.add c.requires.within last).invoke in
    let having = ap sighted_pairs c.sightings_of-in-Some.ensures ∙ ap (λ ss. sighted_pairs (filter (λ s. sees x (seen s)) ss)) c.deref-in-Some.ensures.value in
    c.spot_since.ensures
    ∙ spot_found history tables c.requires.tables x c.requires.within c.in-Some.add (sighted_pairs c.sightings_of-in-Some.result.now) less last having

pub returns-in-None : goal.returns-in-None
returns-in-None c =
    let history = operations c.args.history.now in
    let tables = c.args.tables.now in
    let x = view c.args.element.now in
    let last : last_add history tables.pairs.items x ≡ None =
    sym (last_found history tables c.requires.tables x)
    ∙ sym (ap (λ ss. slice_get (sighted_pairs (filter (λ s. sees x (seen s)) ss)) 0) c.deref.ensures.value)
    ∙ sym (ap (λ ss. slice_get (sighted_pairs ss) 0) c.sightings_of.ensures)
    ∙ sym c.first_pair.ensures ∙ c.in-None.is in
    c.no_spot.ensures ∙ ap (λ o. option_map_or (spot_with history tables.pairs.items (filter (has_element history x) tables.pairs.items)) o no_spot) (sym last)
