use Rattle.std.proofs.Common.{◌≡◌, Some, None, refl, rules}
use Rattle.std.specs.Prelude.{if◌then◌else◌}
use Rattle.jh_env.specs.Cells.{link_at}
use Rattle.jh_env.specs.Starting.{SetsLink, RefusesLink}
use Rattle.jh_env.specs.TextInside.{fits_link}
use Rattle.std.proofs.lemmas.Result.{err_from_is_err_and}
use Rattle.jh_env.specs.TextCells.{link_with}
use Rattle.jh_env.specs.TextErrors.{place_of}
use Rattle.jh_env.proofs.TextCellLemmas.{sets_link, entry_error-link, same_name, other_name, place_below, link_apart, chosen, passed_over, link_amount-unfit, link_amount-starts, link_refused}
use Rattle.jh_env.proofs.texts.setting.set_link.Goals as goal

pub returns-in_default : goal.returns-in_default
returns-in_default c =
    let names = c.args.start.now.names in
    let a = c.in_ok-source.source in
    let b = c.in_ok-destination.destination in
    let from_at : place_of names c.args.from.now ≡ Some a = search rules in
    let to_at : place_of names c.args.to.now ≡ Some b = search rules in
    let none : link_at c.args.start.now.cells a b ≡ None = search rules in
    let same = c.requires.no_link a b (place_below names c.args.from.now a from_at) (place_below names c.args.to.now b to_at) none in
    rw (entry_error-link names c.args.from.now c.args.to.now c.args.change a b from_at to_at, same_name names c.args.from.now c.args.to.now a b from_at to_at same) refl

pub returns-in_err-set_link : goal.returns-in_err-set_link
returns-in_err-set_link c =
    let names = c.args.start.now.names in
    let a = c.in_ok-source.source in
    let b = c.in_ok-destination.destination in
    let from_at : place_of names c.args.from.now ≡ Some a = search rules in
    let to_at : place_of names c.args.to.now ≡ Some b = search rules in
    let there : link_at c.args.start.now.cells a b ≡ Some c.in-Some.link = search rules in
    let applied : (if fits_link c.args.change then Some (link_with c.args.change c.in-Some.link) else None) ≡ Some c.in-Some-applied.changed = search rules in
    let took = chosen (fits_link c.args.change) (link_with c.args.change c.in-Some.link) c.in-Some-applied.changed applied in
    let refused : RefusesLink c.args.start.now a b (link_with c.args.change c.in-Some.link) c.in_err-set_link.field-0.0 = rw took.1 at c.in_err-set_link.ensures.1 in
    let p = err_from_is_err_and c.from_residual-in_err-set_link.result c.from_residual-in_err-set_link.ensures.1 in
    rw (p.1, p.2) (link_refused c.args.start.now c.args.from.now c.args.to.now c.args.change a b c.in-Some.link c.in_err-set_link.field-0.0
    from_at to_at (link_apart c.args.start.now.cells a b c.in-Some.link there) (c.requires.links a b c.in-Some.link there) refused)

pub returns-in_default-applied : goal.returns-in_default-applied
returns-in_default-applied c =
    let names = c.args.start.now.names in
    let a = c.in_ok-source.source in
    let b = c.in_ok-destination.destination in
    let from_at : place_of names c.args.from.now ≡ Some a = search rules in
    let to_at : place_of names c.args.to.now ≡ Some b = search rules in
    let there : link_at c.args.start.now.cells a b ≡ Some c.in-Some.link = search rules in
    let apart = other_name names c.args.from.now c.args.to.now a b from_at to_at (link_apart c.args.start.now.cells a b c.in-Some.link there) in
    let none : (if fits_link c.args.change then Some (link_with c.args.change c.in-Some.link) else None) ≡ None = search rules in
    let bad = link_amount-unfit c.args.change (passed_over (fits_link c.args.change) (link_with c.args.change c.in-Some.link) none) in
    rw (entry_error-link names c.args.from.now c.args.to.now c.args.change a b from_at to_at, apart, bad) refl

pub returns : goal.returns
returns c =
    let names = c.args.start.now.names in
    let a = c.in_ok-source.source in
    let b = c.in_ok-destination.destination in
    let from_at : place_of names c.args.from.now ≡ Some a = search rules in
    let to_at : place_of names c.args.to.now ≡ Some b = search rules in
    let there : link_at c.args.start.now.cells a b ≡ Some c.in-Some.link = search rules in
    let applied : (if fits_link c.args.change then Some (link_with c.args.change c.in-Some.link) else None) ≡ Some c.in-Some-applied.changed = search rules in
    let took = chosen (fits_link c.args.change) (link_with c.args.change c.in-Some.link) c.in-Some-applied.changed applied in
    let apart = other_name names c.args.from.now c.args.to.now a b from_at to_at (link_apart c.args.start.now.cells a b c.in-Some.link there) in
    let sets : SetsLink c.args.start.now a b (link_with c.args.change c.in-Some.link) c.set_link.new.self = rw took.1 at c.in_ok-set_link.ensures in
    let good = link_amount-starts c.args.change c.in-Some.link took.0 sets.amounts in (
      rw (entry_error-link names c.args.from.now c.args.to.now c.args.change a b from_at to_at, apart, good) refl,
      sets_link c.args.start.now c.set_link.new.self c.args.from.now c.args.to.now c.args.change a b c.in-Some.link from_at to_at there c.requires sets,
    )
