use Rattle.std.proofs.Common.{◌∙◌, sym, ap}
use Rattle.jh_edn.specs.View.{view}
use Rattle.jh_numbers.specs.Numbers.{with_value}
use Rattle.jh_numbers.proofs.KeyLemmas.{known_stays}
use Rattle.jh_numbers.proofs.numbers.Numbers.number.Goals as goal

pub returns-clause-values : goal.returns-clause-values
returns-clause-values c =
    let numbers = c.args.self.now in
    c.note.ensures
    ∙ known_stays numbers (c.args.owner, view c.args.value.now) c.in-Some.number c.in-Some.ensures
    ∙ ap (λ v. with_value numbers (c.args.owner, v)) (sym (c.is_atom.ensures c.if-is_atom.true))
