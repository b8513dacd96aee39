use Rattle.std.proofs.Common.{◌≡◌, ◌∙◌, sym, subst, slice_get, ap, Some}
use Rattle.std.specs.Option.{option_copied}
use Rattle.jh_numbers.specs.View.{view_owned}
use Rattle.jh_numbers.proofs.KeyLemmas.{listed}
use Rattle.jh_numbers.proofs.numbers.Numbers.has_number.Goals as goal

pub returns-in-Some : goal.returns-in-Some
returns-in-Some c = λ yes.
    let stored = sym c.get_index.ensures.key ∙ ap option_copied c.in-Some.is in
    (view_owned c.in-Some.owned.now, subst (λ values. slice_get values c.args.number ≡ Some (view_owned c.in-Some.owned.now)) c.self.view_is (listed c.self.inside.values.keys c.args.number c.in-Some.owned.now stored), sym c.equivalent.ensures ∙ yes)
