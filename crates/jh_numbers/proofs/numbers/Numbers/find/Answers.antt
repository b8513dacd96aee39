use Rattle.std.proofs.Common.{◌≡◌, sym, subst, slice_get, Some}
use Rattle.jh_numbers.specs.Numbers.{is_same_owned}
use Rattle.jh_numbers.specs.View.{view_owned, view_sought}
use Rattle.jh_numbers.proofs.KeyLemmas.{listed, found_passes}
use Rattle.jh_numbers.proofs.numbers.Numbers.find.Goals as goal

pub returns-in_ok-number-in_default : goal.returns-in_ok-number-in_default
returns-in_ok-number-in_default c =
    let full = c.in_ok-number-in_default in
    let owned = full.field-0-1.now in
    let keys = c.self.inside.values.keys in
    let passed = found_passes (λ k. is_same_owned (view_sought c.args.sought) (view_owned k)) keys owned (sym full.ensures.key) in
    (view_owned owned, subst (λ values. slice_get values full.number ≡ Some (view_owned owned)) c.self.view_is (listed keys full.number owned full.ensures.stored), passed)
