use Rattle.std.proofs.Common.{◌≡◌, true, refl, subst, ap}
use Rattle.std.specs.Prelude.{IsTrue}
use Rattle.std.specs.Ordering.{is_eq}
use Rattle.std.specs.declared.cmp.Ordering.{Ordering}
use Rattle.std.specs.declared.cmp.Ordering.TheVariants.{Less, Equal, Greater}
use Rattle.std.proofs.lemmas.Cmp.{tied_itself}
use Rattle.jh_edn.specs.Normal.{normal}
use Rattle.jh_edn.specs.Order.{edn_cmp}
use Rattle.jh_check.specs.Distinct.{is_same}
use Rattle.jh_check.proofs.laws.same_values_are_equal.Goals as goal

is_equal : (o : Ordering) → is_eq o ≡ true → o ≡ Equal
is_equal Less h = absurd cc
is_equal Equal h = refl
is_equal Greater h = absurd cc

-- a value equals its normal form, and normal forms that rank equal are equal
pub returns-clause-equal : goal.returns-clause-equal
returns-clause-equal c = λ x y h.
    let tied = c.order_laws.ensures.tied (normal x) (normal y) (is_equal (edn_cmp (normal x) (normal y)) h) in
    let to = c.equality_laws.ensures.transitive x (normal x) (normal y) (c.normal_laws.ensures.keeps x) tied in
    c.equality_laws.ensures.transitive x (normal y) y to (c.equality_laws.ensures.symmetric y (normal y) (c.normal_laws.ensures.keeps y))

pub returns-clause-same : goal.returns-clause-same
returns-clause-same c = λ x y p q e.
    let one : normal x ≡ normal y = c.normal_laws.ensures.one x y p q e in
    subst (λ w. IsTrue (is_same (normal x) w)) one (ap is_eq (tied_itself c.order_laws.ensures.total (normal x)))
