-- What the tests of `==` decide of links and bumps.
use Rattle.std.proofs.Common.{◌≡◌, ℕ, ◌==◌, ap, ◌∙◌}
use Rattle.std.specs.Bool.{Decides}
use Rattle.std.specs.Prelude.{ℤ, ◌&&◌}
use Rattle.std.specs.Ordering.{int_eq}
use Rattle.std.proofs.lemmas.Bool.Decides.{Decides-and, Decides-eqb, Decides-int_eq, Decides-like}

same_pair : {A B : Type 0} (x y : A × B) → (x.0 ≡ y.0) × (x.1 ≡ y.1) → x ≡ y
same_pair x y same = ap (λ a. (a, x.1)) same.0 ∙ ap (λ b. (y.0, b)) same.1

pub links_decide : (k l : ℕ × ℕ) → Decides ((k.0 == l.0) && (k.1 == l.1)) (k ≡ l)
links_decide k l =
    Decides-like _ (same_pair k l) (λ e. (ap (λ x. x.0) e, ap (λ x. x.1) e))
    (Decides-and _ _ (Decides-eqb k.0 l.0) (Decides-eqb k.1 l.1))

pub bumps_decide : (x y : ℕ × ℤ) → Decides ((x.0 == y.0) && int_eq x.1 y.1) (x ≡ y)
bumps_decide x y =
    Decides-like _ (same_pair x y) (λ e. (ap (λ b. b.0) e, ap (λ b. b.1) e))
    (Decides-and _ _ (Decides-eqb x.0 y.0) (Decides-int_eq x.1 y.1))
