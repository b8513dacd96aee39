-- One alone stands apart.
use Rattle.std.proofs.Common.{◌≡◌, zero, suc, Bool, List, [], ◌∷◌, refl, sym, subst, arith}
use Rattle.jh_tables.specs.Faults.{AreApart}

alone_apart : {A : Type 0} (same : A → A → Bool) (x : A) → AreApart same (x ∷ [])
alone_apart same x zero d below = refl
alone_apart same x (suc i) d below = absurd (omega arith)

-- of a list of one, none is the same as one before it
pub one_apart : {A : Type 0} (same : A → A → Bool) (xs : List A) (x : A) → xs ≡ x ∷ [] → AreApart same xs
one_apart same xs x one = subst (AreApart same) (sym one) (alone_apart same x)
