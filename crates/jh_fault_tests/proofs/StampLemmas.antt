-- Stamps that rise from each fault to the next.
use Rattle.std.proofs.Common.{ℕ, ◌<◌, [], ◌∷◌, arith}
use Rattle.std.specs.List.{AllPairs}
use Rattle.std.proofs.lemmas.List.Elements.{All-cons}
use Rattle.std.proofs.lemmas.List.Kept.{AllPairs-cons}
use Rattle.jh_env.specs.Faults.{FaultValue}

abbrev rises : ℕ × FaultValue → ℕ × FaultValue → Type 0
rises x y = x.0 < y.0

pub one : (x : ℕ × FaultValue) → AllPairs rises (x ∷ [])
one x i j d below inside = absurd (omega (arith, below, inside))

pub two : (x y : ℕ × FaultValue) → rises x y → AllPairs rises (x ∷ y ∷ [])
two x y up =
    let later = All-cons (rises x) y [] up (λ k d inside. absurd (omega (arith, inside))) in
    AllPairs-cons rises x (y ∷ []) later (one y)
