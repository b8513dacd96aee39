-- Places around a ring: from place i, k places on.
use Rattle.std.proofs.Common.{◌≡◌, ℕ, ◌+◌, ◌-◌, ◌%◌, ◌<◌, ◌≤◌, ap, ◌∙◌, ◌⊎◌, inl, inr, arith}
use Rattle.std.proofs.Math.Nat.{mod-eq_of_lt, add-mod_right, mod-lt}
use Rattle.std.proofs.lemmas.Bool.{cases_lt}

-- the sum goes around once at most
pub around : (n i k : ℕ) → i < n → k < n → ((i + k < n) × ((i + k) % n ≡ i + k)) ⊎ ((n ≤ i + k) × ((i + k) % n ≡ i + k - n))
around n i k low high =
    elim (cases_lt (i + k) n) [
      | inl less ↦ inl (less, mod-eq_of_lt less)
      | inr more ↦ inr (
        more,
        let back : i + k ≡ (i + k - n) + n = omega arith in
            let small : i + k - n < n = omega arith in
            ap (λ s. s % n) back ∙ add-mod_right (i + k - n) n ∙ mod-eq_of_lt small,
      )
    ]

pub around_below : (n i k : ℕ) → i < n → (i + k) % n < n
around_below n i k low = mod-lt (i + k) (omega arith)

-- each place is some places on from each
pub ahead : (n i j : ℕ) → i < n → j < n → (k : ℕ) × (k < n) × ((i + k) % n ≡ j)
ahead n i j low high =
    elim (cases_lt j i) [
      | inl less ↦ (j + n - i, omega arith, elim (around n i (j + n - i) low (omega arith)) [ inl (a, e) ↦ e ∙ omega arith | inr (a, e) ↦ e ∙ omega arith ])
      | inr more ↦ (j - i, omega arith, elim (around n i (j - i) low (omega arith)) [ inl (a, e) ↦ e ∙ omega arith | inr (a, e) ↦ e ∙ omega arith ])
    ]

-- and in one way only
pub one_ahead : (n i k l : ℕ) → i < n → k < n → l < n → (i + k) % n ≡ (i + l) % n → k ≡ l
one_ahead n i k l low first second same =
    elim (around n i k low first) [
      | inl (a, e) ↦ elim (around n i l low second) [ inl (b, f) ↦ omega (arith, same, e, f) | inr (b, f) ↦ omega (arith, same, e, f) ]
      | inr (a, e) ↦ elim (around n i l low second) [ inl (b, f) ↦ omega (arith, same, e, f) | inr (b, f) ↦ omega (arith, same, e, f) ]
    ]
