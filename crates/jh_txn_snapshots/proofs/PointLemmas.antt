-- What stands among points, and what is earlier.
use Rattle.std.proofs.Common.{◌≡◌, List, [], ◌∷◌, ◌++◌, refl, sym, ap, subst, ◌∙◌, inl, inr}
use Rattle.std.specs.Prelude.{◌⊎◌, ◌≢◌}
use Rattle.jh_txn.specs.declared.txn.Point.{Point}
use Rattle.jh_txn.specs.SnapshotOrders.{HasPoint, IsEarlier}
use Rattle.jh_txn.proofs.SnapshotOrderLemmas.{first_stands, second_stands}

-- of two points that stand there one is earlier, or they are the same
pub earlier_total : (xs : List Point) (a b : Point) → HasPoint xs a → HasPoint xs b → (a ≡ b) ⊎ (IsEarlier xs a b ⊎ IsEarlier xs b a)
earlier_total [] a b h k = absurd h
earlier_total (x ∷ xs) a b h k =
    let Goal : Type 0 = (a ≡ b) ⊎ (IsEarlier (x ∷ xs) a b ⊎ IsEarlier (x ∷ xs) b a) in
    elim h as (λ _. Goal) [
      | inl is_a ↦ elim k as (λ _. Goal) [ inl is_b ↦ inl (sym is_a ∙ is_b) | inr later ↦ inr (inl (inl (is_a, later))) ]
      | inr later ↦ elim k as (λ _. Goal) [
        | inl is_b ↦ inr (inr (inl (is_b, later)))
        | inr both ↦ elim (earlier_total xs a b later both) as (λ _. Goal) [
          | inl e ↦ inl e
          | inr e ↦ elim e as (λ _. Goal) [ inl d ↦ inr (inl (inr d)) | inr d ↦ inr (inr (inr d)) ]
        ]
      ]
    ]

pub cut_at_point : (xs : List Point) (p : Point) → HasPoint xs p → (front back : List Point) × (xs ≡ front ++ p ∷ back)
cut_at_point [] p h = absurd h
cut_at_point (x ∷ xs) p h = elim h as (λ _. (front back : List Point) × (x ∷ xs ≡ front ++ p ∷ back)) [
  | inl e ↦ ([], xs, ap (λ z. z ∷ xs) e)
  | inr there ↦ let r = cut_at_point xs p there in (x ∷ r.0, r.1, ap (λ zs. x ∷ zs) r.2)
]

pub stands_middle : (front back : List Point) (p : Point) → HasPoint (front ++ p ∷ back) p
stands_middle [] back p = inl refl
stands_middle (x ∷ front) back p = inr (stands_middle front back p)

-- Two points next to each other: what is earlier than the one is earlier than the other one, and
-- likewise behind them.
module _ (a b : Point) (back : List Point) where
  pub before_both : (front : List Point) (x : Point) → ((y : Point) → IsEarlier (front ++ a ∷ b ∷ back) y y → ⊥) → a ≢ x → IsEarlier (front ++ a ∷ b ∷ back) x b → IsEarlier (front ++ a ∷ b ∷ back) x a
  before_both [] x distinct differ h = elim h as (λ _. IsEarlier (a ∷ b ∷ back) x a) [
    | inl now ↦ absurd (differ now.0)
    | inr later ↦ elim later as (λ _. IsEarlier (a ∷ b ∷ back) x a) [
      | inl now ↦ absurd (distinct b (inr (inl (refl, now.1))))
      | inr behind ↦ absurd (distinct b (inr (inl (refl, second_stands back x b behind))))
    ]
  ]
  before_both (y ∷ front) x distinct differ h = elim h as (λ _. IsEarlier (y ∷ front ++ a ∷ b ∷ back) x a) [
    | inl now ↦ inl (now.0, stands_middle front (b ∷ back) a)
    | inr later ↦ inr (before_both front x (λ z twice. distinct z (inr twice)) differ later)
  ]

  pub behind_both : (front : List Point) (x : Point) → ((y : Point) → IsEarlier (front ++ a ∷ b ∷ back) y y → ⊥) → b ≢ x → IsEarlier (front ++ a ∷ b ∷ back) a x → IsEarlier (front ++ a ∷ b ∷ back) b x
  behind_both [] x distinct differ h = elim h as (λ _. IsEarlier (a ∷ b ∷ back) b x) [
    | inl now ↦ elim now.1 as (λ _. IsEarlier (a ∷ b ∷ back) b x) [
      | inl same ↦ absurd (differ same)
      | inr there ↦ inr (inl (refl, there))
    ]
    | inr later ↦ absurd (distinct a (inl (refl, first_stands (b ∷ back) a x later)))
  ]
  behind_both (y ∷ front) x distinct differ h = elim h as (λ _. IsEarlier (y ∷ front ++ a ∷ b ∷ back) b x) [
    | inl now ↦ absurd (distinct y (inl (refl, subst (HasPoint (front ++ a ∷ b ∷ back)) (sym now.0) (stands_middle front (b ∷ back) a))))
    | inr later ↦ inr (behind_both front x (λ z twice. distinct z (inr twice)) differ later)
  ]
