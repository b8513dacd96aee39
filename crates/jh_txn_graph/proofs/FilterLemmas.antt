-- What passes a test, of a list of places.
use Rattle.std.proofs.Common.{◌≡◌, ℕ, Bool, true, false, cond, List, [], ◌∷◌, filter, refl, sym, ap, subst, ◌∙◌, inl, inr}
use Rattle.std.proofs.lemmas.Bool.{false≢true, or_right}
use Rattle.jh_txn.specs.Transactions.{ComesBefore, includes}
use Rattle.jh_txn.proofs.ListLemmas.{includes_cons, includes_head}

module _ (t : ℕ → Bool) where
  pub filter_includes : (xs : List ℕ) (q : ℕ) → includes xs q ≡ true → t q ≡ true → includes (filter t xs) q ≡ true
  filter_includes [] q h k = h
  filter_includes (x ∷ xs) q h k = elim (includes_cons x xs q h) as (λ _. includes (filter t (x ∷ xs)) q ≡ true) [
    | inl is ↦ let passes : t x ≡ true = ap t is ∙ k in subst (λ b. includes (cond b (x ∷ filter t xs) (filter t xs)) q ≡ true) (sym passes) (subst (λ z. includes (x ∷ filter t xs) z ≡ true) is (includes_head x (filter t xs)))
    | inr there ↦ elim (t x) as (λ b. includes (cond b (x ∷ filter t xs) (filter t xs)) q ≡ true) [
      | true ↦ or_right _ _ (filter_includes xs q there k)
      | false ↦ filter_includes xs q there k
    ]
  ]

  pub includes_filter : (xs : List ℕ) (q : ℕ) → includes (filter t xs) q ≡ true → (includes xs q ≡ true) × (t q ≡ true)
  includes_filter [] q h = absurd (false≢true h)
  includes_filter (x ∷ xs) q h =
      elim (t x) as (λ b. t x ≡ b → includes (cond b (x ∷ filter t xs) (filter t xs)) q ≡ true → (includes (x ∷ xs) q ≡ true) × (t q ≡ true)) [
        | true ↦ λ e k. elim (includes_cons x (filter t xs) q k) as (λ _. (includes (x ∷ xs) q ≡ true) × (t q ≡ true)) [
          | inl is ↦ (subst (λ z. includes (x ∷ xs) z ≡ true) is (includes_head x xs), sym (ap t is) ∙ e)
          | inr there ↦ let r = includes_filter xs q there in (or_right _ _ r.0, r.1)
        ]
        | false ↦ λ e k. let r = includes_filter xs q k in (or_right _ _ r.0, r.1)
      ] refl h

  pub filter_before : (xs : List ℕ) (a b : ℕ) → ComesBefore xs a b → t a ≡ true → t b ≡ true → ComesBefore (filter t xs) a b
  filter_before [] a b h k l = absurd h
  filter_before (x ∷ xs) a b h k l = elim h as (λ _. ComesBefore (filter t (x ∷ xs)) a b) [
    | inl now ↦ let passes : t x ≡ true = ap t now.0 ∙ k in subst (λ c. ComesBefore (cond c (x ∷ filter t xs) (filter t xs)) a b) (sym passes) (inl (now.0, filter_includes xs b now.1 l))
    | inr later ↦ elim (t x) as (λ c. ComesBefore (cond c (x ∷ filter t xs) (filter t xs)) a b) [
      | true ↦ inr (filter_before xs a b later k l)
      | false ↦ filter_before xs a b later k l
    ]
  ]

  pub before_filter : (xs : List ℕ) (a b : ℕ) → ComesBefore (filter t xs) a b → ComesBefore xs a b
  before_filter [] a b h = absurd h
  before_filter (x ∷ xs) a b h =
      elim (t x) as (λ c. ComesBefore (cond c (x ∷ filter t xs) (filter t xs)) a b → ComesBefore (x ∷ xs) a b) [
        | true ↦ λ k. elim k as (λ _. ComesBefore (x ∷ xs) a b) [
          | inl now ↦ inl (now.0, (includes_filter xs b now.1).0)
          | inr later ↦ inr (before_filter xs a b later)
        ]
        | false ↦ λ k. inr (before_filter xs a b k)
      ] h
