-- Clusters: where their values come from, and that each value is of one.
use Rattle.std.proofs.Common.{◌≡◌, ℕ, zero, suc, ℤ, true, Option, Some, List, [], ◌∷◌, refl, sym, ap, subst, ◌∙◌, inl, inr}
use Rattle.std.specs.Prelude.{◌⊎◌}
use Rattle.std.proofs.Common.{eqb}
use Rattle.std.proofs.lemmas.Bool.{or_right}
use Rattle.jh_unique.proofs.ListLemmas.{has_head}
use Rattle.jh_linear.specs.declared.register.RegCall.{RegCall}
use Rattle.jh_linear.specs.declared.register.RegCall.TheVariants.{Read, Write, Cas}
use Rattle.jh_linear.specs.declared.register.RegOp.{RegOp}
use Rattle.jh_linear.specs.Order.{IsPossible, has, Allows, IsLegalFrom}
use Rattle.jh_unique.specs.Unique.{WritesValue, NeedsValue, GivesValue, reg_call_at, WritesAt, WriteOnce, IsChainTo, HasValue}
use Rattle.jh_unique.proofs.RunLemmas.{next_from, leaves_cases}

pub cas_old : (a b c d : ℤ) → ◌≡◌ {A = RegCall} (Cas a b) (Cas c d) → a ≡ c
cas_old a b c d h = cc

pub not_both_calls : (a b c : ℤ) → ◌≡◌ {A = RegCall} (Cas a b) (Write c) → ⊥
not_both_calls a b c h = cc

module _ (ops : List RegOp) (initial : Option ℤ) (once : WriteOnce ops initial) where
  pub write_writes : (w : ℕ) (v : ℤ) → IsPossible ops w → reg_call_at ops w ≡ Write v → WritesAt ops w v
  write_writes w v possible is = (possible, subst (λ c. WritesValue c v) (sym is) refl)

  pub cas_writes : (w : ℕ) (u v : ℤ) → IsPossible ops w → reg_call_at ops w ≡ Cas u v → WritesAt ops w v
  cas_writes w u v possible is = (possible, subst (λ c. WritesValue c v) (sym is) refl)

  pub cas_needs : (w : ℕ) (u v : ℤ) → reg_call_at ops w ≡ Cas u v → NeedsValue (reg_call_at ops w) u
  cas_needs w u v is = subst (λ c. NeedsValue c u) (sym is) refl

  -- who wrote a value of a cluster begins it, or replaced another value of it
  pub in_writer : (r : ℕ) (ps : List ℕ) (p : ℕ) (v : ℤ) → WritesAt ops p v → IsChainTo ops initial r ps v
      → ((r ≡ suc p) × (reg_call_at ops p ≡ Write v)) ⊎ ((old : ℤ) × (qs : List ℕ) × (reg_call_at ops p ≡ Cas old v) × IsChainTo ops initial r qs old)
  in_writer zero [] p v writes comes = absurd (once.fresh v p writes comes)
  in_writer (suc w) [] p v writes comes =
      let same : w ≡ p = once.apart v w p (write_writes w v comes.0 comes.1) writes in
      inl (ap suc same, subst (λ z. reg_call_at ops z ≡ Write v) same comes.1)
  in_writer r (q ∷ qs) p v writes comes =
      let same : q ≡ p = once.apart v q p (cas_writes q comes.0 v comes.1 comes.2) writes in
      inr (comes.0, qs, subst (λ z. reg_call_at ops z ≡ Cas comes.0 v) same comes.2, comes.3)

  pub closed : (r p : ℕ) (v : ℤ) → IsPossible ops p → GivesValue (reg_call_at ops p) v → HasValue ops initial r v → (r ≡ suc p) ⊎ ((u : ℤ) × NeedsValue (reg_call_at ops p) u × HasValue ops initial r u)
  closed r p v possible leaves inside =
      let Goal : Type 0 = (r ≡ suc p) ⊎ ((u : ℤ) × NeedsValue (reg_call_at ops p) u × HasValue ops initial r u) in
      elim (leaves_cases (reg_call_at ops p) v leaves) as (λ _. Goal) [
        | inl needs ↦ inr (v, needs, inside)
        | inr writes ↦ elim (in_writer r inside.0 p v (possible, writes) inside.1) as (λ _. Goal) [
          | inl begins ↦ inl begins.0
          | inr more ↦ inr (more.0, cas_needs p more.0 v more.2, (more.1, more.3))
        ]
      ]

  of_start : (s : ℕ) (qs : List ℕ) (v : ℤ) → initial ≡ Some v → IsChainTo ops initial s qs v → zero ≡ s
  of_start zero [] v is comes = refl
  of_start (suc w) [] v is comes = absurd (once.fresh v w (write_writes w v comes.0 comes.1) is)
  of_start s (q ∷ qs) v is comes = absurd (once.fresh v q (cas_writes q comes.0 v comes.1 comes.2) is)

  pub one_cluster_by : (r s : ℕ) (ps qs : List ℕ) (v : ℤ) → IsChainTo ops initial r ps v → IsChainTo ops initial s qs v → r ≡ s
  one_cluster_by zero s [] qs v h k = of_start s qs v h k
  one_cluster_by (suc w) s [] qs v h k = elim (in_writer s qs w v (write_writes w v h.0 h.1) k) as (λ _. suc w ≡ s) [
    | inl begins ↦ sym begins.0
    | inr more ↦ absurd (not_both_calls more.0 v v (sym more.2 ∙ h.1))
  ]
  one_cluster_by r s (p ∷ ps) qs v h k = elim (in_writer s qs p v (cas_writes p h.0 v h.1 h.2) k) as (λ _. r ≡ s) [
    | inl begins ↦ absurd (not_both_calls h.0 v v (sym h.2 ∙ begins.1))
    | inr more ↦ one_cluster_by r s ps more.1 h.0 h.3 (subst (λ u. IsChainTo ops initial s more.1 u) (cas_old more.0 v h.0 v (sym more.2 ∙ h.2)) more.3)
  ]

  pub one_cluster : (r s : ℕ) (v : ℤ) → HasValue ops initial r v → HasValue ops initial s v → r ≡ s
  one_cluster r s v h k = one_cluster_by r s h.0 k.0 v h.1 k.1

  -- each value that is held is of a cluster
  abbrev pub IsRooted : Option ℤ → Type 0
  IsRooted value = (v : ℤ) → value ≡ Some v → (r : ℕ) × HasValue ops initial r v

  rooted_writer : (p : ℕ) (held next : Option ℤ) (v : ℤ) (call : RegCall) → reg_call_at ops p ≡ call → IsPossible ops p → Allows call held next → WritesValue call v → IsRooted held → (r : ℕ) × HasValue ops initial r v
  rooted_writer p held next v (Read seen) is possible allows writes rooted = absurd writes
  rooted_writer p held next v (Write new) is possible allows writes rooted = (suc p, ([], (possible, is ∙ ap (λ x. Write x) writes)))
  rooted_writer p held next v (Cas old new) is possible allows writes rooted =
      let r = rooted old allows.0 in
      (r.0, (p ∷ r.1.0, (old, possible, is ∙ ap (λ x. Cas old x) writes, r.1.1)))

  pub rooted_step : (p : ℕ) (held next : Option ℤ) → IsPossible ops p → Allows (reg_call_at ops p) held next → IsRooted held → IsRooted next
  rooted_step p held next possible allows rooted v is = elim (next_from (reg_call_at ops p) held next v allows is) as (λ _. (r : ℕ) × HasValue ops initial r v) [
    | inl same ↦ rooted v same
    | inr writes ↦ rooted_writer p held next v (reg_call_at ops p) refl possible allows writes rooted
  ]

  pub rooted_run : (xs : List ℕ) (value held : Option ℤ) → ((p : ℕ) → has xs p ≡ true → IsPossible ops p) → IsLegalFrom ops value xs held → IsRooted value → IsRooted held
  rooted_run [] value held possible legal rooted v is = rooted v (sym legal ∙ is)
  rooted_run (x ∷ xs) value held possible legal rooted v is =
      rooted_run xs legal.0 held (λ p h. possible p (or_right (eqb x p) _ h)) legal.2 (rooted_step x value legal.0 (possible x (has_head x xs)) legal.1 rooted) v is

  pub rooted_start : IsRooted initial
  rooted_start v is = (zero, ([], is))
