-- Lists of clusters.
use Rattle.std.proofs.Common.{◌≡◌, ℕ, zero, suc, ◌+◌, ◌-◌, ◌<◌, ◌≤◌, ℤ, Option, List, [], ◌∷◌, ◌++◌, length, Vec, refl, sym, ap, subst, ◌∙◌, inl, inr, arith}
use Rattle.std.specs.declared.alloc.Global.{Global}
use Rattle.std.proofs.lemmas.Bool.{cases_lt}
use Rattle.jh_linear.specs.declared.register.RegOp.{RegOp}
use Rattle.jh_unique.specs.Unique.{WriteOnce}
use Rattle.jh_unique.specs.Steps.{IsClusterList}
use Rattle.jh_unique.specs.Lists.{members_in, AreLists}
use Rattle.jh_unique.proofs.PartLemmas.{possible_there}
use Rattle.jh_unique.proofs.WalkLemmas.{must_possible}
use Rattle.jh_unique.proofs.StepLemmas.{none_write}

members_old : (xs : List (Vec ℕ Global)) (v : Vec ℕ Global) (c : ℕ) → c < length xs → members_in (xs ++ v ∷ []) c ≡ members_in xs c
members_old [] v c low = absurd (omega (arith, low))
members_old (x ∷ xs) v zero low = refl
members_old (x ∷ xs) v (suc c) low = members_old xs v c (omega (arith, low))

members_new : (xs : List (Vec ℕ Global)) (v : Vec ℕ Global) → members_in (xs ++ v ∷ []) (length xs) ≡ v.items
members_new [] v = refl
members_new (x ∷ xs) v = members_new xs v

pub members_past : (xs : List (Vec ℕ Global)) (c : ℕ) → length xs ≤ c → members_in xs c ≡ []
members_past [] c low = refl
members_past (x ∷ xs) zero low = absurd (omega (arith, low))
members_past (x ∷ xs) (suc c) low = members_past xs c (omega (arith, low))

module _ (ops : List RegOp) (initial : Option ℤ) where
  pub lists_more : (n : ℕ) (xs : List (Vec ℕ Global)) (v : Vec ℕ Global) → length xs ≡ n → ((c : ℕ) → c < n → IsClusterList ops initial c (members_in xs c)) → IsClusterList ops initial n v.items
      → (c : ℕ) → c < n + 1 → IsClusterList ops initial c (members_in (xs ++ v ∷ []) c)
  lists_more n xs v long each this c low = elim (cases_lt c n) as (λ _. IsClusterList ops initial c (members_in (xs ++ v ∷ []) c)) [
    | inl lt ↦ subst (IsClusterList ops initial c) (sym (members_old xs v c (omega (arith, lt, long)))) (each c lt)
    | inr ge ↦
        let same : n ≡ c = omega (arith, low, ge) in
        let at : members_in (xs ++ v ∷ []) c ≡ v.items = ap (members_in (xs ++ v ∷ [])) (sym same ∙ sym long) ∙ members_new xs v in
        subst (λ ys. IsClusterList ops initial c ys) (sym at) (subst (λ k. IsClusterList ops initial k v.items) same this)
  ]

  pub lists_all : WriteOnce ops initial → (xs : List (Vec ℕ Global)) → length xs ≡ length ops + 1 → ((c : ℕ) → c < length ops + 1 → IsClusterList ops initial c (members_in xs c)) → AreLists ops initial xs
  lists_all once xs long each c = elim (cases_lt c (length ops + 1)) as (λ _. IsClusterList ops initial c (members_in xs c)) [
    | inl lt ↦ each c lt
    | inr ge ↦
        let w : ℕ = c - 1 in
        let is : suc w ≡ c = omega (arith, ge) in
        subst (IsClusterList ops initial c) (sym (members_past xs c (omega (arith, ge, long)))) (subst (λ k. IsClusterList ops initial k []) is (none_write ops initial once w (λ v must call.
        let low = possible_there ops w (must_possible ops w must) in absurd (omega (arith, ge, is, low)))))
  ]
