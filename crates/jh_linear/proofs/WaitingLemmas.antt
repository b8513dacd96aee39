-- One more configuration that waits.
use Rattle.std.proofs.Common.{◌≡◌, ℕ, ◌+◌, true, false, List, [], ◌∷◌, ◌++◌, sym, ◌∙◌, inl, inr, eqb, arith}
use Rattle.std.specs.Prelude.{◌⊎◌, ◌||◌, ◌<◌, if◌then◌else◌}
use Rattle.std.proofs.lemmas.Bool.{eqb-true, false≢true}
use Rattle.std.proofs.lemmas.List.Sums.{sum_by-cons, sum_by-append}
use Rattle.std.proofs.lemmas.List.Folds.{list_any-append}
use Rattle.std.proofs.lemmas.List.Sorted.{list_any-IsPermutation, sum_by-IsPermutation}
use Rattle.jh_linear.specs.declared.queue.RankedConfig.{RankedConfig}
use Rattle.jh_linear.specs.WaitingInside.{IsWith, awaits, expansions_in, expansions_left}
use Rattle.jh_linear.proofs.NumberSetLemmas.{eqb_self, or_cases, or_left, or_right}

pub awaits_is : (ranked : RankedConfig) (ws ws' : List RankedConfig) → IsWith ranked ws ws' → (i : ℕ) → (eqb ranked.at i || awaits ws i) ≡ awaits ws' i
awaits_is ranked ws ws' h i = list_any-IsPermutation (λ (t : RankedConfig). eqb t.at i) (ranked ∷ ws) ws' h

pub awaits_own : (ranked : RankedConfig) (ws ws' : List RankedConfig) → IsWith ranked ws ws' → awaits ws' ranked.at ≡ true
awaits_own ranked ws ws' h = sym (awaits_is ranked ws ws' h ranked.at) ∙ or_left (eqb ranked.at ranked.at) (awaits ws ranked.at) (eqb_self ranked.at)

pub awaits_kept : (ranked : RankedConfig) (ws ws' : List RankedConfig) → IsWith ranked ws ws' → (i : ℕ) → awaits ws i ≡ true → awaits ws' i ≡ true
awaits_kept ranked ws ws' h i there = sym (awaits_is ranked ws ws' h i) ∙ or_right (eqb ranked.at i) (awaits ws i) there

pub awaits_cases : (ranked : RankedConfig) (ws ws' : List RankedConfig) → IsWith ranked ws ws' → (i : ℕ) → awaits ws' i ≡ true → (awaits ws i ≡ true) ⊎ (ranked.at ≡ i)
awaits_cases ranked ws ws' h i there =
    elim (or_cases (eqb ranked.at i) (awaits ws i) (awaits_is ranked ws ws' h i ∙ there)) as (λ _. (awaits ws i ≡ true) ⊎ (ranked.at ≡ i)) [
      | inl own ↦ inr (eqb-true ranked.at i own)
      | inr other ↦ inl other
    ]

pub expansions_more : (ranked : RankedConfig) (ws ws' : List RankedConfig) → IsWith ranked ws ws' → expansions_in ws' ≡ expansions_left ranked + expansions_in ws
expansions_more ranked ws ws' h = sum_by-IsPermutation expansions_left (ranked ∷ ws) ws' h ∙ sum_by-cons expansions_left ranked ws

pub awaits_both : (a b : List RankedConfig) (i : ℕ) → awaits (a ++ b) i ≡ (awaits a i || awaits b i)
awaits_both a b i = list_any-append (λ (t : RankedConfig). eqb t.at i) a b

pub expansions_both : (a b : List RankedConfig) → expansions_in (a ++ b) ≡ expansions_in a + expansions_in b
expansions_both a b = sum_by-append expansions_left a b

pub some_expansion : (ranked : RankedConfig) → 0 < expansions_left ranked
some_expansion ranked = elim ranked.is_last as (λ b. 0 < (if b then 1 else 2)) [ true ↦ omega arith | false ↦ omega arith ]

pub awaits_only : (ranked : RankedConfig) → awaits (ranked ∷ []) ranked.at ≡ true
awaits_only ranked = or_left (eqb ranked.at ranked.at) false (eqb_self ranked.at)

pub only_at : (ranked : RankedConfig) (i : ℕ) → awaits (ranked ∷ []) i ≡ true → ranked.at ≡ i
only_at ranked i h = elim (or_cases (eqb ranked.at i) false h) as (λ _. ranked.at ≡ i) [ inl own ↦ eqb-true ranked.at i own | inr none ↦ absurd (false≢true none) ]

pub expansions_only : (ranked : RankedConfig) → expansions_in (ranked ∷ []) ≡ expansions_left ranked
expansions_only ranked = omega (arith, sum_by-cons expansions_left ranked [])

pub expansions_is : (ranked : RankedConfig) (ws ws' : List RankedConfig) → IsWith ranked ws ws' → expansions_in ws' ≡ expansions_in (ranked ∷ ws)
expansions_is ranked ws ws' h = sum_by-IsPermutation expansions_left (ranked ∷ ws) ws' h
