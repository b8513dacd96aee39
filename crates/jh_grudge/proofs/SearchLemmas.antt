-- Binary search in ascending links.
use Rattle.std.proofs.Common.{◌≡◌, ℕ, ◌<◌, ◌≤◌, true, false, cond, eqb, List, length, get_or, Result, Ok, Err, Ordering, refl, sym, ap, ◌∙◌, ◌⊎◌, inl, inr, arith}
use Rattle.std.specs.Prelude.{◌↔◌, is_ok}
use Rattle.std.specs.declared.cmp.Ordering.TheVariants.{Less, Equal, Greater}
use Rattle.std.specs.Ordering.{nat_cmp, ordering_then, ordering_index}
use Rattle.std.specs.List.{Contains}
use Rattle.std.specs.List.Sorted.{IsBinarySearchResult, IsSearchInRange, IsNonDecreasingBy}
use Rattle.std.proofs.lemmas.Bool.{cases_eq, cases_lt, cases_order, both_ways, lt-ltb, le-ltb, eq-eqb, ne_eqb}
use Rattle.jh_grudge.specs.Grudges.{IsBefore, IsAscending}

abbrev pub link_cmp : ℕ × ℕ → ℕ × ℕ → Ordering
link_cmp a b = ordering_then (nat_cmp a.0 b.0) (nat_cmp a.1 b.1)

number_cases : (m n : ℕ) → ((nat_cmp m n ≡ Less) × (m < n)) ⊎ (((nat_cmp m n ≡ Equal) × (m ≡ n)) ⊎ ((nat_cmp m n ≡ Greater) × (n < m)))
number_cases m n =
    elim (cases_order m n) [
      | inl same ↦ inr (inl (ap (λ b. cond b Less (cond (eqb m n) Equal Greater)) (le-ltb m n (omega arith)) ∙ ap (λ b. cond b Equal Greater) (eq-eqb m n same), same))
      | inr apart ↦ elim apart [
        | inl less ↦ inl (ap (λ b. cond b Less (cond (eqb m n) Equal Greater)) (lt-ltb m n less), less)
        | inr more ↦ inr (inr (ap (λ b. cond b Less (cond (eqb m n) Equal Greater)) (le-ltb m n (omega arith)) ∙ ap (λ b. cond b Equal Greater) (ne_eqb m n (λ e. omega arith)), more))
      ]
    ]

-- a link comes before another, is it, or comes behind it
cmp_cases : (a b : ℕ × ℕ) → ((link_cmp a b ≡ Less) × IsBefore a b) ⊎ (((link_cmp a b ≡ Equal) × (a.0 ≡ b.0) × (a.1 ≡ b.1)) ⊎ ((link_cmp a b ≡ Greater) × IsBefore b a))
cmp_cases a b =
    let first = λ (o : Ordering). ordering_then o (nat_cmp a.1 b.1) in
    elim (number_cases a.0 b.0) [
      | inl (is, less) ↦ inl (ap first is, (omega arith, (λ same. absurd (omega arith))))
      | inr rest ↦ elim rest [
        | inl (is, same) ↦ elim (number_cases a.1 b.1) [
          | inl (too, less) ↦ inl (ap first is ∙ too, (omega arith, (λ e. less)))
          | inr more ↦ elim more [
            | inl (too, equal) ↦ inr (inl (ap first is ∙ too, same, equal))
            | inr (too, above) ↦ inr (inr (ap first is ∙ too, (omega arith, (λ e. above))))
          ]
        ]
        | inr (is, above) ↦ inr (inr (ap first is, (omega arith, (λ same. absurd (omega arith)))))
      ]
    ]

never_both : (a b : ℕ × ℕ) → IsBefore a b → IsBefore b a → ⊥
never_both a b there back =
    let same : a.0 ≡ b.0 = (let x : a.0 ≤ b.0 = there.0 in let y : b.0 ≤ a.0 = back.0 in omega arith) in
    let up : a.1 < b.1 = there.1 same in
    let down : b.1 < a.1 = back.1 (sym same) in
    omega arith

before_before : (a b x : ℕ × ℕ) → IsBefore a b → IsBefore b x → IsBefore a x
before_before a b x first second =
    let p : a.0 ≤ b.0 = first.0 in
    let q : b.0 ≤ x.0 = second.0 in (
      omega arith,
      (λ same. let r : a.0 ≡ b.0 = omega arith in let s : b.0 ≡ x.0 = omega arith in let u : a.1 < b.1 = first.1 r in let v : b.1 < x.1 = second.1 s in omega arith),
    )

-- a link that is another comes before what that comes before
before_like : (a b x : ℕ × ℕ) → a.0 ≡ b.0 → a.1 ≡ b.1 → IsBefore a x → IsBefore b x
before_like a b x first second before =
    (let p : a.0 ≤ x.0 = before.0 in omega arith, (λ same. let u : a.1 < x.1 = before.1 (first ∙ same) in omega arith))

index_rises : (a b x : ℕ × ℕ) → IsBefore a b → ordering_index (link_cmp a x) ≤ ordering_index (link_cmp b x)
index_rises a b x before =
    elim (cmp_cases a x) [
      | inl (ea, la) ↦ rw ea (omega arith)
      | inr rest ↦ elim rest [
        | inl (ea, sa, ta) ↦ elim (cmp_cases b x) [
          | inl (eb, lb) ↦ absurd (never_both b x lb (before_like a x b sa ta before))
          | inr other ↦ elim other [ inl (eb, sb, tb) ↦ rw (ea, eb) (omega arith) | inr (eb, gb) ↦ rw (ea, eb) (omega arith) ]
        ]
        | inr (ea, ga) ↦ elim (cmp_cases b x) [
          | inl (eb, lb) ↦ absurd (never_both b x lb (before_before x a b ga before))
          | inr other ↦ elim other [ inl (eb, sb, tb) ↦ absurd (never_both a b before (before_like x b a (sym sb) (sym tb) ga)) | inr (eb, gb) ↦ rw (ea, eb) (omega arith) ]
        ]
      ]
    ]

indexes_rise : (links : List (ℕ × ℕ)) (x : ℕ × ℕ) → IsAscending links → IsNonDecreasingBy (λ y. ordering_index (link_cmp y x)) links
indexes_rise links x ascending i j d low high =
    elim (cases_eq i j) [
      | inl same ↦ rw same (omega arith)
      | inr apart ↦ index_rises (get_or links i d) (get_or links j d) x (ascending i j d (omega arith) high)
    ]

equal_is : (a x : ℕ × ℕ) → link_cmp a x ≡ Equal → a ≡ x
equal_is a x e =
    elim (cmp_cases a x) [
      | inl (is, before) ↦ cc
      | inr rest ↦ elim rest [ inl (is, first, second) ↦ ap (λ p. (p, a.1)) first ∙ ap (λ q. (x.0, q)) second | inr (is, before) ↦ cc ]
    ]

never_itself : (a : ℕ × ℕ) → IsBefore a a → ⊥
never_itself a before = never_both a a before before

same_is_equal : (a : ℕ × ℕ) → link_cmp a a ≡ Equal
same_is_equal a =
    elim (cmp_cases a a) [
      | inl (is, before) ↦ absurd (never_itself a before)
      | inr rest ↦ elim rest [ inl (is, first, second) ↦ is | inr (is, before) ↦ absurd (never_itself a before) ]
    ]

-- the search finds a link exactly where it is there
pub found : (links : List (ℕ × ℕ)) (x : ℕ × ℕ) (answer : Result ℕ ℕ) → IsAscending links → IsSearchInRange answer (length links) → IsBinarySearchResult (λ y. link_cmp y x) links answer
    → (is_ok answer ≡ true) ↔ Contains links x
found links x (Ok i) ascending range result = ((λ _. (i, range, equal_is (get_or links i x) x (result x))), (λ _. refl))
found links x (Err i) ascending range result = (
  (λ e. absurd (both_ways false refl e)),
  (λ (k, below, is). let (lower, upper) = result (indexes_rise links x ascending) in
      let here : link_cmp (get_or links k x) x ≡ Equal = ap (λ y. link_cmp y x) is ∙ same_is_equal x in
      elim (cases_lt k i) [ inl less ↦ absurd (let low = lower k x (omega arith) less in cc) | inr more ↦ absurd (let high = upper k x more below in cc) ]),
)
