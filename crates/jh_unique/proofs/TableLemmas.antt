-- Tables of operations by their values.
use Rattle.std.proofs.Common.{◌≡◌, ℕ, ◌+◌, ◌<◌, ℤ, true, false, Option, Some, None, List, [], ◌∷◌, ◌++◌, length, Vec, refl, sym, ap, subst, ◌∙◌, inl, inr, arith}
use Rattle.std.specs.Prelude.{◌≢◌, ◌⊎◌}
use Rattle.std.specs.BTreeMap.{get, is_at}
use Rattle.std.specs.Ordering.{int_cmp, is_eq, ordering_reverse}
use Rattle.std.specs.declared.cmp.Ordering.{Ordering}
use Rattle.std.specs.declared.cmp.Ordering.TheVariants.{Less, Equal, Greater}
use Rattle.std.specs.declared.alloc.Global.{Global}
use Rattle.std.specs.declared.collections.btree_map.BTreeMap.{BTreeMap}
use Rattle.std.proofs.lemmas.Bool.{cases_lt, cases_Bool, false≢true}
use Rattle.std.proofs.lemmas.Cmp.{int_cmp_total}
use Rattle.std.proofs.lemmas.Map.Lookups.{exact_signed}
use Rattle.jh_linear.specs.declared.register.RegCall.{RegCall}
use Rattle.jh_linear.specs.declared.register.RegCall.TheVariants.{Read, Write, Cas}
use Rattle.jh_linear.specs.declared.register.RegOp.{RegOp}
use Rattle.jh_unique.specs.Unique.{WritesValue, WritesAt, WriteOnce}
use Rattle.jh_unique.specs.Reasons.{AreFromOne}
use Rattle.jh_unique.specs.Sorted.{IsTurnOfOps, ArePicked}
use Rattle.jh_unique.specs.Steps.{IsReadOf, IsNextFrom}
use Rattle.jh_unique.specs.Tables.{IsValueTable, IsWriterTable, reads_under, IsReadTable}
use Rattle.jh_unique.proofs.ClusterLemmas.{cas_old}
use Rattle.jh_unique.proofs.SortedLemmas.{picked_skip, picked_push, picked_once}
use Rattle.jh_unique.proofs.PartLemmas.{possible_there}
use Rattle.jh_unique.proofs.WalkLemmas.{must_possible}

-- ---- values are the same or not

equal_is : (o : Ordering) → is_eq o ≡ true → o ≡ Equal
equal_is Less h = absurd (false≢true h)
equal_is Equal h = refl
equal_is Greater h = absurd (false≢true h)

itself : (o : Ordering) → o ≡ ordering_reverse o → o ≡ Equal
itself Less h = let bad : ◌≡◌ {A = Ordering} Less Greater = h in cc
itself Equal h = refl
itself Greater h = let bad : ◌≡◌ {A = Ordering} Greater Less = h in cc

pub cases_value : (v w : ℤ) → (v ≡ w) ⊎ ((v ≡ w → ⊥) × (is_at (int_cmp v) w ≡ false))
cases_value v w = elim (cases_Bool (is_at (int_cmp v) w)) as (λ _. (v ≡ w) ⊎ ((v ≡ w → ⊥) × (is_at (int_cmp v) w ≡ false))) [
  | inl e ↦ inl (exact_signed v w (equal_is (int_cmp v w) e))
  | inr e ↦ inr ((λ same. apart same e), e)
] where
  apart : v ≡ w → is_at (int_cmp v) w ≡ false → ⊥
  apart same e = false≢true (sym e ∙ ap (λ x. is_at (int_cmp v) x) (sym same) ∙ ap is_eq (itself (int_cmp v v) (int_cmp_total.antisymm v v)))

pub some_number : (p q : ℕ) → ◌≡◌ {A = Option ℕ} (Some p) (Some q) → p ≡ q
some_number p q h = cc

pub none_number : (o : Option ℕ) (p : ℕ) → o ≡ None → o ≡ Some p → ⊥
none_number o p h k = let bad : ◌≡◌ {A = Option ℕ} None (Some p) = sym h ∙ k in cc

pub not_some : {X : Type 0} (o : Option X) → ((x : X) → o ≡ Some x → ⊥) → o ≡ None
not_some None h = refl
not_some (Some x) h = absurd (h x refl)

module _ (IsThat : ℤ → ℕ → Type 0) (one : (v w : ℤ) (p : ℕ) → IsThat v p → IsThat w p → v ≡ w) (n : ℕ) (table : BTreeMap ℤ ℕ Global) (so : IsValueTable IsThat n table) where
  pub table_skip : ((v : ℤ) → IsThat v n → ⊥) → IsValueTable IsThat (n + 1) table
  table_skip none = record {
    sound = λ v p is. let r = so.sound v p is in (omega (arith, r.0), r.1);
    whole = λ v p low takes. elim (cases_lt p n) as (λ _. get int_cmp table v ≡ Some p) [
      | inl lt ↦ so.whole v p lt takes
      | inr ge ↦ (let same : p ≡ n = omega (arith, low, ge) in absurd (none v (subst (IsThat v) same takes)))
    ];
  }

  pub table_more : (next : BTreeMap ℤ ℕ Global) (k : ℤ) → IsThat k n → get int_cmp table k ≡ None → get int_cmp next k ≡ Some n
      → ((q : ℤ) → q ≢ k → get int_cmp next q ≡ get int_cmp table q) → IsValueTable IsThat (n + 1) next
  table_more next k is_k none here others = record {
    sound = λ v p is. elim (cases_value k v) as (λ _. (p < n + 1) × IsThat v p) [
      | inl same ↦
          let p_is : n ≡ p = some_number n p (sym here ∙ ap (get int_cmp next) same ∙ is) in
          (omega (arith, p_is), subst (IsThat v) p_is (subst (λ w. IsThat w n) same is_k))
      | inr differ ↦ (let r = so.sound v p (sym (others v (λ e. differ.0 (sym e))) ∙ is) in (omega (arith, r.0), r.1))
    ];
    whole = λ v p low takes. elim (cases_lt p n) as (λ _. get int_cmp next v ≡ Some p) [
      | inl lt ↦ elim (cases_value k v) as (λ _. get int_cmp next v ≡ Some p) [
        | inl same ↦ absurd (none_number (get int_cmp table v) p (ap (get int_cmp table) (sym same) ∙ none) (so.whole v p lt takes))
        | inr differ ↦ others v (λ e. differ.0 (sym e)) ∙ so.whole v p lt takes
      ]
      | inr ge ↦
          let same : p ≡ n = omega (arith, low, ge) in
          let v_is : k ≡ v = one k v n is_k (subst (IsThat v) same takes) in
          ap (get int_cmp next) (sym v_is) ∙ here ∙ ap (λ q. Some q) (sym same)
    ];
  }

  pub table_twice : (k : ℤ) (p : ℕ) → IsThat k n → get int_cmp table k ≡ Some p → (p ≢ n) × IsThat k p
  table_twice k p takes is = let r = so.sound k p is in (λ e. let a = r.0 in omega (arith, a, e), r.1)

-- ---- who writes each value

pub one_written : (call : RegCall) (v w : ℤ) → WritesValue call v → WritesValue call w → v ≡ w
one_written (Read seen) v w h k = absurd h
one_written (Write new) v w h k = sym h ∙ k
one_written (Cas old new) v w h k = sym h ∙ k

module _ (ops : List RegOp) (table : BTreeMap ℤ ℕ Global) (so : IsWriterTable ops table) where
  pub writers_apart : (v : ℤ) (p q : ℕ) → WritesAt ops p v → WritesAt ops q v → p ≡ q
  writers_apart v p q h k = some_number p q (sym (so.whole v p (possible_there ops p h.0) h) ∙ so.whole v q (possible_there ops q k.0) k)

  pub once_by : (initial : Option ℤ) → ((p : ℕ) (v : ℤ) → p < length ops → WritesAt ops p v → initial ≢ Some v) → WriteOnce ops initial
  once_by initial fresh = record { apart = writers_apart; fresh = λ v p h. fresh p v (possible_there ops p h.0) h }

-- ---- the compare-and-sets and the reads of each value

pub one_next : (ops : List RegOp) (v w : ℤ) (p : ℕ) → IsNextFrom ops v p → IsNextFrom ops w p → v ≡ w
one_next ops v w p h k = cas_old v h.1.0 w k.1.0 (sym h.1.1 ∙ k.1.1)

pub from_one : (ops : List RegOp) (v : ℤ) (p q : ℕ) → p ≢ q → IsNextFrom ops v p → IsNextFrom ops v q → AreFromOne ops p q v
from_one ops v p q differ h k = (h.0, k.0, differ, h.1, k.1)

read_same : (u v : ℤ) → ◌≡◌ {A = RegCall} (Read (Some u)) (Read (Some v)) → u ≡ v
read_same u v h = cc

pub one_read : (ops : List RegOp) (v w : ℤ) (p : ℕ) → IsReadOf ops v p → IsReadOf ops w p → v ≡ w
one_read ops v w p h k = read_same v w (sym h.1 ∙ k.1)

module _ (ops : List RegOp) (turn : List ℕ) (old new : BTreeMap ℤ (Vec ℕ Global) Global) (so : (v : ℤ) → ArePicked (IsReadOf ops v) turn (reads_under old v)) (x : ℕ) where
  pub reads_more : (value : ℤ) → IsReadOf ops value x → reads_under new value ≡ reads_under old value ++ x ∷ [] → ((other : ℤ) → other ≢ value → reads_under new other ≡ reads_under old other)
      → (v : ℤ) → ArePicked (IsReadOf ops v) (turn ++ x ∷ []) (reads_under new v)
  reads_more value is this others v = elim (cases_value v value) as (λ _. ArePicked (IsReadOf ops v) (turn ++ x ∷ []) (reads_under new v)) [
    | inl same ↦ subst (λ (u : ℤ). ArePicked (IsReadOf ops u) (turn ++ x ∷ []) (reads_under new u)) (sym same) (subst (ArePicked (IsReadOf ops value) (turn ++ x ∷ [])) (sym this) (picked_push (IsReadOf ops value) turn (reads_under old value) x (so value) is))
    | inr differ ↦ subst (ArePicked (IsReadOf ops v) (turn ++ x ∷ [])) (sym (others v differ.0)) (picked_skip (IsReadOf ops v) turn (reads_under old v) x (so v) (λ h. differ.0 (one_read ops v value x h is)))
  ]

  pub reads_skip : ((v : ℤ) → IsReadOf ops v x → ⊥) → (v : ℤ) → ArePicked (IsReadOf ops v) (turn ++ x ∷ []) (reads_under old v)
  reads_skip none v = picked_skip (IsReadOf ops v) turn (reads_under old v) x (so v) (none v)

pub reads_all : (ops : List RegOp) (turn : List ℕ) → IsTurnOfOps ops turn → (table : BTreeMap ℤ (Vec ℕ Global) Global) → ((v : ℤ) → ArePicked (IsReadOf ops v) turn (reads_under table v)) → IsReadTable ops table
reads_all ops turn is_turn table so v = record {
  once = picked_once (IsReadOf ops v) turn (reads_under table v) is_turn.distinct (so v);
  each = λ p h. ((so v).each p h).1;
  whole = λ p must is. (so v).whole p (is_turn.whole p (possible_there ops p (must_possible ops p must))) (must, is);
  sorted = λ p q h. is_turn.rise p q ((so v).in_turn p q h);
}
