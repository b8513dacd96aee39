-- Tables of operations by their values.
use Rattle.std.proofs.Common.{◌≡◌, ℕ, ◌+◌, ◌<◌, false, nat_cmp, Some, None, List, sym, ap, subst, ◌∙◌, inl, inr, arith}
use Rattle.std.specs.Prelude.{◌≢◌}
use Rattle.std.specs.BTreeMap.{get, is_at}
use Rattle.std.specs.declared.alloc.Global.{Global}
use Rattle.std.specs.declared.collections.btree_map.BTreeMap.{BTreeMap}
use Rattle.std.proofs.lemmas.Bool.{cases_lt, cases_eq}
use Rattle.std.proofs.lemmas.Bool.Decides.{nat_tests}
use Rattle.jh_fifo.specs.declared.operations.FifoCall.{FifoCall}
use Rattle.jh_fifo.specs.declared.operations.FifoOp.{FifoOp}
use Rattle.jh_fifo.specs.declared.tables.Side.{Side}
use Rattle.jh_fifo.specs.declared.tables.Side.TheVariants.{In, Out}
use Rattle.jh_fifo.specs.Reasons.{call_at}
use Rattle.jh_fifo.specs.Tables.{MovesValue, IsTable}
use Rattle.jh_fifo.proofs.RunLemmas.{same_enqueue, same_dequeue}
use Rattle.jh_fifo.proofs.LayoutLemmas.{some_same, none_some}

pub takes_one : (side : Side) (call : FifoCall) (v w : ℕ) → MovesValue side v call → MovesValue side w call → v ≡ w
takes_one In call v w h k = same_enqueue v w (sym h ∙ k)
takes_one Out call v w h k = same_dequeue v w (sym h ∙ k)

elsewhere : (k q : ℕ) → (k ≡ q → ⊥) → is_at (nat_cmp k) q ≡ false
elsewhere k q h = grind (arith, nat_tests)

module _ (ops : List FifoOp) (side : Side) (n : ℕ) (table : BTreeMap ℕ ℕ Global) (so : IsTable ops side n table) where
  pub table_skip : ((v : ℕ) → MovesValue side v (call_at ops n) → ⊥) → IsTable ops side (n + 1) table
  table_skip none = record {
    sound = λ v p is. let r = so.sound v p is in (omega (arith, r.0), r.1);
    whole = λ v p low takes. elim (cases_lt p n) as (λ _. get nat_cmp table v ≡ Some p) [
      | inl lt ↦ so.whole v p lt takes
      | inr ge ↦ (let same : p ≡ n = omega (arith, low, ge) in absurd (none v (subst (λ q. MovesValue side v (call_at ops q)) same takes)))
    ];
  }

  pub table_more : (next : BTreeMap ℕ ℕ Global) (k : ℕ) → MovesValue side k (call_at ops n) → get nat_cmp table k ≡ None → get nat_cmp next k ≡ Some n
      → ((q : ℕ) → is_at (nat_cmp k) q ≡ false → get nat_cmp next q ≡ get nat_cmp table q) → IsTable ops side (n + 1) next
  table_more next k takes_k none here others = record {
    sound = λ v p is. elim (cases_eq k v) as (λ _. (p < n + 1) × MovesValue side v (call_at ops p)) [
      | inl same ↦
          let p_is : n ≡ p = some_same n p (sym here ∙ ap (get nat_cmp next) same ∙ is) in
          (omega (arith, p_is), subst (λ q. MovesValue side v (call_at ops q)) p_is (subst (λ w. MovesValue side w (call_at ops n)) same takes_k))
      | inr differ ↦ (let r = so.sound v p (sym (others v (elsewhere k v differ)) ∙ is) in (omega (arith, r.0), r.1))
    ];
    whole = λ v p low takes. elim (cases_lt p n) as (λ _. get nat_cmp next v ≡ Some p) [
      | inl lt ↦ elim (cases_eq k v) as (λ _. get nat_cmp next v ≡ Some p) [
        | inl same ↦ absurd (none_some (get nat_cmp table v) p (ap (get nat_cmp table) (sym same) ∙ none) (so.whole v p lt takes))
        | inr differ ↦ others v (elsewhere k v differ) ∙ so.whole v p lt takes
      ]
      | inr ge ↦
          let same : p ≡ n = omega (arith, low, ge) in
          let v_is : k ≡ v = takes_one side (call_at ops n) k v takes_k (subst (λ q. MovesValue side v (call_at ops q)) same takes) in
          ap (get nat_cmp next) (sym v_is) ∙ here ∙ ap (λ q. Some q) (sym same)
    ];
  }

  pub table_twice : (k p : ℕ) → MovesValue side k (call_at ops n) → get nat_cmp table k ≡ Some p → (p ≢ n) × ((v : ℕ) × MovesValue side v (call_at ops p) × MovesValue side v (call_at ops n))
  table_twice k p takes is = let r = so.sound k p is in (λ e. let a = r.0 in omega (arith, a, e), (k, r.1, takes))
