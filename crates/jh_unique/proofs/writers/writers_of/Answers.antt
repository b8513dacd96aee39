use Rattle.std.proofs.Common.{◌≡◌, ℕ, ◌<◌, ◌+◌, ℤ, None, Some, length, sym, subst, ◌∙◌, inl, inr, arith}
use Rattle.std.specs.Prelude.{◌≢◌}
use Rattle.std.specs.BTreeMap.{get}
use Rattle.std.specs.Ordering.{int_cmp}
use Rattle.std.proofs.lemmas.Bool.{cases_lt}
use Rattle.jh_unique.specs.Tables.{IsValueTable, IsWriterTable}
use Rattle.jh_unique.specs.Unique.{WritesAt, reg_call_at}
use Rattle.jh_unique.proofs.ListLemmas.{not_both}
use Rattle.jh_unique.proofs.TableLemmas.{one_written, once_by, not_some, table_skip, table_more, table_twice}
use Rattle.jh_unique.proofs.writers.writers_of.Goals.{in-Some+else-is_initial+in_ok-before+in_default-before, in_default}
use Rattle.jh_unique.proofs.writers.writers_of.Goals as goal

pub returns-in-Some-before : goal.returns-in-Some-before
returns-in-Some-before c =
    let l = c.loop-number in
    let ops = c.args.ops.now in
    let value = c.in-Some.value.int in
    let was : get int_cmp l.table value ≡ Some c.in-Some-before.first = sym c.in_ok-before.ensures.before ∙ c.in-Some-before.is in
    let r = table_twice (λ v p. WritesAt ops p v) (λ v w p h k. one_written (reg_call_at ops p) v w h.1 k.1) l.number l.table l.invariant.table value c.in-Some-before.first c.in-Some.ensures was in
    (r.0, (value, r.1, c.in-Some.ensures))

pub loop-number-preserved : goal.loop-number-preserved
loop-number-preserved c =
    let l = c.loop-number in
    let n = l.number in
    let ops = c.args.ops.now in
    let initial = c.args.initial in
    let one : (v w : ℤ) (p : ℕ) → WritesAt ops p v → WritesAt ops p w → v ≡ w = λ v w p h k. one_written (reg_call_at ops p) v w h.1 k.1 in
    let fresh : ((v : ℤ) → WritesAt ops n v → initial ≢ Some v) → (p : ℕ) (v : ℤ) → p < n + 1 → WritesAt ops p v → initial ≢ Some v = λ this p v low h.
    elim (cases_lt p n) as (λ _. initial ≢ Some v) [
      | inl lt ↦ l.invariant.fresh p v lt h
      | inr ge ↦ (let same : p ≡ n = omega (arith, low, ge) in this v (subst (λ z. WritesAt ops z v) same h))
    ] in
    elim c.match-written.branch as (λ _. record { table : IsValueTable (λ v p. WritesAt ops p v) (n + 1) c.match-written.table; fresh : (p : ℕ) (v : ℤ) → p < n + 1 → WritesAt ops p v → initial ≢ Some v }) [
      | in-Some+else-is_initial+in_ok-before+in_default-before w ↦
          let value = w.in-Some.value.int in
          let none : get int_cmp l.table value ≡ None = sym w.in_ok-before.ensures.before ∙ not_some _ w.in_default-before.not-Some in
          record {
            table = subst (λ t. IsValueTable (λ v p. WritesAt ops p v) (n + 1) t) (sym w.table-is) (table_more (λ v p. WritesAt ops p v) one n l.table l.invariant.table w.put.new.table value w.in-Some.ensures none w.in_ok-before.ensures.this w.in_ok-before.ensures.others);
            fresh = fresh (λ v h is. not_both _ (w.is_initial.ensures.1 (subst (λ u. initial ≡ Some u) (one v value n h w.in-Some.ensures) is)) w.if-is_initial.false);
          }
      | in_default w ↦ record {
        table = subst (λ t. IsValueTable (λ v p. WritesAt ops p v) (n + 1) t) (sym w.table-is) (table_skip (λ v p. WritesAt ops p v) one n l.table l.invariant.table w.in_default.ensures);
        fresh = fresh (λ v h. absurd (w.in_default.ensures v h));
      }
    ]

pub returns : goal.returns
returns c =
    let l = c.loop-number in
    let ops = c.args.ops.now in
    let end : l.number ≡ length ops = omega arith in
    let table : IsWriterTable ops l.table = subst (λ (n : ℕ). IsValueTable (λ v p. WritesAt ops p v) n l.table) end l.invariant.table in
    (table, once_by ops l.table table c.args.initial (λ p v low h. l.invariant.fresh p v (omega (arith, low, end)) h))
