use Rattle.std.proofs.Common.{◌≡◌, ◌+◌, None, Some, sym, subst, ◌∙◌}
use Rattle.std.specs.BTreeMap.{get}
use Rattle.std.specs.Ordering.{int_cmp}
use Rattle.jh_unique.specs.Steps.{IsNextFrom}
use Rattle.jh_unique.specs.Tables.{IsValueTable}
use Rattle.jh_unique.proofs.TableLemmas.{one_next, from_one, not_some, table_skip, table_more, table_twice}
use Rattle.jh_unique.proofs.behind.nexts_of.Goals.{in-Some+in_ok-before+in_default-before, in_default}
use Rattle.jh_unique.proofs.behind.nexts_of.Goals as goal

pub returns-in-Some-before : goal.returns-in-Some-before
returns-in-Some-before c =
    let l = c.loop-number in
    let ops = c.args.ops.now in
    let value = c.in-Some.value.int in
    let was : get int_cmp l.table value ≡ Some c.in-Some-before.first = sym c.in_ok-before.ensures.before ∙ c.in-Some-before.is in
    let r = table_twice (IsNextFrom ops) (one_next ops) l.number l.table l.invariant value c.in-Some-before.first c.in-Some.ensures was in
    (value, from_one ops value c.in-Some-before.first l.number r.0 r.1 c.in-Some.ensures)

pub loop-number-preserved : goal.loop-number-preserved
loop-number-preserved c =
    let l = c.loop-number in
    let ops = c.args.ops.now in
    elim c.match-cas_at.branch as (λ _. IsValueTable (IsNextFrom ops) (l.number + 1) c.match-cas_at.table) [
      | in-Some+in_ok-before+in_default-before w ↦
          let value = w.in-Some.value.int in
          let none : get int_cmp l.table value ≡ None = sym w.in_ok-before.ensures.before ∙ not_some _ w.in_default-before.not-Some in
          subst (λ t. IsValueTable (IsNextFrom ops) (l.number + 1) t) (sym w.table-is) (table_more (IsNextFrom ops) (one_next ops) l.number l.table l.invariant w.put.new.table value w.in-Some.ensures none w.in_ok-before.ensures.this w.in_ok-before.ensures.others)
      | in_default w ↦ subst (λ t. IsValueTable (IsNextFrom ops) (l.number + 1) t) (sym w.table-is) (table_skip (IsNextFrom ops) (one_next ops) l.number l.table l.invariant w.in_default.ensures)
    ]
