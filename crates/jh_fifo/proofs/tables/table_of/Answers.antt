use Rattle.std.proofs.Common.{◌≡◌, ◌+◌, nat_cmp, None, Some, sym, subst, ◌∙◌}
use Rattle.std.specs.BTreeMap.{get}
use Rattle.jh_fifo.specs.Reasons.{call_at}
use Rattle.jh_fifo.specs.Tables.{MovesValue, IsTable}
use Rattle.jh_fifo.proofs.LayoutLemmas.{not_some, none_gives}
use Rattle.jh_fifo.proofs.TableLemmas.{table_skip, table_more, table_twice}
use Rattle.jh_fifo.proofs.tables.table_of.Goals.{in-Some+in_ok-old+in_default-old, in_default}
use Rattle.jh_fifo.proofs.tables.table_of.Goals as goal

pub returns-in-Some-old : goal.returns-in-Some-old
returns-in-Some-old c =
    let l = c.loop-place in
    let takes : MovesValue c.args.side c.in-Some.value (call_at c.args.ops.now l.place) = subst (MovesValue c.args.side c.in-Some.value) c.call_of.ensures c.in-Some.ensures in
    let was : get nat_cmp l.places c.in-Some.value ≡ Some c.in-Some-old.first = sym c.in_ok-old.ensures.old ∙ c.in-Some-old.is in
    table_twice c.args.ops.now c.args.side l.place l.places l.invariant c.in-Some.value c.in-Some-old.first takes was

pub loop-place-preserved : goal.loop-place-preserved
loop-place-preserved c =
    let l = c.loop-place in
    let ops = c.args.ops.now in
    let side = c.args.side in
    elim c.match-value_of.branch as (λ _. IsTable ops side (l.place + 1) c.match-value_of.places) [
      | in-Some+in_ok-old+in_default-old w ↦
          let takes : MovesValue side w.in-Some.value (call_at ops l.place) = subst (MovesValue side w.in-Some.value) c.call_of.ensures w.in-Some.ensures in
          let none : get nat_cmp l.places w.in-Some.value ≡ None = sym w.in_ok-old.ensures.old ∙ not_some _ w.in_default-old.not-Some in
          let updates = w.in_ok-old.ensures.updates in
          subst (λ t. IsTable ops side (l.place + 1) t) (sym w.places-is) (table_more ops side l.place l.places l.invariant w.insert.new.self w.in-Some.value takes none updates.1 updates.2)
      | in_default w ↦
          subst (λ t. IsTable ops side (l.place + 1) t) (sym w.places-is) (table_skip ops side l.place l.places l.invariant
          (λ v takes. none_gives c.value_of.result _ _ c.value_of.ensures (not_some c.value_of.result w.in_default.not-Some) v (subst (MovesValue side v) (sym c.call_of.ensures) takes)))
    ]
