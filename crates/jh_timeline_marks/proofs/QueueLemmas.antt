-- The notes of queues and of sets over time, from values in order.
use Rattle.std.proofs.Common.{◌≡◌, ℕ, ◌+◌, ◌<◌, Bool, true, false, cond, List, [], ◌∷◌, ◌++◌, length, take, get_or, map, Option, Some, refl, sym, ap, ◌∙◌, codes}
use Rattle.std.specs.Prelude.{◌||◌}
use Rattle.std.specs.List.{list_any}
use Rattle.std.specs.Option.{option_map_or}
use Rattle.std.proofs.lemmas.List.{map-append}
use Rattle.std.proofs.lemmas.List.Folds.{list_any-append}
use Rattle.jh_edn.specs.Edn.{Edn}
use Rattle.jh_edn.specs.Normal.{normal}
use Rattle.jh_edn.specs.Order.{in_order, is_below}
use Rattle.jh_edn.specs.View.{view, views}
use Rattle.jh_edn.specs.declared.value.Value.{Value}
use Rattle.jh_ops.specs.Operation.{Operation}
use Rattle.jh_check.specs.Distinct.{has_same_value}
use Rattle.jh_check.proofs.ListLemmas.{mapped_more}
use Rattle.jh_check.proofs.SearchLemmas.{among_in_order}
use Rattle.jh_set_full.specs.StaleView.{view_stale, view_stales}
use Rattle.jh_set_full.specs.declared.set_full.SetFullResult.{SetFullResult}
use Rattle.jh_set_full.specs.declared.stale.Stale.{Stale}
use Rattle.jh_timeline.specs.declared.marks.Note.{Note}
use Rattle.jh_timeline.specs.declared.picture.Call.{Call}
use Rattle.jh_total_queue.specs.TotalQueue.{taken_by}
use Rattle.jh_total_queue.specs.declared.total_queue.TotalQueueResult.{TotalQueueResult}
use Rattle.jh_timeline_marks.specs.Marked.{begins_with_one_of, call_completion, counted_values, ends_by_taking, ends_with_one_of, note_if}
use Rattle.jh_timeline_marks.specs.Marked.{set_full_note, shows_twice, takes_one_of, total_queue_note}
use Rattle.jh_timeline_marks.specs.MarkedInside.{queue_note_with, timed_note_with}
use Rattle.jh_timeline_marks.specs.declared.queues.QueueValues.{QueueValues}
use Rattle.jh_timeline_marks.specs.declared.set_full.TimedElements.{TimedElements}
use Rattle.jh_timeline_marks.proofs.MarkLemmas.{begins_same, ends_same}

-- ---- queues

takes_same : (values : List Edn) (op : Operation) → takes_one_of (in_order is_below values) op ≡ takes_one_of values op
takes_same values op = λ i. list_any (λ x. among_in_order (normal x) values i) (taken_by op)

taking_same : (values : List Edn) (history : List Operation) (call : Call) → ends_by_taking (in_order is_below values) history call ≡ ends_by_taking values history call
taking_same values history call = λ i. option_map_or (λ op. takes_same values op i) (call_completion history call) false

pub queue_same : (values : QueueValues) (found : TotalQueueResult) (history : List Operation) (call : Call)
    → views values.lost.items ≡ in_order is_below (counted_values found.lost)
    → views values.unexpected.items ≡ in_order is_below (counted_values found.unexpected)
    → views values.duplicated.items ≡ in_order is_below (counted_values found.duplicated)
    → views values.recovered.items ≡ in_order is_below (counted_values found.recovered)
    → queue_note_with values history call ≡ total_queue_note found history call
queue_same values found history call lost unexpected duplicated recovered =
    let l = ap (λ xs. ends_with_one_of (codes "enqueue") xs history call) lost ∙ ends_same (codes "enqueue") (counted_values found.lost) history call in
    let u = ap (λ xs. ends_by_taking xs history call) unexpected ∙ taking_same (counted_values found.unexpected) history call in
    let d = ap (λ xs. ends_by_taking xs history call) duplicated ∙ taking_same (counted_values found.duplicated) history call in
    let r = ap (λ xs. begins_with_one_of (codes "enqueue") xs history call) recovered ∙ begins_same (codes "enqueue") (counted_values found.recovered) history call in
    λ i. cond (l i) (Some Note.Lost) (cond (u i) (Some Note.Unexpected) (cond (d i) (Some Note.Repeated) (note_if (r i) Note.Recovered)))

or_none : (b : Bool) → (b || false) ≡ b
or_none false = refl
or_none true = refl

-- one item more
pub any_more : (values : List Edn) (items : List Value) (i : ℕ) (item : Value) (has among : Bool) → i < length items → item ≡ get_or items i item
    → among ≡ has_same_value values (normal (view item)) → has ≡ list_any (λ x. has_same_value values (normal x)) (views (take i items))
    → (has || among) ≡ list_any (λ x. has_same_value values (normal x)) (views (take (i + 1) items))
any_more values items i item has among less at is before =
    let p : Edn → Bool = λ x. has_same_value values (normal x) in
    (λ k. before k || is k)
    ∙ ap (λ b. list_any p (views (take i items)) || b) (sym (or_none (p (view item))))
    ∙ sym (list_any-append p (views (take i items)) (view item ∷ []))
    ∙ ap (list_any p) (sym (mapped_more view items i item less at))

-- ---- sets over time

pub timed_same : (elements : TimedElements) (found : SetFullResult) (history : List Operation) (call : Call)
    → views elements.lost.items ≡ in_order is_below found.lost
    → views elements.stale.items ≡ in_order is_below (map (λ stale. stale.0) found.stale)
    → timed_note_with elements history call ≡ set_full_note found history call
timed_same elements found history call lost stale =
    let l = ap (λ xs. begins_with_one_of (codes "add") xs history call) lost ∙ begins_same (codes "add") found.lost history call in
    let s = ap (λ xs. begins_with_one_of (codes "add") xs history call) stale ∙ begins_same (codes "add") (map (λ one. one.0) found.stale) history call in
    λ i. cond (l i) (Some Note.Lost) (cond (s i) (Some Note.Stale) (note_if (option_map_or shows_twice (call_completion history call) false) Note.Repeated))

-- one stale element more
pub stale_more : (copies : List Value) (stales : List Stale) (i : ℕ) (stale : Stale) (copy : Value) → i < length stales
    → stale ≡ get_or stales i stale → view copy ≡ view stale.element → views copies ≡ map (λ one. one.0) (view_stales (take i stales))
    → views (copies ++ copy ∷ []) ≡ map (λ one. one.0) (view_stales (take (i + 1) stales))
stale_more copies stales i stale copy below at same before =
    let first : Edn × Option ℕ → Edn = λ one. one.0 in
    map-append view copies (copy ∷ []) ∙ ap (λ xs. xs ++ view copy ∷ []) before ∙ ap (λ x. map first (view_stales (take i stales)) ++ x ∷ []) same
    ∙ sym (ap (map first) (mapped_more view_stale stales i stale below at)
    ∙ map-append first (view_stales (take i stales)) (view_stale stale ∷ []))
