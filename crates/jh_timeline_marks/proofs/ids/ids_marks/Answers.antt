use Rattle.std.proofs.Common.{None, get_or, ◌++◌, ap, ◌∙◌, map, arith}
use Rattle.std.specs.Prelude.{codes}
use Rattle.std.specs.Option.{option_to_list}
use Rattle.std.proofs.lemmas.List.{take_all}
use Rattle.jh_edn.specs.View.{views}
use Rattle.jh_ops.specs.Operation.{operations}
use Rattle.jh_check.specs.Tallies.{view_tally}
use Rattle.jh_timeline.specs.declared.marks.Note.{Note}
use Rattle.jh_timeline.specs.declared.picture.Call.{Call}
use Rattle.jh_timeline_marks.specs.Marked.{ends_with_one_of, mark_at, marks_by, note_if}
use Rattle.jh_timeline_marks.proofs.MarkLemmas.{ids_same, marks_more}
use Rattle.jh_timeline_marks.proofs.ids.ids_marks.Goals as goal

pub loop-number-preserved : goal.loop-number-preserved
loop-number-preserved c =
    let l = c.loop-number in
    let d : Call = record { client = 0; first = 0; completion = None; last = 0 } in
    let call = get_or c.args.calls.now l.number d in
    let history = operations c.args.history.now in
    marks_more (λ call. note_if (ends_with_one_of (codes "generate") (views c.in_ok-ids.ids.items) history call) Note.Repeated) c.args.calls.now l.number d l.marks.items c.push_note.new.marks.items
    c.loop-number-test.true l.invariant
    (c.in_ok-push_note.ensures ∙ ap (λ note. l.marks.items ++ option_to_list (mark_at l.number note)) (c.noted.ensures ∙ ap (λ holds. note_if holds Note.Repeated)
    (c.in_ok-gives.ensures ∙ ap (λ vs. ends_with_one_of (codes "generate") (views vs) history call) c.deref.ensures.value)))

pub returns : goal.returns
returns c =
    let l = c.loop-number in
    let history = operations c.args.history.now in
    l.invariant
    ∙ ap (marks_by (λ call. note_if (ends_with_one_of (codes "generate") (views c.in_ok-ids.ids.items) history call) Note.Repeated)) (take_all l.number c.args.calls.now (omega arith))
    ∙ ids_same (views c.in_ok-ids.ids.items) (map (λ id. id.0) (view_tally c.args.duplicated.now)) history c.args.calls.now c.in_ok-ids.ensures.order
