use Rattle.std.proofs.Common.{◌≡◌, ◌<◌, length, sym, ◌∙◌, arith, [], ◌∷◌}
use Rattle.std.specs.Prelude.{slice_get, Some, None}
use Rattle.std.proofs.lemmas.List.{map-append}
use Rattle.std.proofs.lemmas.Option.{slice_get-get_or}
use Rattle.jh_edn.specs.View.{view}
use Rattle.jh_env.specs.Faults.{Cut}
use Rattle.jh_reports.proofs.IdLemmas.{one_more_id}
use Rattle.jh_reports.proofs.lines.active_ids.Goals as goal
use Rattle.jh_reports.proofs.lines.active_ids.Goals.{in-Some+in_ok-push, in_default}

pub loop-place-preserved : goal.loop-place-preserved
loop-place-preserved c =
    elim c.match-active_at.branch [
      | in-Some+in_ok-push w ↦
          let at : slice_get c.args.nemesis.now.state.active c.loop-place.place ≡ Some (w.in-Some.id, w.in-Some.field-0-1.now) = sym w.in-Some.ensures in
          rw (w.ids-is, w.in_ok-push.ensures.items, map-append view c.loop-place.ids.items (w.id_value.result ∷ []), w.id_value.ensures, c.loop-place.invariant)
          (sym (one_more_id c.args.nemesis.now.state.active c.loop-place.place w.in-Some.id w.in-Some.field-0-1.now at))
      | in_default w ↦
          let none : slice_get c.args.nemesis.now.state.active c.loop-place.place ≡ None = sym w.in_default.ensures in
          let below : c.loop-place.place < length c.args.nemesis.now.state.active = omega (arith, c.active_len-place-end.ensures.len) in
          let some = slice_get-get_or c.args.nemesis.now.state.active c.loop-place.place (0, Cut []) below in
          absurd (let bad = sym none ∙ some in cc)
    ]
