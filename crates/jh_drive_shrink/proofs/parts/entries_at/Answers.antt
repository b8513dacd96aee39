use Rattle.std.proofs.Common.{◌≡◌, ◌<◌, get_or, length, subst, sym, arith}
use Rattle.std.proofs.lemmas.List.{length-map}
use Rattle.jh_drive_shrink.specs.PartsInside.{place_numbers}
use Rattle.jh_drive_shrink.proofs.PartLemmas.{found_more, passed_over}
use Rattle.jh_drive_shrink.proofs.parts.entries_at.Goals as goal
use Rattle.jh_drive_shrink.proofs.parts.entries_at.Goals.{then-is_next+in_ok-copy+in_ok-push, else-is_next}

pub loop-place-preserved : goal.loop-place-preserved
loop-place-preserved c =
    let xs = c.args.entries.now in
    let ps = place_numbers c.args.places.now in
    let as_many : length ps ≡ length c.args.places.now = length-map c.args.places.now (λ p. p.at) in
    elim c.if-is_next.branch [
      | then-is_next+in_ok-copy+in_ok-push w ↦
          let next = w.if-is_next.ensures in
          record {
            so_far = rw (w.part-is, w.found-is, w.in_ok-push.ensures.items)
                (found_more xs ps c.loop-place.place c.loop-place.found c.loop-place.part.items _ w.in_ok-copy.field-0 c.loop-place-test.true (subst (λ x. x ≡ get_or xs c.loop-place.place x) (sym w.in_ok-copy.ensures) w.index-entries-place.is) (subst (λ n. c.loop-place.found < n) (sym as_many) next.0, next.1) c.loop-place.invariant.so_far);
            few = omega (arith, w.found-is, next.0);
          }
      | else-is_next w ↦
          record {
            so_far = rw (w.part-is, w.found-is)
                (passed_over xs ps c.loop-place.place c.loop-place.found c.loop-place.part.items _ c.loop-place-test.true (λ some. w.if-is_next.ensures (subst (λ n. c.loop-place.found < n) as_many some)) c.loop-place.invariant.so_far);
            few = omega (arith, w.found-is, c.loop-place.invariant.few);
          }
    ]
