use Rattle.std.proofs.Common.{◌≡◌, ◌+◌, ◌<◌, Bool, true, false, eqb, length, drop, get_or, refl, sym, ap, ◌∙◌, arith}
use Rattle.std.specs.Prelude.{not}
use Rattle.std.proofs.lemmas.Str.{IsCharBoundary-start}
use Rattle.jh_edn.specs.Bytes.{line_feed, semicolon, is_space}
use Rattle.jh_edn.specs.Reading.{text_after_blank}
use Rattle.jh_edn.proofs.TextFrontLemmas.{after_some, comment_step, semicolon_step, white_step, feed_boundary, white_boundary}
use Rattle.jh_edn.proofs.scan.blank_len.Goals.{then-in_comment, else-in_comment+then-b-eq59, else-in_comment+else-b-eq59+else-not-is_space}
use Rattle.jh_edn.proofs.scan.blank_len.Goals as goal

pub loop-b-init : goal.loop-b-init
loop-b-init c = record { same = refl; boundary = λ _. IsCharBoundary-start c.as_bytes-b-items.result.now c.as_bytes-b-items.ensures.utf8; rest = refl }

pub loop-b-preserved : goal.loop-b-preserved
loop-b-preserved c =
    let s = c.as_bytes-b-items.result.now in
    let utf8 = c.as_bytes-b-items.ensures.utf8 in
    let k = c.loop-b.len in
    let same = c.loop-b.invariant.same in
    let lt : k < length s = omega (arith, same, c.loop-b-test.true) in
    let next : c.loop-b.b-index + 1 ≡ k + 1 = omega (arith, same) in
    let flag = c.if-in_comment.in_comment in
    elim c.if-in_comment.branch [
      | then-in_comment w ↦
          let is : flag ≡ not (eqb (get_or s k 0) line_feed) = rw (← same) w.in_comment-is in
          let so_far : after_some true (drop k s) ≡ text_after_blank s = rw w.if-in_comment.true at c.loop-b.invariant.rest in
          record { same = next; boundary = λ e. feed_boundary s k utf8 lt (sym is ∙ e); rest = ap (λ (b : Bool). after_some b (drop (k + 1) s)) is ∙ comment_step s k lt ∙ so_far }
      | else-in_comment+then-b-eq59 w ↦
          let byte : get_or s k 0 ≡ semicolon = rw (← same) w.if-b-eq59.true in
          let so_far : after_some false (drop k s) ≡ text_after_blank s = rw w.if-in_comment.false at c.loop-b.invariant.rest in
          record {
            same = next;
            boundary = λ e. let bad : true ≡ false = sym w.in_comment-is ∙ e in absurd cc;
            rest = ap (λ (b : Bool). after_some b (drop (k + 1) s)) w.in_comment-is ∙ semicolon_step s k lt byte ∙ so_far;
          }
      | else-in_comment+else-b-eq59+else-not-is_space w ↦
          let is : flag ≡ false = w.in_comment-is ∙ w.if-in_comment.false in
          let byte : is_space (get_or s k 0) ≡ true = rw (← same) (sym w.is_space.ensures ∙ w.if-not-is_space.false) in
          let so_far : after_some false (drop k s) ≡ text_after_blank s = rw w.if-in_comment.false at c.loop-b.invariant.rest in
          record {
            same = next;
            boundary = λ e. white_boundary s k utf8 lt byte;
            rest = ap (λ (b : Bool). after_some b (drop (k + 1) s)) is ∙ white_step s k lt byte ∙ so_far;
          }
    ]
