use Rattle.std.proofs.Common.{◌≡◌, ◌+◌, ◌<◌, ℕ, Some, length, get_or, sym, subst, ◌∙◌, arith}
use Rattle.jh_txn_seen.specs.Marks.{AddsMarks}
use Rattle.jh_txn_seen.specs.Places.{writer_place}
use Rattle.jh_txn_seen.proofs.MarkLemmas.{NumbersBelow, marks_if, marks_more, marks_none, marks_none_below, marks_set, shown_by_all}
use Rattle.jh_txn_seen.proofs.PlaceLemmas.{place_below, some_is, some_same}
use Rattle.jh_txn_seen.proofs.marks.mark_shown_by.Goals as goal
use Rattle.jh_txn_seen.proofs.marks.mark_shown_by.Goals.{in-Some, in_default}

pub bounds-there-place : goal.bounds-there-place
bounds-there-place c =
    omega (arith, place_below c.args.writers.now (length c.args.there.now) c.args.read.now.key (get_or c.args.read.now.seen.now c.loop-element.element-index 0) c.in-Some.place c.requires (sym c.in-Some.ensures), c.loop-element.auto.there)

pub loop-element-init : goal.loop-element-init
loop-element-init c = marks_none_below (λ k n. writer_place c.args.writers.now c.args.read.now.key (get_or c.args.read.now.seen.now k 0) ≡ Some n) c.args.there.now

pub loop-element-preserved : goal.loop-element-preserved
loop-element-preserved c =
    let writers = c.args.writers.now in
    let key = c.args.read.now.key in
    let seen = c.args.read.now.seen.now in
    let i = c.loop-element.element-index in
    let old = c.loop-element.there in
    let At = λ (k n : ℕ). writer_place writers key (get_or seen k 0) ≡ Some n in
    elim c.match-writer_of.branch [
      | in-Some w ↦
          let place = w.in-Some.place in
          let is : writer_place writers key (get_or seen i 0) ≡ Some place = sym w.in-Some.ensures in
          let low : place < length old = omega (arith, place_below writers (length c.args.there.now) key (get_or seen i 0) place c.requires is, c.loop-element.auto.there) in
          subst (λ new. AddsMarks (NumbersBelow At (i + 1)) c.args.there.now new) (sym w.there-is)
          (marks_more At i c.args.there.now old _ c.loop-element.invariant (marks_if (λ n. n ≡ place) (At i) old _ (λ n h. is ∙ some_is place n (sym h)) (λ n h. sym (some_same place n (sym is ∙ h))) (marks_set old place low)))
      | in_default w ↦
          subst (λ new. AddsMarks (NumbersBelow At (i + 1)) c.args.there.now new) (sym w.there-is)
          (marks_more At i c.args.there.now old old c.loop-element.invariant (marks_none (At i) old (λ n h. w.in_default.not-Some n (c.writer_of.ensures ∙ h))))
    ]

pub returns : goal.returns
returns c =
    let all : c.loop-element.element-index ≡ length c.args.read.now.seen.now = omega arith in
    shown_by_all c.args.writers.now c.args.read.now c.loop-element.element-index c.args.there.now c.loop-element.there all c.loop-element.invariant
