use Rattle.std.proofs.Common.{ℕ, length, sym, subst}
use Rattle.std.specs.Prelude.{◌↔◌}
use Rattle.jh_txn_seen.specs.Marks.{IsMarked}
use Rattle.jh_txn_seen.proofs.KnownLemmas.{longest_below}
use Rattle.jh_txn_snapshot_judge.specs.TurnsInside.{AreUntoldMarks}
use Rattle.jh_txn_snapshot_judge.specs.UntoldInside.{IsAnyUntoldAt}
use Rattle.jh_txn_snapshot_judge.proofs.UntoldLemmas.{are_untold}
use Rattle.jh_txn_snapshot_judge.proofs.verdict.judge_points.Goals as goal

pub marks_of_read-requires : goal.marks_of_read-requires
marks_of_read-requires c = longest_below c.args.txns.now (length c.args.longest.now) c.args.elements c.args.writers.now c.requires.numbered c.requires.writers c.args.reads.now c.requires.reads c.args.longest.now c.requires.longest

pub judge_in_turn-requires-clause-untold : goal.judge_in_turn-requires-clause-untold
judge_in_turn-requires-clause-untold c =
    let txns = c.args.txns.now in
    let there = c.args.there.now in
    let longest = c.args.longest.now in
    let untold = c.in_ok-untold.untold.items in
    let is : (element : ℕ) → IsMarked untold element ↔ IsAnyUntoldAt txns there c.in_ok-marks.marks.items element = subst (λ ms. (element : ℕ) → IsMarked untold element ↔ IsAnyUntoldAt txns there ms element) c.deref.ensures.value c.in_ok-untold.ensures in
    subst (AreUntoldMarks txns) (sym c.deref-2.ensures.value) (are_untold txns there c.in_ok-marks.marks.items c.args.elements c.args.writers.now c.args.reads.now longest c.requires.numbered c.requires.writers c.requires.reads c.requires.there c.requires.longest c.requires.good c.in_ok-marks.ensures.read untold is)

pub judge_in_turn-requires-else-real_time : goal.judge_in_turn-requires-else-real_time
judge_in_turn-requires-else-real_time c =
    let txns = c.args.txns.now in
    let there = c.args.there.now in
    let longest = c.args.longest.now in
    let untold = c.in_ok-untold.untold.items in
    let is : (element : ℕ) → IsMarked untold element ↔ IsAnyUntoldAt txns there c.in_ok-marks.marks.items element = subst (λ ms. (element : ℕ) → IsMarked untold element ↔ IsAnyUntoldAt txns there ms element) c.deref.ensures.value c.in_ok-untold.ensures in
    record {
      numbered = c.requires.numbered;
      ends = c.requires.ends;
      writers = c.requires.writers;
      good = c.requires.good;
      reads = c.requires.reads;
      there = c.requires.there;
      longest = c.requires.longest;
      untold = subst (AreUntoldMarks txns) (sym c.deref-else-real_time.ensures.value) (are_untold txns there c.in_ok-marks.marks.items c.args.elements c.args.writers.now c.args.reads.now longest c.requires.numbered c.requires.writers c.requires.reads c.requires.there c.requires.longest c.requires.good c.in_ok-marks.ensures.read untold is);
    }
