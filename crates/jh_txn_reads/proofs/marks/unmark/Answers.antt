use Rattle.std.proofs.Common.{◌<◌, false, length, get_or, set, sym, ◌∙◌, arith}
use Rattle.std.proofs.lemmas.Bool.{false≢true}
use Rattle.jh_txn.proofs.ListLemmas.{before_first}
use Rattle.jh_txn_reads.proofs.MarkLemmas.{in_turn_more, marks_less, out_of_turn}
use Rattle.jh_txn_reads.proofs.marks.unmark.Goals as goal

pub loop-element-init : goal.loop-element-init
loop-element-init c = record {
  marked = c.requires.marked;
  in_turn = λ one other previous before. before_first c.args.list.now other one before;
}

pub returns-then-is_any_marked-clause-in_turn : goal.returns-then-is_any_marked-clause-in_turn
returns-then-is_any_marked-clause-in_turn c =
    let list = c.args.list.now in
    let marks = c.loop-element.marks in
    let i = c.loop-element.element-index in
    let low : i < length list = omega arith in
    let there : get_or list i 0 < length marks = omega (arith, c.requires.below i 0 low) in
    let marked = marks_less list marks i low there c.requires.distinct c.loop-element.invariant.marked in
    out_of_turn c.args.writers.now list i low c.previous_of.result (set marks (get_or list i 0) false) c.previous_of.ensures marked (c.is_any_marked.ensures.0 c.if-is_any_marked.true)

pub loop-element-preserved : goal.loop-element-preserved
loop-element-preserved c =
    let list = c.args.list.now in
    let marks = c.loop-element.marks in
    let i = c.loop-element.element-index in
    let low : i < length list = omega arith in
    let there : get_or list i 0 < length marks = omega (arith, c.requires.below i 0 low) in
    let marked = marks_less list marks i low there c.requires.distinct c.loop-element.invariant.marked in
    record {
      marked = marked;
      in_turn = in_turn_more c.args.writers.now list i low c.requires.distinct c.previous_of.result (set marks (get_or list i 0) false) c.previous_of.ensures marked (λ h. false≢true (sym c.if-is_any_marked.false ∙ c.is_any_marked.ensures.1 h)) c.loop-element.invariant.in_turn;
    }
