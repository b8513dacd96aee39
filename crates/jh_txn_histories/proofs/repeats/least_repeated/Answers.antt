use Rattle.std.proofs.Common.{◌+◌, ◌<◌, length, take, sym, subst, arith}
use Rattle.std.proofs.lemmas.List.{take_more}
use Rattle.jh_ops.specs.Operation.{operations}
use Rattle.jh_txn_histories.specs.Histories.{IsRepeatedAt, appends_of_pairs, repeated_place}
use Rattle.jh_txn_histories.specs.ReadingInside.{AreNoted, IsLeastPlace, lesser_of_places}
use Rattle.jh_txn_histories.proofs.LeastLemmas.{least_refused, none_refused}
use Rattle.jh_txn_histories.proofs.NoteLemmas.{none_noted}
use Rattle.jh_txn_histories.proofs.repeats.least_repeated.Goals as goal

pub loop-pair-init : goal.loop-pair-init
loop-pair-init c = record {
  least = none_refused (repeated_place (operations c.args.history.now));
  noted = none_noted c.new-tables.result c.new-tables.ensures.keys c.new-tables.ensures.elements;
}

pub loop-pair-preserved : goal.loop-pair-preserved
loop-pair-preserved c =
    let history = operations c.args.history.now in
    let pairs = c.args.pairs.now in
    let l = c.loop-pair in
    let low : l.pair-index < length pairs = omega arith in
    let front = take l.pair-index pairs in
    let h = c.in_ok-note_pair.ensures front l.invariant.noted in
    record {
      least = subst (λ least. IsLeastPlace (IsRepeatedAt history (take (l.pair-index + 1) pairs)) least) (sym c.lesser-least.ensures)
          (subst (λ xs. IsLeastPlace (IsRepeatedAt history xs) (lesser_of_places l.least c.in_ok-note_pair.field-0)) (sym (take_more pairs l.pair-index _ low))
          (least_refused (repeated_place history) front _ l.least c.in_ok-note_pair.field-0 (sym h.0) l.invariant.least));
      noted = subst (λ xs. AreNoted c.note_pair.new.tables (appends_of_pairs history xs)) (sym (take_more pairs l.pair-index _ low)) h.1;
    }
