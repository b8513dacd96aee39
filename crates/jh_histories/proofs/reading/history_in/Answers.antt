use Rattle.std.proofs.Common.{◌<◌, List, [], ◌∷◌, length, refl, arith}
use Rattle.std.proofs.lemmas.Result.{err_from_is_err_and}
use Rattle.std.proofs.lemmas.Str.{IsCharBoundary-start}
use Rattle.jh_edn.specs.Edn.{Edn}
use Rattle.jh_edn.specs.View.{view}
use Rattle.jh_histories.proofs.FirstValuesLemmas.{at_start, one_further, text_refused, history_read, history_refused}
use Rattle.jh_histories.proofs.ParsingLemmas.{sequence_parsed}
use Rattle.jh_histories.proofs.reading.history_in.Goals as goal

pub read_sequence-requires : goal.read_sequence-requires
read_sequence-requires c = IsCharBoundary-start c.args.text.now c.utf8.text

pub returns-in_err-end-clause-refused : goal.returns-in_err-end-clause-refused
returns-in_err-end-clause-refused c =
    let p = err_from_is_err_and c.from_residual.result c.from_residual.ensures.1 in
    let text = c.args.text.now in
    rw (p.1, p.2) (text_refused text [] 0 c.in_err-end.field-0.0 c.utf8.text (at_start text 0 refl) c.in_err-end.ensures.refused c.in_err-end.ensures.first_error)

pub returns-in_err-second-clause-refused : goal.returns-in_err-second-clause-refused
returns-in_err-second-clause-refused c =
    let p = err_from_is_err_and c.from_residual-in_err-second.result c.from_residual-in_err-second.ensures.1 in
    let text = c.args.text.now in
    let q = rw c.in-Some.is at c.in_ok-end.ensures.some in
    let begun = one_further text [] 0 q.0 c.in-Some.end (at_start text 0 refl) q.2 in
    rw (p.1, p.2) (text_refused text (q.0 ∷ []) c.in-Some.end c.in_err-second.field-0.0 c.utf8.text begun c.in_err-second.ensures.refused c.in_err-second.ensures.first_error)

pub returns-in_err-history-clause-refused : goal.returns-in_err-history-clause-refused
returns-in_err-history-clause-refused c =
    let p = err_from_is_err_and c.from_residual-in_err-history.result c.from_residual-in_err-history.ensures.1 in
    let text = c.args.text.now in
    let q = rw c.in-Some.is at c.in_ok-end.ensures.some in
    let begun = one_further text [] 0 q.0 c.in-Some.end (at_start text 0 refl) q.2 in
    let parsed = q.4 [] c.new-parsing.ensures in
    let gap = rw c.in_default-2.is at c.in_ok-second.ensures.none in
    let are = (sequence_parsed q.0 q.1 q.3).0 in
    rw (p.1, p.2) (history_refused text (q.0 ∷ []) q.1 c.in-Some.end c.read_sequence.new.sink c.in_err-history.field-0.0 c.utf8.text are begun gap c.in_err-history.ensures.parsed parsed)

pub returns-in_default-2-clause-parsed : goal.returns-in_default-2-clause-parsed
returns-in_default-2-clause-parsed c =
    let text = c.args.text.now in
    let q = rw c.in-Some.is at c.in_ok-end.ensures.some in
    let begun = one_further text [] 0 q.0 c.in-Some.end (at_start text 0 refl) q.2 in
    let so_far = q.4 [] c.new-parsing.ensures in
    let gap = rw c.in_default-2.is at c.in_ok-second.ensures.none in
    let are = (sequence_parsed q.0 q.1 q.3).0 in
    let parsed = c.in_ok-history.ensures.parsed in
    rw parsed.1 (history_read text (q.0 ∷ []) q.1 c.in-Some.end c.read_sequence.new.sink c.utf8.text are begun gap parsed.0 so_far)

pub returns-in_default-2-clause-writable : goal.returns-in_default-2-clause-writable
returns-in_default-2-clause-writable c =
    let q = rw c.in-Some.is at c.in_ok-end.ensures.some in
    let so_far = q.4 [] c.new-parsing.ensures in
    let parsed = c.in_ok-history.ensures.parsed in
    rw parsed.1 so_far.1

pub history_behind-requires-clause-begun : goal.history_behind-requires-clause-begun
history_behind-requires-clause-begun c =
    let q = rw c.in-Some.is at c.in_ok-end.ensures.some in
    let second = view c.in-Some-2.second in
    let both : List Edn = q.0 ∷ second ∷ [] in
    let several : 1 < length both = omega arith in
    let other = rw c.in-Some-2.is at c.in_ok-second.ensures.some in
    (both, several, (c.in-Some.end, q.2, (c.in-Some-2.at, other, refl)), c.in_ok-take.ensures (q.0 ∷ []) (c.of_sequence-parsing.ensures q.0 (q.1, q.3)))
