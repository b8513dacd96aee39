use Rattle.std.proofs.Common.{◌<◌, List, [], ◌∷◌, length, refl, arith}
use Rattle.std.proofs.lemmas.Result.{err_from_is_err_and}
use Rattle.std.proofs.lemmas.Str.{IsCharBoundary-start}
use Rattle.jh_edn.specs.Edn.{Edn}
use Rattle.jh_edn.specs.View.{view}
use Rattle.jh_histories.proofs.FirstValuesLemmas.{at_start, one_further, text_refused, one_read_refused}
use Rattle.jh_histories.proofs.reading.history_of_values.Goals as goal

pub read_one-requires : goal.read_one-requires
read_one-requires c = IsCharBoundary-start c.args.text.now c.utf8.text

pub returns-in_err-first-clause-refused : goal.returns-in_err-first-clause-refused
returns-in_err-first-clause-refused c =
    let p = err_from_is_err_and c.from_residual.result c.from_residual.ensures.1 in
    let text = c.args.text.now in
    rw (p.1, p.2) (text_refused text [] 0 c.in_err-first.field-0.0 c.utf8.text (at_start text 0 refl) c.in_err-first.ensures.refused c.in_err-first.ensures.first_error)

pub returns-in_err-second-clause-refused : goal.returns-in_err-second-clause-refused
returns-in_err-second-clause-refused c =
    let p = err_from_is_err_and c.from_residual-in_err-second.result c.from_residual-in_err-second.ensures.1 in
    let text = c.args.text.now in
    let first = view c.in-Some.first in
    let begun = one_further text [] 0 first c.in-Some.end (at_start text 0 refl) (rw c.in-Some.is at c.in_ok-first.ensures.some) in
    rw (p.1, p.2) (text_refused text (first ∷ []) c.in-Some.end c.in_err-second.field-0.0 c.utf8.text begun c.in_err-second.ensures.refused c.in_err-second.ensures.first_error)

pub returns-in_err-history_of_one-clause-refused : goal.returns-in_err-history_of_one-clause-refused
returns-in_err-history_of_one-clause-refused c =
    let p = err_from_is_err_and c.from_residual-in_err-history_of_one.result c.from_residual-in_err-history_of_one.ensures.1 in
    let text = c.args.text.now in
    let first = view c.in-Some.first in
    let begun = one_further text [] 0 first c.in-Some.end (at_start text 0 refl) (rw c.in-Some.is at c.in_ok-first.ensures.some) in
    let gap = rw c.in_default-2.is at c.in_ok-second.ensures.none in
    rw (p.1, p.2) (one_read_refused text first c.in-Some.end c.in_err-history_of_one.field-0.0 c.utf8.text begun gap c.in_err-history_of_one.ensures.parsed)

pub returns-in_default-2-clause-parsed : goal.returns-in_default-2-clause-parsed
returns-in_default-2-clause-parsed c =
    let text = c.args.text.now in
    let first = view c.in-Some.first in
    let begun = one_further text [] 0 first c.in-Some.end (at_start text 0 refl) (rw c.in-Some.is at c.in_ok-first.ensures.some) in
    let gap = rw c.in_default-2.is at c.in_ok-second.ensures.none in
    (first ∷ [], (c.utf8.text, begun.before [] gap), c.in_ok-history_of_one.ensures.parsed)

pub history_behind-requires-clause-begun : goal.history_behind-requires-clause-begun
history_behind-requires-clause-begun c =
    let first = view c.in-Some.first in
    let second = view c.in-Some-2.second in
    let both : List Edn = first ∷ second ∷ [] in
    let several : 1 < length both = omega arith in
    let one = rw c.in-Some.is at c.in_ok-first.ensures.some in
    let other = rw c.in-Some-2.is at c.in_ok-second.ensures.some in
    (both, several, (c.in-Some.end, one, (c.in-Some-2.end, other, refl)), c.in_ok-take-2.ensures (first ∷ []) (c.in_ok-take.ensures [] c.new-parsing.ensures))
