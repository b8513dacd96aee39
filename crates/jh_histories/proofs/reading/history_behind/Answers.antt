use Rattle.std.proofs.Common.{◌++◌, ◌∷◌, []}
use Rattle.std.proofs.lemmas.Result.{err_from_is_err_and}
use Rattle.jh_edn.specs.View.{view}
use Rattle.jh_histories.proofs.FirstValuesLemmas.{each_begun, one_further, text_refused, history_read, history_refused, still_several}
use Rattle.jh_histories.proofs.ParsingLemmas.{several_elements}
use Rattle.jh_histories.proofs.reading.history_behind.Goals as goal

pub values-init : goal.values-init
values-init c =
    let so_far = c.requires.begun in
    record {
      boundary = c.requires.boundary;
      begun = (so_far.0, so_far.1, each_begun c.args.text.now so_far.0 c.args.at so_far.2, so_far.3);
    }

pub returns-in_err-value-clause-refused : goal.returns-in_err-value-clause-refused
returns-in_err-value-clause-refused c =
    let p = err_from_is_err_and c.from_residual.result c.from_residual.ensures.1 in
    let text = c.args.text.now in
    let so_far = c.values.invariant.begun in
    rw (p.1, p.2) (text_refused text so_far.0 c.values.at c.in_err-value.field-0.0 c.utf8.text so_far.2 c.in_err-value.ensures.refused c.in_err-value.ensures.first_error)

pub values-preserved : goal.values-preserved
values-preserved c =
    let text = c.args.text.now in
    let so_far = c.values.invariant.begun in
    let value = view c.in-Some.value in
    let place = rw c.in-Some.is at c.in_ok-value.ensures.place in
    record {
      boundary = place.1;
      begun = (
        so_far.0 ++ value ∷ [],
        still_several so_far.0 value so_far.1,
        one_further text so_far.0 c.values.at value c.in-Some.end so_far.2 (rw c.in-Some.is at c.in_ok-value.ensures.some),
        c.in_ok-take.ensures so_far.0 so_far.3,
      );
    }

pub returns-in_err-history-clause-refused : goal.returns-in_err-history-clause-refused
returns-in_err-history-clause-refused c =
    let p = err_from_is_err_and c.from_residual-in_err-history.result c.from_residual-in_err-history.ensures.1 in
    let text = c.args.text.now in
    let so_far = c.values.invariant.begun in
    let gap = rw c.in_default.is at c.in_ok-value.ensures.none in
    let refusal = c.in_err-history.field-0.0 in
    let are = several_elements so_far.0 so_far.1 in
    rw (p.1, p.2) (history_refused text so_far.0 so_far.0 c.values.at c.values.parsing refusal c.utf8.text are so_far.2 gap c.in_err-history.ensures.parsed so_far.3)

pub returns-clause-parsed : goal.returns-clause-parsed
returns-clause-parsed c =
    let text = c.args.text.now in
    let so_far = c.values.invariant.begun in
    let gap = rw c.in_default.is at c.in_ok-value.ensures.none in
    let parsed = c.in_ok-history.ensures.parsed in
    let are = several_elements so_far.0 so_far.1 in
    rw parsed.1 (history_read text so_far.0 so_far.0 c.values.at c.values.parsing c.utf8.text are so_far.2 gap parsed.0 so_far.3)
