use Rattle.jh_drive_search.proofs.FoundLemmas.{broken_by_others, broken_so, by_judging, searched_so, unwritten_by_others}
use Rattle.jh_drive_search.proofs.searching.search_drive.Goals as goal

pub returns-in_err-searched-clause-searched : goal.returns-in_err-searched-clause-searched
returns-in_err-searched-clause-searched g c =
    let s = c.args.settings.settings in
    by_judging s.test c.judging_of-judging.result _ c.args.options.now _ _ _ _ s.initial s.model s.budget c.from_residual.result c.judging_of-judging.ensures
    (broken_so s.test c.judging_of-judging.result c.args.options.now _ _ _ _ s.initial s.model s.budget c.from_residual.result c.in_err-searched.field-0.0 c.from_residual.ensures.1 c.in_err-searched.ensures)

pub returns-in_err-searched-clause-taken : goal.returns-in_err-searched-clause-taken
returns-in_err-searched-clause-taken g c =
    broken_by_others c.args.settings.settings.test c.judging_of-judging.result c.args.options.now _ _ _ _ c.from_residual.result c.in_err-searched.field-0.0 c.from_residual.ensures.1 c.in_err-searched.ensures

pub returns-clause-searched : goal.returns-clause-searched
returns-clause-searched g c =
    let s = c.args.settings.settings in
    by_judging s.test c.judging_of-judging.result _ c.args.options.now _ _ _ _ s.initial s.model s.budget c.write_searched.result c.judging_of-judging.ensures
    (searched_so s.test c.judging_of-judging.result c.args.options.now _ _ _ _ s.initial s.model s.budget c.write_searched.result
    (c.write_searched.ensures c.judging_of-judging.result _ _ _ c.in_ok-searched.ensures))

pub returns-clause-taken : goal.returns-clause-taken
returns-clause-taken g c =
    unwritten_by_others _ c.write_searched.result (c.write_searched.ensures c.judging_of-judging.result _ _ _ c.in_ok-searched.ensures)
