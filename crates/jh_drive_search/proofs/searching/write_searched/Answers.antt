use Rattle.std.proofs.Common.{inl, inr, Ok, refl, ap, subst}
use Rattle.jh_drive_search.specs.SearchInside.{HasEnded}
use Rattle.jh_drive_search.proofs.FoundLemmas.{none_so}
use Rattle.jh_drive_search.proofs.TriedLemmas.{err_matched}
use Rattle.jh_drive_search.proofs.searching.write_searched.Goals as goal

pub returns-in_err-write_failing-in-Failing : goal.returns-in_err-write_failing-in-Failing
returns-in_err-write_failing-in-Failing g c = λ judging input rest before ended.
    let failing = subst (HasEnded c.args.settings.settings.test judging c.args.options.now input rest before (g.W.Write.contents c.args.writer.now)) c.in-Failing.is ended in
    err_matched c.from_residual.result c.in_err-write_failing-in-Failing.field-0.0 _ _ c.from_residual.ensures.1
    (c.in_err-write_failing-in-Failing.ensures judging input rest before failing.0 failing.1)

pub returns-in_ok-write_failing-in-Failing : goal.returns-in_ok-write_failing-in-Failing
returns-in_ok-write_failing-in-Failing g c = λ judging input rest before ended.
    let failing = subst (HasEnded c.args.settings.settings.test judging c.args.options.now input rest before (g.W.Write.contents c.args.writer.now)) c.in-Failing.is ended in
    inl (c.in_ok-write_failing-in-Failing.ensures judging input rest before failing.0 failing.1, refl)

pub returns-in_ok-write_none-in-None : goal.returns-in_ok-write_none-in-None
returns-in_ok-write_none-in-None g c = λ judging input rest before ended.
    let s = c.args.settings.settings in
    let between = g.W.Write.contents c.args.writer.now in
    let none = subst (HasEnded s.test judging c.args.options.now input rest before between) c.in-None.is ended in
    inr (inl (c.in-None.unknown, none_so s.test judging c.args.options.now input rest before between _ s.initial s.model s.budget c.in-None.unknown none.0 none.1 c.in_ok-write_none-in-None.ensures, ap Ok c.none_status.ensures))
