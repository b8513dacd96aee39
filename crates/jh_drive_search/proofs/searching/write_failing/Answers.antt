use Rattle.jh_drive_search.proofs.FoundLemmas.{found_report, found_so, found_text, match_map, means_candidate}
use Rattle.jh_drive_search.proofs.searching.write_failing.Goals as goal

pub write_found-requires-clause-written : goal.write_found-requires-clause-written
write_found-requires-clause-written g c =
    c.in_ok-candidate.ensures.written (c.time_limits_are_writable.ensures _ _ _ _ _ c.requires.means.0) c.requires.means.1

pub returns : goal.returns
returns g c = λ judging input rest before invalid failing.
    let s = c.args.settings in
    let o = c.args.options.now in
    let last = c.args.trial.now in
    let between = g.W.Write.contents c.args.writer.now in
    let text = found_text s.settings.test judging o input rest before between c.args.number last c.args.judged.now.text.items failing c.conversation.result.now c.args.judged.now.status c.conversation.ensures invalid in
    let report = c.in_ok-write_test_report.ensures judging text in
    let reported = found_report s.settings.test judging o input rest before last c.conversation.result.now c.args.judged.now.status report.0 c.conversation.ensures invalid report.1 in
    match_map c.write_found.result _ _ _ c.write_found.ensures (λ _ it.
    found_so s.settings.test judging o input rest before between _ s.settings.initial s.settings.model s.settings.budget c.args.number last c.args.judged.now.text.items report.0 it.0 _ failing reported report.2 it.1
    (means_candidate _ s.settings.test o.palette o.faults c.args.number c.in_ok-candidate.candidate it.0 s.settings.initial s.settings.model s.settings.budget c.in_ok-candidate.ensures.candidate c.in_ok-candidate.ensures.read_back c.requires.means.0 it.2))
