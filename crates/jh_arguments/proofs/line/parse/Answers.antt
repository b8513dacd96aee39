use Rattle.jh_arguments.proofs.LineLemmas.{is_asked, is_found, is_refused, line_free}
use Rattle.jh_arguments.proofs.line.parse.Goals as goal

pub returns-clause-found : goal.returns-clause-found
returns-clause-found g c =
    let line = c.in_ok-command_line.ensures.line in
    let parse = c.try_get_matches_from in
    is_found parse.result _ _ line (parse.ensures.kinds (line_free _ line)) parse.ensures.matches

pub returns-clause-refused : goal.returns-clause-refused
returns-clause-refused g c =
    let line = c.in_ok-command_line.ensures.line in
    let parse = c.try_get_matches_from in
    is_refused parse.result _ _ line (parse.ensures.kinds (line_free _ line))

pub returns-clause-asked : goal.returns-clause-asked
returns-clause-asked g c =
    let line = c.in_ok-command_line.ensures.line in
    let parse = c.try_get_matches_from in
    is_asked parse.result _ _ line (parse.ensures.kinds (line_free _ line)) parse.ensures.matches
