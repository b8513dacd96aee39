use Rattle.std.proofs.Common.{option_map}
use Rattle.std.proofs.lemmas.Result.{err_from_is_err_and}
use Rattle.toml.specs.View.{table_view}
use Rattle.jh_gen.specs.View.{generator_of}
use Rattle.jh_drive_settings.proofs.GoodLemmas.{asked_refused, pace_refused, final_calls_refused, details_refused, schedule_refused}
use Rattle.jh_drive_settings.proofs.settings.parts_of.Goals as goal

pub returns-in_err-asked : goal.returns-in_err-asked
returns-in_err-asked c =
    let refused = asked_refused (table_view c.args.table.now) c.in_err-asked.field-0.0 c.in_err-asked.ensures in
    let p = err_from_is_err_and c.from_residual.result c.from_residual.ensures.1 in
    rw (p.1, p.2) refused

pub returns-in_err-pace : goal.returns-in_err-pace
returns-in_err-pace c =
    let refused = pace_refused (table_view c.args.table.now) c.in_err-pace.field-0.0 c.in_ok-asked.asked c.in_ok-asked.ensures c.in_err-pace.ensures in
    let p = err_from_is_err_and c.from_residual-in_err-pace.result c.from_residual-in_err-pace.ensures.1 in
    rw (p.1, p.2) refused

pub returns-in_err-final_calls : goal.returns-in_err-final_calls
returns-in_err-final_calls c =
    let refused = final_calls_refused (table_view c.args.table.now) c.in_err-final_calls.field-0.0 c.in_ok-asked.asked c.in_ok-asked.ensures c.in_ok-pace.pace c.in_ok-pace.ensures c.in_err-final_calls.ensures in
    let p = err_from_is_err_and c.from_residual-in_err-final_calls.result c.from_residual-in_err-final_calls.ensures.1 in
    rw (p.1, p.2) refused

pub returns-in_err-details : goal.returns-in_err-details
returns-in_err-details c =
    let refused =
    details_refused (table_view c.args.table.now) c.in_err-details.field-0.0 c.in_ok-asked.asked c.in_ok-asked.ensures c.in_ok-pace.pace c.in_ok-pace.ensures
    (option_map generator_of c.in_ok-final_calls.final_calls) c.in_ok-final_calls.ensures c.in_err-details.ensures in
    let p = err_from_is_err_and c.from_residual-in_err-details.result c.from_residual-in_err-details.ensures.1 in
    rw (p.1, p.2) refused

pub returns-in_err-schedule : goal.returns-in_err-schedule
returns-in_err-schedule c =
    let names = rw c.nodes.ensures.names at c.in_err-schedule.ensures.parsed in
    let refused =
    schedule_refused (table_view c.args.table.now) c.in_err-schedule.field-0.0 c.in_ok-asked.asked c.in_ok-asked.ensures c.in_ok-pace.pace c.in_ok-pace.ensures
    (option_map generator_of c.in_ok-final_calls.final_calls) c.in_ok-final_calls.ensures c.in_ok-details.details c.in_ok-details.ensures names in
    let p = err_from_is_err_and c.from_residual-in_err-schedule.result c.from_residual-in_err-schedule.ensures.1 in
    rw (p.1, p.2) refused

pub returns : goal.returns
returns c = record {
  asked = c.in_ok-asked.ensures;
  pace = c.in_ok-pace.ensures;
  final_calls = c.in_ok-final_calls.ensures;
  details = c.in_ok-details.ensures;
  entries = rw c.nodes.ensures.names at c.in_ok-schedule.ensures.parsed;
  steps = rw c.nodes.ensures.names at c.in_ok-schedule.ensures.fit;
  calm = c.in_ok-asked.ensures.start.3;
}
