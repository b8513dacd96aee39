use Rattle.std.proofs.Common.{◌∷◌, ◌++◌, []}
use Rattle.std.proofs.lemmas.Result.{err_from_is_err_and}
use Rattle.toml.specs.View.{table_view}
use Rattle.jh_simnode.specs.Plans.{plan_of_data}
use Rattle.jh_settings.specs.Inside.{RefusesDocumentValues, RefusesWith, cluster_keys, data_of_parts, load_keys, number_keys}
use Rattle.jh_settings.specs.Refusals.{IsGood}
use Rattle.jh_settings.specs.declared.keys.Key.{Key}
use Rattle.jh_settings.proofs.OrderLemmas.{refused_front, refused_behind, all_refused, cluster_good, load_good, numbers_good, schedule_refused}
use Rattle.jh_settings.proofs.PlanLemmas.{AreParsedParts, planned_settings, planned_refusal}
use Rattle.jh_settings.proofs.settings.settings_in.Goals as goal

pub returns-in_err-load : goal.returns-in_err-load
returns-in_err-load c =
    let d = table_view c.args.table.now in
    let e = c.in_err-load.field-0.0 in
    let cluster = cluster_good c.in_ok-cluster.ensures in
    let load = refused_front (IsGood d) load_keys (number_keys ++ Key.Schedule ∷ []) e c.in_err-load.ensures in
    let refused : RefusesDocumentValues d e = all_refused d e (refused_behind (IsGood d) cluster_keys (load_keys ++ (number_keys ++ Key.Schedule ∷ [])) e cluster load) in
    let p = err_from_is_err_and c.from_residual-in_err-load.result c.from_residual-in_err-load.ensures.1 in
    rw (p.1, p.2) refused

pub returns-in_err-numbers : goal.returns-in_err-numbers
returns-in_err-numbers c =
    let d = table_view c.args.table.now in
    let e = c.in_err-numbers.field-0.0 in
    let numbers = refused_front (IsGood d) number_keys (Key.Schedule ∷ []) e c.in_err-numbers.ensures in
    let behind = refused_behind (IsGood d) load_keys (number_keys ++ Key.Schedule ∷ []) e (load_good c.in_ok-load.ensures) numbers in
    let refused : RefusesDocumentValues d e = all_refused d e (refused_behind (IsGood d) cluster_keys (load_keys ++ (number_keys ++ Key.Schedule ∷ [])) e (cluster_good c.in_ok-cluster.ensures) behind) in
    let p = err_from_is_err_and c.from_residual-in_err-numbers.result c.from_residual-in_err-numbers.ensures.1 in
    rw (p.1, p.2) refused

pub returns-in_err-schedule : goal.returns-in_err-schedule
returns-in_err-schedule c =
    let d = table_view c.args.table.now in
    let e = c.in_err-schedule.field-0.0 in
    let names = rw c.nodes.ensures.names at c.in_err-schedule.ensures.parsed in
    let schedule = schedule_refused d c.in_ok-cluster.cluster.environment e c.in_ok-cluster.ensures.start names in
    let numbers = refused_behind (IsGood d) number_keys (Key.Schedule ∷ []) e (numbers_good c.in_ok-numbers.ensures) schedule in
    let behind = refused_behind (IsGood d) load_keys (number_keys ++ Key.Schedule ∷ []) e (load_good c.in_ok-load.ensures) numbers in
    let refused : RefusesDocumentValues d e = all_refused d e (refused_behind (IsGood d) cluster_keys (load_keys ++ (number_keys ++ Key.Schedule ∷ [])) e (cluster_good c.in_ok-cluster.ensures) behind) in
    let p = err_from_is_err_and c.from_residual-in_err-schedule.result c.from_residual-in_err-schedule.ensures.1 in
    rw (p.1, p.2) refused

pub returns-in_err-plan : goal.returns-in_err-plan
returns-in_err-plan c =
    let d = table_view c.args.table.now in
    let e = c.in_err-plan.field-0.0 in
    let cluster = c.in_ok-cluster.cluster in
    let load = c.in_ok-load.load in
    let numbers = c.in_ok-numbers.numbers in
    let schedule = c.in_ok-schedule.schedule in
    let parsed : AreParsedParts d cluster load numbers schedule = record {
      known = c.requires;
      of_cluster = c.in_ok-cluster.ensures;
      of_load = c.in_ok-load.ensures;
      of_numbers = c.in_ok-numbers.ensures;
      of_schedule = rw c.nodes.ensures.names at c.in_ok-schedule.ensures.parsed;
      steps = rw c.nodes.ensures.names at c.in_ok-schedule.ensures.fit;
    } in
    let of_parts : RefusesWith (plan_of_data (data_of_parts cluster load numbers schedule)) e = rw c.data_of.ensures at c.in_err-plan.ensures in
    let refused = planned_refusal d cluster load numbers schedule parsed e of_parts in
    let p = err_from_is_err_and c.from_residual-in_err-plan.result c.from_residual-in_err-plan.ensures.1 in
    rw (p.1, p.2) refused

pub returns : goal.returns
returns c =
    let d = table_view c.args.table.now in
    let cluster = c.in_ok-cluster.cluster in
    let load = c.in_ok-load.load in
    let numbers = c.in_ok-numbers.numbers in
    let schedule = c.in_ok-schedule.schedule in
    let parsed : AreParsedParts d cluster load numbers schedule = record {
      known = c.requires;
      of_cluster = c.in_ok-cluster.ensures;
      of_load = c.in_ok-load.ensures;
      of_numbers = c.in_ok-numbers.ensures;
      of_schedule = rw c.nodes.ensures.names at c.in_ok-schedule.ensures.parsed;
      steps = rw c.nodes.ensures.names at c.in_ok-schedule.ensures.fit;
    } in
    planned_settings d cluster load numbers schedule parsed c.in_ok-plan.plan (rw c.data_of.ensures at c.in_ok-plan.ensures)
