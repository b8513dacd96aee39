-- What stands under each key of the document that is written of a plan, and what it means.
use Rattle.std.proofs.Common.{◌≡◌, ℕ, ◌≤◌, ◌<◌, ◌^◌, true, false, List, [], ◌∷◌, ◌++◌, codes, Option, Some, None, refl, sym, ap, subst, ◌∙◌, le-leb, arith}
use Rattle.std.specs.Prelude.{ℤ, IfSome}
use Rattle.std.specs.Option.{option_and_then, option_map_or}
use Rattle.toml.specs.Data.{string, integer, boolean, array, Members, as_str, as_bool, items_depth, members_depth, items_have_valid_dates, members_have_valid_dates}
use Rattle.jh_env.specs.TextWritten.{edn_of_env}
use Rattle.jh_ops.specs.declared.call.Workload.{Workload}
use Rattle.jh_ops.specs.Requests.{workload_name, workload_named, max_calls_of}
use Rattle.jh_gen_texts.specs.GeneratorWritten.{edn_of_generator}
use Rattle.jh_simnode.specs.StoreNames.{store_name, store_named}
use Rattle.jh_simnode.specs.declared.database.Store.{Store}
use Rattle.jh_simnode.specs.declared.schedule.Entry.{Entry}
use Rattle.jh_simnode.specs.Plans.{PlanValue}
use Rattle.jh_settings.specs.declared.keys.Key.{Key}
use Rattle.jh_settings.specs.declared.choices.Mode.{Mode}
use Rattle.jh_settings.specs.Keys.{HasKnownKeys, data_under, is_key_name, run_keys}
use Rattle.jh_settings.specs.Kinds.{choice_in, needed_value, whole_number_in}
use Rattle.jh_settings.specs.Limits.{max_budget, max_tick_every}
use Rattle.jh_settings.specs.Parsed.{mode_of, is_register, initial_of, parsed_store, parsed_workload, parsed_clients, parsed_ops, parsed_mode, parsed_volatile, parsed_initial, parsed_tick_every, parsed_rows, parsed_seed, parsed_budget}
use Rattle.jh_settings_texts.specs.DocumentWritten.{document_of, keyed_members, members_before_initial, initial_member, members_behind_initial, printed_text, whole_number, schedule_texts, spread_texts, schedule_document}
use Rattle.jh_settings_texts.specs.declared.schedule.Spread.{Spread}

-- the document, with this held at first
abbrev pub document_with : PlanValue → ℕ → Option ℤ → Members
document_with p budget o = keyed_members (members_before_initial p budget ++ (initial_member o ++ members_behind_initial p))

module _ (p : PlanValue) (budget : ℕ) where
  known_with : (o : Option ℤ) → HasKnownKeys run_keys (document_with p budget o)
  unfolding is_key_name
  known_with None = refl
  known_with (Some z) = refl

  mode_with : (o : Option ℤ) → data_under Key.Mode (document_with p budget o) ≡ Some (string (codes "serial"))
  mode_with None = refl
  mode_with (Some z) = refl

  ops_with : (o : Option ℤ) → data_under Key.Ops (document_with p budget o) ≡ Some (whole_number p.ops)
  ops_with None = refl
  ops_with (Some z) = refl

  rows_with : (o : Option ℤ) → data_under Key.Rows (document_with p budget o) ≡ Some (whole_number p.rows)
  rows_with None = refl
  rows_with (Some z) = refl

  schedule_with : (o : Option ℤ) → data_under Key.Schedule (document_with p budget o) ≡ Some (array (schedule_texts p.env.names p.schedule))
  schedule_with None = refl
  schedule_with (Some z) = refl

  seed_with : (o : Option ℤ) → data_under Key.Seed (document_with p budget o) ≡ Some (whole_number p.seed)
  seed_with None = refl
  seed_with (Some z) = refl

  start_with : (o : Option ℤ) → data_under Key.Start (document_with p budget o) ≡ Some (printed_text (edn_of_env p.env))
  start_with None = refl
  start_with (Some z) = refl

  store_with : (o : Option ℤ) → data_under Key.Store (document_with p budget o) ≡ Some (string (store_name p.database.store))
  store_with None = refl
  store_with (Some z) = refl

  tick_every_with : (o : Option ℤ) → data_under Key.TickEvery (document_with p budget o) ≡ Some (whole_number p.tick_every)
  tick_every_with None = refl
  tick_every_with (Some z) = refl

  volatile_with : (o : Option ℤ) → data_under Key.Volatile (document_with p budget o) ≡ Some (boolean p.database.volatile)
  volatile_with None = refl
  volatile_with (Some z) = refl

  workload_with : (o : Option ℤ) → data_under Key.Workload (document_with p budget o) ≡ Some (string (workload_name p.database.workload))
  workload_with None = refl
  workload_with (Some z) = refl

  no_initial : data_under Key.Initial (document_with p budget None) ≡ None
  no_initial = refl

  some_initial : (z : ℤ) → data_under Key.Initial (document_with p budget (Some z)) ≡ Some (integer z)
  some_initial z = refl

  -- ---- what is found in the document itself

  pub known_keys : HasKnownKeys run_keys (document_of p budget)
  known_keys = known_with p.database.initial

  pub schedule_there : data_under Key.Schedule (document_of p budget) ≡ Some (array (schedule_texts p.env.names p.schedule))
  schedule_there = schedule_with p.database.initial

  pub start_there : data_under Key.Start (document_of p budget) ≡ Some (printed_text (edn_of_env p.env))
  start_there = start_with p.database.initial

  pub generator_there : data_under Key.Generator (document_of p budget) ≡ Some (printed_text (edn_of_generator p.generator))
  generator_there = refl

-- ---- what the values mean

store_back : (s : Store) → store_named (store_name s) ≡ Some s
store_back Store.Quorum = refl
store_back Store.Lww = refl
store_back Store.Local = refl

workload_back : (w : Workload) → workload_named (workload_name w) ≡ Some w
workload_back Workload.Register = refl
workload_back Workload.Counter = refl
workload_back Workload.Set = refl
workload_back Workload.Ids = refl

whole_back : (least most n : ℕ) → least ≤ n → n ≤ most → whole_number_in least most (whole_number n) ≡ Some n
whole_back least most n low high = rw (le-leb least n low, le-leb n most high) refl

initial_none : (w : Workload) → initial_of (is_register w) None ≡ Some None
initial_none Workload.Register = refl
initial_none Workload.Counter = refl
initial_none Workload.Set = refl
initial_none Workload.Ids = refl

module _ (p : PlanValue) (budget : ℕ) where
  initial_back : (w : Workload) (o : Option ℤ) → IfSome o (λ _. w ≡ Workload.Register) → initial_of (is_register w) (data_under Key.Initial (document_with p budget o)) ≡ Some o
  initial_back w None h = ap (initial_of (is_register w)) (no_initial p budget) ∙ initial_none w
  initial_back w (Some z) h = ap (initial_of (is_register w)) (some_initial p budget z) ∙ ap (λ v. initial_of (is_register v) (Some (integer z))) h

  pub store_parsed : parsed_store (document_of p budget) ≡ Some p.database.store
  store_parsed = ap (λ d. option_and_then store_named (option_and_then as_str d)) (store_with p budget p.database.initial) ∙ store_back p.database.store

  pub workload_parsed : parsed_workload (document_of p budget) ≡ Some p.database.workload
  workload_parsed = ap (λ d. option_and_then workload_named (option_and_then as_str d)) (workload_with p budget p.database.initial) ∙ workload_back p.database.workload

  pub clients_parsed : 1 ≤ p.clients → p.clients ≤ 16 → parsed_clients (document_of p budget) ≡ Some p.clients
  clients_parsed low high = whole_back 1 16 p.clients low high

  pub ops_parsed : 1 ≤ p.ops → p.ops ≤ max_calls_of p.database.workload → parsed_ops (document_of p budget) ≡ Some p.ops
  ops_parsed low high =
      ap (option_and_then (λ w. needed_value (whole_number_in 1 (max_calls_of w)) Key.Ops (document_of p budget))) workload_parsed
      ∙ ap (option_and_then (whole_number_in 1 (max_calls_of p.database.workload))) (ops_with p budget p.database.initial)
      ∙ whole_back 1 (max_calls_of p.database.workload) p.ops low high

  pub mode_parsed : parsed_mode (document_of p budget) ≡ Some Mode.Serial
  mode_parsed = ap (λ d. option_map_or (choice_in mode_of) d (Some Mode.Threads)) (mode_with p budget p.database.initial)

  pub volatile_parsed : parsed_volatile (document_of p budget) ≡ Some p.database.volatile
  volatile_parsed = ap (λ d. option_map_or as_bool d (Some false)) (volatile_with p budget p.database.initial)

  pub initial_parsed : IfSome p.database.initial (λ _. p.database.workload ≡ Workload.Register) → parsed_initial (document_of p budget) ≡ Some p.database.initial
  initial_parsed h =
      ap (option_and_then (λ w. initial_of (is_register w) (data_under Key.Initial (document_of p budget)))) workload_parsed
      ∙ initial_back p.database.workload p.database.initial h

  pub tick_every_parsed : p.tick_every ≤ max_tick_every → parsed_tick_every (document_of p budget) ≡ Some p.tick_every
  tick_every_parsed h =
      ap (λ d. option_map_or (whole_number_in 0 max_tick_every) d (Some 0)) (tick_every_with p budget p.database.initial)
      ∙ whole_back 0 max_tick_every p.tick_every (omega arith) h

  pub rows_parsed : 1 ≤ p.rows → p.rows ≤ 65536 → parsed_rows (document_of p budget) ≡ Some p.rows
  rows_parsed low high =
      ap (λ d. option_map_or (whole_number_in 1 65536) d (Some 4096)) (rows_with p budget p.database.initial)
      ∙ whole_back 1 65536 p.rows low high

  pub seed_parsed : p.seed < 2 ^ 63 → parsed_seed (document_of p budget) ≡ Some p.seed
  seed_parsed h =
      ap (λ d. option_map_or (whole_number_in 0 9223372036854775807) d (Some 0)) (seed_with p budget p.database.initial)
      ∙ whole_back 0 9223372036854775807 p.seed (omega arith) (omega (arith, h))

  pub budget_parsed : budget ≤ max_budget → parsed_budget (document_of p budget) ≡ Some budget
  budget_parsed h = whole_back 0 max_budget budget (omega arith) h

-- ---- what the printer and the reader of TOML ask

texts_depth : (names : List (List ℕ)) (spread : Option Spread) (schedule : List Entry) → items_depth (spread_texts names spread schedule) ≡ 0
texts_depth names spread [] = refl
texts_depth names spread (entry ∷ entries) = rw (texts_depth names spread entries) refl

texts_dates : (names : List (List ℕ)) (spread : Option Spread) (schedule : List Entry) → items_have_valid_dates (spread_texts names spread schedule) ≡ true
texts_dates names spread [] = refl
texts_dates names spread (entry ∷ entries) = texts_dates names spread entries

pub shallow_schedule : (names : List (List ℕ)) (spread : Option Spread) (schedule : List Entry) → members_depth (schedule_document names spread schedule) ≤ 80
shallow_schedule names spread schedule =
    let one : members_depth (schedule_document names spread schedule) ≡ 1 = rw (texts_depth names spread schedule) refl in
    subst (λ d. d ≤ 80) (sym one) (omega arith)

pub schedule_dates : (names : List (List ℕ)) (spread : Option Spread) (schedule : List Entry) → members_have_valid_dates (schedule_document names spread schedule) ≡ true
schedule_dates names spread schedule = rw (texts_dates names spread schedule) refl

module _ (p : PlanValue) (budget : ℕ) where
  depth_with : (o : Option ℤ) → members_depth (document_with p budget o) ≡ 1
  depth_with None = rw (texts_depth p.env.names None p.schedule) refl
  depth_with (Some z) = rw (texts_depth p.env.names None p.schedule) refl

  pub shallow_document : members_depth (document_of p budget) ≤ 80
  shallow_document = subst (λ d. d ≤ 80) (sym (depth_with p.database.initial)) (omega arith)

  dates_with : (o : Option ℤ) → members_have_valid_dates (document_with p budget o) ≡ true
  dates_with None = rw (texts_dates p.env.names None p.schedule) refl
  dates_with (Some z) = rw (texts_dates p.env.names None p.schedule) refl

  pub document_dates : members_have_valid_dates (document_of p budget) ≡ true
  document_dates = dates_with p.database.initial
