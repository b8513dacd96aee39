-- The document that is written of a plan means that plan, with the faults of its schedule in order.
use Rattle.std.proofs.Common.{◌≡◌, ℕ, true, ◌*◌, ◌/◌, ◌^◌, ◌≤◌, ◌<◌, List, [], ◌∷◌, map, length, codes, Option, Some, None, refl, sym, subst, le-leb, arith}
use Rattle.std.specs.Prelude.{pos, FitsSigned, IfSome}
use Rattle.std.specs.Int.{w64}
use Rattle.std.specs.List.{AllByRecursion}
use Rattle.std.specs.Str.{IsUtf8}
use Rattle.std.proofs.Math.Nat.{div-le_self, mul-le-mul}
use Rattle.std.proofs.lemmas.List.{length-map}
use Rattle.std.proofs.lemmas.List.Elements.{All-map, All-weaker, recursion_from_All}
use Rattle.jh_edn.specs.Edn.{Edn}
use Rattle.jh_edn.specs.Print.{print}
use Rattle.jh_edn.specs.Printable.{IsPrintable}
use Rattle.jh_edn.specs.Spelling.{depth_limit, is_name}
use Rattle.jh_edn.specs.Bytes.{is_first, is_symbol, is_digit}
use Rattle.jh_edn.proofs.PrintedBackLemmas.{printed_spells}
use Rattle.jh_env.specs.Names.{AreNodeNames}
use Rattle.jh_env.specs.Overlay.{EnvValue}
use Rattle.jh_env.specs.TextLaws.{CanStart}
use Rattle.jh_env.specs.TextWritten.{edn_of_env}
use Rattle.jh_env.proofs.ApartLemmas.{links_kept, nodes_kept}
use Rattle.jh_step_texts.proofs.FaultOrderLemmas.{in_order_fits}
use Rattle.jh_nemesis.specs.Steps.{FitsNodes}
use Rattle.jh_nemesis.specs.declared.steps.Step.{Step}
use Rattle.jh_nemesis.specs.declared.steps.Step.TheVariants.{Begin, Withdraw, WithdrawAll, Undo, Redo}
use Rattle.jh_gen_texts.specs.GeneratorWritten.{edn_of_generator}
use Rattle.jh_simnode.specs.Plans.{PlanValue, IsFit}
use Rattle.jh_simnode.specs.declared.schedule.Entry.{Entry}
use Rattle.jh_settings.specs.declared.choices.Mode.{Mode}
use Rattle.jh_settings.specs.Kinds.{IsElement}
use Rattle.jh_settings.specs.Limits.{max_budget, max_due_at}
use Rattle.jh_settings.specs.Parsed.{IsParsedStart, IsParsedGenerator, IsParsedEntry, AreParsedEntries, IsParsedSchedule, IsScheduleValue}
use Rattle.jh_settings.specs.Settings.{AreSettings}
use Rattle.jh_laws.specs.StepLines.{IsStepOver, step_in_order}
use Rattle.jh_laws.proofs.EnvironmentLemmas.{environment_printable}
use Rattle.jh_laws.proofs.StepLemmas.{step_again, step_prints}
use Rattle.jh_settings_texts.specs.DocumentWritten.{document_of, printed_text, entry_value, schedule_texts, spread_value}
use Rattle.jh_settings_texts.specs.declared.schedule.Spread.{Spread}
use Rattle.jh_settings_texts.specs.SettingsWritten.{CanBeWritten, entry_in_order, plan_in_order}
use Rattle.jh_settings_texts.specs.TableInside.{IsWhollyKnown}
use Rattle.jh_settings_texts.proofs.AsciiLemmas.{HasAscii, printed_utf8, tested}
use Rattle.jh_settings_texts.proofs.NameAsciiLemmas.{names_ascii, step_ascii, environment_ascii}
use Rattle.jh_settings_texts.proofs.ShallowLemmas.{step_within}
use Rattle.jh_settings_texts.proofs.StartTextLemmas.{start_text}
use Rattle.jh_settings_texts.proofs.MemberLemmas.{known_keys, schedule_there, start_there, generator_there, store_parsed, workload_parsed, clients_parsed, ops_parsed, mode_parsed, volatile_parsed, initial_parsed, tick_every_parsed, rows_parsed, seed_parsed, budget_parsed}

-- the text that is printed of a value is that element
printed_element : (x : Edn) → IsPrintable depth_limit x → IsElement (printed_text x) x
printed_element x printable = (print x, refl, printed_spells x printable)

-- ---- the schedule

few_fits : (n : ℕ) → n ≤ 10000 → FitsSigned w64 (pos n)
few_fits n h = record { sfits = omega (arith, h) }

ms_is : is_name (codes "ms") ≡ true
unfolding is_name is_first is_symbol is_digit
ms_is = refl

-- times have 64 bits
pub time_fits : (at calls ms : ℕ) → at ≤ 10000 → 0 < calls → ms < 2 ^ 32 → FitsSigned w64 (pos (at * ms / calls))
time_fits at calls ms due some few =
    let quotient : at * ms / calls ≤ at * ms = div-le_self (at * ms) calls in
    let below : ms ≤ 2 ^ 32 = omega (arith, few) in
    let product : at * ms ≤ 10000 * 2 ^ 32 = mul-le-mul due below in
    record { sfits = omega (arith, quotient, product) }

spread_printable : (names : List (List ℕ)) → AreNodeNames names → (spread : Option Spread) → IfSome spread (λ s. 0 < s.calls) → IfSome spread (λ s. s.milliseconds < 2 ^ 32)
    → (entry : Entry) → entry.at ≤ max_due_at → IsStepOver (length names) entry.step → IsPrintable depth_limit (spread_value names spread entry)
spread_printable names named None some few entry due over =
    (omega arith, (few_fits entry.at due, (step_within names entry.step (step_prints names named entry.step over), tt)))
spread_printable names named (Some spread) some few entry due over =
    (omega arith, ((omega arith, (ms_is, (time_fits entry.at spread.calls spread.milliseconds due some few, tt))), (step_within names entry.step (step_prints names named entry.step over), tt)))

spread_ascii : (names : List (List ℕ)) → AreNodeNames names → (spread : Option Spread) (entry : Entry) → HasAscii (spread_value names spread entry)
spread_ascii names named None entry = (tt, (step_ascii names (names_ascii names named) entry.step, tt))
spread_ascii names named (Some spread) entry = ((tested (codes "ms") refl, (tt, tt)), (step_ascii names (names_ascii names named) entry.step, tt))

pub spread_utf8 : (names : List (List ℕ)) → AreNodeNames names → (spread : Option Spread) → IfSome spread (λ s. 0 < s.calls) → IfSome spread (λ s. s.milliseconds < 2 ^ 32)
    → (entry : Entry) → entry.at ≤ max_due_at → IsStepOver (length names) entry.step → IsUtf8 (print (spread_value names spread entry))
spread_utf8 names named spread some few entry due over = printed_utf8 (spread_value names spread entry) depth_limit (spread_printable names named spread some few entry due over) (spread_ascii names named spread entry)

pub entry_printable : (names : List (List ℕ)) → AreNodeNames names → (entry : Entry) → entry.at ≤ max_due_at → IsStepOver (length names) entry.step
    → IsPrintable depth_limit (entry_value names entry)
entry_printable names named entry due over =
    (omega arith, (few_fits entry.at due, (step_within names entry.step (step_prints names named entry.step over), tt)))

entry_back : (names : List (List ℕ)) → AreNodeNames names → (entry : Entry) → entry.at ≤ max_due_at → IsStepOver (length names) entry.step
    → IsParsedEntry names (printed_text (entry_value names entry)) (entry_in_order entry)
entry_back names named entry due over = (
  entry_value names entry,
  printed_element (entry_value names entry) (entry_printable names named entry due over),
  rw (le-leb entry.at 10000 due, step_again links_kept nodes_kept names named entry.step over) refl,
)

entries_back : (names : List (List ℕ)) → AreNodeNames names → (entries : List Entry) → AllByRecursion (λ entry. entry.at ≤ max_due_at) entries
    → AllByRecursion (λ entry. IsStepOver (length names) entry.step) entries → AreParsedEntries names (schedule_texts names entries) (map entry_in_order entries)
entries_back names named [] due over = tt
entries_back names named (entry ∷ entries) due over = (entry_back names named entry due.0 over.0, entries_back names named entries due.1 over.1)

step_fits : (count : ℕ) (step : Step) → FitsNodes count step → FitsNodes count (step_in_order step)
step_fits count (Begin id fault) h = in_order_fits count fault h
step_fits count (Withdraw id) h = h
step_fits count WithdrawAll h = h
step_fits count Undo h = h
step_fits count Redo h = h

-- ---- the start

pub start_utf8 : (env : EnvValue) → CanStart env → IsUtf8 (print (edn_of_env env))
start_utf8 env starts = printed_utf8 (edn_of_env env) depth_limit (environment_printable env starts) (environment_ascii env (names_ascii env.names starts.named))

-- ---- the whole

module _ (p : PlanValue) (budget : ℕ) (can : CanBeWritten p) (known : IsWhollyKnown p) where
  schedule_back : IsParsedSchedule p.env.names (document_of p budget) (map entry_in_order p.schedule)
  schedule_back =
      subst (λ d. IsScheduleValue p.env.names d (map entry_in_order p.schedule)) (sym (schedule_there p budget)) (
        entries_back p.env.names known.start.named p.schedule (recursion_from_All (λ entry. entry.at ≤ max_due_at) p.schedule can.due)
            (recursion_from_All (λ entry. IsStepOver (length p.env.names) entry.step) p.schedule known.steps),
        subst (λ n. n ≤ 1024) (sym (length-map p.schedule entry_in_order)) known.kept.few,
      )

  fit_in_order : IsFit (plan_in_order p)
  fit_in_order = record {
    clients = known.kept.fit.clients;
    ops = known.kept.fit.ops;
    rows = known.kept.fit.rows;
    generator = known.kept.fit.generator;
    steps =
        All-map (λ entry. FitsNodes (length p.env.names) entry.step) entry_in_order p.schedule
        (All-weaker (λ entry. FitsNodes (length p.env.names) entry.step) (λ entry. FitsNodes (length p.env.names) (step_in_order entry.step))
        (λ entry h. step_fits (length p.env.names) entry.step h) p.schedule known.kept.fit.steps);
  }

  start_parsed : IsParsedStart (document_of p budget) p.env
  start_parsed = (
    edn_of_env p.env,
    (printed_text (edn_of_env p.env), start_there p budget, printed_element (edn_of_env p.env) (environment_printable p.env known.start)),
    start_text p.env known.start known.kept.calm,
    known.kept.calm,
  )

  generator_parsed : IsParsedGenerator (document_of p budget) p.generator
  generator_parsed = (
    edn_of_generator p.generator,
    (printed_text (edn_of_generator p.generator), generator_there p budget, printed_element (edn_of_generator p.generator) can.generator),
    known.generator,
  )

  pub settings_back : budget ≤ max_budget → AreSettings (document_of p budget) (plan_in_order p) Mode.Serial budget
  settings_back few = record {
    known = known_keys p budget;
    start = start_parsed;
    store = store_parsed p budget;
    workload = workload_parsed p budget;
    generator = generator_parsed;
    clients = clients_parsed p budget known.kept.fit.clients.0 known.kept.fit.clients.1;
    ops = ops_parsed p budget known.kept.fit.ops.0 known.kept.fit.ops.1;
    mode = mode_parsed p budget;
    volatile = volatile_parsed p budget;
    initial = initial_parsed p budget can.initial;
    tick_every = tick_every_parsed p budget can.tick_every;
    rows = rows_parsed p budget known.kept.fit.rows.0 known.kept.fit.rows.1;
    seed = seed_parsed p budget can.seed;
    budget = budget_parsed p budget few;
    schedule = schedule_back;
    fit = fit_in_order;
  }
