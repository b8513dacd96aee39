-- Bytes mean one run: each part of a plan is parsed in one way, and the cells of its start for each link and node.
use Rattle.std.proofs.Common.{◌≡◌, ℕ, List, [], ◌∷◌, refl, sym, ap, subst, ◌∙◌}
use Rattle.std.specs.Prelude.{Option, Some, None}
use Rattle.std.proofs.lemmas.Option.{same_Some}
use Rattle.toml.specs.Data.{Data, array, Items, no_items, item, Members}
use Rattle.jh_edn.specs.Edn.{Edn}
use Rattle.jh_env.specs.Cells.{Table}
use Rattle.jh_env.specs.Overlay.{EnvValue}
use Rattle.jh_env.specs.TextCells.{SpellsEnv}
use Rattle.jh_env.specs.TextLaws.{AreSameCells}
use Rattle.jh_gen.specs.Generator.{Generator}
use Rattle.jh_gen.specs.GeneratorText.{parsed_generator}
use Rattle.jh_settings.specs.declared.keys.Key.{Key}
use Rattle.jh_settings.specs.declared.choices.Mode.{Mode}
use Rattle.jh_settings.specs.Keys.{IsDocument, data_under}
use Rattle.jh_settings.specs.Settings.{AreSettings}
use Rattle.jh_settings.specs.Parsed.{IsScheduleValue, AreParsedEntries, IsParsedEntry, IsParsedGenerator, IsParsedStart, parsed_entry}
use Rattle.jh_settings.proofs.ElementLemmas.{element_once, held_once}
use Rattle.jh_simnode.specs.declared.schedule.Entry.{Entry}
use Rattle.jh_simnode.specs.Plans.{PlanValue}
use Rattle.jh_simnode.specs.Runs.{HasOneRun, IsSerialRun}
use Rattle.jh_run_laws.specs.SameSettings.{SameSettingsGiveSameRun}
use Rattle.jh_run_laws.proofs.StartLemmas.{serial_with, with_env}

-- a text means one environment, cell by cell
abbrev pub TellsOne : Type 0
TellsOne = (value : Edn) (names others : List (List ℕ)) (cells more : Table) → SpellsEnv value names cells → SpellsEnv value others more → (others ≡ names) × AreSameCells cells more

one_document : (bytes : List ℕ) (d e : Members) → IsDocument bytes d → IsDocument bytes e → e ≡ d
one_document bytes d e h k = same_Some e d (sym k.1 ∙ h.1)

one_start : TellsOne → (d : Members) (env other : EnvValue) → IsParsedStart d env → IsParsedStart d other → (other.names ≡ env.names) × AreSameCells env.start other.start
one_start decides d env other h k =
    let same : k.0 ≡ h.0 = held_once Key.Start d k.0 h.0 k.1 h.1 in
    decides h.0 env.names other.names env.start other.start h.2 (subst (λ (x : Edn). SpellsEnv x other.names other.start) same k.2)

one_generator : (d : Members) (g f : Generator) → IsParsedGenerator d g → IsParsedGenerator d f → g ≡ f
one_generator d g f h k =
    same_Some g f (sym h.2 ∙ ap parsed_generator (held_once Key.Generator d h.0 k.0 h.1 k.1) ∙ k.2)

one_entry : (names : List (List ℕ)) (value : Data) (e f : Entry) → IsParsedEntry names value e → IsParsedEntry names value f → e ≡ f
one_entry names value e f h k = same_Some e f (sym h.2 ∙ ap (parsed_entry names) (element_once value h.0 k.0 h.1 k.1) ∙ k.2)

one_list : (names : List (List ℕ)) (values : Items) (es fs : List Entry) → AreParsedEntries names values es → AreParsedEntries names values fs → es ≡ fs
one_list names no_items [] [] h k = refl
one_list names no_items [] (f ∷ fs) h k = absurd k
one_list names no_items (e ∷ es) fs h k = absurd h
one_list names (item value values) [] fs h k = absurd h
one_list names (item value values) (e ∷ es) [] h k = absurd k
one_list names (item value values) (e ∷ es) (f ∷ fs) h k =
    let first = one_entry names value e f h.0 k.0 in
    let rest = one_list names values es fs h.1 k.1 in
    λ i. first i ∷ rest i

one_schedule : (names : List (List ℕ)) (o : Option Data) (es fs : List Entry) → IsScheduleValue names o es → IsScheduleValue names o fs → es ≡ fs
one_schedule names None es fs h k = h ∙ sym k
one_schedule names (Some (array values)) es fs h k = one_list names values es fs h.0 k.0
one_schedule names (Some value) es fs h k = absurd h

-- two plans of one document are one, but for how their start is kept
one_plan : (d : Members) (p q : PlanValue) (mode other : Mode) (budget another : ℕ) → AreSettings d p mode budget → AreSettings d q other another → q.env.names ≡ p.env.names → with_env p q.env ≡ q
one_plan d p q mode other budget another a b named =
    let store = same_Some p.database.store q.database.store (sym a.store ∙ b.store) in
    let volatile = same_Some p.database.volatile q.database.volatile (sym a.volatile ∙ b.volatile) in
    let workload = same_Some p.database.workload q.database.workload (sym a.workload ∙ b.workload) in
    let initial = same_Some p.database.initial q.database.initial (sym a.initial ∙ b.initial) in
    let clients = same_Some p.clients q.clients (sym a.clients ∙ b.clients) in
    let ops = same_Some p.ops q.ops (sym a.ops ∙ b.ops) in
    let generator = one_generator d p.generator q.generator a.generator b.generator in
    let schedule = one_schedule p.env.names (data_under Key.Schedule d) p.schedule q.schedule a.schedule (subst (λ (names : List (List ℕ)). IsScheduleValue names (data_under Key.Schedule d) q.schedule) named b.schedule) in
    let tick_every = same_Some p.tick_every q.tick_every (sym a.tick_every ∙ b.tick_every) in
    let rows = same_Some p.rows q.rows (sym a.rows ∙ b.rows) in
    let seed = same_Some p.seed q.seed (sym a.seed ∙ b.seed) in
    λ i. record {
      env = q.env;
      database = record { store = store i; volatile = volatile i; workload = workload i; initial = initial i };
      clients = clients i;
      ops = ops i;
      generator = generator i;
      schedule = schedule i;
      tick_every = tick_every i;
      rows = rows i;
      seed = seed i;
    }

pub same_run : TellsOne → HasOneRun → SameSettingsGiveSameRun
same_run decides once bytes p q mode other budget another ja jb ha hb h k run again =
    let d = h.0 in
    let b : AreSettings d q other another = subst (λ (e : Members). AreSettings e q other another) (one_document bytes d k.0 h.1 k.1) k.2 in
    let a = h.2 in
    let start = one_start decides d p.env q.env a.start b.start in
    let moved = subst (λ (r : PlanValue). IsSerialRun r ja ha) (one_plan d p q mode other budget another a b start.0) (serial_with p q.env start.0 start.1 ja ha run) in
    let same = once q ja jb ha hb moved again in
    (same_Some mode other (sym a.mode ∙ b.mode), same_Some budget another (sym a.budget ∙ b.budget), same.0, same.1)
