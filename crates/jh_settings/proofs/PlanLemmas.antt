-- The plan of parts that are good by themselves.
use Rattle.std.proofs.Common.{◌≡◌, ℕ, ◌≤◌, pos, ◌&&◌, nat_le, inl, inr, List, [], ◌∷◌, ◌++◌, All, length, Option, Some, None, refl, sym, ap, subst, ◌∙◌, arith}
use Rattle.std.proofs.lemmas.Bool.{cases_Bool, and_parts, leb-true, cond-true, cond-false}
use Rattle.std.proofs.lemmas.Option.{same_Some}
use Rattle.std.specs.Option.{option_and_then, option_map_or}
use Rattle.toml.specs.Data.{Data, integer, Members}
use Rattle.jh_ops.specs.declared.call.Workload.{Workload}
use Rattle.jh_nemesis.specs.Steps.{FitsNodes}
use Rattle.jh_gen.specs.View.{generator_of}
use Rattle.jh_ops.specs.Requests.{max_calls_of}
use Rattle.jh_simnode.specs.Plans.{PlanValue, IsFit, RefusesPlan, plan_of_data}
use Rattle.jh_simnode.specs.declared.plan.PlanData.{PlanData}
use Rattle.jh_simnode.specs.declared.plan.PlanError.{PlanError}
use Rattle.jh_simnode.specs.declared.schedule.Entry.{Entry}
use Rattle.jh_settings.specs.Inside.{RefusesDocumentValues, RefusesWith, IsParsedCluster, IsParsedLoad, AreParsedNumbers, data_of_parts, plan_refusal, cluster_keys, load_keys, number_keys}
use Rattle.jh_settings.specs.Keys.{HasKnownKeys, run_keys, data_under}
use Rattle.jh_settings.specs.Kinds.{whole_number_in, needed_value}
use Rattle.jh_settings.specs.Refusals.{IsGood, AreGood}
use Rattle.jh_settings.specs.Settings.{AreSettings}
use Rattle.jh_settings.specs.Parsed.{IsParsedSchedule, parsed_clients, parsed_ops, parsed_rows, parsed_workload}
use Rattle.jh_settings.specs.declared.error.SettingsError.{SettingsError}
use Rattle.jh_settings.specs.declared.keys.Key.{Key}
use Rattle.jh_settings.specs.declared.parts.Cluster.{Cluster}
use Rattle.jh_settings.specs.declared.parts.Numbers.{Numbers}
use Rattle.jh_settings.specs.declared.parts.Load.{Load}
use Rattle.jh_settings.proofs.ElementLemmas.{none_not}
use Rattle.jh_settings.proofs.OrderLemmas.{cluster_good, load_good, numbers_good, good_append}

pub whole_is : (least most : ℕ) (value : Data) (n : ℕ) → whole_number_in least most value ≡ Some n → (least ≤ n) × (n ≤ most)
whole_is least most (integer (pos m)) n e =
    elim (cases_Bool (nat_le least m && nat_le m most)) [
      | inl within ↦
          let same : m ≡ n = same_Some m n (sym (cond-true (nat_le least m && nat_le m most) (Some m) None within) ∙ e) in
          let parts = and_parts (nat_le least m) (nat_le m most) within in
          (subst (λ k. least ≤ k) same (leb-true least m parts.0), subst (λ k. k ≤ most) same (leb-true m most parts.1))
      | inr outside ↦ absurd (none_not n (sym (cond-false (nat_le least m && nat_le m most) (Some m) None outside) ∙ e))
    ]
whole_is least most _ n e = absurd (none_not n e)

pub needed_is : (least most : ℕ) (value : Option Data) (n : ℕ) → option_and_then (whole_number_in least most) value ≡ Some n → (least ≤ n) × (n ≤ most)
needed_is least most None n e = absurd (none_not n e)
needed_is least most (Some value) n e = whole_is least most value n e

-- a number within its range, or the default
pub default_is : (least most default : ℕ) (value : Option Data) (n : ℕ) → least ≤ default → default ≤ most → option_map_or (whole_number_in least most) value (Some default) ≡ Some n → (least ≤ n) × (n ≤ most)
default_is least most default None n low high e = let same : default ≡ n = same_Some default n e in (omega (arith, same), omega (arith, same))
default_is least most default (Some value) n low high e = whole_is least most value n e

pub has_clients : (document : Members) (n : ℕ) → parsed_clients document ≡ Some n → (1 ≤ n) × (n ≤ 16)
has_clients document n e = needed_is 1 16 (data_under Key.Clients document) n e

has_rows : (document : Members) (n : ℕ) → parsed_rows document ≡ Some n → (1 ≤ n) × (n ≤ 65536)
has_rows document n e = default_is 1 65536 4096 (data_under Key.Rows document) n (omega arith) (omega arith) e

has_ops : (document : Members) (workload : Workload) (n : ℕ) → parsed_workload document ≡ Some workload → parsed_ops document ≡ Some n → (1 ≤ n) × (n ≤ max_calls_of workload)
has_ops document workload n parsed e =
    let known : needed_value (whole_number_in 1 (max_calls_of workload)) Key.Ops document ≡ Some n =
    sym (ap (option_and_then (λ w. needed_value (whole_number_in 1 (max_calls_of w)) Key.Ops document)) parsed) ∙ e in
    needed_is 1 (max_calls_of workload) (data_under Key.Ops document) n known

-- what a document means under all keys
pub record AreParsedParts (document : Members) (cluster : Cluster) (load : Load) (numbers : Numbers) (schedule : List Entry) : Type 0 where
  pub known : HasKnownKeys run_keys document
  pub of_cluster : IsParsedCluster document cluster
  pub of_load : IsParsedLoad document load
  pub of_numbers : AreParsedNumbers document numbers
  pub of_schedule : IsParsedSchedule cluster.environment.names document schedule
  pub steps : All (λ entry. FitsNodes (length cluster.environment.names) entry.step) schedule

module _ (document : Members) (cluster : Cluster) (load : Load) (numbers : Numbers) (schedule : List Entry) (parsed : AreParsedParts document cluster load numbers schedule) where
  abbrev pub parts : PlanData
  parts = data_of_parts cluster load numbers schedule

  planned : IsFit (plan_of_data parts) → AreSettings document (plan_of_data parts) load.mode numbers.budget
  planned fit = record {
    known = parsed.known;
    start = parsed.of_cluster.start;
    store = parsed.of_cluster.in_store;
    workload = parsed.of_cluster.of_workload;
    generator = parsed.of_cluster.source;
    clients = parsed.of_load.by_clients;
    ops = parsed.of_load.calls;
    mode = parsed.of_load.in_mode;
    volatile = parsed.of_load.forgets;
    initial = parsed.of_load.holds;
    tick_every = parsed.of_numbers.ticks;
    rows = parsed.of_numbers.of_rows;
    seed = parsed.of_numbers.from_seed;
    budget = parsed.of_numbers.within;
    schedule = parsed.of_schedule;
    fit = fit;
  }

  all_good : AreGood (IsGood document) run_keys
  all_good =
      let last : AreGood (IsGood document) (Key.Schedule ∷ []) = ((cluster.environment, schedule, parsed.of_cluster.start, parsed.of_schedule), tt) in
      let behind_load = good_append (IsGood document) number_keys (Key.Schedule ∷ []) (numbers_good parsed.of_numbers) last in
      let behind_cluster = good_append (IsGood document) load_keys (number_keys ++ Key.Schedule ∷ []) (load_good parsed.of_load) behind_load in
      good_append (IsGood document) cluster_keys (load_keys ++ (number_keys ++ Key.Schedule ∷ [])) (cluster_good parsed.of_cluster) behind_cluster

  -- a plan of good parts is refused for its generator alone
  refused : (error : PlanError) → RefusesPlan (plan_of_data parts) error → RefusesDocumentValues document (plan_refusal error)
  refused PlanError.BadClients h = absurd (h (has_clients document load.clients parsed.of_load.by_clients))
  refused PlanError.BadOps h = absurd (h.1 (has_ops document cluster.workload load.ops parsed.of_cluster.of_workload parsed.of_load.calls))
  refused PlanError.BadRows h = absurd (h.2 (has_rows document numbers.rows parsed.of_numbers.of_rows))
  refused PlanError.BadGenerator h =
      inr (refl, (cluster.workload, load.clients, generator_of cluster.generator, all_good, parsed.of_cluster.of_workload, parsed.of_load.by_clients, parsed.of_cluster.source, h.3))
  refused PlanError.BadStep h = absurd (h.4 parsed.steps)
  refused PlanError.OutOfMemory h = tt

  -- so a plan of these parts is what the document means
  pub planned_settings : (plan : PlanValue) → (plan ≡ plan_of_data parts) × IsFit plan → AreSettings document plan load.mode numbers.budget
  planned_settings plan h = subst (λ p. AreSettings document p load.mode numbers.budget) (sym h.0) (planned (subst IsFit h.0 h.1))

  -- and why it is refused is why the document is
  pub planned_refusal : (e : SettingsError) → RefusesWith (plan_of_data parts) e → RefusesDocumentValues document e
  planned_refusal e h = subst (RefusesDocumentValues document) (sym h.2) (refused h.0 h.1)
