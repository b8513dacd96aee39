-- A document with another seed and another schedule means what it meant under every other key.
use Rattle.std.proofs.Common.{◌≡◌, ℕ, Bool, false, Option, Some, None, refl, ap, ap₂, ◌∙◌}
use Rattle.std.specs.Option.{option_and_then, option_map_or}
use Rattle.std.specs.Prelude.{◌||◌, not, is_some, if◌then◌else◌, option_map}
use Rattle.toml.specs.Data.{Data, Members, as_str, same_key}
use Rattle.jh_edn.specs.Edn.{Edn}
use Rattle.jh_env.specs.Overlay.{EnvValue}
use Rattle.jh_gen.specs.Generator.{Generator}
use Rattle.jh_checkers.specs.Models.{model_named}
use Rattle.jh_settings.specs.declared.keys.Key.{Key}
use Rattle.jh_settings.specs.Keys.{data_under, key_name}
use Rattle.jh_settings.specs.Kinds.{HoldsElement, choice_in, whole_number_in}
use Rattle.jh_settings.specs.Parsed.{IsGeneratorUnder, IsParsedStart, initial_of, parsed_budget, parsed_clients}
use Rattle.jh_test_parts.specs.Workloads.{test_workload_named}
use Rattle.jh_test_parts.specs.declared.workload.TestWorkload.{TestWorkload}
use Rattle.jh_txn.specs.declared.model.ConsistencyModel.{ConsistencyModel}
use Rattle.jh_drive_settings.specs.Parsed.{IsParsedFinal, are_transactions, is_register_workload, parsed_model, parsed_rate, parsed_recovery, parsed_share, parsed_test_initial, parsed_test_ops, parsed_test_workload, parsed_time_limit, transaction_number, where_workload}

-- the same stands under each key but `seed` and `schedule`
abbrev pub IsSameElsewhere : Members → Members → Type 0
IsSameElsewhere old new =
    (key : Key) → same_key (key_name key) (key_name Key.Seed) ≡ false → same_key (key_name key) (key_name Key.Schedule) ≡ false → data_under key new ≡ data_under key old

module _ (old new : Members) (same : IsSameElsewhere old new) where
  held_kept : (key : Key) (x : Edn) → same_key (key_name key) (key_name Key.Seed) ≡ false → same_key (key_name key) (key_name Key.Schedule) ≡ false → HoldsElement key old x → HoldsElement key new x
  held_kept key x no_seed no_schedule held = (held.0, same key no_seed no_schedule ∙ held.1, held.2)

  pub start_kept : (env : EnvValue) → IsParsedStart old env → IsParsedStart new env
  start_kept env h = (h.0, held_kept Key.Start h.0 refl refl h.1, h.2, h.3)

  pub generator_kept : (g : Generator) → IsGeneratorUnder Key.Generator old g → IsGeneratorUnder Key.Generator new g
  generator_kept g h = (h.0, held_kept Key.Generator h.0 refl refl h.1, h.2)

  pub final_kept : (g : Option Generator) → IsParsedFinal old g → IsParsedFinal new g
  final_kept None h = ap (λ (o : Option Data). not (is_some o)) (same Key.Final refl refl) ∙ h
  final_kept (Some g) h = (h.0, held_kept Key.Final h.0 refl refl h.1, h.2)

  pub workload_kept : parsed_test_workload new ≡ parsed_test_workload old
  workload_kept = ap (λ o. option_and_then test_workload_named (option_and_then as_str o)) (same Key.Workload refl refl)

  pub clients_kept : parsed_clients new ≡ parsed_clients old
  clients_kept = ap (option_and_then (whole_number_in 1 16)) (same Key.Clients refl refl)

  pub ops_kept : parsed_test_ops new ≡ parsed_test_ops old
  ops_kept = ap (option_and_then (whole_number_in 1 1000000)) (same Key.Ops refl refl)

  pub time_limit_kept : parsed_time_limit new ≡ parsed_time_limit old
  time_limit_kept = ap (λ o. option_map_or (λ d. option_map Some (whole_number_in 1 86400000 d)) o (Some None)) (same Key.TimeLimit refl refl)

  pub rate_kept : parsed_rate new ≡ parsed_rate old
  rate_kept = ap (λ o. option_map_or (λ d. option_map Some (whole_number_in 1 1000000 d)) o (Some None)) (same Key.Rate refl refl)

  pub recovery_kept : parsed_recovery new ≡ parsed_recovery old
  recovery_kept = ap (λ o. option_map_or (whole_number_in 0 3600000) o (Some 0)) (same Key.Recovery refl refl)

  pub budget_kept : parsed_budget new ≡ parsed_budget old
  budget_kept = ap (λ o. option_map_or (whole_number_in 0 10000000) o (Some 100000)) (same Key.Budget refl refl)

  pub initial_kept : parsed_test_initial new ≡ parsed_test_initial old
  initial_kept = ap₂ (λ w o. option_and_then (λ (t : TestWorkload). initial_of (is_register_workload t) o) w) workload_kept (same Key.Initial refl refl)

  -- what may stand of some databases alone
  where_kept : {A : Type 0} (may : TestWorkload → Bool) (parse : Option Data → Option A) (key : Key) → same_key (key_name key) (key_name Key.Seed) ≡ false → same_key (key_name key) (key_name Key.Schedule) ≡ false
      → where_workload may key new (parse (data_under key new)) ≡ where_workload may key old (parse (data_under key old))
  where_kept may parse key no_seed no_schedule =
      ap₂ (λ w o. option_and_then (λ (t : TestWorkload). if may t || not (is_some o) then parse o else None) w) workload_kept (same key no_seed no_schedule)

  pub share_kept : (most : ℕ) (key : Key) → same_key (key_name key) (key_name Key.Seed) ≡ false → same_key (key_name key) (key_name Key.Schedule) ≡ false → parsed_share most key new ≡ parsed_share most key old
  share_kept most key no_seed no_schedule =
      where_kept (λ t. not (are_transactions t)) (λ o. option_map_or (λ d. option_map Some (whole_number_in 1 most d)) o (Some None)) key no_seed no_schedule

  pub number_kept : (default most : ℕ) (key : Key) → same_key (key_name key) (key_name Key.Seed) ≡ false → same_key (key_name key) (key_name Key.Schedule) ≡ false
      → transaction_number default most key new ≡ transaction_number default most key old
  number_kept default most key no_seed no_schedule =
      where_kept are_transactions (λ o. option_map_or (whole_number_in 1 most) o (Some default)) key no_seed no_schedule

  pub model_kept : parsed_model new ≡ parsed_model old
  model_kept = where_kept are_transactions (λ o. option_map_or (choice_in model_named) o (Some ConsistencyModel.StrictSerializable)) Key.Model refl refl
