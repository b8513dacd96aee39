-- What stands under the keys that say how keys are shared.
use Rattle.std.proofs.Common.{◌≡◌, ℕ, ◌≤◌, Bool, true, false, not, ◌||◌, Option, Some, None, refl, sym, ap, ◌∙◌}
use Rattle.std.specs.Prelude.{if◌then◌else◌, option_map, option_and_then, is_some}
use Rattle.std.specs.Option.{option_map_or}
use Rattle.toml.specs.Data.{Data, Members}
use Rattle.jh_settings.specs.declared.keys.Key.{Key}
use Rattle.jh_settings.specs.Keys.{data_under, is_missing}
use Rattle.jh_settings.specs.Kinds.{value_or_default, whole_number_in}
use Rattle.jh_settings.proofs.ElementLemmas.{none_not}
use Rattle.jh_settings.proofs.PlanLemmas.{default_is}
use Rattle.jh_test_parts.specs.declared.workload.TestWorkload.{TestWorkload}
use Rattle.jh_drive_settings.specs.Parsed.{parsed_test_workload, where_workload, optional_number, parsed_share, are_transactions, transaction_number}

allowed_is : {A : Type 0} (b : Bool) (parsed : Option A) (x : A) → (if b then parsed else None) ≡ Some x → parsed ≡ Some x
allowed_is true parsed x e = e
allowed_is false parsed x e = absurd (none_not x e)

pub where_is : {A : Type 0} (may : TestWorkload → Bool) (key : Key) (document : Members) (parsed : Option A) (x : A) (workload : TestWorkload) → parsed_test_workload document ≡ Some workload → where_workload may key document parsed ≡ Some x → parsed ≡ Some x
where_is may key document parsed x workload is e =
    allowed_is (may workload || is_missing document key) parsed x (
    sym (ap (option_and_then (λ (t : TestWorkload). if may t || is_missing document key then parsed else None)) is) ∙ e
    )

some_not_none : (o : Option ℕ) → option_map Some o ≡ Some None → ⊥
some_not_none None e = none_not None e
some_not_none (Some n) e = cc

nothing_there : (least most : ℕ) (value : Option Data) → option_map_or (λ v. option_map Some (whole_number_in least most v)) value (Some None) ≡ Some None → not (is_some value) ≡ true
nothing_there least most None e = refl
nothing_there least most (Some v) e = absurd (some_not_none (whole_number_in least most v) e)

something_there : (least most : ℕ) (value : Option Data) (n : ℕ) → option_map_or (λ v. option_map Some (whole_number_in least most v)) value (Some None) ≡ Some (Some n) → not (is_some value) ≡ false
something_there least most None n e = cc
something_there least most (Some v) n e = refl

module _ (most : ℕ) (key : Key) (document : Members) (workload : TestWorkload) (is : parsed_test_workload document ≡ Some workload) where
  number_is : (o : Option ℕ) → parsed_share most key document ≡ Some o → optional_number 1 most key document ≡ Some o
  number_is o e = where_is (λ t. not (are_transactions t)) key document (optional_number 1 most key document) o workload is e

  pub share_missing : parsed_share most key document ≡ Some None → is_missing document key ≡ true
  share_missing e = nothing_there 1 most (data_under key document) (number_is None e)

  pub share_there : (n : ℕ) → parsed_share most key document ≡ Some (Some n) → is_missing document key ≡ false
  share_there n e = something_there 1 most (data_under key document) n (number_is (Some n) e)

-- a number by which transactions are made is in its range
pub number_between : (default most : ℕ) (key : Key) (document : Members) (workload : TestWorkload) → parsed_test_workload document ≡ Some workload → (n : ℕ) → 1 ≤ default → default ≤ most → transaction_number default most key document ≡ Some n
    → (1 ≤ n) × (n ≤ most)
number_between default most key document workload is n low high e =
    default_is 1 most default (data_under key document) n low high
    (where_is are_transactions key document (value_or_default default (whole_number_in 1 most) key document) n workload is e)
