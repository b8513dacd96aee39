-- What the settings of a test have under their keys is plain: texts, whole numbers, and an array of texts.
use Rattle.std.proofs.Common.{◌≡◌, ℕ, ◌≤◌, Bool, true, false, List, [], ◌∷◌, Option, Some, None, inl, inr, refl, sym, ap, subst, ◌∙◌, arith}
use Rattle.std.proofs.lemmas.Bool.{false≢true, cases_Bool}
use Rattle.std.proofs.lemmas.Option.{same_Some}
use Rattle.std.proofs.lemmas.Slice.Eq.{bytes_eq-Decides}
use Rattle.std.specs.List.{AllByRecursion, list_any}
use Rattle.std.specs.Option.{option_and_then, option_map_or}
use Rattle.std.specs.Prelude.{ℤ, ◌||◌, not, is_some, option_map}
use Rattle.std.specs.Str.{bytes_eq}
use Rattle.toml.specs.Data.{Data, string, integer, array, Items, no_items, item, Members, as_str, as_integer, get_member, depth, has_valid_dates, items_depth, items_have_valid_dates}
use Rattle.jh_edn.specs.Edn.{Edn}
use Rattle.jh_gen.specs.Generator.{Generator}
use Rattle.jh_checkers.specs.Models.{model_named}
use Rattle.jh_settings.specs.declared.keys.Key.{Key}
use Rattle.jh_settings.specs.Keys.{data_under, drive_keys, is_key_name, key_name}
use Rattle.jh_settings.specs.Kinds.{HoldsElement, choice_in, text_under, value_or_default, whole_number_in}
use Rattle.jh_settings.specs.Parsed.{AreEach, IsMeant, IsScheduleOf, initial_of}
use Rattle.jh_settings.proofs.ElementLemmas.{none_not}
use Rattle.jh_test_parts.specs.Workloads.{test_workload_named}
use Rattle.jh_test_parts.specs.declared.parts.TestEntry.{TestEntry}
use Rattle.jh_test_parts.specs.declared.workload.TestWorkload.{TestWorkload}
use Rattle.jh_test_parts.specs.Test.{TestValue}
use Rattle.jh_txn.specs.declared.model.ConsistencyModel.{ConsistencyModel}
use Rattle.jh_drive_settings.specs.Parsed.{IsParsedFinal, are_transactions, is_register_workload, model_or_strict, optional_number, parsed_share, parsed_test_entry, parsed_test_workload, transaction_number}
use Rattle.jh_drive_settings.specs.Settings.{AreDriveSettings}
use Rattle.jh_drive_settings.proofs.ShareLemmas.{where_is}
use Rattle.jh_test_settings_texts.proofs.PlainLemmas.{IsPlain}

-- ---- what an answer is made of

and_then_some : {A B : Type 0} (f : A → Option B) (o : Option A) (y : B) → option_and_then f o ≡ Some y → (x : A) × (o ≡ Some x) × (f x ≡ Some y)
and_then_some f None y e = absurd (none_not y e)
and_then_some f (Some x) y e = (x, refl, e)

map_some : {A B : Type 0} (f : A → B) (o : Option A) (y : B) → option_map f o ≡ Some y → (x : A) × (o ≡ Some x)
map_some f None y e = absurd (none_not y e)
map_some f (Some x) y e = (x, refl)

-- ---- kinds of values

text_flat : (d : Data) (text : List ℕ) → as_str d ≡ Some text → (depth d ≡ 0) × (has_valid_dates d ≡ true)
text_flat (string s) text is = (refl, refl)
text_flat _ text is = absurd (none_not text is)

text_plain : (d : Data) (text : List ℕ) → as_str d ≡ Some text → IsPlain d
text_plain d text is =
    let flat = text_flat d text is in
    (omega (arith, flat.0), flat.1)

choice_plain : {A : Type 0} (named : List ℕ → Option A) (d : Data) (x : A) → choice_in named d ≡ Some x → IsPlain d
choice_plain named d x is =
    let text = and_then_some named (as_str d) x is in
    text_plain d text.0 text.1

whole_plain : (least most : ℕ) (d : Data) (n : ℕ) → whole_number_in least most d ≡ Some n → IsPlain d
whole_plain least most (integer z) n is = (omega arith, refl)
whole_plain least most _ n is = absurd (none_not n is)

optional_plain : (least most : ℕ) (d : Data) (o : Option ℕ) → option_map Some (whole_number_in least most d) ≡ Some o → IsPlain d
optional_plain least most d o is =
    let whole = map_some Some (whole_number_in least most d) o is in
    whole_plain least most d whole.0 whole.1

integer_plain : (d : Data) (z : ℤ) → as_integer d ≡ Some z → IsPlain d
integer_plain (integer y) z is = (omega arith, refl)
integer_plain _ z is = absurd (none_not z is)

initial_plain : (of_register : Bool) (d : Data) (o : Option ℤ) → initial_of of_register (Some d) ≡ Some o → IsPlain d
initial_plain true d o is =
    let whole = map_some Some (as_integer d) o is in
    integer_plain d whole.0 whole.1
initial_plain false d o is = absurd (none_not o is)

texts_flat : (parse : Edn → Option TestEntry) (values : Items) (entries : List TestEntry) → AreEach (IsMeant parse) values entries → (items_depth values ≤ 0) × (items_have_valid_dates values ≡ true)
texts_flat parse no_items entries h = (omega arith, refl)
texts_flat parse (item d ds) [] h = absurd h
texts_flat parse (item d ds) (entry ∷ entries) h =
    let here = text_flat d h.0.1.0 h.0.1.1 in
    let behind = texts_flat parse ds entries h.1 in
    (omega (arith, here.0, behind.0), rw (here.1, behind.1) refl)

schedule_plain : (parse : Edn → Option TestEntry) (d : Data) (entries : List TestEntry) → IsScheduleOf (IsMeant parse) (Some d) entries → IsPlain d
schedule_plain parse (array values) entries h =
    let flat = texts_flat parse values entries h.0 in
    (omega (arith, flat.0), flat.1)
schedule_plain parse _ entries h = absurd h

-- ---- what stands under a key

module _ (document : Members) where
  abbrev IsPlainUnder : Key → Type 0
  IsPlainUnder key = (d : Data) → data_under key document ≡ Some d → IsPlain d

  needed_plain : {A : Type 0} (parse : Data → Option A) → ((d : Data) (x : A) → parse d ≡ Some x → IsPlain d) → (key : Key) (x : A) → option_and_then parse (data_under key document) ≡ Some x → IsPlainUnder key
  needed_plain parse each key x parsed d is = each d x (sym (ap (option_and_then parse) is) ∙ parsed)

  default_plain : {A : Type 0} (default : A) (parse : Data → Option A) → ((d : Data) (x : A) → parse d ≡ Some x → IsPlain d) → (key : Key) (x : A) → value_or_default default parse key document ≡ Some x → IsPlainUnder key
  default_plain default parse each key x parsed d is = each d x (sym (ap (λ o. option_map_or parse o (Some default)) is) ∙ parsed)

  held_plain : (key : Key) (x : Edn) → HoldsElement key document x → IsPlainUnder key
  held_plain key x held d is =
      let same : held.0 ≡ d = same_Some held.0 d (sym held.1 ∙ is) in
      text_plain d held.2.0 (subst (λ v. as_str v ≡ Some held.2.0) same held.2.1)

  final_plain : (g : Option Generator) → IsParsedFinal document g → IsPlainUnder Key.Final
  final_plain None missing = λ d is. absurd (false≢true (sym (ap (λ (o : Option Data). not (is_some o)) is) ∙ missing))
  final_plain (Some g) h = held_plain Key.Final h.0 h.1

  module _ (workload : TestWorkload) (of_workload : parsed_test_workload document ≡ Some workload) where
    workload_plain : IsPlainUnder Key.Workload
    workload_plain =
        let text = and_then_some test_workload_named (text_under Key.Workload document) workload of_workload in
        needed_plain as_str text_plain Key.Workload text.0 text.1

    share_plain : (most : ℕ) (key : Key) (o : Option ℕ) → parsed_share most key document ≡ Some o → IsPlainUnder key
    share_plain most key o parsed =
        default_plain None (λ d. option_map Some (whole_number_in 1 most d)) (optional_plain 1 most) key o
        (where_is (λ t. not (are_transactions t)) key document (optional_number 1 most key document) o workload of_workload parsed)

    number_plain : (default most : ℕ) (key : Key) (n : ℕ) → transaction_number default most key document ≡ Some n → IsPlainUnder key
    number_plain default most key n parsed =
        default_plain default (whole_number_in 1 most) (whole_plain 1 most) key n
        (where_is are_transactions key document (value_or_default default (whole_number_in 1 most) key document) n workload of_workload parsed)

  module _ (test : TestValue) (held : Option ℤ) (consistency : ConsistencyModel) (most : ℕ) (are : AreDriveSettings document test held consistency most) where
    all_plain : AllByRecursion IsPlainUnder drive_keys
    all_plain =
        let workload = test.workload in
        let is = are.parsed.workload in
        let initial = and_then_some (λ (t : TestWorkload). initial_of (is_register_workload t) (data_under Key.Initial document)) (parsed_test_workload document) held are.initial in
        let start : IsPlainUnder Key.Start = held_plain Key.Start are.parsed.start.0 are.parsed.start.1 in
        let of_workload : IsPlainUnder Key.Workload = workload_plain workload is in
        let generator : IsPlainUnder Key.Generator = held_plain Key.Generator are.parsed.generator.0 are.parsed.generator.1 in
        let clients : IsPlainUnder Key.Clients = needed_plain (whole_number_in 1 16) (whole_plain 1 16) Key.Clients test.clients are.parsed.clients in
        let ops : IsPlainUnder Key.Ops = needed_plain (whole_number_in 1 1000000) (whole_plain 1 1000000) Key.Ops test.ops are.parsed.ops in
        let time_limit : IsPlainUnder Key.TimeLimit =
        default_plain None (λ d. option_map Some (whole_number_in 1 86400000 d)) (optional_plain 1 86400000) Key.TimeLimit test.time_limit are.parsed.time_limit in
        let rate : IsPlainUnder Key.Rate = default_plain None (λ d. option_map Some (whole_number_in 1 1000000 d)) (optional_plain 1 1000000) Key.Rate test.rate are.parsed.rate in
        let threads : IsPlainUnder Key.ThreadsPerKey = share_plain workload is 16 Key.ThreadsPerKey _ are.parsed.threads_per_key in
        let calls : IsPlainUnder Key.OpsPerKey = share_plain workload is 1000000 Key.OpsPerKey _ are.parsed.ops_per_key in
        let recovery : IsPlainUnder Key.Recovery = default_plain 0 (whole_number_in 0 3600000) (whole_plain 0 3600000) Key.Recovery test.recovery are.parsed.recovery in
        let final : IsPlainUnder Key.Final = final_plain test.final_calls are.parsed.final in
        let of_register : IsPlainUnder Key.Initial = λ d there. initial_plain (is_register_workload initial.0) d held (sym (ap (initial_of (is_register_workload initial.0)) there) ∙ initial.2) in
        let keys : IsPlainUnder Key.Keys = number_plain workload is 4 1000 Key.Keys test.transactions.keys are.parsed.keys in
        let max_txn : IsPlainUnder Key.MaxTxn = number_plain workload is 4 100 Key.MaxTxn test.transactions.most are.parsed.max_txn in
        let appends : IsPlainUnder Key.AppendsPerKey = number_plain workload is 32 10000 Key.AppendsPerKey test.transactions.appends are.parsed.appends_per_key in
        let model : IsPlainUnder Key.Model =
        default_plain ConsistencyModel.StrictSerializable (choice_in model_named) (choice_plain model_named) Key.Model consistency
        (where_is are_transactions Key.Model document (model_or_strict document) consistency workload is are.model) in
        let seed : IsPlainUnder Key.Seed = default_plain 0 (whole_number_in 0 9223372036854775807) (whole_plain 0 9223372036854775807) Key.Seed test.seed are.parsed.seed in
        let budget : IsPlainUnder Key.Budget = default_plain 100000 (whole_number_in 0 10000000) (whole_plain 0 10000000) Key.Budget most are.budget in
        let schedule : IsPlainUnder Key.Schedule = λ d there.
        schedule_plain (parsed_test_entry test.start.names) d test.schedule (subst (λ o. IsScheduleOf (IsMeant (parsed_test_entry test.start.names)) o test.schedule) there are.parsed.schedule) in
        (start, (of_workload, (generator, (clients, (ops, (time_limit, (rate, (threads, (calls, (recovery, (final, (of_register, (keys, (max_txn, (appends, (model, (seed, (budget, (schedule, tt)))))))))))))))))))

    plain_among : (keys : List Key) → AllByRecursion IsPlainUnder keys → (name : List ℕ) → list_any (λ key. bytes_eq name (key_name key)) keys ≡ true → (d : Data) → get_member name document ≡ Some d → IsPlain d
    plain_among [] all name none d is = absurd (false≢true none)
    plain_among (key ∷ keys) all name some d is =
        elim (cases_Bool (bytes_eq name (key_name key))) [
          | inl same ↦ all.0 d (ap (λ (k : List ℕ). get_member k document) (sym ((bytes_eq-Decides name (key_name key)).0 same)) ∙ is)
          | inr other ↦ plain_among keys all.1 name (sym (ap (λ b. b || list_any (λ k. bytes_eq name (key_name k)) keys) other) ∙ some) d is
        ]

    -- what stands under the name of a key is plain
    pub settings_plain : (name : List ℕ) (d : Data) → is_key_name drive_keys name ≡ true → get_member name document ≡ Some d → IsPlain d
    unfolding is_key_name
    settings_plain name d known is = plain_among drive_keys all_plain name known d is
