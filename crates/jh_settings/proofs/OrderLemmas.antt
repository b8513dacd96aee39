-- The first bad value, one group of settings after another.
use Rattle.std.proofs.Common.{◌≡◌, inl, inr, List, [], ◌∷◌, ◌++◌, Option, Some, IsSome, refl, sym, subst}
use Rattle.toml.specs.Data.{Members}
use Rattle.jh_env.specs.Overlay.{EnvValue}
use Rattle.jh_simnode.specs.declared.schedule.Entry.{Entry}
use Rattle.jh_settings.specs.Readers.{RefusesValue, RefusesKeyValues}
use Rattle.jh_settings.specs.Inside.{RefusesDocumentValues, IsParsedCluster, IsParsedLoad, AreParsedNumbers, cluster_keys, load_keys, number_keys}
use Rattle.jh_settings.specs.Keys.{run_keys}
use Rattle.jh_settings.specs.Refusals.{IsGood, AreGood, IsFirstBadKey}
use Rattle.jh_settings.specs.Parsed.{IsParsedStart, IsParsedSchedule}
use Rattle.jh_settings.specs.declared.error.SettingsError.{SettingsError}
use Rattle.jh_settings.specs.declared.error.SettingsError.TheVariants.{NotToml, Unknown, Missing, BadValue, OutOfMemory}
use Rattle.jh_settings.specs.declared.keys.Key.{Key}
use Rattle.jh_settings.specs.declared.parts.Cluster.{Cluster}
use Rattle.jh_settings.specs.declared.parts.Numbers.{Numbers}
use Rattle.jh_settings.specs.declared.parts.Load.{Load}
use Rattle.jh_settings.proofs.StartLemmas.{nodes_once}

module _ (Good : Key → Type 0) where
  first_front : (some more : List Key) (key : Key) → IsFirstBadKey Good some key → IsFirstBadKey Good (some ++ more) key
  first_front [] more key h = absurd h
  first_front (other ∷ some) more key (inl here) = inl here
  first_front (other ∷ some) more key (inr behind) = inr (behind.0, first_front some more key behind.1)

  first_behind : (some more : List Key) (key : Key) → AreGood Good some → IsFirstBadKey Good more key → IsFirstBadKey Good (some ++ more) key
  first_behind [] more key good h = h
  first_behind (other ∷ some) more key good h = inr (good.0, first_behind some more key good.1 h)

  -- a bad value of the front is the first of all
  pub refused_front : (some more : List Key) (e : SettingsError) → RefusesKeyValues Good some e → RefusesKeyValues Good (some ++ more) e
  refused_front some more NotToml h = absurd h
  refused_front some more (Unknown name) h = absurd h
  refused_front some more (Missing key) h = absurd h
  refused_front some more (BadValue key) h = first_front some more key h
  refused_front some more OutOfMemory h = tt

  -- behind good values, a bad one is the first of all
  pub refused_behind : (some more : List Key) (e : SettingsError) → AreGood Good some → RefusesKeyValues Good more e → RefusesKeyValues Good (some ++ more) e
  refused_behind some more NotToml good h = absurd h
  refused_behind some more (Unknown name) good h = absurd h
  refused_behind some more (Missing key) good h = absurd h
  refused_behind some more (BadValue key) good h = first_behind some more key good h
  refused_behind some more OutOfMemory good h = tt

  pub good_append : (some more : List Key) → AreGood Good some → AreGood Good more → AreGood Good (some ++ more)
  good_append [] more h k = k
  good_append (key ∷ some) more h k = (h.0, good_append some more h.1 k)

pub all_refused : (document : Members) (e : SettingsError) → RefusesKeyValues (IsGood document) run_keys e → RefusesDocumentValues document e
all_refused document NotToml h = absurd h
all_refused document (Unknown name) h = absurd h
all_refused document (Missing key) h = absurd h
all_refused document (BadValue key) h = inl h
all_refused document OutOfMemory h = tt

-- what is parsed is good
pub is_parsed : {A : Type 0} {o : Option A} {x : A} → o ≡ Some x → IsSome o
is_parsed e = subst IsSome (sym e) refl

module _ {document : Members} where
  pub cluster_good : {cluster : Cluster} → IsParsedCluster document cluster → AreGood (IsGood document) cluster_keys
  cluster_good h = ((_, h.start), (is_parsed h.in_store, (is_parsed h.of_workload, ((_, h.source), tt))))

  pub load_good : {load : Load} → IsParsedLoad document load → AreGood (IsGood document) load_keys
  load_good h = (is_parsed h.by_clients, (is_parsed h.calls, (is_parsed h.in_mode, (is_parsed h.forgets, (is_parsed h.holds, tt)))))

  pub numbers_good : {numbers : Numbers} → AreParsedNumbers document numbers → AreGood (IsGood document) number_keys
  numbers_good h = (is_parsed h.ticks, (is_parsed h.of_rows, (is_parsed h.from_seed, (is_parsed h.within, tt))))

no_schedule : (document : Members) (env : EnvValue) → IsParsedStart document env → (((entries : List Entry) × IsParsedSchedule env.names document entries) → ⊥) → IsGood document Key.Schedule → ⊥
no_schedule document env start none good =
    none (good.1, subst (λ names. IsParsedSchedule names document good.1) (nodes_once document good.0 env good.2 start) good.3)

-- a bad schedule over the nodes of the start is bad
pub schedule_refused : (document : Members) (env : EnvValue) (e : SettingsError) → IsParsedStart document env → RefusesValue ((entries : List Entry) × IsParsedSchedule env.names document entries) Key.Schedule e → RefusesKeyValues (IsGood document) (Key.Schedule ∷ []) e
schedule_refused document env NotToml start h = absurd h
schedule_refused document env (Unknown name) start h = absurd h
schedule_refused document env (Missing key) start h = absurd h
schedule_refused document env (BadValue key) start h = inl (h.0, λ good. no_schedule document env start h.1 (subst (IsGood document) (sym h.0) good))
schedule_refused document env OutOfMemory start h = tt
