-- What splitting a history goes by: proofs rest on it, and no public clause names it.
-- This project's own.
use Rattle.std.specs.Prelude.{◌≡◌, ℕ, Bool, List, ◌++◌, map, filter, filter_map, All, Option}
use Rattle.std.specs.Prelude.{option_map}
use Rattle.std.specs.List.{enumerate_from}
use Rattle.jh_edn.specs.Edn.{Edn}
use Rattle.jh_edn.specs.Order.{is_below}
use Rattle.jh_edn.specs.View.{view}
use Rattle.jh_ops.specs.Operation.{Operation}
use Rattle.jh_check.specs.Distinct.{is_same, distinct_values}
use Rattle.jh_independent.specs.Histories.{view_histories}
use Rattle.jh_independent.specs.Keys.{histories_of, client_key, history_keys, places_of, key_with_history}
use Rattle.jh_independent.specs.declared.histories.KeyHistory.{KeyHistory}
use Rattle.jh_independent.specs.declared.split.KeyPlaces.{KeyPlaces}
use Rattle.jh_independent.specs.declared.split.Keyed.{Keyed}

-- ---- keys with places

abbrev pub view_key : Keyed → Edn × ℕ
view_key keyed = (view keyed.key, keyed.place)

abbrev pub view_keyed : List Keyed → List (Edn × ℕ)
view_keyed keyed = map view_key keyed

-- the key of an operation with its place, where it has one
abbrev pub key_with_place : ℕ × Operation → Option (Edn × ℕ)
key_with_place placed = option_map (λ key. (key, placed.0)) (client_key placed.1)

abbrev pub keys_with_places : List Operation → List (Edn × ℕ)
keys_with_places history = filter_map key_with_place (enumerate_from 0 history)

abbrev pub is_keyed_below : Edn × ℕ → Edn × ℕ → Bool
is_keyed_below a b = is_below a.0 b.0

abbrev pub keys_of_keyed : List (Edn × ℕ) → List Edn
keys_of_keyed keyed = map (λ one. one.0) keyed

-- ---- groups: keys with all their places

abbrev pub view_group : KeyPlaces → Edn × List ℕ
view_group group = (view group.key, group.places.items)

abbrev pub view_groups : List KeyPlaces → List (Edn × List ℕ)
view_groups groups = map view_group groups

-- the places that stand with a key
abbrev pub places_in : Edn → List (Edn × ℕ) → List ℕ
places_in key keyed = map (λ one. one.1) (filter (λ one. is_same key one.0) keyed)

abbrev pub groups_in : List (Edn × ℕ) → List (Edn × List ℕ)
groups_in keyed = map (λ key. (key, places_in key keyed)) (distinct_values (keys_of_keyed keyed))

-- those of a history
abbrev pub groups_of : List Operation → List (Edn × List ℕ)
groups_of history = map (λ key. (key, places_of key history)) (history_keys history)

-- ---- keys with their histories

-- The groups that are left stand behind the keys that have their history, each with its places.
pub record IsSplitSoFar (history : List Operation) (parts : List KeyHistory)
    (rest : List KeyPlaces) : Type 0 where
  pub keys : view_histories parts
      ++ map (key_with_history history) (map (λ group. view group.key) rest) ≡ histories_of history
  pub places : All (λ group. group.places.items ≡ places_of (view group.key) history) rest
