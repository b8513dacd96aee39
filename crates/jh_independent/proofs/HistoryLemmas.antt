-- One key after another gets its history.
use Rattle.std.proofs.Common.{◌≡◌, List, [], ◌∷◌, ◌++◌, map, sym, ap, ◌∙◌, append_assoc, append-nil}
use Rattle.std.proofs.lemmas.List.{map_push}
use Rattle.std.proofs.lemmas.List.Elements.{All-head, All-tail}
use Rattle.jh_edn.specs.Edn.{Edn}
use Rattle.jh_edn.specs.View.{view}
use Rattle.jh_ops.specs.Operation.{Operation}
use Rattle.jh_independent.specs.Histories.{view_histories, view_history}
use Rattle.jh_independent.specs.Keys.{histories_of, places_of, key_with_history}
use Rattle.jh_independent.specs.SplitInside.{IsSplitSoFar, groups_of, view_groups}
use Rattle.jh_independent.specs.declared.histories.KeyHistory.{KeyHistory}
use Rattle.jh_independent.specs.declared.split.KeyPlaces.{KeyPlaces}
use Rattle.jh_independent.proofs.FoundLemmas.{groups_keys, groups_places}

pub none_cut : (history : List Operation) (groups : List KeyPlaces) → view_groups groups ≡ groups_of history → IsSplitSoFar history [] groups
none_cut history groups h = record {
  keys = ap (map (key_with_history history)) (groups_keys history groups h);
  places = groups_places history groups h;
}

pub first_cut : (history : List Operation) (parts : List KeyHistory) (group : KeyPlaces) (rest : List KeyPlaces) → IsSplitSoFar history parts (group ∷ rest) → group.places.items ≡ places_of (view group.key) history
first_cut history parts group rest h = All-head (λ (g : KeyPlaces). g.places.items ≡ places_of (view g.key) history) group rest h.places

pub one_more_cut : (history : List Operation) (parts : List KeyHistory) (group : KeyPlaces) (rest : List KeyPlaces) (part : KeyHistory) → IsSplitSoFar history parts (group ∷ rest)
    → view_history part ≡ key_with_history history (view group.key) → IsSplitSoFar history (parts ++ part ∷ []) rest
one_more_cut history parts group rest part h same =
    let others : List (Edn × List Operation) = map (key_with_history history) (map (λ group. view group.key) rest) in
    record {
      keys = ap (λ w. w ++ others) (map_push view_history parts part) ∙ append_assoc (view_histories parts) (view_history part ∷ []) others
          ∙ ap (λ one. view_histories parts ++ one ∷ others) same ∙ h.keys;
      places = All-tail (λ (g : KeyPlaces). g.places.items ≡ places_of (view g.key) history) group rest h.places;
    }

pub all_cut : (history : List Operation) (parts : List KeyHistory) → IsSplitSoFar history parts [] → view_histories parts ≡ histories_of history
all_cut history parts h = sym (append-nil (view_histories parts)) ∙ h.keys
