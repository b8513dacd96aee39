-- What decides on an element, by the tables.
use Rattle.std.proofs.Common.{◌≡◌, ℕ, ◌-◌, ◌≤◌, ◌<◌, Bool, true, false, cond, List, [], ◌∷◌, length, get_or, map, refl, sym, ap, subst, ◌∙◌, arith}
use Rattle.std.specs.Prelude.{Option, Some, None, slice_get, unwrap_or, All, ◌&&◌, not}
use Rattle.std.specs.List.{filter, cons_option}
use Rattle.std.specs.Option.{option_map_or}
use Rattle.std.proofs.lemmas.List.Elements.{All-cons, All-head, All-nil, All-tail}
use Rattle.jh_edn.specs.Edn.{Edn}
use Rattle.jh_edn.specs.Order.{in_order}
use Rattle.jh_ops.specs.Operation.{Operation}
use Rattle.jh_ops.specs.Pairing.{IsPairWithin}
use Rattle.jh_ops.specs.declared.pairs.Pair.{Pair}
use Rattle.jh_check.specs.CounterResults.{end_place}
use Rattle.jh_set_full.specs.SetFull.{first_that, greatest_of, has_element, invoke_place, is_add_of, is_later, last_add, least, most_shown, no_timeline, ok_end, staleness, time_at, timeline_of, timeline_since, milliseconds_between}
use Rattle.jh_set_full.specs.Inside.{AreTables, first_lacking, is_missed_spot, is_spot_in, is_stable_spot, is_timeline_in, most_by, newest_behind, no_spot, seen_pair, sighted_pairs, seen, seen_below, sees, sightings_of, spot_by, spot_of, spot_with, seen_times}
use Rattle.jh_set_full.specs.declared.sightings.Side.{Side}
use Rattle.jh_set_full.specs.declared.sightings.Side.TheVariants.{Adds, Reads}
use Rattle.jh_set_full.specs.declared.sightings.Sighting.{Sighting}
use Rattle.jh_set_full.specs.declared.spots.State.{State}
use Rattle.jh_set_full.specs.declared.spots.State.TheVariants.{Lost, NeverRead, Stable, Stale}
use Rattle.jh_set_full.specs.declared.spots.Tables.{Tables}
use Rattle.jh_set_full.proofs.DecideLemmas.{Descend, Ends}
use Rattle.jh_check.proofs.LineLemmas.{mapped_twice}
use Rattle.jh_set_full.proofs.SightingLemmas.{filter_mapped, holds, most_times, pairs_are, seen_in_order}
use Rattle.jh_set_full.proofs.SpotLemmas.{absent_same, ends_within, first_is, known_same, lost_same, newest_glue, stable_same, stale_same}

-- ---- sightings

same_seen : (x : Edn) (side : Side) (history : List Operation) (ps : List Pair) (items : List Sighting) → map seen items ≡ in_order seen_below (sightings_of side history ps)
    → map seen (filter (λ s. sees x (seen s)) items) ≡ filter (sees x) (sightings_of side history ps)
same_seen x side history ps items h = filter_mapped (sees x) seen items ∙ ap (filter (sees x)) h ∙ seen_in_order x (sightings_of side history ps)

pub held_pairs : (x : Edn) (side : Side) (history : List Operation) (ps : List Pair) (items : List Sighting) → map seen items ≡ in_order seen_below (sightings_of side history ps)
    → sighted_pairs (filter (λ s. sees x (seen s)) items) ≡ filter (holds side history x) ps
held_pairs x side history ps items h =
    mapped_twice seen_pair seen (filter (λ s. sees x (seen s)) items) ∙ ap (map seen_pair) (same_seen x side history ps items h) ∙ pairs_are side history x ps

pub most_found : (x : Edn) (history : List Operation) (tables : Tables) → AreTables history tables → most_by tables x ≡ most_shown history tables.pairs.items x
most_found x history tables are =
    ap (λ w. unwrap_or (greatest_of w) 0)
    (mapped_twice seen_times seen (filter (λ s. sees x (seen s)) tables.shown.items) ∙ ap (map seen_times) (same_seen x Reads history tables.pairs.items tables.shown.items are.shown))
    ∙ most_times Reads history x tables.pairs.items

-- ---- the last add

pub first_has : {A : Type 0} (P : A → Type 0) (p : A → Bool) (xs : List A) (a : A) → All P xs → first_that p xs ≡ Some a → P a
first_has P p [] a all h = absurd cc
first_has {A} P p (x ∷ xs) a all h = cases (p x) h (first_has P p xs a (All-tail P x xs all)) where
  cases : (b : Bool) → cond b (Some x) (first_that p xs) ≡ Some a → (first_that p xs ≡ Some a → P a) → P a
  cases true k rest = let same : x ≡ a = cc in subst P same (All-head P x xs all)
  cases false k rest = rest k

module _ (history : List Operation) (tables : Tables) (are : AreTables history tables) (x : Edn) where
  pub last_found : slice_get (sighted_pairs (filter (λ s. sees x (seen s)) tables.adds.items)) 0 ≡ last_add history tables.pairs.items x
  last_found =
      ap (λ w. slice_get w 0) (held_pairs x Adds history tables.pairs.items tables.adds.items are.adds)
      ∙ sym (first_is (is_add_of history x) tables.pairs.items)

  pub spot_found : All (IsPairWithin (length tables.newest.items)) tables.pairs.items → (add : Pair) (having : List Pair) → add.invoke < length tables.newest.items
      → last_add history tables.pairs.items x ≡ Some add → having ≡ sighted_pairs (filter (λ s. sees x (seen s)) tables.shown.items)
      → spot_by history tables having add ≡ spot_of history tables.pairs.items x
  spot_found within add having less last is =
      let ps = tables.pairs.items in
      let n = length tables.newest.items in
      let shown : having ≡ filter (has_element history x) ps = is ∙ held_pairs x Reads history ps tables.shown.items are.shown in
      let newest : get_or tables.newest.items (n - 1 - add.invoke) None ≡ newest_behind history ps add.invoke =
      are.newest (n - 1 - add.invoke) (omega (arith, less)) ∙ newest_glue history n add.invoke ps within less in
      (λ i. record {
        known = least (cons_option (ok_end history add) (map end_place (filter (is_later add.invoke) (shown i))));
        present = greatest_of (map invoke_place (filter (is_later add.invoke) (shown i)));
        missed = first_lacking (are.reads i) (shown i);
        newest = newest i;
      })
      ∙ ap (λ o. option_map_or (spot_with history ps (filter (has_element history x) ps)) o no_spot) (sym last)

-- ---- the state of an element

not_both : (a b d e : Bool) → a ≡ b → d ≡ e → (not a && not d) ≡ (not b && not e)
not_both a b d e h k = λ i. not (h i) && not (k i)

module _ (history : List Operation) (n : ℕ) (ps : List Pair) (down : Descend ps) (within : All (IsPairWithin n) ps) (x : Edn) where
  ends : Ends ps
  ends = ends_within n ps within

  up : (add : Pair) → last_add history ps x ≡ Some add → add.invoke ≤ end_place add
  up add h = first_has (λ p. p.invoke ≤ end_place p) (is_add_of history x) ps add (each ps ends) h where
    each : (qs : List Pair) → Ends qs → All (λ p. p.invoke ≤ end_place p) qs
    each [] e = All-nil (λ p. p.invoke ≤ end_place p)
    each (q ∷ qs) e = All-cons (λ p. p.invoke ≤ end_place p) q qs e.0 (each qs e.1)

  state_since : (state : State) (add : Pair) → add.invoke ≤ end_place add
      → is_spot_in state (spot_with history ps (filter (has_element history x) ps) add) ≡ is_timeline_in state (timeline_since history ps x add)
  state_since Stable add le = stable_same history ps down ends x add le
  state_since Lost add le = lost_same history ps down ends x add le
  state_since NeverRead add le = not_both _ _ _ _ (stable_same history ps down ends x add le) (lost_same history ps down ends x add le)
  state_since Stale add le = stale_same history ps down ends x add le

  state_none : (state : State) → is_spot_in state no_spot ≡ is_timeline_in state no_timeline
  state_none Stable = refl
  state_none Lost = refl
  state_none NeverRead = refl
  state_none Stale = refl

  pub state_is : (state : State) → is_spot_in state (spot_of history ps x) ≡ is_timeline_in state (timeline_of history ps x)
  state_is state = cases (last_add history ps x) refl where
    cases : (o : Option Pair) → last_add history ps x ≡ o
        → is_spot_in state (option_map_or (spot_with history ps (filter (has_element history x) ps)) o no_spot) ≡ is_timeline_in state (option_map_or (timeline_since history ps x) o no_timeline)
    cases None h = state_none state
    cases (Some add) h = state_since state add (up add h)

  and_second : (a b : Bool) → (a && b) ≡ true → b ≡ true
  and_second true b h = h
  and_second false b h = absurd (let bad : false ≡ true = h in cc)

  -- of one that is stale, the two places
  pub stale_places : is_spot_in Stale (spot_of history ps x) ≡ true
      → milliseconds_between (time_at history (spot_of history ps x).known) (time_at history (spot_of history ps x).missed) ≡ (staleness history ps x).1
  stale_places = cases (last_add history ps x) refl where
    cases : (o : Option Pair) → last_add history ps x ≡ o
        → is_spot_in Stale (option_map_or (spot_with history ps (filter (has_element history x) ps)) o no_spot) ≡ true
        → milliseconds_between (time_at history (option_map_or (spot_with history ps (filter (has_element history x) ps)) o no_spot).known) (time_at history (option_map_or (spot_with history ps (filter (has_element history x) ps)) o no_spot).missed)
        ≡ milliseconds_between (time_at history (option_map_or (timeline_since history ps x) o no_timeline).known) (time_at history (option_map_or (timeline_since history ps x) o no_timeline).absent)
    cases None h stale = refl
    cases (Some add) h stale =
        let le = up add h in
        let spot = spot_with history ps (filter (has_element history x) ps) add in
        let missed = absent_same history ps down ends x add le (and_second (is_stable_spot spot) (is_missed_spot spot) stale) in
        λ i. milliseconds_between (time_at history (known_same history ps down ends x add le i)) (time_at history (missed i))
