-- The parts of a result, one element after another.
use Rattle.std.proofs.Common.{◌≡◌, ℕ, ◌+◌, ◌<◌, Bool, true, false, cond, List, [], ◌∷◌, ◌++◌, length, take, get_or, map, refl, sym, ap, ◌∙◌}
use Rattle.std.specs.Prelude.{All}
use Rattle.std.specs.List.{filter}
use Rattle.std.proofs.lemmas.List.{append-nil, map-append, take_more}
use Rattle.std.proofs.lemmas.List.Concat.{flat_map-append}
use Rattle.std.proofs.lemmas.List.Elements.{filter-append}
use Rattle.jh_edn.specs.Edn.{Edn}
use Rattle.jh_edn.specs.View.{view, views}
use Rattle.jh_edn.specs.declared.value.Value.{Value}
use Rattle.jh_ops.specs.Operation.{Operation}
use Rattle.jh_ops.specs.Pairing.{IsPairWithin}
use Rattle.jh_ops.specs.declared.pairs.Pair.{Pair}
use Rattle.jh_check.proofs.ListLemmas.{mapped_more}
use Rattle.jh_check.specs.Tallies.{is_repeated}
use Rattle.jh_set_full.specs.SetFull.{all_shown, most_shown, shown_by, staleness, timeline_of}
use Rattle.jh_set_full.specs.Inside.{AreTables, is_spot_in, is_timeline_in, most_by, repeated_by, spot_of, stale_by}
use Rattle.jh_set_full.specs.declared.spots.State.{State}
use Rattle.jh_set_full.specs.declared.spots.State.TheVariants.{Stale}
use Rattle.jh_set_full.specs.declared.spots.Tables.{Tables}
use Rattle.jh_set_full.proofs.DecideLemmas.{Descend}
use Rattle.jh_set_full.proofs.TableLemmas.{most_found, stale_places, state_is}

-- ---- one element more

pub filtered_more : (p : Edn → Bool) (vs : List Value) (i : ℕ) (v : Value) (b : Bool) (found : List Edn) → i < length vs → v ≡ get_or vs i v → b ≡ p (view v)
    → found ≡ filter p (views (take i vs)) → found ++ cond b (view v ∷ []) [] ≡ filter p (views (take (i + 1) vs))
filtered_more p vs i v b found less at e h =
    (λ k. h k ++ cond (e k) (view v ∷ []) [])
    ∙ sym (filter-append p (views (take i vs)) (view v ∷ []))
    ∙ ap (filter p) (sym (mapped_more view vs i v less at))

pub mapped_so : {B : Type 0} (f : Edn → B) (vs : List Value) (i : ℕ) (v : Value) (b : B) (found : List B) → i < length vs → v ≡ get_or vs i v → b ≡ f (view v)
    → found ≡ map f (views (take i vs)) → found ++ b ∷ [] ≡ map f (views (take (i + 1) vs))
mapped_so f vs i v b found less at e h =
    (λ k. h k ++ e k ∷ [])
    ∙ sym (map-append f (views (take i vs)) (view v ∷ []))
    ∙ ap (map f) (sym (mapped_more view vs i v less at))

repeated-append : (count : Edn → ℕ) (xs ys : List Edn) → repeated_by count (xs ++ ys) ≡ repeated_by count xs ++ repeated_by count ys
repeated-append count xs ys =
    let entry : Edn → Edn × ℕ = λ x. (x, count x) in
    ap (filter is_repeated) (map-append entry xs ys) ∙ filter-append is_repeated (map entry xs) (map entry ys)

pub repeated_more : (count : Edn → ℕ) (vs : List Value) (i : ℕ) (v : Value) (n : ℕ) (found : List (Edn × ℕ)) → i < length vs → v ≡ get_or vs i v → n ≡ count (view v)
    → found ≡ repeated_by count (views (take i vs)) → found ++ filter is_repeated ((view v, n) ∷ []) ≡ repeated_by count (views (take (i + 1) vs))
repeated_more count vs i v n found less at e h =
    (λ k. h k ++ filter is_repeated ((view v, e k) ∷ []))
    ∙ sym (repeated-append count (views (take i vs)) (view v ∷ []))
    ∙ ap (repeated_by count) (sym (mapped_more view vs i v less at))

pub shown_more : (history : List Operation) (ps : List Pair) (i : ℕ) (d : Pair) → i < length ps
    → all_shown history (take i ps) ++ shown_by history (get_or ps i d) ≡ all_shown history (take (i + 1) ps)
shown_more history ps i d less =
    let p = get_or ps i d in
    ap (λ w. all_shown history (take i ps) ++ w) (sym (append-nil (shown_by history p)))
    ∙ sym (flat_map-append (shown_by history) (take i ps) (p ∷ []))
    ∙ ap (all_shown history) (sym (take_more ps i d less))

-- ---- the parts

module _ (history : List Operation) (n : ℕ) (ps : List Pair) (down : Descend ps) (within : All (IsPairWithin n) ps) where
  pub states_are : (state : State) (xs : List Edn) → filter (λ x. is_spot_in state (spot_of history ps x)) xs ≡ filter (λ x. is_timeline_in state (timeline_of history ps x)) xs
  states_are state xs = λ i. filter (λ x. state_is history n ps down within x state i) xs

  stales_so : (xs : List Edn) → map (stale_by history ps) (filter (λ x. is_spot_in Stale (spot_of history ps x)) xs) ≡ map (staleness history ps) (filter (λ x. is_spot_in Stale (spot_of history ps x)) xs)
  stales_so [] = refl
  stales_so (x ∷ xs) =
      elim (is_spot_in Stale (spot_of history ps x)) as (λ b. is_spot_in Stale (spot_of history ps x) ≡ b → map (stale_by history ps) (cond b (x ∷ rest) rest) ≡ map (staleness history ps) (cond b (x ∷ rest) rest)) [
        | true ↦ λ is. λ i. (x, stale_places history n ps down within x is i) ∷ stales_so xs i
        | false ↦ λ is. stales_so xs
      ] refl where
        rest : List Edn
        rest = filter (λ y. is_spot_in Stale (spot_of history ps y)) xs

  pub stales_are : (xs : List Edn) → map (stale_by history ps) (filter (λ x. is_spot_in Stale (spot_of history ps x)) xs) ≡ map (staleness history ps) (filter (λ x. is_timeline_in Stale (timeline_of history ps x)) xs)
  stales_are xs = stales_so xs ∙ ap (map (staleness history ps)) (states_are Stale xs)

pub repeated_are : (history : List Operation) (tables : Tables) → AreTables history tables → (xs : List Edn)
    → repeated_by (most_by tables) xs ≡ repeated_by (most_shown history tables.pairs.items) xs
repeated_are history tables are xs = λ i. repeated_by (λ x. most_found x history tables are i) xs
