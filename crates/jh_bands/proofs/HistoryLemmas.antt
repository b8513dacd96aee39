-- The bands of a history: those of its changes, each within the history.
use Rattle.std.proofs.Common.{◌≡◌, suc, List, [], ◌∷◌, length, Global, refl, ap, ◌∙◌, arith}
use Rattle.std.specs.Prelude.{All, IfOk, Result, Ok, Err, Vec, map}
use Rattle.std.proofs.lemmas.List.Elements.{All-same}
use Rattle.jh_edn.specs.Edn.{Edn}
use Rattle.jh_ops.specs.Operation.{Operation, operations}
use Rattle.jh_ops.specs.declared.operation.Op.{Op}
use Rattle.jh_bands.specs.Bands.{BandValue, IsBandWithin, MomentValue, active_behind, active_lists, bands_in, first_moment, moment_behind, view_band}
use Rattle.jh_bands.specs.BandsInside.{bands_along, changes_from, view_changes}
use Rattle.jh_bands.specs.declared.band.Band.{Band}
use Rattle.jh_bands.specs.declared.edit.Change.{Change}
use Rattle.jh_bands.proofs.BandLemmas.{bands_of_lists, bands_within, seen_within}
use Rattle.jh_bands.proofs.ReplayLemmas.{distinct_lists}

length_lists : (steps : List Edn) (m : MomentValue) (ops : List Operation) → length (active_lists steps m ops) ≡ length ops
length_lists steps m [] = refl
length_lists steps m (op ∷ ops) = ap suc (length_lists steps (moment_behind steps m op) ops)

length_operations : (history : List Op) → length (operations history) ≡ length history
length_operations [] = refl
length_operations (op ∷ ops) = ap suc (length_operations ops)

pub bands_of_history : (steps : List Edn) (ops : List Operation) (changes : List Change) → view_changes changes ≡ changes_from 0 [] (active_behind steps ops)
    → bands_along (view_changes changes) ≡ bands_in steps ops
bands_of_history steps ops changes e =
    ap bands_along e ∙ bands_of_lists 0 [] (active_behind steps ops) (distinct_lists steps first_moment ops (record { past = tt; active = tt; future = tt }))

history_within : (steps : List Edn) (history : List Op) → All (IsBandWithin (length history)) (bands_in steps (operations history))
history_within steps history =
    let same : length (active_behind steps (operations history)) ≡ length history = length_lists steps first_moment (operations history) ∙ length_operations history in
    bands_within 0 (length history) [] (active_behind steps (operations history)) (omega (arith, same))

pub bands_same : {E : Type 0} (r : Result (Vec Band Global) E) (one other : List BandValue) → one ≡ other → IfOk r (λ bands. map view_band bands.items ≡ one)
    → IfOk r (λ bands. map view_band bands.items ≡ other)
bands_same (Ok bands) one other e h = h ∙ e
bands_same (Err v) one other e h = tt

pub bands_seen : {E : Type 0} (r : Result (Vec Band Global) E) (steps : List Edn) (history : List Op) (one : List BandValue) → one ≡ bands_in steps (operations history)
    → IfOk r (λ bands. map view_band bands.items ≡ one) → IfOk r (λ bands. All (λ band. IsBandWithin (length history) (view_band band)) bands.items)
bands_seen (Ok bands) steps history one e h =
    seen_within (length history) bands.items
    (All-same (IsBandWithin (length history)) (map view_band bands.items) (bands_in steps (operations history)) (h ∙ e) (history_within steps history))
bands_seen (Err v) steps history one e h = tt
