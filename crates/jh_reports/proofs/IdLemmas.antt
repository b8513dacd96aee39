-- The ids of active faults, one after another.
use Rattle.std.proofs.Common.{◌≡◌, ℕ, ◌+◌, List, [], ◌∷◌, ◌++◌, take}
use Rattle.std.specs.Prelude.{map, Some, pos, slice_get}
use Rattle.std.proofs.lemmas.Option.{slice_get_within, get_or_from_slice_get}
use Rattle.std.proofs.lemmas.List.{map-append, take_more}
use Rattle.jh_edn.specs.Edn.{int}
use Rattle.jh_env.specs.Faults.{FaultValue}
use Rattle.jh_nemesis.specs.State.{Active}

-- the id of one more active fault
pub one_more_id : (active : Active) (i : ℕ) (id : ℕ) (f : FaultValue) → slice_get active i ≡ Some (id, f)
    → map (λ fault. int (pos fault.0)) (take (i + 1) active) ≡ map (λ fault. int (pos fault.0)) (take i active) ++ int (pos id) ∷ []
one_more_id active i id f is =
    let below = slice_get_within active i (id, f) is in
    rw (take_more active i (id, f) below, get_or_from_slice_get active i (id, f) (id, f) is) (map-append (λ fault. int (pos fault.0)) (take i active) ((id, f) ∷ []))
