-- The last record of an operation, in a history that has it; and lists that a relation holds of, place
-- by place, as a loop makes the second one.
use Rattle.std.proofs.Common.{◌≡◌, ◌∙◌, ℕ, ◌+◌, ◌<◌, List, [], ◌∷◌, ◌++◌, length, take, get_or, ap}
use Rattle.std.specs.List.{AllZip}
use Rattle.std.specs.Prelude.{Option, Some, None, IfSome, option_and_then, option_map, slice_get, unwrap_or}
use Rattle.std.proofs.lemmas.List.{take_more}
use Rattle.std.proofs.lemmas.Option.{slice_get-get_or, slice_get-map}
use Rattle.jh_ops.specs.Operation.{operation, operations}
use Rattle.jh_ops.specs.Pairing.{IsPairWithin}
use Rattle.jh_ops.specs.declared.operation.Op.{Op}
use Rattle.jh_ops.specs.declared.pairs.Pair.{Pair}
use Rattle.jh_check.specs.CounterResults.{end_place}
use Rattle.jh_check.specs.Shown.{last_operation_at}

end_within : (count invoke : ℕ) (outcome : Option ℕ) → invoke < count → IfSome outcome (λ place. (invoke < place) × (place < count))
    → unwrap_or outcome invoke < count
end_within count invoke None h k = h
end_within count invoke (Some place) h k = k.1

last_within : (count : ℕ) (pair : Pair) → IsPairWithin count pair → end_place pair < count
last_within count pair within = end_within count pair.invoke pair.outcome within.invoke within.outcome

-- it is the one at the place of its completion or its invocation
pub last_operation_there : (history : List Op) (pairs : List Pair) (number : ℕ) (e : Pair) (d : Op) → number < length pairs
    → IsPairWithin (length history) (get_or pairs number e)
    → last_operation_at (operations history) pairs number ≡ Some (operation (get_or history (end_place (get_or pairs number e)) d))
last_operation_there history pairs number e d there within =
    let pair = get_or pairs number e in
    ap (option_and_then (λ (one : Pair). slice_get (operations history) (end_place one))) (slice_get-get_or pairs number e there)
    ∙ slice_get-map operation history (end_place pair)
    ∙ ap (option_map operation) (slice_get-get_or history (end_place pair) d (last_within (length history) pair within))

-- ---- lists, place by place

all_zip_push : {A B : Type 0} (R : A → B → Type 0) (xs : List A) (ys : List B) (x : A) (y : B)
    → AllZip R xs ys → R x y → AllZip R (xs ++ x ∷ []) (ys ++ y ∷ [])
all_zip_push R [] [] x y h k = (k, tt)
all_zip_push R [] (b ∷ ys) x y h k = absurd h
all_zip_push R (a ∷ xs) [] x y h k = absurd h
all_zip_push R (a ∷ xs) (b ∷ ys) x y h k = (h.0, all_zip_push R xs ys x y h.1 k)

-- one element more
pub all_zip_more : {A B : Type 0} (R : A → B → Type 0) (xs : List A) (ys : List B) (i : ℕ) (d : A) (y : B) → i < length xs
    → AllZip R (take i xs) ys → R (get_or xs i d) y → AllZip R (take (i + 1) xs) (ys ++ y ∷ [])
all_zip_more R xs ys i d y lt h k = rw (take_more xs i d lt) (all_zip_push R (take i xs) ys (get_or xs i d) y h k)
