-- The history of a key by its places in the whole one.
use Rattle.std.proofs.Common.{◌≡◌, ℕ, suc, ◌+◌, ◌<◌, Bool, true, false, cond, List, [], ◌∷◌, length, map, refl, ap, subst, ◌∙◌, arith}
use Rattle.std.specs.Prelude.{All}
use Rattle.std.specs.List.{filter, enumerate_from}
use Rattle.std.proofs.lemmas.List.Elements.{All-nil, All-cons}
use Rattle.jh_edn.specs.Edn.{Edn}
use Rattle.jh_ops.specs.Operation.{Operation}
use Rattle.jh_check.specs.declared.error.CheckError.{CheckError}
use Rattle.jh_check.specs.declared.error.CheckError.TheVariants as check_errors
use Rattle.jh_checkers.specs.Findings.{RefusesChecking}
use Rattle.jh_independent.specs.Keys.{has_key, history_of, places_of, operation_without_key}
use Rattle.jh_independent.specs.PartsInside.{operation_at, keys_error_of}
use Rattle.jh_independent.specs.Refusals.{KeysQuestion, RefusesKey}

abbrev is_of : Edn → ℕ × Operation → Bool
is_of key placed = has_key key placed.1

-- those that stand from a number on
places_from : (key : Edn) (n : ℕ) (ops : List Operation) → All (λ place. place < n + length ops) (map (λ (placed : ℕ × Operation). placed.0) (filter (is_of key) (enumerate_from n ops)))
places_from key n [] = All-nil (λ place. place < n + 0)
places_from key n (op ∷ ops) =
    let e : n + 1 + length ops ≡ n + length (op ∷ ops) = omega arith in
    let rest : All (λ place. place < n + length (op ∷ ops)) (map (λ (placed : ℕ × Operation). placed.0) (filter (is_of key) (enumerate_from (n + 1) ops))) =
    subst (λ m. All (λ place. place < m) (map (λ (placed : ℕ × Operation). placed.0) (filter (is_of key) (enumerate_from (n + 1) ops)))) e (places_from key (n + 1) ops) in
    elim (has_key key op) as (λ b. All (λ place. place < n + length (op ∷ ops)) (map (λ (placed : ℕ × Operation). placed.0) (cond b ((n, op) ∷ filter (is_of key) (enumerate_from (n + 1) ops)) (filter (is_of key) (enumerate_from (n + 1) ops))))) [
      | true ↦ All-cons (λ place. place < n + length (op ∷ ops)) n _ (omega arith) rest
      | false ↦ rest
    ]

pub places_within : (key : Edn) (ops : List Operation) → All (λ place. place < length ops) (places_of key ops)
places_within key ops = let e : 0 + length ops ≡ length ops = omega arith in subst (λ m. All (λ place. place < m) (places_of key ops)) e (places_from key 0 ops)

-- what stands at the places of a list that has so many others in front
parts_from : (key : Edn) (whole : List Operation) (n : ℕ) (ops : List Operation) → ((i : ℕ) → operation_at whole (n + i) ≡ operation_at ops i)
    → map (λ place. operation_without_key (operation_at whole place)) (map (λ (placed : ℕ × Operation). placed.0) (filter (is_of key) (enumerate_from n ops)))
    ≡ map (λ (placed : ℕ × Operation). operation_without_key placed.1) (filter (is_of key) (enumerate_from n ops))
parts_from key whole n [] at = refl
parts_from key whole n (op ∷ ops) at =
    let here : operation_at whole n ≡ op = (let e : n ≡ n + 0 = omega arith in ap (operation_at whole) e ∙ at 0) in
    let behind : (i : ℕ) → operation_at whole (n + 1 + i) ≡ operation_at ops i = λ i. (let e : n + 1 + i ≡ n + suc i = omega arith in ap (operation_at whole) e ∙ at (suc i)) in
    let rest = parts_from key whole (n + 1) ops behind in
    elim (has_key key op) as (λ b. map (λ place. operation_without_key (operation_at whole place)) (map (λ (placed : ℕ × Operation). placed.0) (cond b ((n, op) ∷ filter (is_of key) (enumerate_from (n + 1) ops)) (filter (is_of key) (enumerate_from (n + 1) ops)))) ≡ map (λ (placed : ℕ × Operation). operation_without_key placed.1) (cond b ((n, op) ∷ filter (is_of key) (enumerate_from (n + 1) ops)) (filter (is_of key) (enumerate_from (n + 1) ops)))) [
      | true ↦ λ j. operation_without_key (here j) ∷ rest j
      | false ↦ rest
    ]

pub part_is : (key : Edn) (ops : List Operation) → map (λ place. operation_without_key (operation_at ops place)) (places_of key ops) ≡ history_of key ops
part_is key ops = parts_from key ops 0 ops (λ i. let e : 0 + i ≡ i = omega arith in ap (operation_at ops) e)

-- an error of a key's checker is why the key was not judged
pub key_refused : (asked : KeysQuestion) (key : Edn) (inner : CheckError) → RefusesChecking asked.judging.checker (history_of key asked.history) inner → RefusesKey asked key (keys_error_of (places_of key asked.history) inner)
key_refused asked key (check_errors.Pair error) h = (check_errors.Pair error, h, (λ e. cc), refl)
key_refused asked key (check_errors.BadValue place) h = (check_errors.BadValue place, h, (λ e. cc), refl)
key_refused asked key (check_errors.NegativeAdd place) h = (check_errors.NegativeAdd place, h, (λ e. cc), refl)
key_refused asked key (check_errors.RepeatedAppend place) h = (check_errors.RepeatedAppend place, h, (λ e. cc), refl)
key_refused asked key check_errors.OutOfMemory h = tt
