-- Values that mean operations, one after another.
use Rattle.std.proofs.Common.{◌≡◌, ℕ, zero, suc, ◌+◌, ◌<◌, List, [], ◌∷◌, ◌++◌, length, map, Option, Some, None, refl, sym, ap, ◌∙◌, arith, inl, inr, codes}
use Rattle.std.specs.Prelude.{◌⊎◌, slice_get, unwrap_or, ok_or, Result, Ok, Err, IsOk}
use Rattle.std.proofs.lemmas.Bool.{cases_eq}
use Rattle.std.proofs.lemmas.List.{append_assoc, length-append, map-append, append-nil}
use Rattle.jh_edn.specs.Edn.{Edn, list, vector, elements_of, list_of, items_of, value_under, untagged_value, map_pairs}
use Rattle.jh_edn.specs.View.{view, views}
use Rattle.jh_edn.specs.declared.value.Value.{Value}
use Rattle.jh_ops.specs.HistoryText.{elements_in, parsed_elements, AreParsed, IsParsedAt, RefusesValues, history_error_at}
use Rattle.jh_ops.specs.Operation.{Operation}
use Rattle.jh_ops.specs.OperationText.{kind_of_value, process_of, result_of_needed, kind_in, f_in, process_in, ◌>>=◌, op_of_fields, op_of_pairs, parsed_op}
use Rattle.jh_ops.specs.declared.history.HistoryError.TheVariants.{OutOfMemory}
use Rattle.jh_ops.specs.declared.op_text.OpError.{OpError}
use Rattle.jh_ops.specs.declared.op_text.OpError.TheVariants.{NotMap, MissingType, BadType, MissingF, MissingProcess, BadProcess}

-- ---- the values

pub many_elements : (values : List Edn) → (length values ≡ 1 → ⊥) → elements_in values ≡ values
many_elements [] many = refl
many_elements (v ∷ []) many = absurd (many refl)
many_elements (v ∷ w ∷ values) many = refl

-- ---- operations parsed, and then what the rest means

-- all but the rest are these operations
abbrev pub Parsed : List Edn → List Operation → List Edn → Type 0
Parsed values ops rest = parsed_elements values ≡ map Ok ops ++ map parsed_op rest

pub parsed_more : (values : List Edn) (ops : List Operation) (op : Operation) (value : Edn) (rest : List Edn) → parsed_op value ≡ Ok op → Parsed values ops (value ∷ rest) → Parsed values (ops ++ op ∷ []) rest
parsed_more values ops op value rest stages_are parsed =
    parsed ∙ ap (λ r. map Ok ops ++ r ∷ map parsed_op rest) stages_are ∙ sym (append_assoc (map Ok ops) (Ok op ∷ []) (map parsed_op rest))
    ∙ ap (λ rs. rs ++ map parsed_op rest) (sym (map-append Ok ops (op ∷ [])))

pub parsed_end : (values : List Edn) (ops : List Operation) → Parsed values ops [] → AreParsed values ops
parsed_end values ops parsed = parsed ∙ append-nil (map Ok ops)

here_parsed : (ops : List Operation) (r : Result Operation OpError) (rest : List (Result Operation OpError)) → slice_get (map Ok ops ++ r ∷ rest) (length ops) ≡ Some r
here_parsed [] r rest = refl
here_parsed (op ∷ ops) r rest = here_parsed ops r rest

before_parsed : (ops : List Operation) (rest : List (Result Operation OpError)) (place : ℕ) → place < length ops → (op : Operation) × (slice_get (map Ok ops ++ rest) place ≡ Some (Ok op))
before_parsed [] rest place below = absurd (omega arith)
before_parsed (op ∷ ops) rest zero below = (op, refl)
before_parsed (op ∷ ops) rest (suc place) below = before_parsed ops rest place (omega arith)

parsed_before : (values : List Edn) (ops : List Operation) (rest : List Edn) → Parsed values ops rest → (place : ℕ) → place < length ops → IsParsedAt values place
parsed_before values ops rest parsed place below =
    let before = before_parsed ops (map parsed_op rest) place below in
    (before.0, ap (λ rs. slice_get rs place) parsed ∙ before.1)

-- ---- refusals

bad_never : {A : Type 0} (o : Option A) (bad : OpError) → ok_or o bad ≡ Err OpError.OutOfMemory → (bad ≡ OpError.OutOfMemory → ⊥) → ⊥
bad_never None bad is other = other (let same : bad ≡ OpError.OutOfMemory = cc in same)
bad_never (Some x) bad is other = cc

bind_err : {A B : Type 0} (r : Result A OpError) (parsed : A → Result B OpError) (e : OpError) → (r >>= parsed) ≡ Err e → (r ≡ Err e) ⊎ ((x : A) × (parsed x ≡ Err e))
bind_err (Ok x) parsed e is = inr (x, is)
bind_err (Err refusal) parsed e is = inl (let same : refusal ≡ e = cc in ap Err same)

kind_never : (o : Option Edn) → result_of_needed o MissingType (λ value. ok_or (kind_of_value value) BadType) ≡ Err OpError.OutOfMemory → ⊥
kind_never None is = cc
kind_never (Some value) is = bad_never (kind_of_value value) BadType is (λ same. cc)

process_never : (o : Option Edn) → result_of_needed o MissingProcess (λ value. ok_or (process_of value) BadProcess) ≡ Err OpError.OutOfMemory → ⊥
process_never None is = cc
process_never (Some value) is = bad_never (process_of value) BadProcess is (λ same. cc)

by_never : (pairs : List (Edn × Edn)) → op_of_pairs pairs ≡ Err OpError.OutOfMemory → ⊥
by_never pairs is =
    elim (bind_err (kind_in pairs) (λ k. f_in pairs >>= (λ x. process_in pairs >>= (λ p. Ok (op_of_fields k x p pairs)))) OpError.OutOfMemory is) [
      | inl e ↦ kind_never (value_under (codes "type") pairs) e
      | inr k ↦ elim (bind_err (f_in pairs) (λ x. process_in pairs >>= (λ p. Ok (op_of_fields k.0 x p pairs))) OpError.OutOfMemory k.1) [
        | inl e ↦ bad_never (value_under (codes "f") pairs) MissingF e (λ same. cc)
        | inr f ↦ elim (bind_err (process_in pairs) (λ p. Ok (op_of_fields k.0 f.0 p pairs)) OpError.OutOfMemory f.1) [
          | inl e ↦ process_never (value_under (codes "process") pairs) e
          | inr p ↦ (let clash : Ok (op_of_fields k.0 f.0 p.0 pairs) ≡ Err OpError.OutOfMemory = p.1 in cc)
        ]
      ]
    ]

map_never : (o : Option (List (Edn × Edn))) → result_of_needed o NotMap op_of_pairs ≡ Err OpError.OutOfMemory → ⊥
map_never None is = cc
map_never (Some pairs) is = by_never pairs is

-- no value means that there is no memory
never_memory : (value : Edn) → parsed_op value ≡ Err OpError.OutOfMemory → ⊥
never_memory value is = map_never (map_pairs (untagged_value value)) is

parsed_ok : (r : Result Operation OpError) → IsOk r → (op : Operation) × (r ≡ Ok op)
parsed_ok (Ok op) ok = (op, refl)
parsed_ok (Err e) ok = absurd (cc ok)

-- memory was refused for a value that means an operation
pub memory_wanted : (values : List Edn) (ops : List Operation) (value : Edn) (rest : List Edn) (op : Operation) → Parsed values ops (value ∷ rest) → parsed_op value ≡ Ok op → RefusesValues values OutOfMemory
memory_wanted values ops value rest op parsed is = (
  length ops,
  λ earlier up_to. elim (cases_eq earlier (length ops)) [
    | inl same ↦ (op, ap (λ rs. slice_get rs earlier) parsed ∙ ap (slice_get (map Ok ops ++ parsed_op value ∷ map parsed_op rest)) same ∙ here_parsed ops (parsed_op value) (map parsed_op rest) ∙ ap Some is)
    | inr apart ↦ parsed_before values ops (value ∷ rest) parsed earlier (omega (arith, up_to, apart))
  ],
)

here_refused : (values : List Edn) (ops : List Operation) (value : Edn) (rest : List Edn) (refusal : OpError) → Parsed values ops (value ∷ rest) → parsed_op value ≡ Err refusal
    → (slice_get (parsed_elements values) (length ops) ≡ Some (Err refusal)) × ((earlier : ℕ) → earlier < length ops → IsParsedAt values earlier)
here_refused values ops value rest refusal parsed is =
    (ap (λ rs. slice_get rs (length ops)) parsed ∙ here_parsed ops (parsed_op value) (map parsed_op rest) ∙ ap Some is, parsed_before values ops (value ∷ rest) parsed)

other_refused : (values : List Edn) (ops : List Operation) (value : Edn) (rest : List Edn) (refusal : OpError) → Parsed values ops (value ∷ rest) → (refusal ≡ OpError.OutOfMemory → ⊥)
    → (parsed_op value ≡ Err refusal) ⊎ ((refusal ≡ OpError.OutOfMemory) × IsOk (parsed_op value))
    → (slice_get (parsed_elements values) (length ops) ≡ Some (Err refusal)) × ((earlier : ℕ) → earlier < length ops → IsParsedAt values earlier)
other_refused values ops value rest refusal parsed other why =
    elim why [
      | inl is ↦ here_refused values ops value rest refusal parsed is
      | inr memory ↦ absurd (other memory.0)
    ]

-- a value that is refused
pub refused_parsed : (values : List Edn) (ops : List Operation) (value : Edn) (rest : List Edn) (refusal : OpError) → Parsed values ops (value ∷ rest)
    → (parsed_op value ≡ Err refusal) ⊎ ((refusal ≡ OpError.OutOfMemory) × IsOk (parsed_op value)) → RefusesValues values (history_error_at (length ops) refusal)
refused_parsed values ops value rest OpError.OutOfMemory parsed why =
    elim why [
      | inl is ↦ absurd (never_memory value is)
      | inr memory ↦ let op = parsed_ok (parsed_op value) memory.1 in memory_wanted values ops value rest op.0 parsed op.1
    ]
refused_parsed values ops value rest OpError.NotMap parsed why = other_refused values ops value rest OpError.NotMap parsed (λ same. cc) why
refused_parsed values ops value rest OpError.MissingType parsed why = other_refused values ops value rest OpError.MissingType parsed (λ same. cc) why
refused_parsed values ops value rest OpError.BadType parsed why = other_refused values ops value rest OpError.BadType parsed (λ same. cc) why
refused_parsed values ops value rest OpError.MissingF parsed why = other_refused values ops value rest OpError.MissingF parsed (λ same. cc) why
refused_parsed values ops value rest OpError.MissingProcess parsed why = other_refused values ops value rest OpError.MissingProcess parsed (λ same. cc) why
refused_parsed values ops value rest OpError.BadProcess parsed why = other_refused values ops value rest OpError.BadProcess parsed (λ same. cc) why

-- the one value, where there is one
pub single : (values front : List Value) (value : Value) → values ≡ front ++ value ∷ [] → length values ≡ 1 → values ≡ value ∷ []
single values [] value is one = is
single values (x ∷ xs) value is one =
    let long : length values ≡ suc (length (xs ++ value ∷ [])) = ap length is in
    let more : length (xs ++ value ∷ []) ≡ length xs + 1 = length-append xs (value ∷ []) in
    absurd (omega (arith, long, more, one))

pub elements_of_sequence : (values : List Value) (value : Value) (xs : List Edn) → values ≡ value ∷ [] → elements_of (untagged_value (view value)) ≡ Some xs → elements_in (views values) ≡ xs
elements_of_sequence values value xs one are =
    ap (λ vs. elements_in (views vs)) one ∙ ap (λ found. unwrap_or found (untagged_value (view value) ∷ [])) are
