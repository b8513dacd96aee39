-- What is parsed of elements one after another is parsed of all of them.
use Rattle.std.proofs.Common.{◌≡◌, ◌⊎◌, List, [], ◌∷◌, ◌++◌, length, map, Some, None, inl, inr, refl, sym, ap, ◌∙◌, append_assoc, arith}
use Rattle.std.specs.Prelude.{Ok, Err, IsOk, OnOk, Result, MatchResult}
use Rattle.std.proofs.lemmas.List.{append-nil, map-append}
use Rattle.jh_edn.specs.Edn.{Edn, nil, boolean, int, char, str, keyword, symbol, list, vector, mapping, set, tagged, list_of, elements_of}
use Rattle.jh_histories.specs.ParsingInside.{AreSeveral, Leave, RefusesOne}
use Rattle.jh_ops.specs.HistoryText.{elements_in, AreParsed, RefusesValues, history_error_at}
use Rattle.jh_ops.specs.Operation.{Operation}
use Rattle.jh_ops.specs.OperationText.{parsed_op}
use Rattle.jh_ops.specs.declared.history.HistoryError.{HistoryError}
use Rattle.jh_ops.specs.declared.history.HistoryError.TheVariants.{Op, OutOfMemory}
use Rattle.jh_ops.specs.declared.op_text.OpError.{OpError}
use Rattle.jh_ops.specs.declared.op_text.OpError.TheVariants as refusals
use Rattle.jh_ops.proofs.HistoryLemmas.{Parsed, many_elements, refused_parsed}

-- ---- one element more

-- which is the first that means none
pub first_refused : (elements : List Edn) (ops : List Operation) (value : Edn) (refusal : OpError) → map parsed_op elements ≡ map Ok ops → parsed_op value ≡ Err refusal
    → Leave (elements ++ value ∷ []) ops (Some (history_error_at (length ops) refusal))
first_refused elements ops value refusal parsed is = λ values behind are.
    let so_far : Parsed values ops (value ∷ behind) =
    ap (map parsed_op) (are ∙ append_assoc elements (value ∷ []) behind) ∙ map-append parsed_op elements (value ∷ behind) ∙ ap (λ rs. rs ++ map parsed_op (value ∷ behind)) parsed in
    refused_parsed values ops value behind refusal so_far (inl is)

-- which is refused, and not as out of memory
pub answer_refused : (elements : List Edn) (ops : List Operation) (value : Edn) (refusal : OpError) → map parsed_op elements ≡ map Ok ops → (refusal ≡ refusals.OutOfMemory → ⊥)
    → (parsed_op value ≡ Err refusal) ⊎ ((refusal ≡ refusals.OutOfMemory) × IsOk (parsed_op value)) → Leave (elements ++ value ∷ []) ops (Some (history_error_at (length ops) refusal))
answer_refused elements ops value refusal parsed other why =
    elim why [
      | inl is ↦ first_refused elements ops value refusal parsed is
      | inr memory ↦ absurd (other memory.0)
    ]

-- ---- all of them

-- all were parsed
pub all_parsed : (values elements : List Edn) (ops : List Operation) → elements_in values ≡ elements → Leave elements ops None → AreParsed values ops
all_parsed values elements ops are parsed = ap (map parsed_op) are ∙ parsed

-- all were parsed but one
pub all_refused : (values elements : List Edn) (ops : List Operation) (refusal : HistoryError) → elements_in values ≡ elements → Leave elements ops (Some refusal) → RefusesValues values refusal
all_refused values elements ops refusal are refused = refused values [] (are ∙ sym (append-nil elements))

pub several_elements : (values : List Edn) → AreSeveral values → elements_in values ≡ values
several_elements values several = many_elements values (λ one. omega (arith, several, one))

-- a list or a vector: alone it stands for its elements, and it means no operation itself
pub sequence_parsed : (value : Edn) (elements : List Edn) → elements_of value ≡ Some elements → (elements_in (value ∷ []) ≡ elements) × (parsed_op value ≡ Err refusals.NotMap)
sequence_parsed (list xs) elements is = ((let same : list_of xs ≡ elements = cc in same), refl)
sequence_parsed (vector xs) elements is = ((let same : list_of xs ≡ elements = cc in same), refl)
sequence_parsed nil elements is = absurd cc
sequence_parsed (boolean b) elements is = absurd cc
sequence_parsed (int z) elements is = absurd cc
sequence_parsed (char c) elements is = absurd cc
sequence_parsed (str s) elements is = absurd cc
sequence_parsed (keyword s) elements is = absurd cc
sequence_parsed (symbol s) elements is = absurd cc
sequence_parsed (mapping ms) elements is = absurd cc
sequence_parsed (set xs) elements is = absurd cc
sequence_parsed (tagged tag x) elements is = absurd cc

-- ---- a value that stands alone

one_refused : (value : Edn) (refusal : HistoryError) → RefusesValues (value ∷ []) refusal → RefusesOne value refusal
one_refused value OutOfMemory refused = tt
one_refused value (Op place refusal) refused = refused

-- what is answered of it
pub one_answered : {A : Type 0} (value : Edn) (IsSuch : A → Type 0) (answer : Result A HistoryError) → MatchResult answer IsSuch (RefusesValues (value ∷ [])) → MatchResult answer IsSuch (RefusesOne value)
one_answered value IsSuch (Ok history) answered = answered
one_answered value IsSuch (Err refusal) answered = one_refused value refusal answered

-- what two facts of a success make
pub on_ok : {A E : Type 0} (P Q R : Type 0) (answer : Result A E) → (P → Q → R) → OnOk answer P → OnOk answer Q → OnOk answer R
on_ok P Q R (Ok x) join p q = join p q
on_ok P Q R (Err e) join p q = tt
