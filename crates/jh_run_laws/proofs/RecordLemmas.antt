-- What was recorded as words can be printed, and is read back.
use Rattle.std.proofs.Common.{◌≡◌, ◌⊎◌, inl, inr, ℕ, ◌^◌, ◌<◌, cond, true, List, [], ◌∷◌, map, codes, Option, Some, None, Ok, refl, sym, ap, ◌∙◌, subst, rules, All}
use Rattle.std.specs.Prelude.{FitsSigned}
use Rattle.std.specs.Int.{w64, cast_signed}
use Rattle.std.specs.List.{AllByRecursion}
use Rattle.std.specs.Str.{bytes_eq}
use Rattle.std.proofs.lemmas.Bool.{cases_Bool}
use Rattle.std.proofs.lemmas.Slice.Eq.{bytes_eq-Decides}
use Rattle.std.proofs.lemmas.List.Elements.{All-map, All-weaker, recursion_from_All}
use Rattle.jh_edn.specs.Bytes.{is_first, is_symbol, is_digit}
use Rattle.jh_edn.specs.Spelling.{is_name}
use Rattle.jh_ops.specs.HistoryText.{AreParsed, elements_in}
use Rattle.jh_ops.specs.Operation.{Operation}
use Rattle.jh_ops.specs.OperationText.{parsed_op}
use Rattle.jh_ops.specs.OperationWritten.{value_written}
use Rattle.jh_ops.specs.Words.{Content, Record, AreWordsOf, CanBeKept, function_name, operation_of}
use Rattle.jh_ops.specs.declared.operation.Kind.{Kind}
use Rattle.jh_ops.specs.declared.operation.Process.{Process}
use Rattle.jh_laws.specs.HistoryLines.{CanPrint}
use Rattle.jh_simnode.specs.Histories.{AreIntegers, indexed_operation, unindexed_operation}
use Rattle.jh_run_laws.specs.RecordedHistory.{IsIndexedRecord, RecordedHistoryIsPrintable}
use Rattle.jh_ops.proofs.RecordLemmas.{function_again}
use Rattle.jh_run_laws.proofs.PrintLemmas.{can_print, step_is}

read_is : is_name (codes "read") ≡ true
unfolding is_name is_first is_symbol is_digit
read_is = refl

write_is : is_name (codes "write") ≡ true
unfolding is_name is_first is_symbol is_digit
write_is = refl

cas_is : is_name (codes "cas") ≡ true
unfolding is_name is_first is_symbol is_digit
cas_is = refl

add_is : is_name (codes "add") ≡ true
unfolding is_name is_first is_symbol is_digit
add_is = refl

generate_is : is_name (codes "generate") ≡ true
unfolding is_name is_first is_symbol is_digit
generate_is = refl

-- one test of a name after another
tested : {F : Type 0} (name other : List ℕ) (here : F) (rest : Option F) (f : F) → is_name other ≡ true
    → cond (bytes_eq name other) (Some here) rest ≡ Some f → (is_name name ≡ true) ⊎ (rest ≡ Some f)
tested name other here rest f good found =
    elim (cases_Bool (bytes_eq name other)) [
      | inl hit ↦ inl (subst (λ n. is_name n ≡ true) (sym ((bytes_eq-Decides name other).0 hit)) good)
      | inr miss ↦ inr (sym (ap (λ b. cond b (Some here) rest) miss) ∙ found)
    ]

function_is : (r : Record) → is_name (function_name r.function) ≡ true
function_is r =
    let name : List ℕ = function_name r.function in
    elim (tested name (codes "read") _ _ r.function read_is (function_again r.function)) [
      | inl good ↦ good
      | inr more ↦
          elim (tested name (codes "write") _ _ r.function write_is more) [
            | inl good ↦ good
            | inr more ↦
                elim (tested name (codes "cas") _ _ r.function cas_is more) [
                  | inl good ↦ good
                  | inr more ↦
                      elim (tested name (codes "add") _ _ r.function add_is more) [
                        | inl good ↦ good
                        | inr more ↦
                            elim (tested name (codes "generate") _ _ r.function generate_is more) [
                              | inl good ↦ good
                              | inr more ↦
                                  elim (tested name (codes "step") _ _ r.function step_is more) [ inl good ↦ good | inr none ↦ absurd (let clash : None ≡ Some r.function = none in cc) ]
                            ]
                      ]
                ]
          ]
    ]

word_fits : (word : ℕ) → word < 2 ^ 64 → FitsSigned w64 (cast_signed w64 word)
word_fits word small = search rules

words_fit : (words : List ℕ) (r : Record) → AreWordsOf words r → AreIntegers r.content
words_fit words r are =
    subst (All (FitsSigned w64)) are.2.1
    (All-map (FitsSigned w64) (cast_signed w64) are.0 (All-weaker (λ word. word < 2 ^ 64) (λ word. FitsSigned w64 (cast_signed w64 word)) word_fits are.0 are.2.0))

record_prints : (place : ℕ) (r : Record) (words : List ℕ) → place < 2 ^ 63 → CanBeKept r → AreWordsOf words r → CanPrint (indexed_operation place (operation_of r))
record_prints place r words small kept are =
    can_print place r.kind r.process (function_name r.function) r.content r.event small kept.process (function_is r) (words_fit words r are) kept.event

indexed_prints : (op : Operation) → IsIndexedRecord op → CanPrint op
indexed_prints op h =
    let r : Record = h.is.0 in
    subst CanPrint (ap (indexed_operation h.place) h.is.2 ∙ sym h.indexed) (record_prints h.place r h.words h.small h.is.1 h.is.3)

-- ---- what its line means

abbrev IsParsedAgain : Operation → Type 0
IsParsedAgain op = parsed_op (value_written op) ≡ Ok op

parsed_parts : (place : ℕ) (kind : Kind) (process : Process) (name : List ℕ) (content : Content) (event : Option ℕ)
    → IsParsedAgain (indexed_operation place (unindexed_operation kind process name content event))
parsed_parts place Kind.Invoke (Process.Client number) name content None = refl
parsed_parts place Kind.Invoke (Process.Client number) name content (Some e) = refl
parsed_parts place Kind.Invoke Process.Nemesis name content None = refl
parsed_parts place Kind.Invoke Process.Nemesis name content (Some e) = refl
parsed_parts place Kind.Ok (Process.Client number) name content None = refl
parsed_parts place Kind.Ok (Process.Client number) name content (Some e) = refl
parsed_parts place Kind.Ok Process.Nemesis name content None = refl
parsed_parts place Kind.Ok Process.Nemesis name content (Some e) = refl
parsed_parts place Kind.Fail (Process.Client number) name content None = refl
parsed_parts place Kind.Fail (Process.Client number) name content (Some e) = refl
parsed_parts place Kind.Fail Process.Nemesis name content None = refl
parsed_parts place Kind.Fail Process.Nemesis name content (Some e) = refl
parsed_parts place Kind.Info (Process.Client number) name content None = refl
parsed_parts place Kind.Info (Process.Client number) name content (Some e) = refl
parsed_parts place Kind.Info Process.Nemesis name content None = refl
parsed_parts place Kind.Info Process.Nemesis name content (Some e) = refl

record_parsed : (place : ℕ) (r : Record) → IsParsedAgain (indexed_operation place (operation_of r))
record_parsed place r = parsed_parts place r.kind r.process (function_name r.function) r.content r.event

indexed_parsed : (op : Operation) → IsIndexedRecord op → IsParsedAgain op
indexed_parsed op h =
    let r : Record = h.is.0 in
    subst IsParsedAgain (ap (indexed_operation h.place) h.is.2 ∙ sym h.indexed) (record_parsed h.place r)

each_parsed : (history : List Operation) → AllByRecursion IsIndexedRecord history → map parsed_op (map value_written history) ≡ map Ok history
each_parsed [] all = refl
each_parsed (op ∷ ops) all =
    let here = indexed_parsed op all.0 in
    let behind = each_parsed ops all.1 in
    λ i. here i ∷ behind i

one_by_one : (history : List Operation) → elements_in (map value_written history) ≡ map value_written history
one_by_one [] = refl
one_by_one (op ∷ []) = refl
one_by_one (op ∷ other ∷ ops) = refl

pub records_print : RecordedHistoryIsPrintable
records_print history all = All-weaker IsIndexedRecord CanPrint indexed_prints history all

pub records_parsed : (history : List Operation) → All IsIndexedRecord history → AreParsed (map value_written history) history
records_parsed history all = ap (map parsed_op) (one_by_one history) ∙ each_parsed history (recursion_from_All IsIndexedRecord history all)
