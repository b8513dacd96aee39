-- A history that is written as lines is parsed from them.
use Rattle.std.proofs.Common.{◌≡◌, ℕ, List, [], ◌∷◌, ◌++◌, map, Option, Some, None, Ok, refl, sym, ap, subst, ◌∙◌, arith}
use Rattle.std.specs.Prelude.{ℤ, unwrap_or, Result}
use Rattle.std.specs.List.{All, AllByRecursion}
use Rattle.std.proofs.lemmas.List.Elements.{All-map, All-weaker, All-from_recursion, recursion_from_All}
use Rattle.jh_edn.specs.Edn.{Edn, list, vector, Items, no_items, item, list_of, elements_of, keyword, untagged_value}
use Rattle.jh_edn.specs.Printable.{IsPrintable, ArePrintable}
use Rattle.jh_edn.specs.Spelling.{depth_limit}
use Rattle.jh_ops.specs.HistoryText.{elements_in, AreParsed}
use Rattle.jh_ops.specs.Operation.{Operation}
use Rattle.jh_ops.specs.OperationText.{parsed_op, kind_of_value, process_of}
use Rattle.jh_ops.specs.OperationWritten.{value_written, kind_name, process_value, OperationsReadBack}
use Rattle.jh_ops.specs.declared.op_text.OpError.{OpError}
use Rattle.jh_ops.specs.declared.operation.Kind.{Kind}
use Rattle.jh_ops.specs.declared.operation.Process.{Process}
use Rattle.jh_ops.specs.HistoryWritten.{history_lines}
use Rattle.jh_laws.specs.HistoryLines.{CanPrint}
use Rattle.jh_laws.specs.Lines.{line_of, lines_of, ReadsBack}
use Rattle.jh_laws.proofs.DepthLemmas.{deeper}
use Rattle.jh_laws.proofs.OperationLemmas.{operation_printable, written}
use Rattle.jh_laws.proofs.ParsedOperationLemmas.{untagged_printable, parsed_can_print}

-- ---- the lines

lines_are : (history : List Operation) → lines_of (map value_written history) ≡ history_lines history
lines_are [] = refl
lines_are (op ∷ ops) = ap (λ (bytes : List ℕ). line_of (value_written op) ++ bytes) (lines_are ops)

abbrev LinesLaw : Type 0
LinesLaw = (values : List Edn) → All (IsPrintable depth_limit) values → ReadsBack values (lines_of values)

pub history_spelled : LinesLaw → (history : List Operation) → All CanPrint history → ReadsBack (map value_written history) (history_lines history)
history_spelled law history all =
    subst (ReadsBack (map value_written history)) (lines_are history)
    (law (map value_written history)
    (All-map (IsPrintable depth_limit) value_written history (All-weaker CanPrint (λ op. IsPrintable depth_limit (value_written op)) operation_printable history all)))

-- ---- what a history's values are

items_printable : (xs : Items) → ArePrintable 63 xs → AllByRecursion (IsPrintable depth_limit) (list_of xs)
items_printable no_items h = tt
items_printable (item x xs) h = (deeper x 63 depth_limit (omega arith) h.0, items_printable xs h.1)

sequence_printable : (value : Edn) → IsPrintable depth_limit value → AllByRecursion (IsPrintable depth_limit) (unwrap_or (elements_of value) (value ∷ []))
sequence_printable (list xs) h = items_printable xs h.1
sequence_printable (vector xs) h = items_printable xs h.1
sequence_printable value h = (h, tt)

elements_printable : (values : List Edn) → AllByRecursion (IsPrintable depth_limit) values → AllByRecursion (IsPrintable depth_limit) (elements_in values)
elements_printable [] h = tt
elements_printable (value ∷ []) h = sequence_printable (untagged_value value) (untagged_printable depth_limit value h.0)
elements_printable (value ∷ other ∷ values) h = h

each_can_print : (values : List Edn) (history : List Operation) → AllByRecursion (IsPrintable depth_limit) values → map parsed_op values ≡ map Ok history → AllByRecursion CanPrint history
each_can_print [] [] h parsed = tt
each_can_print [] (op ∷ ops) h parsed = absurd cc
each_can_print (value ∷ values) [] h parsed = absurd cc
each_can_print (value ∷ values) (op ∷ ops) h parsed =
    let first : parsed_op value ≡ Ok op = cc in
    let others : map parsed_op values ≡ map Ok ops = cc in
    (parsed_can_print value op h.0 first, each_can_print values ops h.1 others)

pub parsed_histories_print : (values : List Edn) (history : List Operation) → All (IsPrintable depth_limit) values → AreParsed values history → All CanPrint history
parsed_histories_print values history h parsed =
    All-from_recursion CanPrint history (each_can_print (elements_in values) history (elements_printable values (recursion_from_All (IsPrintable depth_limit) values h)) parsed)

-- ---- what the values that are written mean

one_by_one : (history : List Operation) → elements_in (map value_written history) ≡ map value_written history
one_by_one [] = refl
one_by_one (op ∷ []) = refl
one_by_one (op ∷ other ∷ ops) = refl

each_again : OperationsReadBack → (values : List Edn) (history : List Operation) → map parsed_op values ≡ map Ok history → map parsed_op (map value_written history) ≡ map Ok history
each_again law [] [] parsed = refl
each_again law [] (op ∷ ops) parsed = absurd cc
each_again law (value ∷ values) [] parsed = absurd cc
each_again law (value ∷ values) (op ∷ ops) parsed =
    let first : parsed_op value ≡ Ok op = cc in
    let others : map parsed_op values ≡ map Ok ops = cc in
    let here = law value op first in
    let behind = each_again law values ops others in
    λ i. here i ∷ behind i

pub parsed_again : OperationsReadBack → (values : List Edn) (history : List Operation) → AreParsed values history → AreParsed (map value_written history) history
parsed_again law values history parsed = ap (map parsed_op) (one_by_one history) ∙ each_again law (elements_in values) history parsed

-- ---- operations without other keys

kind_again : (kind : Kind) → kind_of_value (keyword (kind_name kind)) ≡ Some kind
kind_again Kind.Invoke = refl
kind_again Kind.Ok = refl
kind_again Kind.Fail = refl
kind_again Kind.Info = refl

process_again : (process : Process) → process_of (process_value process) ≡ Some process
process_again (Process.Client number) = refl
process_again Process.Nemesis = refl

bare_parts : (kind : Kind) (process : Process) (f value : Edn) (time index : Option ℤ)
    → parsed_op (value_written (written kind process f value time index [])) ≡ Ok (written kind process f value time index [])
bare_parts kind process f value None None = rw (kind_again kind, process_again process) refl
bare_parts kind process f value (Some time) None = rw (kind_again kind, process_again process) refl
bare_parts kind process f value None (Some index) = rw (kind_again kind, process_again process) refl
bare_parts kind process f value (Some time) (Some index) = rw (kind_again kind, process_again process) refl

pub bare_again : (op : Operation) → op.rest ≡ [] → parsed_op (value_written op) ≡ Ok op
bare_again op none =
    subst (λ rest. parsed_op (value_written (written op.kind op.process op.f op.value op.time op.index rest)) ≡ Ok (written op.kind op.process op.f op.value op.time op.index rest))
    (sym none) (bare_parts op.kind op.process op.f op.value op.time op.index)

each_bare : (history : List Operation) → AllByRecursion (λ op. op.rest ≡ []) history → map parsed_op (map value_written history) ≡ map Ok history
each_bare [] all = refl
each_bare (op ∷ ops) all =
    let here = bare_again op all.0 in
    let behind = each_bare ops all.1 in
    λ i. here i ∷ behind i

pub bare_parsed : (history : List Operation) → All (λ op. op.rest ≡ []) history → AreParsed (map value_written history) history
bare_parsed history all = ap (map parsed_op) (one_by_one history) ∙ each_bare history (recursion_from_All (λ op. op.rest ≡ []) history all)

-- ---- one history

abbrev oks : List Operation → List (Result Operation OpError)
oks history = map Ok history

same_parsed : (history others : List Operation) → oks others ≡ oks history → others ≡ history
same_parsed [] [] same = refl
same_parsed [] (op ∷ ops) same = absurd cc
same_parsed (op ∷ ops) [] same = absurd cc
same_parsed (op ∷ ops) (other ∷ others) same =
    let first : other ≡ op = cc in
    let behind : others ≡ ops = same_parsed ops others cc in
    λ i. first i ∷ behind i

pub one_history : (values : List Edn) (history others : List Operation) → AreParsed values history → AreParsed values others → others ≡ history
one_history values history others parsed more = same_parsed history others (sym more ∙ parsed)
