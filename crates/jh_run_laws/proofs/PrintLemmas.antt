-- The operations of a run can be printed.
use Rattle.std.proofs.Common.{◌≡◌, ℕ, ◌+◌, ◌*◌, ◌^◌, ◌<◌, ◌≤◌, true, List, [], ◌∷◌, ◌++◌, length, map, codes, Option, Some, None, refl, sym, subst, arith, All}
use Rattle.std.specs.Prelude.{ℤ, pos, FitsSigned}
use Rattle.std.specs.Int.{w64}
use Rattle.std.specs.List.{AllByRecursion}
use Rattle.std.proofs.lemmas.List.Elements.{All-cons, All-nil, All-head, All-from_recursion, recursion_from_All}
use Rattle.jh_edn.specs.Bytes.{is_first, is_symbol, is_digit}
use Rattle.jh_edn.specs.Edn.{int, items_of, members_of}
use Rattle.jh_edn.specs.Equality.{KeysDiffer}
use Rattle.jh_edn.specs.Printable.{IsPrintable, ArePrintable, ArePrintablePairs}
use Rattle.jh_edn.specs.Spelling.{is_name}
use Rattle.jh_nemesis.specs.Steps.{code_of}
use Rattle.jh_nemesis.specs.declared.steps.StepAnswer.{StepAnswer}
use Rattle.jh_nemesis.specs.declared.steps.StepAnswer.TheVariants as answered
use Rattle.jh_ops.specs.OperationWritten.{IsWritable, pairs_written}
use Rattle.jh_ops.specs.Requests.{request_name, asked_content}
use Rattle.jh_ops.specs.Words.{Content, Nothing, One, Several, content_value, pairs_of_event}
use Rattle.jh_ops.specs.declared.call.Request.{Request}
use Rattle.jh_ops.specs.declared.call.Request.TheVariants as request
use Rattle.jh_ops.specs.declared.operation.Kind.{Kind}
use Rattle.jh_ops.specs.declared.operation.Process.{Process}
use Rattle.jh_laws.specs.HistoryLines.{CanPrint}
use Rattle.jh_laws.proofs.KeyLemmas.{keywords_differ}
use Rattle.jh_simnode.specs.declared.events.Event.{Event}
use Rattle.jh_simnode.specs.Histories.{AreIntegers, CanBeText, HasIntegers, HasSmallEvent, completion_kind, replied_content, unindexed_operation, indexed_operation}
use Rattle.jh_simnode.specs.Histories.{journal_history, operations_from}
use Rattle.jh_run_laws.specs.OwnHistory.{OwnHistoryIsPrintable}

-- ---- one operation

request_is : (asked : Request) → is_name (request_name asked) ≡ true
unfolding is_name is_first is_symbol is_digit
request_is request.Read = refl
request_is (request.Write v) = refl
request_is (request.Cas old new) = refl
request_is (request.Add v) = refl
request_is request.Generate = refl
request_is request.Txn = refl

pub step_is : is_name (codes "step") ≡ true
unfolding is_name is_first is_symbol is_digit
step_is = refl

event_is : is_name (codes "event") ≡ true
unfolding is_name is_first is_symbol is_digit
event_is = refl

integers_printable : (zs : List ℤ) → AllByRecursion (FitsSigned w64) zs → ArePrintable 62 (items_of (map int zs))
integers_printable [] h = tt
integers_printable (z ∷ zs) h = (h.0, integers_printable zs h.1)

content_printable : (content : Content) → AreIntegers content → IsPrintable 63 (content_value content)
content_printable Nothing h = tt
content_printable (One z) h = All-head (FitsSigned w64) z [] h
content_printable (Several zs) h = (omega arith, integers_printable zs (recursion_from_All (FitsSigned w64) zs h))

event_printable : (event : Option ℕ) → HasSmallEvent event → ArePrintablePairs 63 (members_of (pairs_of_event event))
event_printable None h = tt
event_printable (Some number) h = (event_is, record { sfits = h }, tt)

abbrev five_names : List (List ℕ)
five_names = codes "index" ∷ codes "type" ∷ codes "process" ∷ codes "f" ∷ codes "value" ∷ []

keys_apart : (place : ℕ) (kind : Kind) (process : Process) (name : List ℕ) (content : Content) (event : Option ℕ)
    → KeysDiffer (members_of (pairs_written (indexed_operation place (unindexed_operation kind process name content event))))
keys_apart place kind process name content None = keywords_differ five_names refl
keys_apart place kind process name content (Some number) = keywords_differ (five_names ++ codes "event" ∷ []) refl

-- at its place it can be printed, if its numbers are small
pub can_print : (place : ℕ) (kind : Kind) (process : Process) (name : List ℕ) (content : Content) (event : Option ℕ) → place < 2 ^ 63
    → IsWritable process → is_name name ≡ true → AreIntegers content → HasSmallEvent event
    → CanPrint (indexed_operation place (unindexed_operation kind process name content event))
can_print place kind process name content event small writable named fits few = record {
  process = writable;
  f = named;
  value = content_printable content fits;
  time = tt;
  index = record { sfits = small };
  rest = event_printable event few;
  keys = keys_apart place kind process name content event;
}

-- ---- the operations of a journal

small_fits : (n : ℕ) → n < 2 ^ 63 → FitsSigned w64 (pos n)
small_fits n h = record { sfits = h }

code_small : (answer : StepAnswer) → code_of answer < 2 ^ 63
code_small answered.Ok = omega arith
code_small answered.IdTaken = omega arith
code_small answered.TooManyActive = omega arith
code_small answered.TooManySteps = omega arith
code_small answered.NotActive = omega arith
code_small answered.NothingActive = omega arith
code_small answered.NothingToUndo = omega arith
code_small answered.NothingToRedo = omega arith

one_integer : (z : ℤ) → FitsSigned w64 z → AreIntegers (One z)
one_integer z h = All-cons (FitsSigned w64) z [] h (All-nil (FitsSigned w64))

two_integers : (y z : ℤ) → FitsSigned w64 y → FitsSigned w64 z → AreIntegers (Several (y ∷ z ∷ []))
two_integers y z g h = All-cons (FitsSigned w64) y (z ∷ []) g (one_integer z h)

-- a number and those of the events that follow are small
abbrev IsLow : ℕ → ℕ → Type 0
IsLow n more = n + more ≤ 131072

all_print : (es : List Event) (place number entry : ℕ) → IsLow place (2 * length es) → IsLow number (length es) → IsLow entry (length es)
    → AllByRecursion HasIntegers es → AllByRecursion CanPrint (operations_from place number entry es)
all_print [] place number entry p n e h = tt
all_print (Event.Call process node request draw reply ∷ es) place number entry p n e h =
    let asks = can_print place Kind.Invoke (Process.Client process) (request_name request) (asked_content request) None (omega (arith, p)) h.0.0 (request_is request) h.0.1 tt in
    let told = can_print (place + 1) (completion_kind reply) (Process.Client process) (request_name request) (replied_content request reply) (Some number) (omega (arith, p)) h.0.0 (request_is request) h.0.2 (omega (arith, n)) in
    (asks, (told, all_print es (place + 2) (number + 1) entry (omega (arith, p)) (omega (arith, n)) (omega (arith, e)) h.1))
all_print (Event.Step step answer ∷ es) place number entry p n e h =
    let low = small_fits entry (omega (arith, e)) in
    let begins = can_print place Kind.Info Process.Nemesis (codes "step") (One (pos entry)) None (omega (arith, p)) tt step_is (one_integer (pos entry) low) tt in
    let code = small_fits (code_of answer) (code_small answer) in
    let ends = can_print (place + 1) Kind.Info Process.Nemesis (codes "step") (Several (pos entry ∷ pos (code_of answer) ∷ [])) (Some number) (omega (arith, p)) tt step_is (two_integers (pos entry) (pos (code_of answer)) low code) (omega (arith, n)) in
    (begins, (ends, all_print es (place + 2) (number + 1) (entry + 1) (omega (arith, p)) (omega (arith, n)) (omega (arith, e)) h.1))
all_print (Event.Tick ∷ es) place number entry p n e h = all_print es place (number + 1) entry (omega (arith, p)) (omega (arith, n)) (omega (arith, e)) h.1

journal_printable : (journal : List Event) → CanBeText journal → All CanPrint (journal_history journal)
journal_printable journal can =
    All-from_recursion CanPrint (journal_history journal)
    (all_print journal 0 0 0 (omega (arith, can.few)) (omega (arith, can.few)) (omega (arith, can.few)) (recursion_from_All HasIntegers journal can.integers))

pub own_printable : OwnHistoryIsPrintable
own_printable p journal history run can = subst (All CanPrint) (sym run.is_history) (journal_printable journal can)
