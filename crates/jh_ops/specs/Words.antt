-- The words of a recorded operation (this project's own): a log of 64-bit words keeps what a run's
-- own operations say, and no other part of one.
use Rattle.std.specs.Prelude.{◌≡◌, ℕ, suc, ◌+◌, ◌*◌, ◌^◌, ◌<◌, ◌≤◌, ◌-◌, ℤ, pos, List, [], ◌∷◌}
use Rattle.std.specs.Prelude.{◌++◌, length, map, codes, All, Option, Some, None, IfSome}
use Rattle.std.specs.Int.{w64, cast_signed}
use Rattle.jh_edn.specs.Edn.{Edn, nil, int, keyword, vector, items_of}
use Rattle.jh_ops.specs.Operation.{Operation}
use Rattle.jh_ops.specs.OperationWritten.{IsWritable}
use Rattle.jh_ops.specs.declared.operation.Kind.{Kind}
use Rattle.jh_ops.specs.declared.operation.Process.{Process}
use Rattle.jh_ops.specs.declared.record.Function.{Function}
use Rattle.jh_ops.specs.declared.words.WordsError.{WordsError}
use Rattle.jh_ops.specs.declared.words.WordsError.TheVariants.{NotRecordable, TooSmall, BadWords}
use Rattle.jh_ops.specs.declared.words.WordsError.TheVariants.{OutOfMemory}

-- what an operation asks with, or answers: nil, an integer, or a vector of integers
pub data Content : Type 0 where
  Nothing : Content
  One : ℤ → Content
  Several : List ℤ → Content

abbrev pub content_value : Content → Edn
content_value Nothing = nil
content_value (One z) = int z
content_value (Several zs) = vector (items_of (map int zs))

abbrev pub integers : Content → List ℤ
integers Nothing = []
integers (One z) = z ∷ []
integers (Several zs) = zs

-- what each function may ask with, or be answered
abbrev pub MayHave : Function → Content → Type 0
MayHave Function.Read content = Unit {0}
MayHave Function.Write (One value) = Unit {0}
MayHave Function.Cas (Several (old ∷ new ∷ [])) = Unit {0}
MayHave Function.Add (One amount) = Unit {0}
MayHave Function.Generate Nothing = Unit {0}
MayHave Function.Generate (One id) = Unit {0}
MayHave Function.Step (One entry) = Unit {0}
MayHave Function.Step (Several (entry ∷ code ∷ [])) = Unit {0}
MayHave function content = ⊥

abbrev pub function_name : Function → List ℕ
function_name Function.Read = codes "read"
function_name Function.Write = codes "write"
function_name Function.Cas = codes "cas"
function_name Function.Add = codes "add"
function_name Function.Generate = codes "generate"
function_name Function.Step = codes "step"

-- What is kept of an operation. The event is the number of what happened in the world at it, where
-- that is known.
pub record Record : Type 0 where
  pub kind : Kind
  pub process : Process
  pub function : Function
  pub content : Content
  pub event : Option ℕ

abbrev pub pairs_of_event : Option ℕ → List (Edn × Edn)
pairs_of_event None = []
pairs_of_event (Some number) = (keyword (codes "event"), int (pos number)) ∷ []

-- the operation of which it is kept: it has no time, no index, and no other key than `:event`
abbrev pub operation_of : Record → Operation
operation_of r =
    record {
      kind = r.kind;
      process = r.process;
      f = keyword
          (function_name r.function);
      value = content_value r.content;
      time = None;
      index = None;
      rest =
          pairs_of_event r.event;
    }

-- what can be kept: with as many integers as the longest record has room for, beside its three
-- first words
pub record CanBeKept (r : Record) : Type 0 where
  pub process : IsWritable r.process
  pub content : MayHave r.function r.content
  pub few : length (integers r.content) ≤ 1272
  pub event : IfSome r.event (λ number. number < 2 ^ 63)

-- ---- its words

abbrev pub kind_number : Kind → ℕ
kind_number Kind.Invoke = 0
kind_number Kind.Ok = 1
kind_number Kind.Fail = 2
kind_number Kind.Info = 3

abbrev pub function_number : Function → ℕ
function_number Function.Read = 0
function_number Function.Write = 1
function_number Function.Cas = 2
function_number Function.Add = 3
function_number Function.Generate = 4
function_number Function.Step = 5

abbrev pub content_number : Content → ℕ
content_number Nothing = 0
content_number (One z) = 1
content_number (Several zs) = 2

abbrev pub process_word : Process → ℕ
process_word (Process.Client number) = number
process_word Process.Nemesis = 2 ^ 64 - 1

abbrev pub event_word : Option ℕ → ℕ
event_word None = 0
event_word (Some number) = suc number

-- the first three words
abbrev pub heading : Record → List ℕ
heading r =
    (kind_number r.kind + 4 * function_number r.function + 64 * content_number r.content)
    ∷ process_word r.process ∷ event_word r.event ∷ []

-- Each word is an integer's two's complement.
abbrev pub StandFor : List ℕ → List ℤ → Type 0
StandFor words zs = All (λ word. word < 2 ^ 64) words × (map (cast_signed w64) words ≡ zs)

-- the heading, and then a word for each integer
abbrev pub AreWordsOf : List ℕ → Record → Type 0
AreWordsOf words r =
    (rest : List ℕ) × (words ≡ heading r ++ rest) × StandFor rest (integers r.content)

-- An operation is recorded as words.
abbrev pub IsRecordedAs : Operation → List ℕ → Type 0
IsRecordedAs op words = (r : Record) × CanBeKept r × (operation_of r ≡ op) × AreWordsOf words r

-- Why an operation is refused, where there is room for so many words.
abbrev pub RefusesOperation : Operation → ℕ → WordsError → Type 0
RefusesOperation op room NotRecordable = (r : Record) → CanBeKept r → operation_of r ≡ op → ⊥
RefusesOperation op room TooSmall =
    (r : Record) × CanBeKept r × (operation_of r ≡ op) × (room < 3 + length (integers r.content))
RefusesOperation op room _ = ⊥

-- Why words are refused.
abbrev pub RefusesWords : List ℕ → WordsError → Type 0
RefusesWords words BadWords = (r : Record) → CanBeKept r → AreWordsOf words r → ⊥
RefusesWords words OutOfMemory = (r : Record) × CanBeKept r × AreWordsOf words r
RefusesWords words _ = ⊥

-- An operation is recorded as one list of words, and no other operation is recorded as it.
pub record AreRecordedOnce : Type 0 where
  pub one_list : (op : Operation) (these those : List ℕ) → IsRecordedAs op these
      → IsRecordedAs op those → these ≡ those
  pub one_operation : (this that : Operation) (words : List ℕ) → IsRecordedAs this words
      → IsRecordedAs that words → this ≡ that
