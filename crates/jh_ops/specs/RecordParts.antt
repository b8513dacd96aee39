-- What the code finds of the parts of a recorded operation, one after another; Words has the rule.
-- This project's own.
use Rattle.std.specs.Prelude.{◌≡◌, ℕ, suc, ◌+◌, ◌*◌, ◌^◌, ◌<◌, ◌≤◌, ◌==◌, nat_le, ◌&&◌, Bool, true}
use Rattle.std.specs.Prelude.{false, ℤ, pos, List, [], ◌∷◌, length, drop, ◌-◌, map, codes}
use Rattle.std.specs.Prelude.{if◌then◌else◌, Option, Some, None}
use Rattle.std.specs.Int.{w64, cast_signed}
use Rattle.std.specs.List.{list_all}
use Rattle.std.specs.Str.{bytes_eq}
use Rattle.jh_edn.specs.Edn.{Edn, nil, int, keyword, vector, list_of, is_keyword, is_integer}
use Rattle.jh_ops.specs.Operation.{Operation}
use Rattle.jh_ops.specs.OperationWritten.{IsWritable}
use Rattle.jh_ops.specs.Words.{Content, Nothing, One, Several, Record, CanBeKept, operation_of}
use Rattle.jh_ops.specs.Words.{heading, kind_number, function_number, process_word}
use Rattle.jh_ops.specs.declared.operation.Kind.{Kind}
use Rattle.jh_ops.specs.declared.operation.Process.{Process}
use Rattle.jh_ops.specs.declared.record.Function.{Function}
use Rattle.jh_ops.specs.declared.record.ValueShape.{ValueShape}
use Rattle.jh_ops.specs.declared.words.FirstWord.{FirstWord}
use Rattle.jh_ops.specs.declared.words.Heading.{Heading}

abbrev pub function_named : List ℕ → Option Function
function_named name =
    if bytes_eq name (codes "read") then Some Function.Read
    else if bytes_eq name (codes "write") then Some Function.Write
    else if bytes_eq name (codes "cas") then Some Function.Cas
    else if bytes_eq name (codes "add") then Some Function.Add
    else if bytes_eq name (codes "generate") then Some Function.Generate
    else if bytes_eq name (codes "step") then Some Function.Step
    else None

abbrev pub function_of : Edn → Option Function
function_of (keyword name) = function_named name
function_of _ = None

abbrev pub function_numbered : ℕ → Option Function
function_numbered number =
    if number == 0 then Some Function.Read
    else if number == 1 then Some Function.Write
    else if number == 2 then Some Function.Cas
    else if number == 3 then Some Function.Add
    else if number == 4 then Some Function.Generate
    else if number == 5 then Some Function.Step
    else None

-- whether a function may have a value of this shape, of so many integers
abbrev pub takes : Function → ValueShape → ℕ → Bool
takes Function.Read shape count = true
takes Function.Write ValueShape.Integer count = true
takes Function.Cas ValueShape.Vector count = count == 2
takes Function.Add ValueShape.Integer count = true
takes Function.Generate ValueShape.Nil count = true
takes Function.Generate ValueShape.Integer count = true
takes Function.Step ValueShape.Integer count = true
takes Function.Step ValueShape.Vector count = count == 2
takes function shape count = false

abbrev pub shape_number : ValueShape → ℕ
shape_number ValueShape.Nil = 0
shape_number ValueShape.Integer = 1
shape_number ValueShape.Vector = 2

abbrev pub shape_numbered : ℕ → Option ValueShape
shape_numbered number =
    if number == 0 then Some ValueShape.Nil
    else if number == 1 then Some ValueShape.Integer
    else if number == 2 then Some ValueShape.Vector
    else None

-- whether a value of this shape has so many integers
abbrev pub holds : ValueShape → ℕ → Bool
holds ValueShape.Nil count = count == 0
holds ValueShape.Integer count = count == 1
holds ValueShape.Vector count = nat_le count 1272

abbrev pub are_integers : List Edn → Bool
are_integers values = list_all is_integer values

abbrev pub shape_of_value : Edn → Option ValueShape
shape_of_value nil = Some ValueShape.Nil
shape_of_value (int z) = Some ValueShape.Integer
shape_of_value (vector xs) = if are_integers (list_of xs) then Some ValueShape.Vector else None
shape_of_value _ = None

-- the values that take a word each
abbrev pub elements : Edn → List Edn
elements (int z) = int z ∷ []
elements (vector xs) = list_of xs
elements _ = []

abbrev pub kind_numbered : ℕ → Kind
kind_numbered number =
    if number == 0 then Kind.Invoke
    else if number == 1 then Kind.Ok
    else if number == 2 then Kind.Fail
    else Kind.Info

abbrev pub IsPlain : Operation → Type 0
IsPlain op = (op.time ≡ None) × (op.index ≡ None) × IsWritable op.process

-- the word of the event under the one key `:event` that there may be
abbrev pub event_word_in : List (Edn × Edn) → Option ℕ
event_word_in [] = Some 0
event_word_in ((key, int (pos number)) ∷ []) =
    if is_keyword (codes "event") key then Some (suc number) else None
event_word_in _ = None

-- the first word of these parts
abbrev pub first_word : FirstWord → ℕ
first_word first =
    kind_number first.kind + 4 * function_number first.function + 64 * shape_number first.shape

abbrev pub IsNoFirstWord : ℕ → Type 0
IsNoFirstWord word = (first : FirstWord) → first_word first ≡ word → ⊥

abbrev pub IsNoProcessWord : ℕ → Type 0
IsNoProcessWord word = (process : Process) → IsWritable process → process_word process ≡ word → ⊥

-- the three words that begin what is recorded of an operation
abbrev pub IsHeadingOf : Operation → List ℕ → Type 0
IsHeadingOf op words = (r : Record) × CanBeKept r × (operation_of r ≡ op) × (heading r ≡ words)

abbrev pub CannotBeKept : Operation → Type 0
CannotBeKept op = (r : Record) → CanBeKept r → operation_of r ≡ op → ⊥

-- a word is that of a value, which is an integer
abbrev pub IsWordOf : Edn → ℕ → Type 0
IsWordOf value word = (word < 2 ^ 64) × ((z : ℤ) → value ≡ int z → cast_signed w64 word ≡ z)

-- words are those of values, one by one
abbrev pub AreWordsOfValues : List ℕ → List Edn → Type 0
AreWordsOfValues [] [] = Unit {0}
AreWordsOfValues (word ∷ words) (value ∷ values) =
    IsWordOf value word × AreWordsOfValues words values
AreWordsOfValues _ _ = ⊥

-- ---- read again

-- an event's word, and the event of a word
abbrev pub event_of : ℕ → Option ℕ
event_of word = if word == 0 then None else Some (word - 1)

-- the content of this shape with these integers
abbrev pub content_of : ValueShape → List ℤ → Content
content_of ValueShape.Nil zs = Nothing
content_of ValueShape.Integer (z ∷ zs) = One z
content_of ValueShape.Integer [] = Nothing
content_of ValueShape.Vector zs = Several zs

-- the record of a heading and of the words after it
abbrev pub record_of : Heading → List ℕ → Record
record_of h words =
    record {
      kind = h.first.kind;
      process = h.process;
      function = h.first.function;
      content = content_of h.first.shape (map (cast_signed w64) words);
      event = event_of h.event;
    }

-- Words begin with a heading, and go on with as many as its shape wants.
pub record BeginWith (words : List ℕ) (h : Heading) : Type 0 where
  pub first : words ≡ first_word h.first ∷ process_word h.process ∷ h.event ∷ drop 3 words
  pub process : IsWritable h.process
  pub event : h.event ≤ 2 ^ 63
  pub fit : (holds h.first.shape (length (drop 3 words))
      && takes h.first.function h.first.shape (length (drop 3 words))) ≡ true
