-- What the words of a record mean.
use Rattle.std.proofs.Common.{◌≡◌, ℕ, suc, ◌+◌, ◌*◌, ◌-◌, ◌/◌, ◌%◌, ◌<◌, ◌≤◌, ◌^◌, true, false, List, [], ◌∷◌, ◌++◌, length, take, drop, Some, None, refl, sym, ap, subst, ◌∙◌, inl, inr, arith}
use Rattle.std.specs.Prelude.{Option, slice_index_or, ◌==◌, ◌&&◌, ℤ, cond, map, All, IfSome}
use Rattle.std.specs.Int.{w64, cast_signed, cast_unsigned}
use Rattle.std.proofs.lemmas.Int.{of_z-to_z}
use Rattle.std.proofs.lemmas.Bool.{cases_Bool, and_parts}
use Rattle.std.proofs.Common.{get_or, length-drop}
use Rattle.std.proofs.lemmas.List.{length-map, take_all, get_or_default}
use Rattle.std.proofs.lemmas.List.Elements.{All-drop}
use Rattle.jh_edn.specs.Edn.{Edn, Items, no_items, item, nil, int, vector, items_of}
use Rattle.jh_ops.specs.Operation.{Operation}
use Rattle.jh_ops.specs.OperationWritten.{IsWritable}
use Rattle.jh_ops.specs.RecordParts.{function_numbered, kind_numbered, shape_numbered, takes, shape_number, holds, first_word, event_of, content_of, record_of, BeginWith}
use Rattle.jh_ops.specs.Words.{Content, Nothing, One, Several, content_value, content_number, integers, Record, operation_of, CanBeKept, AreWordsOf, IsRecordedAs, event_word, heading, process_word, kind_number, function_number}
use Rattle.jh_ops.specs.declared.operation.Kind.{Kind}
use Rattle.jh_ops.specs.declared.operation.Process.{Process}
use Rattle.jh_ops.specs.declared.record.Function.{Function}
use Rattle.jh_ops.specs.declared.record.ValueShape.{ValueShape}
use Rattle.jh_ops.specs.declared.words.FirstWord.{FirstWord}
use Rattle.jh_ops.specs.declared.words.Heading.{Heading}
use Rattle.jh_ops.proofs.RecordLemmas.{shape_in, number_is, may_have, takes_again, few, holds_again, event_small, kept_function, kept_event}

-- ---- words that begin with a heading are those of a record

none_of : {A : Type 0} (xs : List A) → (length xs == 0) ≡ true → xs ≡ []
none_of [] h = refl
none_of (x ∷ xs) h = absurd (grind (arith, h))

one_of : {A : Type 0} (xs : List A) → (length xs == 1) ≡ true → (x : A) × (xs ≡ x ∷ [])
one_of [] h = absurd (let clash : false ≡ true = h in cc)
one_of (x ∷ []) h = (x, refl)
one_of (x ∷ y ∷ xs) h = absurd (grind (arith, h))

shape_is : (s : ValueShape) (zs : List ℤ) → holds s (length zs) ≡ true → shape_in (content_of s zs) ≡ s
shape_is ValueShape.Nil zs h = refl
shape_is ValueShape.Integer zs h = (let one = one_of zs h in ap (λ ys. shape_in (content_of ValueShape.Integer ys)) one.1)
shape_is ValueShape.Vector zs h = refl

integers_are : (s : ValueShape) (zs : List ℤ) → holds s (length zs) ≡ true → integers (content_of s zs) ≡ zs
integers_are ValueShape.Nil zs h = sym (none_of zs h)
integers_are ValueShape.Integer zs h = (let one = one_of zs h in ap (λ ys. integers (content_of ValueShape.Integer ys)) one.1 ∙ sym one.1)
integers_are ValueShape.Vector zs h = refl

event_is : (word : ℕ) → event_word (event_of word) ≡ word
event_is word =
    elim (cases_Bool (word == 0)) [
      | inl hit ↦ ap (λ b. event_word (cond b None (Some (word - 1)))) hit ∙ grind (arith, hit)
      | inr miss ↦ ap (λ b. event_word (cond b None (Some (word - 1)))) miss ∙ grind (arith, miss)
    ]

pub record_parsed : (words : List ℕ) (h : Heading) → All (λ word. word < 2 ^ 64) words → BeginWith words h → CanBeKept (record_of h (drop 3 words)) × AreWordsOf words (record_of h (drop 3 words))
record_parsed words h small begins =
    let rest = drop 3 words in
    let zs = map (cast_signed w64) rest in
    let s = h.first.shape in
    let f = h.first.function in
    let parts = and_parts (holds s (length rest)) (takes f s (length rest)) begins.fit in
    let held : holds s (length zs) ≡ true = rw (length-map rest (cast_signed w64)) parts.0 in
    let is = shape_is s zs held in
    let are = integers_are s zs held in
    let count : length (integers (content_of s zs)) ≡ length rest = ap length are ∙ length-map rest (cast_signed w64) in
    let taken : takes f (shape_in (content_of s zs)) (length (integers (content_of s zs))) ≡ true = rw (is, count) parts.1 in
    let fits : holds (shape_in (content_of s zs)) (length (integers (content_of s zs))) ≡ true = rw (is, count) parts.0 in
    let number : content_number (content_of s zs) ≡ shape_number s = sym (number_is (content_of s zs)) ∙ ap shape_number is in (
      record { process = begins.process; content = may_have f (content_of s zs) taken; few = few (content_of s zs) fits; event = event_small (event_of h.event) (rw (event_is h.event) begins.event) },
      (rest, begins.first ∙ rw (number, event_is h.event) refl, (All-drop (λ word. word < 2 ^ 64) 3 words small, sym are)),
    )

-- ---- and there are no others

abbrev pub first_word_of : Record → FirstWord
first_word_of r = record { kind = r.kind; function = r.function; shape = shape_in r.content }

first_is : (r : Record) → kind_number r.kind + 4 * function_number r.function + 64 * content_number r.content ≡ first_word (first_word_of r)
first_is r = ap (λ n. kind_number r.kind + 4 * function_number r.function + 64 * n) (sym (number_is r.content))

pub not_short : (words : List ℕ) (r : Record) → length words < 3 → AreWordsOf words r → ⊥
not_short words r short are = absurd (let long : length words ≡ suc (suc (suc (length are.0))) = ap length are.1 in omega (arith, short, long))

pub first_of : (words : List ℕ) (d : ℕ) (r : Record) → AreWordsOf words r → first_word (first_word_of r) ≡ slice_index_or words 0 d
first_of words d r are = sym (first_is r) ∙ sym (ap (λ ws. slice_index_or ws 0 d) are.1)

pub process_of : (words : List ℕ) (d : ℕ) (r : Record) → AreWordsOf words r → process_word r.process ≡ slice_index_or words 1 d
process_of words d r are = sym (ap (λ ws. slice_index_or ws 1 d) are.1)

pub event_at : (words : List ℕ) (d : ℕ) (r : Record) → AreWordsOf words r → event_word r.event ≡ slice_index_or words 2 d
event_at words d r are = sym (ap (λ ws. slice_index_or ws 2 d) are.1)

pub event_within : (e : Option ℕ) → IfSome e (λ number. number < 2 ^ 63) → event_word e ≤ 2 ^ 63
event_within None h = omega arith
event_within (Some number) h = omega (arith, h)

count_of : (words : List ℕ) (r : Record) → AreWordsOf words r → length (drop 3 words) ≡ length (integers r.content)
count_of words r are = ap (λ ws. length (drop 3 ws)) are.1 ∙ sym (length-map are.0 (cast_signed w64)) ∙ ap length are.2.1

pub fits_again : (words : List ℕ) (r : Record) → CanBeKept r → AreWordsOf words r → (holds (shape_in r.content) (length (drop 3 words)) && takes r.function (shape_in r.content) (length (drop 3 words))) ≡ true
fits_again words r can are = rw (count_of words r are, holds_again r.content can.few) (takes_again r.function r.content can.content)

-- what the numbers of a first word mean
low : (k f s : ℕ) → k < 4 → f < 16 → (k + 4 * f + 64 * s) % 4 ≡ k
low k f s h g = omega arith

middle : (k f s : ℕ) → k < 4 → f < 16 → (k + 4 * f + 64 * s) / 4 % 16 ≡ f
middle k f s h g = omega arith

high : (k f s : ℕ) → k < 4 → f < 16 → (k + 4 * f + 64 * s) / 64 ≡ s
high k f s h g = omega arith

kind_small : (k : Kind) → kind_number k < 4
kind_small Kind.Invoke = omega arith
kind_small Kind.Ok = omega arith
kind_small Kind.Fail = omega arith
kind_small Kind.Info = omega arith

function_small : (f : Function) → function_number f < 16
function_small Function.Read = omega arith
function_small Function.Write = omega arith
function_small Function.Cas = omega arith
function_small Function.Add = omega arith
function_small Function.Generate = omega arith
function_small Function.Step = omega arith

kind_again : (k : Kind) → kind_numbered (kind_number k) ≡ k
kind_again Kind.Invoke = refl
kind_again Kind.Ok = refl
kind_again Kind.Fail = refl
kind_again Kind.Info = refl

number_again : (f : Function) → function_numbered (function_number f) ≡ Some f
number_again Function.Read = refl
number_again Function.Write = refl
number_again Function.Cas = refl
number_again Function.Add = refl
number_again Function.Generate = refl
number_again Function.Step = refl

shape_again : (s : ValueShape) → shape_numbered (shape_number s) ≡ Some s
shape_again ValueShape.Nil = refl
shape_again ValueShape.Integer = refl
shape_again ValueShape.Vector = refl

same_first_word : (these those : FirstWord) → first_word these ≡ first_word those → these ≡ those
same_first_word these those same =
    let parts : (h : FirstWord) → (first_word h % 4 ≡ kind_number h.kind) × (first_word h / 4 % 16 ≡ function_number h.function) × (first_word h / 64 ≡ shape_number h.shape) =
    λ h. (
      low (kind_number h.kind) (function_number h.function) (shape_number h.shape) (kind_small h.kind) (function_small h.function),
      middle (kind_number h.kind) (function_number h.function) (shape_number h.shape) (kind_small h.kind) (function_small h.function),
      high (kind_number h.kind) (function_number h.function) (shape_number h.shape) (kind_small h.kind) (function_small h.function),
    ) in
    let k : these.kind ≡ those.kind = sym (kind_again these.kind) ∙ ap kind_numbered (sym (parts these).0 ∙ ap (λ w. w % 4) same ∙ (parts those).0) ∙ kind_again those.kind in
    let fs : Some these.function ≡ Some those.function =
    sym (number_again these.function) ∙ ap function_numbered (sym (parts these).1 ∙ ap (λ w. w / 4 % 16) same ∙ (parts those).1) ∙ number_again those.function in
    let f : these.function ≡ those.function = cc in
    let ss : Some these.shape ≡ Some those.shape =
    sym (shape_again these.shape) ∙ ap shape_numbered (sym (parts these).2 ∙ ap (λ w. w / 64) same ∙ (parts those).2) ∙ shape_again those.shape in
    let s : these.shape ≡ those.shape = cc in
    λ i. record { kind = k i; function = f i; shape = s i }

same_process : (these those : Process) → IsWritable these → IsWritable those → process_word these ≡ process_word those → these ≡ those
same_process (Process.Client m) (Process.Client n) a b same = ap Process.Client same
same_process Process.Nemesis Process.Nemesis a b same = refl
same_process (Process.Client m) Process.Nemesis a b same = absurd (omega (arith, a, same))
same_process Process.Nemesis (Process.Client n) a b same = absurd (omega (arith, b, same))

not_zero : (n : ℕ) → (suc n == 0) ≡ false
not_zero n = grind arith

event_again : (e : Option ℕ) → event_of (event_word e) ≡ e
event_again None = refl
event_again (Some number) = ap (λ b. cond b None (Some (suc number - 1))) (not_zero number) ∙ ap Some (omega arith)

content_again : (c : Content) → content_of (shape_in c) (integers c) ≡ c
content_again Nothing = refl
content_again (One z) = refl
content_again (Several zs) = refl

-- no other record has these words
same_record : (this that : Record) (words : List ℕ) → CanBeKept this → CanBeKept that → AreWordsOf words this → AreWordsOf words that → this ≡ that
same_record this that words can could are were =
    let first : first_word_of this ≡ first_word_of that = same_first_word (first_word_of this) (first_word_of that) (first_of words 0 this are ∙ sym (first_of words 0 that were)) in
    let process : this.process ≡ that.process = same_process this.process that.process can.process could.process (process_of words 0 this are ∙ sym (process_of words 0 that were)) in
    let event : this.event ≡ that.event = sym (event_again this.event) ∙ ap event_of (event_at words 0 this are ∙ sym (event_at words 0 that were)) ∙ event_again that.event in
    let rest : are.0 ≡ were.0 = sym (ap (drop 3) are.1) ∙ ap (drop 3) were.1 in
    let zs : integers this.content ≡ integers that.content = sym are.2.1 ∙ ap (map (cast_signed w64)) rest ∙ were.2.1 in
    let content : this.content ≡ that.content =
    sym (content_again this.content) ∙ ap (λ s. content_of s (integers this.content)) (ap (λ h. h.shape) first) ∙ ap (content_of (shape_in that.content)) zs ∙ content_again that.content in
    λ i. record { kind = (first i).kind; process = process i; function = (first i).function; content = content i; event = event i }

-- ---- one list of words

unsigned_again : (words : List ℕ) → All (λ word. word < 2 ^ 64) words → map (cast_unsigned w64) (map (cast_signed w64) words) ≡ words
unsigned_again [] small = refl
unsigned_again (w ∷ words) small =
    ap (λ n. n ∷ map (cast_unsigned w64) (map (cast_signed w64) words)) (of_z-to_z w64 w (small 0 0 (omega arith)))
    ∙ ap (λ ns. w ∷ ns) (unsigned_again words (λ k d within. small (suc k) d (omega (arith, within))))

integers_in : Items → List ℤ
integers_in no_items = []
integers_in (item (int z) xs) = z ∷ integers_in xs
integers_in (item _ xs) = integers_in xs

integers_again : (zs : List ℤ) → integers_in (items_of (map int zs)) ≡ zs
unfolding integers_in
integers_again [] = refl
integers_again (z ∷ zs) = ap (λ ys. z ∷ ys) (integers_again zs)

content_in : Edn → Content
content_in nil = Nothing
content_in (int z) = One z
content_in (vector xs) = Several (integers_in xs)
content_in _ = Nothing

content_parsed : (c : Content) → content_in (content_value c) ≡ c
unfolding content_in
content_parsed Nothing = refl
content_parsed (One z) = refl
content_parsed (Several zs) = ap Several (integers_again zs)

-- one record is kept of an operation
same_kept : (op : Operation) (this that : Record) → operation_of this ≡ op → operation_of that ≡ op → this ≡ that
same_kept op this that kept held =
    let same : operation_of this ≡ operation_of that = kept ∙ sym held in
    let fs : Some this.function ≡ Some that.function = sym (kept_function op this kept) ∙ kept_function op that held in
    let f : this.function ≡ that.function = cc in
    let content : this.content ≡ that.content = sym (content_parsed this.content) ∙ ap (λ o. content_in o.value) same ∙ content_parsed that.content in
    let es : Some (event_word this.event) ≡ Some (event_word that.event) = sym (kept_event op this kept) ∙ kept_event op that held in
    let words : event_word this.event ≡ event_word that.event = cc in
    let event : this.event ≡ that.event = sym (event_again this.event) ∙ ap event_of words ∙ event_again that.event in
    λ i. record { kind = (same i).kind; process = (same i).process; function = f i; content = content i; event = event i }

same_words : (r : Record) (these those : List ℕ) → AreWordsOf these r → AreWordsOf those r → these ≡ those
same_words r these those are were =
    let rest : are.0 ≡ were.0 = sym (unsigned_again are.0 are.2.0) ∙ ap (map (cast_unsigned w64)) (are.2.1 ∙ sym were.2.1) ∙ unsigned_again were.0 were.2.0 in
    are.1 ∙ ap (λ ws. heading r ++ ws) rest ∙ sym were.1

pub one_list : (op : Operation) (these those : List ℕ) → IsRecordedAs op these → IsRecordedAs op those → these ≡ those
one_list op these those h g =
    same_words g.0 these those (subst (AreWordsOf these) (same_kept op h.0 g.0 h.2 g.2) h.3) g.3

pub one_operation : (this that : Operation) (words : List ℕ) → IsRecordedAs this words → IsRecordedAs that words → this ≡ that
one_operation this that words h g = sym h.2 ∙ ap operation_of (same_record h.0 g.0 words h.1 g.1 h.3 g.3) ∙ g.2

-- ---- what a slice of words has

pub words_fit : (words : List ℕ) → ((i : ℕ) → get_or words i 0 < 2 ^ 64) → All (λ word. word < 2 ^ 64) words
words_fit words fit k d within = subst (λ n. n < 2 ^ 64) (get_or_default words k 0 d within) (fit k)

pub rest_whole : (words : List ℕ) (n : ℕ) → n ≡ length words - 3 → take n (drop 3 words) ≡ drop 3 words
rest_whole words n is = take_all n (drop 3 words) (omega (arith, is, length-drop 3 words))
