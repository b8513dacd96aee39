-- Which parts an operation has that is recorded: its function, the shape of its value, and its event.
use Rattle.std.proofs.Common.{◌≡◌, ℕ, zero, suc, ◌+◌, ◌<◌, ◌≤◌, ◌^◌, Bool, true, false, List, [], ◌∷◌, length, Some, None, refl, sym, ap, subst, ◌∙◌, inl, inr, arith, codes}
use Rattle.std.specs.Prelude.{Option, slice_set, slice_index_or, take, drop, ◌++◌, ◌==◌, ◌⊎◌, ◌&&◌, ℤ, pos, cond, map, All, IfSome}
use Rattle.std.specs.Bool.{then_some}
use Rattle.std.specs.Int.{w64, cast_signed}
use Rattle.std.specs.List.{list_all}
use Rattle.std.specs.Str.{bytes_eq}
use Rattle.std.proofs.lemmas.Bool.{cases_Bool, and_parts}
use Rattle.std.proofs.Common.{length-drop, get_or}
use Rattle.std.proofs.lemmas.List.{drop-set-add, take_more_set, take_more, drop-drop, map-append}
use Rattle.std.proofs.lemmas.List.Folds.{list_all-map}
use Rattle.jh_edn.specs.View.{view, views}
use Rattle.jh_edn.specs.declared.value.Value.{Value}
use Rattle.jh_edn.specs.Edn.{Edn, Items, no_items, item, nil, int, keyword, vector, items_of, list_of, is_keyword, is_integer}
use Rattle.jh_ops.specs.Operation.{Operation}
use Rattle.jh_ops.specs.RecordParts.{function_named, function_of, takes, shape_number, holds, shape_of_value, elements, IsPlain, event_word_in, first_word, IsHeadingOf, IsWordOf, AreWordsOfValues}
use Rattle.jh_ops.specs.Words.{Content, Nothing, One, Several, content_value, content_number, integers, MayHave, function_name, Record, pairs_of_event, operation_of, CanBeKept, StandFor, event_word, heading, process_word}
use Rattle.jh_ops.specs.declared.record.Function.{Function}
use Rattle.jh_ops.specs.declared.record.ValueShape.{ValueShape}
use Rattle.jh_ops.proofs.MapPairLemmas.{keyword_is}
use Rattle.jh_edn.proofs.CitedLemmas.{list_of-items_of}

-- ---- its function

-- one test of a name after another
tested : (name other : List ℕ) (here : Function) (rest : Option Function) (f : Function) → cond (bytes_eq name other) (Some here) rest ≡ Some f → ((keyword name ≡ keyword other) × (here ≡ f)) ⊎ (rest ≡ Some f)
tested name other here rest f found =
    elim (cases_Bool (bytes_eq name other)) [
      | inl hit ↦
          let same : here ≡ f = (let e : Some here ≡ Some f = sym (ap (λ b. cond b (Some here) rest) hit) ∙ found in cc) in
          inl (keyword_is other (keyword name) hit, same)
      | inr miss ↦ inr (sym (ap (λ b. cond b (Some here) rest) miss) ∙ found)
    ]

named : (name : List ℕ) (f : Function) → function_named name ≡ Some f → keyword name ≡ keyword (function_name f)
named name f found =
    let here : (g : Function) → (keyword name ≡ keyword (function_name g)) × (g ≡ f) → keyword name ≡ keyword (function_name f) = λ g p. p.0 ∙ ap (λ h. keyword (function_name h)) p.1 in
    elim (tested name (codes "read") Function.Read _ f found) [
      | inl p ↦ here Function.Read p
      | inr more ↦
          elim (tested name (codes "write") Function.Write _ f more) [
            | inl p ↦ here Function.Write p
            | inr more ↦
                elim (tested name (codes "cas") Function.Cas _ f more) [
                  | inl p ↦ here Function.Cas p
                  | inr more ↦
                      elim (tested name (codes "add") Function.Add _ f more) [
                        | inl p ↦ here Function.Add p
                        | inr more ↦
                            elim (tested name (codes "generate") Function.Generate _ f more) [
                              | inl p ↦ here Function.Generate p
                              | inr more ↦
                                  elim (tested name (codes "step") Function.Step _ f more) [ inl p ↦ here Function.Step p | inr none ↦ absurd (let clash : None ≡ Some f = none in cc) ]
                            ]
                      ]
                ]
          ]
    ]

function_is : (value : Edn) (f : Function) → function_of value ≡ Some f → value ≡ keyword (function_name f)
function_is (keyword name) f found = named name f found
function_is _ f found = absurd (let clash : None ≡ Some f = found in cc)

pub function_again : (f : Function) → function_of (keyword (function_name f)) ≡ Some f
function_again Function.Read = refl
function_again Function.Write = refl
function_again Function.Cas = refl
function_again Function.Add = refl
function_again Function.Generate = refl
function_again Function.Step = refl

-- ---- its value

abbrev pub shape_in : Content → ValueShape
shape_in Nothing = ValueShape.Nil
shape_in (One z) = ValueShape.Integer
shape_in (Several zs) = ValueShape.Vector

pub number_is : (c : Content) → shape_number (shape_in c) ≡ content_number c
number_is Nothing = refl
number_is (One z) = refl
number_is (Several zs) = refl

all_integers : (xs : Items) → list_all is_integer (list_of xs) ≡ true → (zs : List ℤ) × (xs ≡ items_of (map int zs))
all_integers no_items all = ([], refl)
all_integers (item (int z) xs) all =
    let rest = all_integers xs all in
    (z ∷ rest.0, ap (item (int z)) rest.1)
all_integers (item _ xs) all = absurd (let clash : false ≡ true = all in cc)

are_integers_again : (zs : List ℤ) → list_all is_integer (map int zs) ≡ true
are_integers_again [] = refl
are_integers_again (z ∷ zs) = are_integers_again zs

value_is : (value : Edn) (s : ValueShape) → shape_of_value value ≡ Some s → (c : Content) × (content_value c ≡ value) × (shape_in c ≡ s)
value_is nil s found = (Nothing, refl, let e : Some ValueShape.Nil ≡ Some s = found in cc)
value_is (int z) s found = (One z, refl, let e : Some ValueShape.Integer ≡ Some s = found in cc)
value_is (vector xs) s found =
    elim (cases_Bool (list_all is_integer (list_of xs))) [
      | inl hit ↦
          let from = all_integers xs hit in
          (Several from.0, sym (ap vector from.1), (let e : Some ValueShape.Vector ≡ Some s = sym (ap (λ b. cond b (Some ValueShape.Vector) None) hit) ∙ found in cc))
      | inr miss ↦ absurd (let clash : None ≡ Some s = sym (ap (λ b. cond b (Some ValueShape.Vector) None) miss) ∙ found in cc)
    ]
value_is _ s found = absurd (let clash : None ≡ Some s = found in cc)

pub then_some_is : (b : Bool) → then_some b ValueShape.Vector ≡ cond b (Some ValueShape.Vector) None
then_some_is true = refl
then_some_is false = refl

-- the shape of a vector of these values
pub shape_of_vector : (values : List Value) (b : Bool) → list_all (λ v. is_integer (view v)) values ≡ b → shape_of_value (vector (items_of (views values))) ≡ cond b (Some ValueShape.Vector) None
shape_of_vector values b all =
    ap (λ xs. cond (list_all is_integer xs) (Some ValueShape.Vector) None) (list_of-items_of (views values)) ∙ ap (λ t. cond t (Some ValueShape.Vector) None) (list_all-map is_integer view values ∙ all)

shape_again : (c : Content) → shape_of_value (content_value c) ≡ Some (shape_in c)
shape_again Nothing = refl
shape_again (One z) = refl
shape_again (Several zs) = ap (λ xs. cond (list_all is_integer xs) (Some ValueShape.Vector) None) (list_of-items_of (map int zs)) ∙ ap (λ b. cond b (Some ValueShape.Vector) None) (are_integers_again zs)

pub elements_are : (c : Content) → elements (content_value c) ≡ map int (integers c)
elements_are Nothing = refl
elements_are (One z) = refl
elements_are (Several zs) = list_of-items_of (map int zs)

count_mapped : (zs : List ℤ) → length (map int zs) ≡ length zs
count_mapped [] = refl
count_mapped (z ∷ zs) = ap suc (count_mapped zs)

pub count_is : (c : Content) → length (elements (content_value c)) ≡ length (integers c)
count_is c = ap length (elements_are c) ∙ count_mapped (integers c)

pair_of : (zs : List ℤ) → (length zs == 2) ≡ true → (first : ℤ) × (second : ℤ) × (zs ≡ first ∷ second ∷ [])
pair_of [] h = absurd (let clash : false ≡ true = h in cc)
pair_of (a ∷ []) h = absurd (let clash : false ≡ true = h in cc)
pair_of (a ∷ b ∷ []) h = (a, b, refl)
pair_of (a ∷ b ∷ z ∷ zs) h = absurd (grind (arith, h))

may_have_pair : (f : Function) → ((first second : ℤ) → MayHave f (Several (first ∷ second ∷ []))) → (zs : List ℤ) → (length zs == 2) ≡ true → MayHave f (Several zs)
may_have_pair f pairs zs h =
    let parts = pair_of zs h in
    subst (λ xs. MayHave f (Several xs)) (sym parts.2) (pairs parts.0 parts.1)

pub may_have : (f : Function) (c : Content) → takes f (shape_in c) (length (integers c)) ≡ true → MayHave f c
may_have Function.Read c h = tt
may_have Function.Write (One z) h = tt
may_have Function.Cas (Several zs) h = may_have_pair Function.Cas (λ a b. tt) zs h
may_have Function.Add (One z) h = tt
may_have Function.Generate Nothing h = tt
may_have Function.Generate (One z) h = tt
may_have Function.Step (One z) h = tt
may_have Function.Step (Several zs) h = may_have_pair Function.Step (λ a b. tt) zs h
may_have Function.Write Nothing h = absurd cc
may_have Function.Write (Several zs) h = absurd cc
may_have Function.Cas Nothing h = absurd cc
may_have Function.Cas (One z) h = absurd cc
may_have Function.Add Nothing h = absurd cc
may_have Function.Add (Several zs) h = absurd cc
may_have Function.Generate (Several zs) h = absurd cc
may_have Function.Step Nothing h = absurd cc

pub takes_again : (f : Function) (c : Content) → MayHave f c → takes f (shape_in c) (length (integers c)) ≡ true
takes_again Function.Read c h = refl
takes_again Function.Write (One z) h = refl
takes_again Function.Cas (Several (a ∷ b ∷ [])) h = refl
takes_again Function.Add (One z) h = refl
takes_again Function.Generate Nothing h = refl
takes_again Function.Generate (One z) h = refl
takes_again Function.Step (One z) h = refl
takes_again Function.Step (Several (a ∷ b ∷ [])) h = refl
takes_again _ _ h = absurd h

pub few : (c : Content) → holds (shape_in c) (length (integers c)) ≡ true → length (integers c) ≤ 1272
few Nothing h = omega arith
few (One z) h = omega arith
few (Several zs) h = grind (arith, h)

pub holds_again : (c : Content) → length (integers c) ≤ 1272 → holds (shape_in c) (length (integers c)) ≡ true
holds_again Nothing h = refl
holds_again (One z) h = refl
holds_again (Several zs) h = grind (arith, h)

-- ---- its event

event_is : (rest : List (Edn × Edn)) (word : ℕ) → event_word_in rest ≡ Some word → (e : Option ℕ) × (pairs_of_event e ≡ rest) × (event_word e ≡ word)
event_is [] word found = (None, refl, let e : Some 0 ≡ Some word = found in cc)
event_is ((key, int (pos number)) ∷ []) word found =
    elim (cases_Bool (is_keyword (codes "event") key)) [
      | inl hit ↦ (
        Some number,
        ap (λ k. (k, int (pos number)) ∷ []) (sym (keyword_is (codes "event") key hit)),
        (let e : Some (suc number) ≡ Some word = sym (ap (λ b. cond b (Some (suc number)) None) hit) ∙ found in cc),
      )
      | inr miss ↦ absurd (let clash : None ≡ Some word = sym (ap (λ b. cond b (Some (suc number)) None) miss) ∙ found in cc)
    ]
event_is _ word found = absurd (let clash : None ≡ Some word = found in cc)

event_again : (e : Option ℕ) → event_word_in (pairs_of_event e) ≡ Some (event_word e)
event_again None = refl
event_again (Some number) = refl

pub event_small : (e : Option ℕ) → event_word e ≤ 2 ^ 63 → IfSome e (λ number. number < 2 ^ 63)
event_small None h = tt
event_small (Some number) h = omega (arith, h)

-- ---- the whole

pub heading_is : (op : Operation) (f : Function) (s : ValueShape) (word : ℕ) → event_word_in op.rest ≡ Some word → word ≤ 2 ^ 63 → function_of op.f ≡ Some f → shape_of_value op.value ≡ Some s → IsPlain op
    → (holds s (length (elements op.value)) && takes f s (length (elements op.value))) ≡ true → IsHeadingOf op (first_word (record { kind = op.kind; function = f; shape = s }) ∷ process_word op.process ∷ word ∷ [])
heading_is op f s word event small function shape plain fits =
    let e = event_is op.rest word event in
    let c = value_is op.value s shape in
    let count : length (elements op.value) ≡ length (integers c.0) = ap (λ v. length (elements v)) (sym c.1) ∙ count_is c.0 in
    let parts = and_parts (holds s (length (elements op.value))) (takes f s (length (elements op.value))) fits in
    let held : holds (shape_in c.0) (length (integers c.0)) ≡ true = rw (c.2, ← count) parts.0 in
    let taken : takes f (shape_in c.0) (length (integers c.0)) ≡ true = rw (c.2, ← count) parts.1 in
    let number : content_number c.0 ≡ shape_number s = sym (number_is c.0) ∙ ap shape_number c.2 in (
      record { kind = op.kind; process = op.process; function = f; content = c.0; event = e.0 },
      record { process = plain.2; content = may_have f c.0 taken; few = few c.0 held; event = event_small e.0 (rw e.2 small) },
      (λ i. record { kind = op.kind; process = op.process; f = sym (function_is op.f f function) i; value = c.1 i; time = sym plain.0 i; index = sym plain.1 i; rest = e.1 i }),
      rw (number, e.2) refl,
    )

-- what is recorded of an operation says which parts it has
pub kept_event : (op : Operation) (r : Record) → operation_of r ≡ op → event_word_in op.rest ≡ Some (event_word r.event)
kept_event op r same = ap (λ o. event_word_in o.rest) (sym same) ∙ event_again r.event

pub kept_function : (op : Operation) (r : Record) → operation_of r ≡ op → function_of op.f ≡ Some r.function
kept_function op r same = ap (λ o. function_of o.f) (sym same) ∙ function_again r.function

pub kept_shape : (op : Operation) (r : Record) → operation_of r ≡ op → shape_of_value op.value ≡ Some (shape_in r.content)
kept_shape op r same = ap (λ o. shape_of_value o.value) (sym same) ∙ shape_again r.content

pub kept_plain : (op : Operation) (r : Record) → CanBeKept r → operation_of r ≡ op → IsPlain op
kept_plain op r can same = subst IsPlain same (refl, refl, can.process)

pub kept_fits : (op : Operation) (r : Record) (f : Function) (s : ValueShape) → CanBeKept r → operation_of r ≡ op → function_of op.f ≡ Some f → shape_of_value op.value ≡ Some s
    → (holds s (length (elements op.value)) && takes f s (length (elements op.value))) ≡ true
kept_fits op r f s can same function shape =
    let f_is : r.function ≡ f = (let e : Some r.function ≡ Some f = sym (kept_function op r same) ∙ function in cc) in
    let s_is : shape_in r.content ≡ s = (let e : Some (shape_in r.content) ≡ Some s = sym (kept_shape op r same) ∙ shape in cc) in
    let count : length (elements op.value) ≡ length (integers r.content) = ap (λ o. length (elements o.value)) (sym same) ∙ count_is r.content in
    rw (count, ← f_is, ← s_is, holds_again r.content can.few) (takes_again r.function r.content can.content)

-- ---- words, one after another

first_three : (words : List ℕ) (first process event : ℕ) → 3 ≤ length words → take 3 (slice_set (slice_set (slice_set words 0 first) 1 process) 2 event) ≡ first ∷ process ∷ event ∷ []
first_three (a ∷ b ∷ c ∷ words) first process event long = refl
first_three [] first process event long = absurd (omega (arith, long))
first_three (a ∷ []) first process event long = absurd (omega (arith, long))
first_three (a ∷ b ∷ []) first process event long = absurd (omega (arith, long))

three_of : (heading : List ℕ) → length heading ≡ 3 → slice_index_or heading 0 0 ∷ slice_index_or heading 1 0 ∷ slice_index_or heading 2 0 ∷ [] ≡ heading
three_of (x ∷ y ∷ z ∷ []) three = refl
three_of [] three = absurd (omega (arith, three))
three_of (x ∷ []) three = absurd (omega (arith, three))
three_of (x ∷ y ∷ []) three = absurd (omega (arith, three))
three_of (x ∷ y ∷ z ∷ w ∷ heading) three = absurd (omega (arith, three))

pub heading_stands : (heading words : List ℕ) → length heading ≡ 3 → 3 ≤ length words
    → take 3 (slice_set (slice_set (slice_set words 0 (slice_index_or heading 0 0)) 1 (slice_index_or heading 1 0)) 2 (slice_index_or heading 2 0)) ≡ heading
heading_stands heading words three long = first_three words (slice_index_or heading 0 0) (slice_index_or heading 1 0) (slice_index_or heading 2 0) long ∙ three_of heading three

pushed : (words : List ℕ) (values : List Edn) (word : ℕ) (value : Edn) → AreWordsOfValues words values → IsWordOf value word → AreWordsOfValues (words ++ word ∷ []) (values ++ value ∷ [])
pushed [] [] word value are is = (is, tt)
pushed (w ∷ words) (x ∷ values) word value are is = (are.0, pushed words values word value are.1 is)
pushed [] (x ∷ values) word value are is = absurd are
pushed (w ∷ words) [] word value are is = absurd are

-- a word that is put after those that stand there
pub put : (words : List ℕ) (place word : ℕ) (values : List Edn) (value : Edn) → 3 + place < length words → AreWordsOfValues (take place (drop 3 words)) values → IsWordOf value word
    → AreWordsOfValues (take (place + 1) (drop 3 (slice_set words (3 + place) word))) (values ++ value ∷ [])
put words place word values value within are is =
    let long : place < length (drop 3 words) = omega (arith, within, length-drop 3 words) in
    let there : take (place + 1) (drop 3 (slice_set words (3 + place) word)) ≡ take place (drop 3 words) ++ word ∷ [] =
    ap (take (place + 1)) (drop-set-add 3 words place word) ∙ take_more_set (drop 3 words) place word long in
    rw there (pushed (take place (drop 3 words)) values word value are is)

pub drop_more : (m n : ℕ) (these those : List ℕ) → n ≡ m + 1 → drop m these ≡ drop m those → drop n these ≡ drop n those
drop_more m n these those next same = rw next (sym (drop-drop 1 m these) ∙ ap (drop 1) same ∙ drop-drop 1 m those)

pub views_more : (values : List Value) (i : ℕ) (value : Value) → i < length values → value ≡ get_or values i value → views (take (i + 1) values) ≡ views (take i values) ++ view value ∷ []
views_more values i value within is =
    ap views (take_more values i value within) ∙ map-append view (take i values) (get_or values i value ∷ []) ∙ ap (λ v. views (take i values) ++ view v ∷ []) (sym is)

-- the one word of an integer
pub one_word : (words : List ℕ) (word : ℕ) (value : Edn) → 3 < length words → IsWordOf value word → AreWordsOfValues (take 1 (drop 3 (slice_set words 3 word))) (value ∷ [])
one_word words word value within is = put words 0 word [] value within tt is

small_first : (word : ℕ) (words : List ℕ) → word < 2 ^ 64 → All (λ w. w < 2 ^ 64) words → All (λ w. w < 2 ^ 64) (word ∷ words)
small_first word words small rest zero d within = small
small_first word words small rest (suc k) d within = rest k d (omega (arith, within))

-- words of integers
pub stand_for : (words : List ℕ) (zs : List ℤ) → AreWordsOfValues words (map int zs) → StandFor words zs
stand_for [] [] are = ((λ k d h. absurd (omega (arith, h))), refl)
stand_for (w ∷ words) (z ∷ zs) are =
    let rest = stand_for words zs are.1 in
    (small_first w words are.0.0 rest.0, ap (λ n. n ∷ map (cast_signed w64) words) (are.0.1 z refl) ∙ ap (λ ns. z ∷ ns) rest.1)
stand_for [] (z ∷ zs) are = absurd are
stand_for (w ∷ words) [] are = absurd are

pub elements_kept : (op : Operation) (r : Record) → operation_of r ≡ op → elements op.value ≡ map int (integers r.content)
elements_kept op r same = ap (λ o. elements o.value) (sym same) ∙ elements_are r.content

pub counted : (op : Operation) (r : Record) → operation_of r ≡ op → length (elements op.value) ≡ length (integers r.content)
counted op r same = ap (λ o. length (elements o.value)) (sym same) ∙ count_is r.content
