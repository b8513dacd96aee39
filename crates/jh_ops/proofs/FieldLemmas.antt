-- What the pairs of a map say of an operation, added one by one, is what all of them say.
use Rattle.std.proofs.Common.{◌≡◌, ℕ, Bool, true, false, List, [], ◌∷◌, ◌++◌, filter, find, Option, Some, None, refl, sym, ap, ◌∙◌, inl, inr, subst, codes}
use Rattle.std.specs.Prelude.{ℤ, cond, not, ◌&&◌, ◌||◌, option_map, option_and_then}
use Rattle.std.specs.Option.{option_or}
use Rattle.std.specs.Str.{bytes_eq}
use Rattle.std.proofs.lemmas.Bool.{cases_Bool}
use Rattle.std.proofs.lemmas.List.{append-nil, append_assoc}
use Rattle.std.proofs.lemmas.Slice.Eq.{bytes_eq-Decides}
use Rattle.jh_edn.specs.Edn.{Edn, nil, boolean, int, char, str, keyword, symbol, list, vector, mapping, set, tagged, is_keyword, is_integer, integer_of, value_under}
use Rattle.jh_ops.specs.FieldsInside.{FieldsValue, no_fields, fields_of, time_field, index_field, field_named, field_of, with_field, with_pair}
use Rattle.jh_ops.specs.OperationText.{is_integer_under, integer_under, is_other}
use Rattle.jh_ops.specs.declared.op_text.Field.{Field}
use Rattle.jh_ops.specs.declared.op_text.Field.TheVariants as fields

-- ---- what is said first, and then what is said behind it

or_none : {X : Type 0} (o : Option X) → option_or o None ≡ o
or_none None = refl
or_none (Some x) = refl

or_again : {X : Type 0} (a b c : Option X) → option_or (option_or a b) c ≡ option_or a (option_or b c)
or_again None b c = refl
or_again (Some x) b c = refl

abbrev pub joined : FieldsValue → FieldsValue → FieldsValue
joined a b = record {
  kind = option_or a.kind b.kind;
  f = option_or a.f b.f;
  process = option_or a.process b.process;
  value = option_or a.value b.value;
  time = option_or a.time b.time;
  index = option_or a.index b.index;
  rest = a.rest ++ b.rest;
}

joined_again : (a b c : FieldsValue) → joined (joined a b) c ≡ joined a (joined b c)
joined_again a b c = λ i. record {
  kind = or_again a.kind b.kind c.kind i;
  f = or_again a.f b.f c.f i;
  process = or_again a.process b.process c.process i;
  value = or_again a.value b.value c.value i;
  time = or_again a.time b.time c.time i;
  index = or_again a.index b.index c.index i;
  rest = append_assoc a.rest b.rest c.rest i;
}

joined_none : (a : FieldsValue) → joined a no_fields ≡ a
joined_none a = λ i. record {
  kind = or_none a.kind i;
  f = or_none a.f i;
  process = or_none a.process i;
  value = or_none a.value i;
  time = or_none a.time i;
  index = or_none a.index i;
  rest = append-nil a.rest i;
}

-- ---- what one pair says

abbrev pub said_by : Field → Edn × Edn → FieldsValue
said_by part p = with_field no_fields part p

added : (said : FieldsValue) (part : Field) (p : Edn × Edn) → with_field said part p ≡ joined said (said_by part p)
added said fields.Kind p = λ i. record { kind = option_or said.kind (Some p.1); f = sym (or_none said.f) i; process = sym (or_none said.process) i; value = sym (or_none said.value) i; time = sym (or_none said.time) i; index = sym (or_none said.index) i; rest = sym (append-nil said.rest) i }
added said fields.F p = λ i. record { kind = sym (or_none said.kind) i; f = option_or said.f (Some p.1); process = sym (or_none said.process) i; value = sym (or_none said.value) i; time = sym (or_none said.time) i; index = sym (or_none said.index) i; rest = sym (append-nil said.rest) i }
added said fields.Process p = λ i. record { kind = sym (or_none said.kind) i; f = sym (or_none said.f) i; process = option_or said.process (Some p.1); value = sym (or_none said.value) i; time = sym (or_none said.time) i; index = sym (or_none said.index) i; rest = sym (append-nil said.rest) i }
added said fields.Value p = λ i. record { kind = sym (or_none said.kind) i; f = sym (or_none said.f) i; process = sym (or_none said.process) i; value = option_or said.value (Some p.1); time = sym (or_none said.time) i; index = sym (or_none said.index) i; rest = sym (append-nil said.rest) i }
added said (fields.Time z) p = λ i. record { kind = sym (or_none said.kind) i; f = sym (or_none said.f) i; process = sym (or_none said.process) i; value = sym (or_none said.value) i; time = option_or said.time (Some z); index = sym (or_none said.index) i; rest = sym (append-nil said.rest) i }
added said (fields.Index z) p = λ i. record { kind = sym (or_none said.kind) i; f = sym (or_none said.f) i; process = sym (or_none said.process) i; value = sym (or_none said.value) i; time = sym (or_none said.time) i; index = option_or said.index (Some z); rest = sym (append-nil said.rest) i }
added said fields.Other p = λ i. record { kind = sym (or_none said.kind) i; f = sym (or_none said.f) i; process = sym (or_none said.process) i; value = sym (or_none said.value) i; time = sym (or_none said.time) i; index = sym (or_none said.index) i; rest = said.rest ++ p ∷ [] }

-- one pair alone, under a keyword of each name
abbrev Says : Edn → Edn → Type 0
Says key v = fields_of ((key, v) ∷ []) ≡ said_by (field_of key v) (key, v)

time_says : (v : Edn) → Says (keyword (codes "time")) v
time_says nil = refl
time_says (boolean b) = refl
time_says (int z) = refl
time_says (char x) = refl
time_says (str text) = refl
time_says (keyword text) = refl
time_says (symbol text) = refl
time_says (list xs) = refl
time_says (vector xs) = refl
time_says (mapping ms) = refl
time_says (set xs) = refl
time_says (tagged tag x) = refl

index_says : (v : Edn) → Says (keyword (codes "index")) v
index_says nil = refl
index_says (boolean b) = refl
index_says (int z) = refl
index_says (char x) = refl
index_says (str text) = refl
index_says (keyword text) = refl
index_says (symbol text) = refl
index_says (list xs) = refl
index_says (vector xs) = refl
index_says (mapping ms) = refl
index_says (set xs) = refl
index_says (tagged tag x) = refl

named_says : (name wanted : List ℕ) (v : Edn) → bytes_eq name wanted ≡ true → Says (keyword wanted) v → Says (keyword name) v
named_says name wanted v hit says = subst (λ n. Says (keyword n) v) (sym ((bytes_eq-Decides name wanted).0 hit)) says

-- the value under a name that the one key has not
not_under : (name wanted : List ℕ) (v : Edn) → bytes_eq name wanted ≡ false → value_under wanted ((keyword name, v) ∷ []) ≡ None
not_under name wanted v miss = ap (λ b. option_map {T = Edn × Edn} (λ pair. pair.1) (cond b (Some (keyword name, v)) None)) miss

no_integer_under : (name wanted : List ℕ) (v : Edn) → bytes_eq name wanted ≡ false → integer_under wanted ((keyword name, v) ∷ []) ≡ None
no_integer_under name wanted v miss = ap (λ b. option_and_then {T = Edn × Edn} (λ pair. integer_of pair.1) (cond (b && is_integer v) (Some (keyword name, v)) None)) miss

other_says : (name : List ℕ) (v : Edn) → bytes_eq name (codes "type") ≡ false → bytes_eq name (codes "f") ≡ false → bytes_eq name (codes "process") ≡ false
    → bytes_eq name (codes "value") ≡ false → bytes_eq name (codes "time") ≡ false → bytes_eq name (codes "index") ≡ false → Says (keyword name) v
other_says name v type f process value time index =
    let p : Edn × Edn = (keyword name, v) in
    let other : field_named name v ≡ fields.Other =
    ap (λ b. cond b fields.Kind (cond (bytes_eq name (codes "f")) fields.F (cond (bytes_eq name (codes "process")) fields.Process (cond (bytes_eq name (codes "value")) fields.Value (cond (bytes_eq name (codes "time")) (time_field v) (cond (bytes_eq name (codes "index")) (index_field v) fields.Other)))))) type
    ∙ ap (λ b. cond b fields.F (cond (bytes_eq name (codes "process")) fields.Process (cond (bytes_eq name (codes "value")) fields.Value (cond (bytes_eq name (codes "time")) (time_field v) (cond (bytes_eq name (codes "index")) (index_field v) fields.Other))))) f
    ∙ ap (λ b. cond b fields.Process (cond (bytes_eq name (codes "value")) fields.Value (cond (bytes_eq name (codes "time")) (time_field v) (cond (bytes_eq name (codes "index")) (index_field v) fields.Other)))) process
    ∙ ap (λ b. cond b fields.Value (cond (bytes_eq name (codes "time")) (time_field v) (cond (bytes_eq name (codes "index")) (index_field v) fields.Other))) value
    ∙ ap (λ b. cond b (time_field v) (cond (bytes_eq name (codes "index")) (index_field v) fields.Other)) time
    ∙ ap (λ b. cond b (index_field v) fields.Other) index in
    let is : is_other p ≡ true =
    ap (λ b. not (b || (bytes_eq name (codes "process") || (bytes_eq name (codes "f") || (bytes_eq name (codes "value") || false)))) && not ((bytes_eq name (codes "time") || (bytes_eq name (codes "index") || false)) && is_integer v)) type
    ∙ ap (λ b. not (b || (bytes_eq name (codes "f") || (bytes_eq name (codes "value") || false))) && not ((bytes_eq name (codes "time") || (bytes_eq name (codes "index") || false)) && is_integer v)) process
    ∙ ap (λ b. not (b || (bytes_eq name (codes "value") || false)) && not ((bytes_eq name (codes "time") || (bytes_eq name (codes "index") || false)) && is_integer v)) f
    ∙ ap (λ b. not (b || false) && not ((bytes_eq name (codes "time") || (bytes_eq name (codes "index") || false)) && is_integer v)) value
    ∙ ap (λ b. not ((b || (bytes_eq name (codes "index") || false)) && is_integer v)) time
    ∙ ap (λ b. not ((b || false) && is_integer v)) index in
    let kept : filter is_other (p ∷ []) ≡ p ∷ [] = ap (λ b. cond b (p ∷ []) []) is in
    let alone : fields_of (p ∷ []) ≡ said_by fields.Other p = λ i. record {
      kind = not_under name (codes "type") v type i;
      f = not_under name (codes "f") v f i;
      process = not_under name (codes "process") v process i;
      value = not_under name (codes "value") v value i;
      time = no_integer_under name (codes "time") v time i;
      index = no_integer_under name (codes "index") v index i;
      rest = kept i;
    } in
    alone ∙ ap (λ part. said_by part p) (sym other)

keyword_says : (name : List ℕ) (v : Edn) → Says (keyword name) v
keyword_says name v =
    elim (cases_Bool (bytes_eq name (codes "type"))) [
      | inl hit ↦ named_says name (codes "type") v hit refl
      | inr type ↦ elim (cases_Bool (bytes_eq name (codes "f"))) [
        | inl hit ↦ named_says name (codes "f") v hit refl
        | inr f ↦ elim (cases_Bool (bytes_eq name (codes "process"))) [
          | inl hit ↦ named_says name (codes "process") v hit refl
          | inr process ↦ elim (cases_Bool (bytes_eq name (codes "value"))) [
            | inl hit ↦ named_says name (codes "value") v hit refl
            | inr value ↦ elim (cases_Bool (bytes_eq name (codes "time"))) [
              | inl hit ↦ named_says name (codes "time") v hit (time_says v)
              | inr time ↦ elim (cases_Bool (bytes_eq name (codes "index"))) [
                | inl hit ↦ named_says name (codes "index") v hit (index_says v)
                | inr index ↦ other_says name v type f process value time index
              ]
            ]
          ]
        ]
      ]
    ]

says : (key v : Edn) → Says key v
says nil v = refl
says (boolean b) v = refl
says (int z) v = refl
says (char x) v = refl
says (str text) v = refl
says (keyword name) v = keyword_says name v
says (symbol text) v = refl
says (list xs) v = refl
says (vector xs) v = refl
says (mapping ms) v = refl
says (set xs) v = refl
says (tagged tag x) v = refl

-- ---- what a pair says before others

first_under : (name : List ℕ) (p : Edn × Edn) (ps : List (Edn × Edn)) → value_under name (p ∷ ps) ≡ option_or (value_under name (p ∷ [])) (value_under name ps)
first_under name p ps =
    elim (is_keyword name p.0)
    as (λ b. option_map (λ pair. pair.1) (cond b (Some p) (find (λ pair. is_keyword name pair.0) ps)) ≡ option_or (option_map (λ pair. pair.1) (cond b (Some p) None)) (value_under name ps))
    [ true ↦ refl | false ↦ refl ]

no_and : (b : Bool) → (b && false) ≡ true → ⊥
no_and true e = cc
no_and false e = cc

-- an integer is there where a pair has one
integer_there : (name : List ℕ) (key v : Edn) (o : Option ℤ) → is_integer_under name (key, v) ≡ true → integer_of v ≡ option_or (integer_of v) o
integer_there name key nil o hit = absurd (no_and (is_keyword name key) hit)
integer_there name key (boolean b) o hit = absurd (no_and (is_keyword name key) hit)
integer_there name key (int z) o hit = refl
integer_there name key (char x) o hit = absurd (no_and (is_keyword name key) hit)
integer_there name key (str text) o hit = absurd (no_and (is_keyword name key) hit)
integer_there name key (keyword text) o hit = absurd (no_and (is_keyword name key) hit)
integer_there name key (symbol text) o hit = absurd (no_and (is_keyword name key) hit)
integer_there name key (list xs) o hit = absurd (no_and (is_keyword name key) hit)
integer_there name key (vector xs) o hit = absurd (no_and (is_keyword name key) hit)
integer_there name key (mapping ms) o hit = absurd (no_and (is_keyword name key) hit)
integer_there name key (set xs) o hit = absurd (no_and (is_keyword name key) hit)
integer_there name key (tagged tag x) o hit = absurd (no_and (is_keyword name key) hit)

first_integer : (name : List ℕ) (p : Edn × Edn) (ps : List (Edn × Edn)) → integer_under name (p ∷ ps) ≡ option_or (integer_under name (p ∷ [])) (integer_under name ps)
first_integer name p ps =
    elim (cases_Bool (is_integer_under name p)) [
      | inl hit ↦
          ap (λ b. option_and_then (λ pair. integer_of pair.1) (cond b (Some p) (find (is_integer_under name) ps))) hit
          ∙ integer_there name p.0 p.1 (integer_under name ps) hit
          ∙ sym (ap (λ b. option_or (option_and_then (λ pair. integer_of pair.1) (cond b (Some p) None)) (integer_under name ps)) hit)
      | inr miss ↦
          ap (λ b. option_and_then (λ pair. integer_of pair.1) (cond b (Some p) (find (is_integer_under name) ps))) miss
          ∙ sym (ap (λ b. option_or (option_and_then (λ pair. integer_of pair.1) (cond b (Some p) None)) (integer_under name ps)) miss)
    ]

first_other : (p : Edn × Edn) (ps : List (Edn × Edn)) → filter is_other (p ∷ ps) ≡ filter is_other (p ∷ []) ++ filter is_other ps
first_other p ps = elim (is_other p) as (λ b. cond b (p ∷ filter is_other ps) (filter is_other ps) ≡ cond b (p ∷ []) [] ++ filter is_other ps) [ true ↦ refl | false ↦ refl ]

first_said : (p : Edn × Edn) (ps : List (Edn × Edn)) → fields_of (p ∷ ps) ≡ joined (fields_of (p ∷ [])) (fields_of ps)
first_said p ps = λ i. record {
  kind = first_under (codes "type") p ps i;
  f = first_under (codes "f") p ps i;
  process = first_under (codes "process") p ps i;
  value = first_under (codes "value") p ps i;
  time = first_integer (codes "time") p ps i;
  index = first_integer (codes "index") p ps i;
  rest = first_other p ps i;
}

-- ---- one by one

abbrev pub with_pairs : FieldsValue → List (Edn × Edn) → FieldsValue
with_pairs said [] = said
with_pairs said (p ∷ ps) = with_pairs (with_pair said p) ps

one_added : (said : FieldsValue) (p : Edn × Edn) → with_pair said p ≡ joined said (fields_of (p ∷ []))
one_added said p = added said (field_of p.0 p.1) p ∙ ap (joined said) (sym (says p.0 p.1))

all_added : (said : FieldsValue) (ps : List (Edn × Edn)) → with_pairs said ps ≡ joined said (fields_of ps)
all_added said [] = sym (joined_none said)
all_added said (p ∷ ps) =
    all_added (with_pair said p) ps ∙ ap (λ a. joined a (fields_of ps)) (one_added said p) ∙ joined_again said (fields_of (p ∷ [])) (fields_of ps) ∙ ap (joined said) (sym (first_said p ps))

pub from_none : (ps : List (Edn × Edn)) → with_pairs no_fields ps ≡ fields_of ps
from_none ps = all_added no_fields ps
