-- The form that is found of an operation is the one that it says.
use Rattle.std.proofs.Common.{◌≡◌, ℕ, zero, suc, arith, true, false, List, [], ◌∷◌, Option, Some, None, map, refl, ap, sym, subst, inl, inr, ◌∙◌, codes}
use Rattle.std.specs.Prelude.{ℤ, pos, negsuc, ◌&&◌, slice_get, option_and_then, if◌then◌else◌, MatchOption}
use Rattle.std.specs.Option.{option_map}
use Rattle.std.specs.List.{list_all}
use Rattle.std.specs.Str.{bytes_eq}
use Rattle.std.proofs.lemmas.Bool.Decides.{Decides-eqb, Decides-ltb}
use Rattle.std.proofs.lemmas.Slice.Eq.{bytes_eq-Decides}
use Rattle.jh_edn.specs.Edn.{Edn, Items, nil, int, keyword, vector, no_items, item, items_of, list_of, is_nil, is_integer, integer_of}
use Rattle.jh_ops.specs.Operation.{Operation}
use Rattle.jh_ops.specs.Words.{content_value, pairs_of_event}
use Rattle.jh_ops.specs.declared.call.Request.{Request}
use Rattle.jh_ops.specs.declared.call.Request.TheVariants.{Read, Write, Cas, Add, Generate, Txn}
use Rattle.jh_ops.specs.declared.operation.Kind.{Kind}
use Rattle.jh_ops.specs.declared.operation.Process.{Process}
use Rattle.jh_nemesis.specs.declared.steps.StepAnswer.{StepAnswer}
use Rattle.jh_nemesis.specs.declared.steps.StepAnswer.TheVariants as answer
use Rattle.jh_simnode.specs.declared.replicas.Got.{Got}
use Rattle.jh_simnode.specs.declared.replicas.Reply.{Reply}
use Rattle.jh_simnode.specs.declared.replicas.Reply.TheVariants as reply
use Rattle.jh_simnode.specs.Histories.{got_content, replied_content, completion_kind}
use Rattle.jh_ops.specs.Requests.{request_name, asked_content}
use Rattle.jh_nemesis.specs.Steps.{code_of}
use Rattle.jh_audit.specs.declared.forms.Form.{Form}
use Rattle.jh_audit.specs.declared.forms.Form.TheVariants.{Asks, Completes, Begins, Ends}
use Rattle.jh_audit.specs.Forms.{MayGet, MayReply, Says, SaysAt, named_event}
use Rattle.jh_audit.specs.DecodeInside.{name_in, pair_among, pair_in, is_read_value, is_one, request_asked, request_done, completed_request, natural_in, begun_entry, is_code, ended_entry_by, ended_entry_in, client_form, step_form, form_by, event_by, is_index_of, is_none, form_of, form_at}
use Rattle.jh_audit.proofs.ChoiceLemmas.{same_some, chosen, mapped, bound, both_true}
use Rattle.jh_ops.specs.Pairing.{is_info}

-- ---- values

nil_is : (v : Edn) → is_nil v ≡ true → v ≡ nil
nil_is nil e = refl
nil_is _ e = absurd (cc)

integer_is : (v : Edn) (z : ℤ) → integer_of v ≡ Some z → v ≡ int z
integer_is (int y) z e = ap int (same_some y z e)
integer_is _ z e = absurd (cc)

pub items-list : (xs : Items) → xs ≡ items_of (list_of xs)
items-list no_items = refl
items-list (item x xs) = ap (item x) (items-list xs)

pub list-items : (vs : List Edn) → list_of (items_of vs) ≡ vs
list-items [] = refl
list-items (v ∷ vs) = ap (λ ws. v ∷ ws) (list-items vs)

among_is : (vs : List Edn) (p : ℤ × ℤ) → pair_among vs ≡ Some p → vs ≡ int p.0 ∷ int p.1 ∷ []
among_is (int a ∷ int b ∷ []) p e = ap (λ q. int q.0 ∷ int q.1 ∷ []) (same_some (a, b) p e)
among_is _ p e = absurd (cc)

pair_is : (v : Edn) (p : ℤ × ℤ) → pair_in v ≡ Some p → v ≡ vector (items_of (int p.0 ∷ int p.1 ∷ []))
pair_is (vector xs) p e = ap vector (items-list xs ∙ ap items_of (among_is (list_of xs) p e))
pair_is _ p e = absurd (cc)

whole : (v : Edn) → is_integer v ≡ true → (z : ℤ) × (v ≡ int z)
whole (int z) e = (z, refl)
whole _ e = absurd (cc)

integers_are : (vs : List Edn) → list_all is_integer vs ≡ true → (zs : List ℤ) × (vs ≡ map int zs)
integers_are [] e = ([], refl)
integers_are (v ∷ vs) e =
    let both = both_true (is_integer v) (list_all is_integer vs) e in
    let first = whole v both.0 in
    let later = integers_are vs both.1 in
    (first.0 ∷ later.0, ap (λ w. w ∷ vs) first.1 ∙ ap (λ ws. int first.0 ∷ ws) later.1)

all_integers : (zs : List ℤ) → list_all is_integer (map int zs) ≡ true
all_integers [] = refl
all_integers (z ∷ zs) = all_integers zs

-- ---- requests

name_is : (name spelling : List ℕ) → bytes_eq name spelling ≡ true → name ≡ spelling
name_is name spelling e = (bytes_eq-Decides name spelling).0 e

name_is_not : (name spelling : List ℕ) → bytes_eq name spelling ≡ false → name ≡ spelling → ⊥
name_is_not name spelling differs same =
    let yes = (bytes_eq-Decides name spelling).1 same in
    let clash : true ≡ false = sym yes ∙ differs in
    cc

-- a request is asked by this name with this value
abbrev pub IsAsked : List ℕ → Edn → Request → Type 0
IsAsked name value request = (name ≡ request_name request) × (value ≡ content_value (asked_content request))

asked_nothing : (name spelling : List ℕ) (value : Edn) (request r : Request) → spelling ≡ request_name request → nil ≡ content_value (asked_content request)
    → bytes_eq name spelling ≡ true → (if is_nil value then Some request else None) ≡ Some r → IsAsked name value r
asked_nothing name spelling value request r named none is e =
    elim (chosen (is_nil value) (Some request) None r e)
    [ inl t ↦ subst (IsAsked name value) (same_some request r t.1) (name_is name spelling is ∙ named, nil_is value t.0 ∙ none) | inr t ↦ absurd (let clash = t.1 in cc) ]

asked_integer : (name spelling : List ℕ) (value : Edn) (request : ℤ → Request) (r : Request) → ((z : ℤ) → spelling ≡ request_name (request z))
    → ((z : ℤ) → int z ≡ content_value (asked_content (request z)))
    → bytes_eq name spelling ≡ true → option_map request (integer_of value) ≡ Some r → IsAsked name value r
asked_integer name spelling value request r named one is e =
    let found = mapped request (integer_of value) r e in
    subst (IsAsked name value) found.2 (name_is name spelling is ∙ named found.0, integer_is value found.0 found.1 ∙ one found.0)

asked_pair : (name : List ℕ) (value : Edn) (r : Request) → bytes_eq name (codes "cas") ≡ true
    → option_map (λ p. Cas p.0 p.1) (pair_in value) ≡ Some r → IsAsked name value r
asked_pair name value r is e =
    let found = mapped (λ p. Cas p.0 p.1) (pair_in value) r e in
    subst (IsAsked name value) found.2 (name_is name (codes "cas") is, pair_is value found.0 found.1)

pub asked_is : (name : List ℕ) (value : Edn) (r : Request) → request_asked name value ≡ Some r → IsAsked name value r
asked_is name value r e =
    elim (chosen (bytes_eq name (codes "read")) _ _ r e) [
      | inl t ↦ asked_nothing name (codes "read") value Read r refl refl t.0 t.1
      | inr t ↦ elim (chosen (bytes_eq name (codes "write")) _ _ r t.1) [
        | inl t ↦ asked_integer name (codes "write") value Write r (λ _. refl) (λ _. refl) t.0 t.1
        | inr t ↦ elim (chosen (bytes_eq name (codes "cas")) _ _ r t.1) [
          | inl t ↦ asked_pair name value r t.0 t.1
          | inr t ↦ elim (chosen (bytes_eq name (codes "add")) _ _ r t.1) [
            | inl t ↦ asked_integer name (codes "add") value Add r (λ _. refl) (λ _. refl) t.0 t.1
            | inr t ↦ elim (chosen (bytes_eq name (codes "generate")) _ _ r t.1) [
              | inl t ↦ asked_nothing name (codes "generate") value Generate r refl refl t.0 t.1
              | inr t ↦ elim (chosen (bytes_eq name (codes "txn")) _ _ r t.1) [
                | inl t ↦ asked_nothing name (codes "txn") value Txn r refl refl t.0 t.1
                | inr t ↦ absurd (let clash = t.1 in cc)
              ]
            ]
          ]
        ]
      ]
    ]

pub is_asked : (r : Request) → request_asked (request_name r) (content_value (asked_content r)) ≡ Some r
is_asked Read = refl
is_asked (Write v) = refl
is_asked (Cas a b) = refl
is_asked (Add v) = refl
is_asked Generate = refl
is_asked Txn = refl

-- a request of this name was done, and its completion has this value
abbrev pub IsDone : List ℕ → Edn → Request → Got → Type 0
IsDone name value request got =
    MayGet request got × (name ≡ request_name request) × (value ≡ content_value (got_content request got))

read_is : (v : Edn) → is_read_value v ≡ true → (got : Got) × MayGet Read got × (v ≡ content_value (got_content Read got))
read_is nil e = (Got.One None, tt, refl)
read_is (int z) e = (Got.One (Some z), tt, refl)
read_is (vector xs) e =
    let found = integers_are (list_of xs) e in
    (Got.Many found.0, tt, ap vector (items-list xs ∙ ap items_of found.1))
read_is _ e = absurd (cc)

one_is : (v : Edn) → is_one v ≡ true → (got : Got) × MayGet Generate got × (v ≡ content_value (got_content Generate got))
one_is nil e = (Got.One None, tt, refl)
one_is (int z) e = (Got.One (Some z), tt, refl)
one_is _ e = absurd (cc)

-- a request that gets nothing is completed with what it was asked with
done_else : (name : List ℕ) (value : Edn) (r : Request) → (name ≡ codes "read" → ⊥) → (name ≡ codes "generate" → ⊥) → IsAsked name value r
    → (got : Got) × IsDone name value r got
done_else name value Read no_read no_id asked = absurd (no_read asked.0)
done_else name value (Write v) no_read no_id asked = (Got.Nothing, (tt, asked.0, asked.1))
done_else name value (Cas a b) no_read no_id asked = (Got.Nothing, (tt, asked.0, asked.1))
done_else name value (Add v) no_read no_id asked = (Got.Nothing, (tt, asked.0, asked.1))
done_else name value Generate no_read no_id asked = absurd (no_id asked.0)
done_else name value Txn no_read no_id asked = (Got.Nothing, (tt, asked.0, asked.1))

done_read : (name : List ℕ) (value : Edn) (r : Request) → bytes_eq name (codes "read") ≡ true → (if is_read_value value then Some Read else None) ≡ Some r
    → (got : Got) × IsDone name value r got
done_read name value r is e =
    elim (chosen (is_read_value value) (Some Read) None r e) [
      | inl t ↦ (let found = read_is value t.0 in
          subst (λ q. (got : Got) × IsDone name value q got) (same_some Read r t.1) (found.0, (found.1, name_is name (codes "read") is, found.2)))
      | inr t ↦ absurd (let clash = t.1 in cc)
    ]

done_id : (name : List ℕ) (value : Edn) (r : Request) → bytes_eq name (codes "generate") ≡ true → (if is_one value then Some Generate else None) ≡ Some r
    → (got : Got) × IsDone name value r got
done_id name value r is e =
    elim (chosen (is_one value) (Some Generate) None r e) [
      | inl t ↦ (let found = one_is value t.0 in
          subst (λ q. (got : Got) × IsDone name value q got) (same_some Generate r t.1) (found.0, (found.1, name_is name (codes "generate") is, found.2)))
      | inr t ↦ absurd (let clash = t.1 in cc)
    ]

done_is : (name : List ℕ) (value : Edn) (r : Request) → request_done name value ≡ Some r → (got : Got) × IsDone name value r got
done_is name value r e =
    elim (chosen (bytes_eq name (codes "read")) _ _ r e) [
      | inl t ↦ done_read name value r t.0 t.1
      | inr t ↦ elim (chosen (bytes_eq name (codes "generate")) _ _ r t.1) [
        | inl u ↦ done_id name value r u.0 u.1
        | inr u ↦ done_else name value r (name_is_not name (codes "read") t.0) (name_is_not name (codes "generate") u.0) (asked_is name value r u.1)
      ]
    ]

is_done : (r : Request) (got : Got) → MayGet r got → request_done (request_name r) (content_value (got_content r got)) ≡ Some r
is_done Read Got.Nothing may = absurd may
is_done Read (Got.One None) may = refl
is_done Read (Got.One (Some z)) may = refl
is_done Read (Got.Many zs) may = rw (list-items (map int zs), all_integers zs) refl
is_done (Write v) Got.Nothing may = refl
is_done (Write v) (Got.One x) may = absurd may
is_done (Write v) (Got.Many xs) may = absurd may
is_done (Cas a b) Got.Nothing may = refl
is_done (Cas a b) (Got.One x) may = absurd may
is_done (Cas a b) (Got.Many xs) may = absurd may
is_done (Add v) Got.Nothing may = refl
is_done (Add v) (Got.One x) may = absurd may
is_done (Add v) (Got.Many xs) may = absurd may
is_done Generate Got.Nothing may = absurd may
is_done Generate (Got.One None) may = refl
is_done Generate (Got.One (Some z)) may = refl
is_done Generate (Got.Many xs) may = absurd may
is_done Txn Got.Nothing may = refl
is_done Txn (Got.One x) may = absurd may
is_done Txn (Got.Many xs) may = absurd may

-- a client's completion of this kind is of the request, with this reply
abbrev pub IsTelling : Kind → List ℕ → Edn → Request → Reply → Type 0
IsTelling kind name value request reply =
    MayReply request reply × (kind ≡ completion_kind reply) × (name ≡ request_name request)
    × (value ≡ content_value (replied_content request reply))

request_is : (kind : Kind) (name : List ℕ) (value : Edn) (r : Request) → completed_request kind name value ≡ Some r
    → (reply : Reply) × IsTelling kind name value r reply
request_is Kind.Invoke name value r e = absurd (cc)
request_is Kind.Ok name value r e =
    let found = done_is name value r e in (reply.Ok found.0, (found.1.0, refl, found.1.1, found.1.2))
request_is Kind.Fail name value r e = let asked = asked_is name value r e in (reply.Fail, (tt, refl, asked.0, asked.1))
request_is Kind.Info name value r e = let asked = asked_is name value r e in (reply.Info, (tt, refl, asked.0, asked.1))

request_given : (r : Request) (y : Reply) → MayReply r y → completed_request (completion_kind y) (request_name r) (content_value (replied_content r y)) ≡ Some r
request_given r (reply.Ok got) may = is_done r got may
request_given r reply.Fail may = is_asked r
request_given r reply.Info may = is_asked r

-- ---- keys

keyword_is : (v : Edn) (c : ℕ) (cs : List ℕ) → name_in v ≡ c ∷ cs → v ≡ keyword (c ∷ cs)
keyword_is (keyword name) c cs e = ap keyword e
keyword_is _ c cs e = absurd (cc)

request_keyword : (v : Edn) (r : Request) → name_in v ≡ request_name r → v ≡ keyword (request_name r)
request_keyword v Read e = keyword_is v _ _ e
request_keyword v (Write x) e = keyword_is v _ _ e
request_keyword v (Cas a b) e = keyword_is v _ _ e
request_keyword v (Add x) e = keyword_is v _ _ e
request_keyword v Generate e = keyword_is v _ _ e
request_keyword v Txn e = keyword_is v _ _ e

named_is : (rest : List (Edn × Edn)) (e : ℕ) → named_event rest ≡ Some e → rest ≡ pairs_of_event (Some e)
named_is ((keyword name, int (pos n)) ∷ []) e h =
    elim (chosen (bytes_eq name (codes "event")) (Some n) None e h) [
      | inl t ↦ ap (λ w. (keyword w, int (pos n)) ∷ []) (name_is name (codes "event") t.0)
          ∙ ap (λ k. (keyword (codes "event"), int (pos k)) ∷ []) (same_some n e t.1)
      | inr t ↦ absurd (let clash = t.1 in cc)
    ]
named_is _ e h = absurd (cc)

keys_are : (rest : List (Edn × Edn)) (event : Option ℕ) → event_by rest ≡ Some event → rest ≡ pairs_of_event event
keys_are [] event e = ap pairs_of_event (same_some None event e)
keys_are (p ∷ rest) event e =
    let found = mapped Some (named_event (p ∷ rest)) event e in
    named_is (p ∷ rest) found.0 found.1 ∙ ap pairs_of_event found.2

place_is : (place : ℕ) (index : Option ℤ) → is_index_of place index ≡ true → index ≡ Some (pos place)
place_is place None e = absurd (cc)
place_is place (Some (pos n)) e = ap (λ k. Some (pos k)) ((Decides-eqb n place).0 e)
place_is place (Some (negsuc n)) e = absurd (cc)

none_is : (time : Option ℤ) → is_none time ≡ true → time ≡ None
none_is None e = refl
none_is (Some z) e = absurd (cc)

-- ---- forms

-- an operation of these parts, at its place
abbrev pub made : ℕ → Process → Kind → Edn → Edn → Option ℕ → Operation
made place process kind f value event = record {
  kind = kind;
  process = process;
  f = f;
  value = value;
  time = None;
  index = Some (pos place);
  rest = pairs_of_event event;
}

client_says : (place process : ℕ) (kind : Kind) (f value : Edn) (event : Option ℕ) (form : Form)
    → client_form process kind (name_in f) value event ≡ Some form → Says place (made place (Process.Client process) kind f value event) form
client_says place process Kind.Invoke f value None form e =
    let found = mapped (Asks process) (request_asked (name_in f) value) form e in
    let asked = asked_is (name_in f) value found.0 found.1 in
    subst (Says place (made place (Process.Client process) Kind.Invoke f value None)) found.2
    (ap (λ w. made place (Process.Client process) Kind.Invoke w value None) (request_keyword f found.0 asked.0)
    ∙ ap (λ w. made place (Process.Client process) Kind.Invoke (keyword (request_name found.0)) w None) asked.1)
client_says place process Kind.Ok f value None form e = absurd (cc)
client_says place process Kind.Fail f value None form e = absurd (cc)
client_says place process Kind.Info f value None form e = absurd (cc)
client_says place process kind f value (Some number) form e =
    let found = mapped (λ request. Completes process request number) (completed_request kind (name_in f) value) form e in
    let given = request_is kind (name_in f) value found.0 found.1 in
    let r = found.0 in
    let y = given.0 in
    subst (Says place (made place (Process.Client process) kind f value (Some number))) found.2 (
      y,
      given.1.0,
      ap (λ k. made place (Process.Client process) k f value (Some number)) given.1.1
          ∙ ap (λ w. made place (Process.Client process) (completion_kind y) w value (Some number)) (request_keyword f r given.1.2)
          ∙ ap (λ w. made place (Process.Client process) (completion_kind y) (keyword (request_name r)) w (Some number)) given.1.3,
    )

number_is : (z : ℤ) (n : ℕ) → natural_in z ≡ Some n → z ≡ pos n
number_is (pos m) n e = ap pos (same_some m n e)
number_is (negsuc m) n e = absurd (cc)

-- the codes from 0 to 7 are those of the answers
pub code_is : (z : ℤ) → is_code z ≡ true → (a : StepAnswer) × (z ≡ pos (code_of a))
code_is (pos zero) e = (answer.Ok, refl)
code_is (pos (suc zero)) e = (answer.IdTaken, refl)
code_is (pos (suc (suc zero))) e = (answer.TooManyActive, refl)
code_is (pos (suc (suc (suc zero)))) e = (answer.TooManySteps, refl)
code_is (pos (suc (suc (suc (suc zero))))) e = (answer.NotActive, refl)
code_is (pos (suc (suc (suc (suc (suc zero)))))) e = (answer.NothingActive, refl)
code_is (pos (suc (suc (suc (suc (suc (suc zero))))))) e = (answer.NothingToUndo, refl)
code_is (pos (suc (suc (suc (suc (suc (suc (suc zero)))))))) e = (answer.NothingToRedo, refl)
code_is (pos (suc (suc (suc (suc (suc (suc (suc (suc n))))))))) e = let low = (Decides-ltb (suc (suc (suc (suc (suc (suc (suc (suc n)))))))) 8).0 e in absurd (omega (arith, low))
code_is (negsuc n) e = absurd (cc)

step_says : (place : ℕ) (f value : Edn) (event : Option ℕ) (form : Form) → name_in f ≡ codes "step"
    → step_form value event ≡ Some form → Says place (made place Process.Nemesis Kind.Info f value event) form
step_says place f value None form named e =
    let found = mapped Begins (begun_entry value) form e in
    let whole = bound natural_in (integer_of value) found.0 found.1 in
    let is = integer_is value whole.0 whole.1 ∙ ap int (number_is whole.0 found.0 whole.2) in
    subst (Says place (made place Process.Nemesis Kind.Info f value None)) found.2
    (ap (λ w. made place Process.Nemesis Kind.Info w value None) (keyword_is f _ _ named)
    ∙ ap (λ w. made place Process.Nemesis Kind.Info (keyword (codes "step")) w None) is)
step_says place f value (Some number) form named e =
    let found = mapped (λ entry. Ends entry number) (ended_entry_in value) form e in
    let pair = bound ended_entry_by (pair_in value) found.0 found.1 in
    let p = pair.0 in
    elim (chosen (is_code p.1) (natural_in p.0) None found.0 pair.2) [
      | inl t ↦ (let code = code_is p.1 t.0 in
          let is = pair_is value p pair.1 ∙ ap (λ z. vector (items_of (int z ∷ int p.1 ∷ []))) (number_is p.0 found.0 t.1)
          ∙ ap (λ z. vector (items_of (int (pos found.0) ∷ int z ∷ []))) code.1 in
          subst (Says place (made place Process.Nemesis Kind.Info f value (Some number))) found.2 (
            code.0,
            ap (λ w. made place Process.Nemesis Kind.Info w value (Some number)) (keyword_is f _ _ named)
                ∙ ap (λ w. made place Process.Nemesis Kind.Info (keyword (codes "step")) w (Some number)) is,
          ))
      | inr t ↦ absurd (let clash = t.1 in cc)
    ]

info_is : (kind : Kind) → is_info kind ≡ true → kind ≡ Kind.Info
info_is Kind.Info e = refl
info_is Kind.Invoke e = absurd (cc)
info_is Kind.Ok e = absurd (cc)
info_is Kind.Fail e = absurd (cc)

made_says : (place : ℕ) (process : Process) (kind : Kind) (f value : Edn) (event : Option ℕ) (form : Form)
    → form_by process kind (name_in f) value event ≡ Some form → Says place (made place process kind f value event) form
made_says place (Process.Client process) kind f value event form e = client_says place process kind f value event form e
made_says place Process.Nemesis kind f value event form e =
    elim (chosen (is_info kind && bytes_eq (name_in f) (codes "step")) (step_form value event) None form e) [
      | inl t ↦ (let both = both_true (is_info kind) (bytes_eq (name_in f) (codes "step")) t.0 in
          subst (λ k. Says place (made place Process.Nemesis k f value event) form) (sym (info_is kind both.0))
          (step_says place f value event form (name_is (name_in f) (codes "step") both.1) t.1))
      | inr t ↦ absurd (let clash = t.1 in cc)
    ]

-- what is found stands there
pub form_says : (place : ℕ) (op : Operation) (form : Form) → form_of place op ≡ Some form → Says place op form
form_says place op form e =
    elim (chosen (is_index_of place op.index && is_none op.time) (option_and_then (form_by op.process op.kind (name_in op.f) op.value) (event_by op.rest)) None form e) [
      | inl t ↦ (let both = both_true (is_index_of place op.index) (is_none op.time) t.0 in
          let found = bound (form_by op.process op.kind (name_in op.f) op.value) (event_by op.rest) form t.1 in
          let index = place_is place op.index both.0 in
          let time = none_is op.time both.1 in
          let keys = keys_are op.rest found.0 found.1 in
          let at = made_says place op.process op.kind op.f op.value found.0 form found.2 in
          let is : op ≡ made place op.process op.kind op.f op.value found.0 =
          ap (λ t. record { kind = op.kind; process = op.process; f = op.f; value = op.value; time = t; index = op.index; rest = op.rest }) time
          ∙ ap (λ i. record { kind = op.kind; process = op.process; f = op.f; value = op.value; time = None; index = i; rest = op.rest }) index
          ∙ ap (λ r. record { kind = op.kind; process = op.process; f = op.f; value = op.value; time = None; index = Some (pos place); rest = r }) keys in
          subst (λ o. Says place o form) (sym is) at)
      | inr t ↦ absurd (let clash = t.1 in cc)
    ]

at_its_place : (place : ℕ) → is_index_of place (Some (pos place)) ≡ true
at_its_place place = (Decides-eqb place place).1 refl

-- a client's operation and the nemesis's at their place have the form of their parts
made_form : (place : ℕ) (process : Process) (kind : Kind) (f value : Edn) (event : Option ℕ)
    → form_of place (made place process kind f value event) ≡ form_by process kind (name_in f) value event
made_form place process kind f value None = rw (at_its_place place) refl
made_form place process kind f value (Some number) = rw (at_its_place place) refl

is_code_of : (a : StepAnswer) → is_code (pos (code_of a)) ≡ true
is_code_of answer.Ok = refl
is_code_of answer.IdTaken = refl
is_code_of answer.TooManyActive = refl
is_code_of answer.TooManySteps = refl
is_code_of answer.NotActive = refl
is_code_of answer.NothingActive = refl
is_code_of answer.NothingToUndo = refl
is_code_of answer.NothingToRedo = refl

-- what stands there is found
pub says_form : (place : ℕ) (op : Operation) (form : Form) → Says place op form → form_of place op ≡ Some form
says_form place op (Asks process request) says =
    ap (form_of place) says ∙ made_form place (Process.Client process) Kind.Invoke (keyword (request_name request)) (content_value (asked_content request)) None
    ∙ ap (option_map (Asks process)) (is_asked request)
says_form place op (Completes process request number) says =
    let y = says.0 in
    ap (form_of place) says.2
    ∙ made_form place (Process.Client process) (completion_kind y) (keyword (request_name request)) (content_value (replied_content request y)) (Some number)
    ∙ ap (option_map (λ r. Completes process r number)) (request_given request y says.1)
says_form place op (Begins entry) says =
    ap (form_of place) says ∙ made_form place Process.Nemesis Kind.Info (keyword (codes "step")) (int (pos entry)) None
says_form place op (Ends entry number) says =
    let value = vector (items_of (int (pos entry) ∷ int (pos (code_of says.0)) ∷ [])) in
    ap (form_of place) says.1 ∙ made_form place Process.Nemesis Kind.Info (keyword (codes "step")) value (Some number)
    ∙ rw (is_code_of says.0) refl

-- the same of an operation at a place of a history
pub form_at_says : (history : List Operation) (place : ℕ) (form : Form) → form_at history place ≡ Some form → SaysAt history place form
form_at_says history place form e =
    let found = bound (form_of place) (slice_get history place) form e in
    (found.0, found.1, form_says place found.0 form found.2)

pub says_form_at : (history : List Operation) (place : ℕ) (form : Form) → SaysAt history place form → form_at history place ≡ Some form
says_form_at history place form says =
    ap (option_and_then (form_of place)) says.1 ∙ says_form place says.0 form says.2

-- what is found of an operation decides what it says
pub form_found : (history : List Operation) (place : ℕ) (r : Option Form) → r ≡ form_at history place
    → MatchOption r ((form : Form) → SaysAt history place form → ⊥) (SaysAt history place)
form_found history place None e = λ form says. let clash = e ∙ says_form_at history place form says in absurd (cc)
form_found history place (Some form) e = form_at_says history place form (sym e)
