-- What the comparisons of values decide, and that a completion is known by its kind and value.
use Rattle.std.proofs.Common.{◌≡◌, ℕ, suc, ◌≤◌, ◌==◌, arith, false, List, [], ◌∷◌, Some, None, length, map, drop, refl, ap, sym, ◌∙◌, codes}
use Rattle.std.proofs.Math.ListN.{drop_of_length-le}
use Rattle.std.specs.Bool.{Decides}
use Rattle.std.specs.Prelude.{ℤ, pos}
use Rattle.std.proofs.lemmas.Bool.Decides.{Decides-and, Decides-int_eq, Decides-like, nat_tests}
use Rattle.jh_edn.specs.Edn.{Edn, nil, int, keyword, vector, items_of, list_of, is_nil, integer_of}
use Rattle.jh_edn.specs.View.{views}
use Rattle.jh_edn.specs.declared.value.Value.{Value}
use Rattle.jh_ops.specs.Operation.{Operation}
use Rattle.jh_ops.specs.Words.{content_value}
use Rattle.jh_ops.specs.declared.call.Request.{Request}
use Rattle.jh_ops.specs.declared.call.Request.TheVariants.{Read, Write, Cas, Add, Generate, Txn}
use Rattle.jh_ops.specs.declared.operation.Kind.{Kind}
use Rattle.jh_ops.specs.declared.operation.Process.{Process}
use Rattle.jh_nemesis.specs.declared.steps.StepAnswer.{StepAnswer}
use Rattle.jh_simnode.specs.declared.replicas.Got.{Got}
use Rattle.jh_simnode.specs.declared.replicas.Reply.{Reply}
use Rattle.jh_simnode.specs.declared.replicas.Reply.TheVariants as reply
use Rattle.jh_simnode.specs.Histories.{got_content, replied_content, completion_kind, indexed_completion, indexed_entry_completion}
use Rattle.jh_ops.specs.Requests.{request_name, asked_content}
use Rattle.jh_nemesis.specs.Steps.{code_of}
use Rattle.jh_audit.specs.Forms.{Says}
use Rattle.jh_audit.specs.declared.forms.Form.TheVariants.{Completes}
use Rattle.jh_audit.specs.DecodeInside.{pair_in}
use Rattle.jh_audit.specs.RepliesInside.{is_number, are_numbers, is_numbers, is_asked_value, is_got, is_replied}
use Rattle.jh_audit.proofs.ChoiceLemmas.{same_some}
use Rattle.jh_audit.proofs.FormLemmas.{items-list, list-items, made}

nil_decides : (v : Edn) → Decides (is_nil v) (v ≡ nil)
nil_decides nil = (λ _. refl, λ _. refl)
nil_decides _ = (λ e. absurd (cc), λ e. absurd (cc))

same_int : (a b : ℤ) → int a ≡ int b → a ≡ b
same_int a b e = same_some a b (ap integer_of e)

number_decides : (n : ℤ) (v : Edn) → Decides (is_number n v) (v ≡ int n)
number_decides n (int z) = Decides-like _ (ap int) (same_int z n) (Decides-int_eq z n)
number_decides n _ = (λ e. absurd (cc), λ e. absurd (cc))

abbrev head_of : List Edn → Edn
head_of [] = nil
head_of (v ∷ vs) = v

abbrev tail_of : List Edn → List Edn
tail_of [] = []
tail_of (v ∷ vs) = vs

numbers_decide : (ns : List ℤ) (vs : List Edn) → Decides (are_numbers ns vs) (vs ≡ map int ns)
numbers_decide [] [] = (λ _. refl, λ _. refl)
numbers_decide [] (v ∷ vs) = (λ e. absurd (cc), λ e. absurd (cc))
numbers_decide (n ∷ ns) [] = (λ e. absurd (cc), λ e. absurd (cc))
numbers_decide (n ∷ ns) (v ∷ vs) =
    Decides-like _ (λ same. ap (λ w. w ∷ vs) same.0 ∙ ap (λ ws. int n ∷ ws) same.1) (λ e. (ap head_of e, ap tail_of e))
    (Decides-and _ _ (number_decides n v) (numbers_decide ns vs))

abbrev list_in : Edn → List Edn
list_in (vector xs) = list_of xs
list_in _ = []

vector_decides : (ns : List ℤ) (v : Edn) → Decides (is_numbers ns v) (v ≡ vector (items_of (map int ns)))
vector_decides ns (vector xs) =
    Decides-like _ (λ e. ap vector (items-list xs ∙ ap items_of e)) (λ e. ap list_in e ∙ list-items (map int ns)) (numbers_decide ns (list_of xs))
vector_decides ns _ = (λ e. absurd (cc), λ e. absurd (cc))

asked_decides : (r : Request) (v : Edn) → Decides (is_asked_value r v) (v ≡ content_value (asked_content r))
asked_decides Read v = nil_decides v
asked_decides (Write x) v = number_decides x v
asked_decides (Cas a b) v = vector_decides (a ∷ b ∷ []) v
asked_decides (Add x) v = number_decides x v
asked_decides Generate v = nil_decides v
asked_decides Txn v = nil_decides v

got_decides : (r : Request) (g : Got) (v : Edn) → Decides (is_got r g v) (v ≡ content_value (got_content r g))
got_decides r Got.Nothing v = asked_decides r v
got_decides r (Got.One None) v = nil_decides v
got_decides r (Got.One (Some x)) v = number_decides x v
got_decides r (Got.Many xs) v = vector_decides xs v

pub replied_decides : (r : Request) (y : Reply) (v : Edn) → Decides (is_replied r y v) (v ≡ content_value (replied_content r y))
replied_decides r (reply.Ok g) v = got_decides r g v
replied_decides r reply.Fail v = asked_decides r v
replied_decides r reply.Info v = asked_decides r v

-- ---- completions

-- a completion is another one where kind and value are that one's
pub reply_same : (op : Operation) (place number process : ℕ) (r : Request) (y z : Reply) → op ≡ indexed_completion place number process r y
    → (op.kind ≡ completion_kind z) × (op.value ≡ content_value (replied_content r z)) → op ≡ indexed_completion place number process r z
reply_same op place number process r y z says same =
    let kind = sym (ap (λ o. o.kind) says) ∙ same.0 in
    let value = sym (ap (λ o. o.value) says) ∙ same.1 in
    says ∙ ap (λ k. made place (Process.Client process) k (keyword (request_name r)) (content_value (replied_content r y)) (Some number)) kind
    ∙ ap (λ v. made place (Process.Client process) (completion_kind z) (keyword (request_name r)) v (Some number)) value

pub reply_parts : (op : Operation) (place number process : ℕ) (r : Request) (z : Reply) → op ≡ indexed_completion place number process r z
    → (op.kind ≡ completion_kind z) × (op.value ≡ content_value (replied_content r z))
reply_parts op place number process r z is = (ap (λ o. o.kind) is, ap (λ o. o.value) is)

-- the second of a pair of integers
pub second_in : (op : Operation) (place number entry : ℕ) (a : StepAnswer) → op ≡ indexed_entry_completion place number entry a
    → pair_in op.value ≡ Some (pos entry, pos (code_of a))
second_in op place number entry a is = ap (λ o. pair_in o.value) is

pub answer_same : (op : Operation) (place number entry : ℕ) (a b : StepAnswer) → op ≡ indexed_entry_completion place number entry a
    → pos (code_of a) ≡ pos (code_of b) → op ≡ indexed_entry_completion place number entry b
answer_same op place number entry a b is same =
    is ∙ ap (λ c. made place Process.Nemesis Kind.Info (keyword (codes "step")) (vector (items_of (int (pos entry) ∷ int c ∷ []))) (Some number)) same

-- an operation is the completion of a call where kind and value are those of its reply
pub completes_call : (op : Operation) (place number process completer : ℕ) (r given : Request) (y : Reply) → Says place op (Completes completer given number)
    → process ≡ completer → r ≡ given → (op.kind ≡ completion_kind y) × (op.value ≡ content_value (replied_content given y))
    → (process ≡ completer) × (r ≡ given) × (op ≡ indexed_completion place number process r y)
completes_call op place number process completer r given y says same_process same_request same = (
  same_process,
  same_request,
  reply_same op place number completer given says.0 y says.2 same
      ∙ ap (λ p. indexed_completion place number p given y) (sym same_process) ∙ ap (λ q. indexed_completion place number process q y) (sym same_request),
)

pub call_completed : (op : Operation) (place number process completer : ℕ) (r given : Request) (y : Reply)
    → (process ≡ completer) × (r ≡ given) × (op ≡ indexed_completion place number process r y)
    → (op.kind ≡ completion_kind y) × (op.value ≡ content_value (replied_content given y))
call_completed op place number process completer r given y is =
    let parts = reply_parts op place number process r y is.2 in
    (parts.0, parts.1 ∙ ap (λ q. content_value (replied_content q y)) is.1)

-- nothing is left where all values were compared
pub nothing_left : (ns : List ℤ) (values : List Value) (i : ℕ) → length values ≤ i → are_numbers ns (views (drop i values)) ≡ (length ns == 0)
nothing_left [] values i past = rw (drop_of_length-le values {i = i} past) refl
nothing_left (n ∷ ns) values i past =
    let more : (suc (length ns) == 0) ≡ false = grind (arith, nat_tests) in
    rw (drop_of_length-le values {i = i} past) (sym more)
