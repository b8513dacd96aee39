-- No pair of a register's test has a bad value.
use Rattle.std.proofs.Common.{◌≡◌, ℕ, true, ◌||◌, List, [], ◌∷◌, refl, ap, ◌∙◌}
use Rattle.std.specs.Prelude.{codes, map, slice_get, Option, None, Some, is_some, unwrap_or, option_map, option_and_then, if◌then◌else◌}
use Rattle.std.specs.List.{AllByRecursion}
use Rattle.std.proofs.lemmas.Bool.{false≢true}
use Rattle.std.proofs.lemmas.List.Elements.{All-contains, All-map}
use Rattle.jh_edn.specs.Edn.{Edn, nil, boolean, int, char, str, keyword, symbol, list, vector, mapping, set, tagged, is_nil, is_integer, is_keyword}
use Rattle.jh_linear.specs.Operations.{IsLeastBad, answer_in, answered_value, bad_place, completion_of, op_with_call, place_of_value, read_of, reg_call_of, reg_op_of}
use Rattle.jh_linear.specs.declared.operations.Object.{Object}
use Rattle.jh_ops.specs.Operation.{Operation}
use Rattle.jh_ops.specs.Pairing.{history_pairs}
use Rattle.jh_ops.specs.Requests.{asked_content, request_name}
use Rattle.jh_ops.specs.Words.{content_value}
use Rattle.jh_ops.specs.declared.call.Call.TheVariants.{Client}
use Rattle.jh_ops.specs.declared.call.Request.{Request}
use Rattle.jh_ops.specs.declared.call.Request.TheVariants.{Read, Write, Cas, Add, Generate, Txn}
use Rattle.jh_ops.specs.declared.operation.Kind.{Kind}
use Rattle.jh_ops.specs.declared.pairs.Pair.{Pair}
use Rattle.jh_test_parts.specs.Values.{is_readable}
use Rattle.jh_test_parts.specs.declared.workload.TestWorkload.TheVariants.{Register}
use Rattle.jh_test_laws.specs.HistoryInside.{AllFit, Invokes, Completes, IsAskedValue, suits_call}
use Rattle.jh_test_laws.proofs.PairLemmas.{IsEndAt, IsPairOf, all_pairs}
use Rattle.jh_test_laws.proofs.ReadLemmas.{all_of, good_read}

abbrev NotBad : List Operation → Pair → Type 0
NotBad history pair = bad_place Object.Register history pair ≡ None

readable : (value : Edn) → (is_nil value || is_integer value) ≡ true → is_some (read_of value) ≡ true
readable nil e = refl
readable (boolean b) e = absurd (false≢true e)
readable (int z) e = refl
readable (char c) e = absurd (false≢true e)
readable (str s) e = absurd (false≢true e)
readable (keyword s) e = absurd (false≢true e)
readable (symbol s) e = absurd (false≢true e)
readable (list xs) e = absurd (false≢true e)
readable (vector xs) e = absurd (false≢true e)
readable (mapping ms) e = absurd (false≢true e)
readable (set xs) e = absurd (false≢true e)
readable (tagged tag x) e = absurd (false≢true e)

answer_is_read : (kind : Kind) (value : Edn) → (kind ≡ Kind.Ok → is_readable Register value ≡ true) → is_some (read_of (unwrap_or (answer_in kind value) nil)) ≡ true
answer_is_read Kind.Invoke value good = refl
answer_is_read Kind.Ok value good = readable value (good refl)
answer_is_read Kind.Fail value good = refl
answer_is_read Kind.Info value good = refl

-- what answers a read can be read
read_is_answered : (history : List Operation) (call : Operation) (outcome : Option ℕ) → IsEndAt (Completes Register) history call outcome → call.f ≡ keyword (codes "read")
    → is_some (read_of (unwrap_or (answered_value (option_and_then (λ place. slice_get history place) outcome)) nil)) ≡ true
read_is_answered history call None ended read = refl
read_is_answered history call (Some place) (op, there, (f, ok)) read =
    ap (λ o. is_some (read_of (unwrap_or (answered_value o) nil))) there
    ∙ answer_is_read op.kind op.value (λ is. good_read Register call.f call.value op.value op.kind ok is (ap (is_keyword (codes "read")) read))

with_values : (f g value other : Edn) (answered : Option Edn) → f ≡ g → value ≡ other → is_some (reg_call_of Object.Register f value answered) ≡ is_some (reg_call_of Object.Register g other answered)
with_values f g value other answered e d = ap (λ x. is_some (reg_call_of Object.Register x value answered)) e ∙ ap (λ x. is_some (reg_call_of Object.Register g x answered)) d

-- the call of a pair can be parsed
parsed : (history : List Operation) (pair : Pair) (call : Operation) (request : Request) → suits_call Register (Client request) ≡ true → call.f ≡ keyword (request_name request) → IsAskedValue request call.value
    → IsEndAt (Completes Register) history call pair.outcome → is_some (reg_call_of Object.Register call.f call.value (answered_value (completion_of history pair))) ≡ true
parsed history pair call Read suits f value ended =
    ap (λ x. is_some (reg_call_of Object.Register x call.value (answered_value (completion_of history pair)))) f ∙ read_is_answered history call pair.outcome ended f
parsed history pair call (Write v) suits f value ended = with_values call.f (keyword (codes "write")) call.value (int v) (answered_value (completion_of history pair)) f value
parsed history pair call (Cas a b) suits f value ended = with_values call.f (keyword (codes "cas")) call.value (content_value (asked_content (Cas a b))) (answered_value (completion_of history pair)) f value
parsed history pair call (Add v) suits f value ended = absurd (false≢true suits)
parsed history pair call Generate suits f value ended = absurd (false≢true suits)
parsed history pair call Txn suits f value ended = absurd (false≢true suits)

some_still : {X Y : Type 0} (f : X → Y) (o : Option X) → is_some o ≡ true → is_some (option_map f o) ≡ true
some_still f None e = absurd (false≢true e)
some_still f (Some x) e = refl

not_bad : (history : List Operation) (pair : Pair) → IsPairOf (Invokes Register) (Completes Register) history pair → NotBad history pair
not_bad history pair (call, there, (request, suits, f, value), ended) =
    let found : is_some (reg_op_of Object.Register history pair) ≡ true =
    some_still (op_with_call history pair) _
    (ap (λ o. is_some (option_and_then (λ inv. reg_call_of Object.Register inv.f inv.value (answered_value (completion_of history pair))) o)) there
    ∙ parsed history pair call request suits f value ended) in
    ap (λ b. if b then None else Some (place_of_value Object.Register history pair)) found

all_not_bad : (history : List Operation) (pairs : List Pair) → AllByRecursion (IsPairOf (Invokes Register) (Completes Register) history) pairs → AllByRecursion (NotBad history) pairs
all_not_bad history [] h = tt
all_not_bad history (p ∷ ps) h = (not_bad history p h.0, all_not_bad history ps h.1)

none-some : {X : Type 0} (x : X) → Some x ≡ None → ⊥
none-some x e = cc

pub never_bad : (history : List Operation) → AllFit (Invokes Register) (Completes Register) [] history → (place : ℕ) → IsLeastBad Object.Register history (history_pairs history) (Some place) → ⊥
never_bad history h place least =
    let pairs = history_pairs history in
    let all = all_of (NotBad history) pairs (all_not_bad history pairs (all_pairs (Invokes Register) (Completes Register) history h)) in
    none-some place (All-contains (λ o. o ≡ None) (map (bad_place Object.Register history) pairs) (Some place) (All-map (λ o. o ≡ None) (bad_place Object.Register history) pairs all) least.0)
