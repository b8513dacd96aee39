-- No pair of a test of transactions has a bad value.
use Rattle.std.proofs.Common.{◌≡◌, ℕ, true, false, List, [], ◌∷◌, ◌++◌, refl, sym, ap, ◌∙◌, subst}
use Rattle.std.specs.Prelude.{codes, slice_get, Option, None, Some, option_and_then, if◌then◌else◌}
use Rattle.std.specs.List.{AllByRecursion}
use Rattle.std.specs.Option.{option_map_or}
use Rattle.std.proofs.lemmas.Bool.{false≢true}
use Rattle.jh_edn.specs.Edn.{is_keyword, keyword}
use Rattle.jh_ops.specs.Operation.{Operation}
use Rattle.jh_ops.specs.Pairing.{history_pairs}
use Rattle.jh_ops.specs.Requests.{request_name}
use Rattle.jh_ops.specs.declared.call.Call.TheVariants.{Client}
use Rattle.jh_ops.specs.declared.call.Request.{Request}
use Rattle.jh_ops.specs.declared.call.Request.TheVariants.{Read, Write, Cas, Add, Generate, Txn}
use Rattle.jh_ops.specs.declared.operation.Kind.{Kind}
use Rattle.jh_ops.specs.declared.pairs.Pair.{Pair}
use Rattle.jh_txn_histories.specs.Histories.{IsBadAt, asked_by, bad_value_place, is_txn, is_txn_at, pair_completion, place_if_bad, txn_answer, txn_asked, value_if_ok}
use Rattle.jh_txn_histories.specs.Written.{Written, answers}
use Rattle.jh_test_parts.specs.declared.workload.TestWorkload.TheVariants.{ListAppend}
use Rattle.jh_test_laws.specs.HistoryInside.{AllFit, Invokes, Completes, CompletesOk, IsAskedValue, ops_asked, suits_call}
use Rattle.jh_test_laws.proofs.PairLemmas.{IsEndAt, IsPairOf, all_pairs}
use Rattle.jh_test_laws.proofs.ReadLemmas.{good_transaction}

abbrev NotBad : List Operation → Pair → Type 0
NotBad history pair = bad_value_place history pair ≡ None

module _ (history : List Operation) (pair : Pair) (call : Operation) (there : slice_get history pair.invoke ≡ Some call) (f : call.f ≡ keyword (codes "txn"))
    (asked : List Written) (spelled : ops_asked (keyword (codes "txn")) call.value ≡ Some asked) where
  named : is_txn call ≡ true
  named = ap (is_keyword (codes "txn")) f

  asked_is : txn_asked history pair ≡ Some asked
  asked_is = ap (λ o. option_and_then asked_by o) there ∙ (ap (λ x. ops_asked x call.value) f ∙ spelled)

  txn_there : is_txn_at history pair.invoke ≡ true
  txn_there = ap (λ o. option_map_or is_txn o false) there ∙ named

  answer_is : txn_answer history pair ≡ option_and_then (λ (op : Operation). value_if_ok op.kind op.value) (pair_completion history pair)
  answer_is = ap (λ b. if b then option_and_then (λ (op : Operation). value_if_ok op.kind op.value) (pair_completion history pair) else None) txn_there

  good_if : (kind : Kind) (op : Operation) → op.kind ≡ kind → CompletesOk ListAppend call.f call.value op.value op.kind → place_if_bad pair (Some asked) (value_if_ok kind op.value) ≡ None
  good_if Kind.Invoke op is ok = refl
  good_if Kind.Ok op is ok =
      let good : answers asked op.value ≡ true =
      sym (ap (λ o. option_map_or (λ ops. answers ops op.value) o false) spelled) ∙ good_transaction ListAppend call.f call.value op.value op.kind ok is named in
      ap (λ b. if b then None else pair.outcome) good
  good_if Kind.Fail op is ok = refl
  good_if Kind.Info op is ok = refl

  good_end : (outcome : Option ℕ) → IsEndAt (Completes ListAppend) history call outcome
      → place_if_bad pair (Some asked) (option_and_then (λ (op : Operation). value_if_ok op.kind op.value) (option_and_then (λ place. slice_get history place) outcome)) ≡ None
  good_end None ended = refl
  good_end (Some place) (op, at, (g, ok)) =
      ap (λ o. place_if_bad pair (Some asked) (option_and_then (λ (op : Operation). value_if_ok op.kind op.value) o)) at ∙ good_if op.kind op refl ok

  not_bad_txn : IsEndAt (Completes ListAppend) history call pair.outcome → NotBad history pair
  not_bad_txn ended =
      ap (λ o. place_if_bad pair o (txn_answer history pair)) asked_is ∙ (ap (λ o. place_if_bad pair (Some asked) o) answer_is ∙ good_end pair.outcome ended)

not_bad : (history : List Operation) (pair : Pair) → IsPairOf (Invokes ListAppend) (Completes ListAppend) history pair → NotBad history pair
not_bad history pair (call, there, (request, suits, f, value), ended) = go request suits f value
  where
    go : (r : Request) → suits_call ListAppend (Client r) ≡ true → call.f ≡ keyword (request_name r) → IsAskedValue r call.value → NotBad history pair
    go Txn suits f (asked, spelled) = not_bad_txn history pair call there f asked spelled ended
    go Read suits f value = absurd (false≢true suits)
    go (Write v) suits f value = absurd (false≢true suits)
    go (Cas a b) suits f value = absurd (false≢true suits)
    go (Add v) suits f value = absurd (false≢true suits)
    go Generate suits f value = absurd (false≢true suits)

in_middle : (history : List Operation) (front back : List Pair) (pair : Pair) → AllByRecursion (IsPairOf (Invokes ListAppend) (Completes ListAppend) history) (front ++ pair ∷ back) → NotBad history pair
in_middle history [] back pair h = not_bad history pair h.0
in_middle history (p ∷ front) back pair h = in_middle history front back pair h.1

pub never_bad : (history : List Operation) → AllFit (Invokes ListAppend) (Completes ListAppend) [] history → (place : ℕ) → IsBadAt history (history_pairs history) place → ⊥
never_bad history h place (front, back, pair, is, bad) =
    let all = all_pairs (Invokes ListAppend) (Completes ListAppend) history h in
    let good = in_middle history front back pair (subst (AllByRecursion (IsPairOf (Invokes ListAppend) (Completes ListAppend) history)) is all) in
    let clash : None ≡ Some place = sym good ∙ bad in
    cc
