-- No pair of a counter's test has a bad value.
use Rattle.std.proofs.Common.{◌≡◌, ℕ, true, false, List, [], ◌∷◌, refl, sym, ap, ◌∙◌, subst, arith}
use Rattle.std.specs.Prelude.{codes, pos, negsuc, slice_get, Option, None, Some, option_and_then, unwrap_or, if◌then◌else◌}
use Rattle.std.specs.List.{AllByRecursion, Contains}
use Rattle.std.specs.Option.{option_map, option_map_or}
use Rattle.std.proofs.lemmas.Bool.{and_parts, cond_both, false≢true}
use Rattle.jh_check.specs.CounterResults.{IsEarliest, add_error, asks, value_error, end_place, errors_in, has_ended, is_ok_read, read_error, value_at}
use Rattle.jh_check.specs.declared.error.CheckError.{CheckError}
use Rattle.jh_edn.specs.Edn.{Edn, nil, boolean, int, char, str, keyword, symbol, list, vector, mapping, set, tagged, is_integer, is_keyword}
use Rattle.jh_ops.specs.Operation.{Operation, is_kind}
use Rattle.jh_ops.specs.Pairing.{history_pairs}
use Rattle.jh_ops.specs.Requests.{request_name}
use Rattle.jh_ops.specs.declared.call.Call.TheVariants.{Client}
use Rattle.jh_ops.specs.declared.call.Request.{Request}
use Rattle.jh_ops.specs.declared.call.Request.TheVariants.{Read, Write, Cas, Add, Generate, Txn}
use Rattle.jh_ops.specs.declared.operation.Kind.{Kind}
use Rattle.jh_ops.specs.declared.pairs.Pair.{Pair}
use Rattle.jh_test_parts.specs.declared.workload.TestWorkload.TheVariants.{Counter}
use Rattle.jh_test_laws.specs.HistoryInside.{AllFit, Invokes, Completes, IsAskedValue, suits_call}
use Rattle.jh_test_laws.proofs.PairLemmas.{IsEndAt, IsPairOf, all_pairs}
use Rattle.jh_test_laws.proofs.ReadLemmas.{good_read}

abbrev NoError : List Operation → Pair → Type 0
NoError history pair = value_error history pair ≡ None

whole : (place : ℕ) (value : Edn) → is_integer value ≡ true → read_error place (Some value) ≡ None
whole place nil e = absurd (false≢true e)
whole place (boolean b) e = absurd (false≢true e)
whole place (int z) e = refl
whole place (char c) e = absurd (false≢true e)
whole place (str s) e = absurd (false≢true e)
whole place (keyword s) e = absurd (false≢true e)
whole place (symbol s) e = absurd (false≢true e)
whole place (list xs) e = absurd (false≢true e)
whole place (vector xs) e = absurd (false≢true e)
whole place (mapping ms) e = absurd (false≢true e)
whole place (set xs) e = absurd (false≢true e)
whole place (tagged tag x) e = absurd (false≢true e)

is_ok : (kind : Kind) → is_kind Kind.Ok kind ≡ true → kind ≡ Kind.Ok
is_ok Kind.Invoke e = absurd (false≢true e)
is_ok Kind.Ok e = refl
is_ok Kind.Fail e = absurd (false≢true e)
is_ok Kind.Info e = absurd (false≢true e)

module _ (history : List Operation) (pair : Pair) (call : Operation) (there : slice_get history pair.invoke ≡ Some call) where
  asks_is : (name : List ℕ) → asks name history pair ≡ is_keyword name call.f
  asks_is name = ap (λ o. option_map_or (λ op. is_keyword name op.f) o false) there

  -- what a read gave is whole
  read_end : (outcome : Option ℕ) → pair.outcome ≡ outcome → IsEndAt (Completes Counter) history call outcome → call.f ≡ keyword (codes "read") → has_ended Kind.Ok history pair ≡ true
      → read_error (end_place pair) (value_at history (end_place pair)) ≡ None
  read_end None is ended read e =
      absurd (false≢true (sym (ap (λ o. option_map_or (λ op. is_kind Kind.Ok op.kind) (option_and_then (slice_get history) o) false) is) ∙ e))
  read_end (Some place) is (op, at, (f, ok)) read e =
      let kind : is_kind Kind.Ok op.kind ≡ true =
      sym (ap (λ o. option_map_or (λ op. is_kind Kind.Ok op.kind) (option_and_then (slice_get history) o) false) is
      ∙ ap (λ o. option_map_or (λ op. is_kind Kind.Ok op.kind) o false) at) ∙ e in
      let good : is_integer op.value ≡ true = good_read Counter call.f call.value op.value op.kind ok (is_ok op.kind kind) (ap (is_keyword (codes "read")) read) in
      ap (λ o. read_error (end_place pair) (value_at history (unwrap_or o pair.invoke))) is
      ∙ (ap (λ o. read_error (end_place pair) (option_map (λ op. op.value) o)) at ∙ whole (end_place pair) op.value good)

  no_add : (g : List ℕ) → call.f ≡ keyword g → is_keyword (codes "add") (keyword g) ≡ false → asks (codes "add") history pair ≡ false
  no_add g f e = asks_is (codes "add") ∙ (ap (is_keyword (codes "add")) f ∙ e)

  no_error : (request : Request) → suits_call Counter (Client request) ≡ true → call.f ≡ keyword (request_name request) → IsAskedValue request call.value → IsEndAt (Completes Counter) history call pair.outcome → NoError history pair
  no_error Read suits f value ended =
      ap (λ b. if b then add_error pair.invoke (value_at history pair.invoke) else if is_ok_read history pair then read_error (end_place pair) (value_at history (end_place pair)) else None) (no_add (codes "read") f refl)
      ∙ cond_both (is_ok_read history pair) (read_error (end_place pair) (value_at history (end_place pair))) None (λ o. o ≡ None)
      (λ e. read_end pair.outcome refl ended f (and_parts (asks (codes "read") history pair) (has_ended Kind.Ok history pair) e).1)
      (λ _. refl)
  no_error (Add (pos n)) suits f value ended =
      ap (λ b. if b then add_error pair.invoke (value_at history pair.invoke) else if is_ok_read history pair then read_error (end_place pair) (value_at history (end_place pair)) else None) (asks_is (codes "add") ∙ ap (is_keyword (codes "add")) f)
      ∙ (ap (λ o. add_error pair.invoke (option_map (λ op. op.value) o)) there ∙ ap (λ v. add_error pair.invoke (Some v)) value)
  no_error (Add (negsuc n)) suits f value ended = absurd (false≢true suits)
  no_error (Write v) suits f value ended = absurd (false≢true suits)
  no_error (Cas a b) suits f value ended = absurd (false≢true suits)
  no_error Generate suits f value ended = absurd (false≢true suits)
  no_error Txn suits f value ended = absurd (false≢true suits)

pair_counts : (history : List Operation) (pair : Pair) → IsPairOf (Invokes Counter) (Completes Counter) history pair → NoError history pair
pair_counts history pair (call, there, (request, suits, f, value), ended) = no_error history pair call there request suits f value ended

none_in : (history : List Operation) (pairs : List Pair) → AllByRecursion (IsPairOf (Invokes Counter) (Completes Counter) history) pairs → errors_in history pairs ≡ []
none_in history [] h = refl
none_in history (p ∷ ps) h = rw (pair_counts history p h.0) (none_in history ps h.1)

none_there : {X : Type 0} (x : X) → Contains [] x → ⊥
none_there x h = absurd (omega (arith, h.1))

pub never_in_error : (history : List Operation) → AllFit (Invokes Counter) (Completes Counter) [] history → (error : CheckError) → IsEarliest error (errors_in history (history_pairs history)) → ⊥
never_in_error history h error first =
    let none = none_in history (history_pairs history) (all_pairs (Invokes Counter) (Completes Counter) history h) in
    none_there error (subst (λ (errors : List CheckError). Contains errors error) none first.0)
