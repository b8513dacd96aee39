-- Why a history is refused, from its least bad value and its least repeated append; and that otherwise
-- no value is bad, and each transaction was completed after its invocation.
use Rattle.std.proofs.Common.{◌≡◌, ◌∙◌, ℕ, zero, suc, ◌+◌, ◌<◌, ◌≤◌, ltb, get_or, take, drop, Option, Some, None, List, [], ◌∷◌, ◌++◌, refl, sym, ap, subst, inl, inr, arith}
use Rattle.std.specs.Prelude.{IfSome}
use Rattle.std.specs.List.{All, AllZip}
use Rattle.std.proofs.lemmas.Bool.{cases_Bool, cond-false, cond-true, ltb-false, ltb-true}
use Rattle.std.proofs.lemmas.List.{drop_more, take-append-drop}
use Rattle.std.proofs.lemmas.List.Elements.{All-head, All-tail}
use Rattle.jh_edn.specs.Edn.{Edn}
use Rattle.jh_ops.specs.Operation.{Operation}
use Rattle.jh_ops.specs.Pairing.{IsPairWithin}
use Rattle.jh_ops.specs.declared.pairs.Pair.{Pair}
use Rattle.jh_txn.specs.RealTime.{CompleteAfterInvocation}
use Rattle.jh_txn.specs.declared.txn.Txn.{Txn}
use Rattle.jh_txn_histories.specs.Histories.{IsBadAt, IsRepeatedAt, IsTxnOf, RefusesTransactions, bad_value_place}
use Rattle.jh_txn_histories.specs.ReadingInside.{IsLeastPlace}
use Rattle.jh_txn_histories.specs.RefusalInside.{txn_error_of}
use Rattle.jh_txn_histories.specs.declared.histories.TxnError.{TxnError}
use Rattle.jh_txn_histories.specs.declared.histories.TxnError.TheVariants.{BadValue, RepeatedAppend}

one_error : (x y : TxnError) → ◌≡◌ {A = Option TxnError} (Some x) (Some y) → x ≡ y
one_error x y e = cc

pub not_refused : (bad repeated : Option ℕ) → txn_error_of bad repeated ≡ None → (bad ≡ None) × (repeated ≡ None)
not_refused None None is = (refl, refl)
not_refused None (Some other) is = absurd (let some : ◌≡◌ {A = Option TxnError} (Some (RepeatedAppend other)) None = is in cc)
not_refused (Some place) None is = absurd (let some : ◌≡◌ {A = Option TxnError} (Some (BadValue place)) None = is in cc)
not_refused (Some place) (Some other) is = elim (cases_Bool (ltb other place)) as (λ _. (Some place ≡ None) × (Some other ≡ None)) [
  | inl below ↦ absurd (let some : ◌≡◌ {A = Option TxnError} (Some (RepeatedAppend other)) None = sym (cond-true (ltb other place) (Some (RepeatedAppend other)) (Some (BadValue place)) below) ∙ is in cc)
  | inr above ↦ absurd (let some : ◌≡◌ {A = Option TxnError} (Some (BadValue place)) None = sym (cond-false (ltb other place) (Some (RepeatedAppend other)) (Some (BadValue place)) above) ∙ is in cc)
]

module _ (history : List Operation) (pairs : List Pair) where
  pub is_refused : (bad repeated : Option ℕ) (error : TxnError) → txn_error_of bad repeated ≡ Some error → IsLeastPlace (IsBadAt history pairs) bad → IsLeastPlace (IsRepeatedAt history pairs) repeated → RefusesTransactions history pairs error
  is_refused None None error is h k = absurd (let none : ◌≡◌ {A = Option TxnError} None (Some error) = is in cc)
  is_refused None (Some other) error is h k = subst (RefusesTransactions history pairs) (one_error (RepeatedAppend other) error is) (k.0, k.1, λ place bad. absurd (h place bad))
  is_refused (Some place) None error is h k = subst (RefusesTransactions history pairs) (one_error (BadValue place) error is) (h.0, h.1, λ other repeated. absurd (k other repeated))
  is_refused (Some place) (Some other) error is h k = elim (cases_Bool (ltb other place)) as (λ _. RefusesTransactions history pairs error) [
    | inl below ↦
        let less : other < place = ltb-true other place below in
        subst (RefusesTransactions history pairs) (one_error (RepeatedAppend other) error (sym (cond-true (ltb other place) (Some (RepeatedAppend other)) (Some (BadValue place)) below) ∙ is))
        (k.0, k.1, λ at bad. omega (arith, h.1 at bad, less))
    | inr above ↦
        let more : place ≤ other = ltb-false other place above in
        subst (RefusesTransactions history pairs) (one_error (BadValue place) error (sym (cond-false (ltb other place) (Some (RepeatedAppend other)) (Some (BadValue place)) above) ∙ is))
        (h.0, h.1, λ at repeated. omega (arith, k.1 at repeated, more))
  ]

  -- none is bad, where none is so at any place
  pub all_good : ((place : ℕ) → IsBadAt history pairs place → ⊥) → All (λ pair. bad_value_place history pair ≡ None) pairs
  all_good good = λ i d low.
      let pair = get_or pairs i d in
      let cut : pairs ≡ take i pairs ++ pair ∷ drop (i + 1) pairs = sym (take-append-drop i pairs) ∙ ap (λ ys. take i pairs ++ ys) (drop_more pairs i d low) in
      none_if (bad_value_place history pair) (λ place is. good place (take i pairs, drop (i + 1) pairs, pair, cut, is))
    where
      none_if : (o : Option ℕ) → ((place : ℕ) → o ≡ Some place → ⊥) → o ≡ None
      none_if None h = refl
      none_if (Some place) h = absurd (h place refl)

-- each transaction is completed after its invocation, as its pair is
pub ends_if : (history : List Operation) (keys elements : List (ℕ × Edn)) (count : ℕ) (pairs : List Pair) (txns : List Txn) → All (IsPairWithin count) pairs → AllZip (IsTxnOf history keys elements) pairs txns → CompleteAfterInvocation txns
ends_if history keys elements count [] [] within are place end is = absurd (let none : ◌≡◌ {A = Option ℕ} None (Some end) = is in cc)
ends_if history keys elements count [] (t ∷ ts) within are place end is = absurd are
ends_if history keys elements count (p ∷ ps) [] within are place end is = absurd are
ends_if history keys elements count (p ∷ ps) (t ∷ ts) within are zero end is =
    let inside = All-head (IsPairWithin count) p ps within in
    let ended : p.outcome ≡ Some end = sym are.0.completed ∙ is in
    let both = subst (λ o. IfSome o (λ at. (p.invoke < at) × (at < count))) ended inside.outcome in
    subst (λ n. n < end) (sym are.0.invoked) both.0
ends_if history keys elements count (p ∷ ps) (t ∷ ts) within are (suc place) end is =
    ends_if history keys elements count ps ts (All-tail (IsPairWithin count) p ps within) are.1 place end is
