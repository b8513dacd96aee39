-- The first of the errors, one operation after another.
use Rattle.std.proofs.Common.{◌≡◌, ℕ, ◌+◌, ◌<◌, ◌≤◌, true, false, cond, nat_lt, List, [], ◌∷◌, ◌++◌, length, take, get_or, refl, sym, ap, subst, ◌∙◌, arith}
use Rattle.std.specs.Prelude.{Option, Some, None, IfSome}
use Rattle.std.specs.List.{cons_option}
use Rattle.std.proofs.lemmas.List.{append-nil, take_more}
use Rattle.std.proofs.lemmas.List.Elements.{All-push, All-weaker, All-nil, Contains-push, Contains-append_left, filter_map-append}
use Rattle.std.proofs.lemmas.Bool.{ltb-true, ltb-false}
use Rattle.jh_ops.specs.Operation.{Operation}
use Rattle.jh_ops.specs.declared.pairs.Pair.{Pair}
use Rattle.jh_check.specs.CounterResults.{IsEarliest, place_of_error, value_error, errors_in}
use Rattle.jh_check.specs.CounterInside.{IsFirstOf, IsValueError, earlier_error}
use Rattle.jh_check.specs.declared.error.CheckError.{CheckError}

above : (a b : ℕ) → nat_lt a b ≡ false → b ≤ a
above a b h = ltb-false a b h

-- one error more, or none
pub first_more : (first next : Option CheckError) (errors : List CheckError) → IsFirstOf first errors → IfSome next IsValueError → IsFirstOf (earlier_error first next) (errors ++ cons_option next [])
first_more None None errors h v = append-nil errors ∙ h
first_more None (Some next) errors h v =
    let none : errors ++ next ∷ [] ≡ next ∷ [] = ap (λ w. w ++ next ∷ []) h in
    (subst (IsEarliest next) (sym none) (Contains-push [] next, All-push (λ other. place_of_error next ≤ place_of_error other) [] next (All-nil (λ other. place_of_error next ≤ place_of_error other)) (omega arith)), v)
first_more (Some first) None errors h v = subst (λ w. IsEarliest first w × IsValueError first) (sym (append-nil errors)) h
first_more (Some first) (Some next) errors h v =
    elim (nat_lt (place_of_error next) (place_of_error first)) as (λ b. nat_lt (place_of_error next) (place_of_error first) ≡ b → IsFirstOf (cond b (Some next) (Some first)) (errors ++ next ∷ [])) [
      | true ↦ λ e.
          let below : place_of_error next < place_of_error first = lower e in
          ((Contains-push errors next, All-push (λ other. place_of_error next ≤ place_of_error other) errors next (All-weaker (λ other. place_of_error first ≤ place_of_error other) (λ other. place_of_error next ≤ place_of_error other) (λ other le. omega arith) errors h.0.1) (omega arith)), v)
      | false ↦ λ e.
          let le : place_of_error first ≤ place_of_error next = above (place_of_error next) (place_of_error first) e in
          ((Contains-append_left errors (next ∷ []) first h.0.0, All-push (λ other. place_of_error first ≤ place_of_error other) errors next h.0.1 le), h.1)
    ] refl where
      lower : nat_lt (place_of_error next) (place_of_error first) ≡ true → place_of_error next < place_of_error first
      lower e = ltb-true (place_of_error next) (place_of_error first) e

pub errors_more : (history : List Operation) (pairs : List Pair) (i : ℕ) (d : Pair) → i < length pairs
    → errors_in history (take (i + 1) pairs) ≡ errors_in history (take i pairs) ++ cons_option (value_error history (get_or pairs i d)) []
errors_more history pairs i d less =
    ap (errors_in history) (take_more pairs i d less)
    ∙ filter_map-append (value_error history) (take i pairs) (get_or pairs i d ∷ [])
