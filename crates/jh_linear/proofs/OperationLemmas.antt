-- The operations that pairs stand for, and the least place of a bad value.
use Rattle.std.proofs.Common.{◌≡◌, ℕ, zero, suc, ◌<◌, ◌≤◌, min, Option, Some, None, List, [], ◌∷◌, ◌++◌, get_or, map, option_map, sym, ap, subst, ◌∙◌, inl, inr, arith}
use Rattle.std.specs.Prelude.{IfSome}
use Rattle.std.specs.List.{All, Contains}
use Rattle.std.proofs.lemmas.Bool.{cases_lt}
use Rattle.std.proofs.lemmas.List.{map-append}
use Rattle.std.proofs.lemmas.List.Elements.{All-head, All-tail, All-push, Contains-append_left, Contains-push}
use Rattle.jh_ops.specs.Operation.{Operation}
use Rattle.jh_ops.specs.Pairing.{IsPairWithin}
use Rattle.jh_ops.specs.declared.pairs.Pair.{Pair}
use Rattle.jh_linear.specs.declared.operations.Object.{Object}
use Rattle.jh_linear.specs.declared.register.RegOp.{RegOp}
use Rattle.jh_linear.specs.Order.{EndAfterInvoked}
use Rattle.jh_linear.specs.Operations.{AreRegOps, IsLeastBad, bad_place, reg_op_of, op_with_call}
use Rattle.jh_linear.specs.CheckingInside.{lesser_place}

module _ (object : Object) (history : List Operation) (pairs : List Pair) (pair : Pair) where
  abbrev Above : ℕ → Pair → Type 0
  Above place p = IfSome (bad_place object history p) (λ other. place ≤ other)

  none_above : (place : ℕ) (p : Pair) → bad_place object history p ≡ None → Above place p
  none_above place p is = subst (λ bad. IfSome bad (λ other. place ≤ other)) (sym is) tt

  lower : (one other : ℕ) (p : Pair) → one ≤ other → Above other p → Above one p
  lower one other p le h = elim (bad_place object history p) as (λ bad. IfSome bad (λ o. other ≤ o) → IfSome bad (λ o. one ≤ o)) [
    | None ↦ λ k. k
    | Some o ↦ λ k. omega (arith, k, le)
  ] h

  here_above : (place bad : ℕ) → bad_place object history pair ≡ Some bad → place ≤ bad → Above place pair
  here_above place bad is le = subst (λ b. IfSome b (λ other. place ≤ other)) (sym is) le

  more : (place : Option ℕ) → Contains (map (bad_place object history) pairs) place → Contains (map (bad_place object history) (pairs ++ pair ∷ [])) place
  more place h = subst (λ xs. Contains xs place) (sym (map-append (bad_place object history) pairs (pair ∷ []))) (Contains-append_left (map (bad_place object history) pairs) (bad_place object history pair ∷ []) place h)

  this : (place : Option ℕ) → bad_place object history pair ≡ place → Contains (map (bad_place object history) (pairs ++ pair ∷ [])) place
  this place is =
      subst (λ xs. Contains xs place) (sym (map-append (bad_place object history) pairs (pair ∷ [])))
      (subst (λ p. Contains (map (bad_place object history) pairs ++ bad_place object history pair ∷ []) p) is (Contains-push (map (bad_place object history) pairs) (bad_place object history pair)))

  -- one more pair
  pub least_more : (before bad : Option ℕ) → bad_place object history pair ≡ bad → IsLeastBad object history pairs before → IsLeastBad object history (pairs ++ pair ∷ []) (lesser_place before bad)
  least_more None None is h = All-push (λ p. bad_place object history p ≡ None) pairs pair h is
  least_more None (Some bad) is h =
      (this (Some bad) is, All-push (Above bad) pairs pair (λ k d lt. none_above bad (get_or pairs k d) (h k d lt)) (here_above bad bad is (omega arith)))
  least_more (Some place) None is h = (more (Some place) h.0, All-push (Above place) pairs pair h.1 (none_above place pair is))
  least_more (Some place) (Some bad) is h =
      elim (cases_lt bad place) as (λ _. IsLeastBad object history (pairs ++ pair ∷ []) (Some (min place bad))) [
        | inl below ↦
            let least : bad ≡ min place bad = omega (arith, below) in
            subst (λ m. IsLeastBad object history (pairs ++ pair ∷ []) (Some m)) least
            (this (Some bad) is, All-push (Above bad) pairs pair (λ k d lt. lower bad place (get_or pairs k d) (omega (arith, below)) (h.1 k d lt)) (here_above bad bad is (omega arith)))
        | inr above ↦
            let least : place ≡ min place bad = omega (arith, above) in
            subst (λ m. IsLeastBad object history (pairs ++ pair ∷ []) (Some m)) least
            (more (Some place) h.0, All-push (Above place) pairs pair h.1 (here_above place bad is above))
      ]

mapped : {X Y : Type 0} (f : X → Y) (x : Option X) (y : Y) → option_map f x ≡ Some y → (z : X) × (f z ≡ y)
mapped f None y h = absurd (let bad = h in cc)
mapped f (Some z) y h = let same : f z ≡ y = cc in (z, same)

-- each operation ends after its invocation, as pairs do
pub ends_if : (object : Object) (history : List Operation) (count : ℕ) (pairs : List Pair) (ops : List RegOp) → All (IsPairWithin count) pairs → AreRegOps object history pairs ops → EndAfterInvoked ops
ends_if object history count [] [] within are number end is = absurd (let bad = is in cc)
ends_if object history count [] (c ∷ cs) within are number end is = absurd (let bad = are in cc)
ends_if object history count (p ∷ ps) [] within are number end is = absurd (let bad = are in cc)
ends_if object history count (p ∷ ps) (c ∷ cs) within are zero end is =
    let here : reg_op_of object history p ≡ Some c = cc in
    let parsed = mapped (op_with_call history p) _ c here in
    let inside = All-head (IsPairWithin count) p ps within in
    let ended : p.outcome ≡ Some end = ap (λ o. o.ended) parsed.1 ∙ is in
    let both = subst (λ o. IfSome o (λ at. (p.invoke < at) × (at < count))) ended inside.outcome in
    subst (λ n. n < end) (ap (λ o. o.invoked) parsed.1) both.0
ends_if object history count (p ∷ ps) (c ∷ cs) within are (suc number) end is =
    let rest : AreRegOps object history ps cs = cc in
    ends_if object history count ps cs (All-tail (IsPairWithin count) p ps within) rest number end is
