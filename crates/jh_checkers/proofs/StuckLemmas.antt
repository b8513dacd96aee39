-- Where a history is stuck there stands a completion.
use Rattle.std.proofs.Common.{◌≡◌, ◌∙◌, ◌<◌, ◌^◌, ℕ, zero, suc, List, [], ◌∷◌, length, refl, ap, subst}
use Rattle.std.specs.Prelude.{◌-◌, ℤ, Option, Some, None, option_and_then, option_map, slice_get, unwrap_or}
use Rattle.std.proofs.lemmas.Option.{slice_get_within}
use Rattle.jh_ops.specs.Operation.{Operation}
use Rattle.jh_ops.specs.Pairing.{history_pairs}
use Rattle.jh_ops.specs.declared.pairs.Pair.{Pair}
use Rattle.jh_linear.specs.Operations.{AreRegOps, outcome_of, reg_op_of, op_with_call}
use Rattle.jh_linear.specs.Order.{IsDone, op_at}
use Rattle.jh_linear.specs.Stuck.{IsStuck, op_end}
use Rattle.jh_linear.specs.declared.register.Outcome.TheVariants.{Done}
use Rattle.jh_linear.specs.declared.operations.Object.{Object}
use Rattle.jh_linear.specs.declared.register.RegOp.{RegOp}
use Rattle.jh_linear.specs.declared.verdict.Stuck.{Stuck}
use Rattle.jh_checkers.specs.Findings.{AreObjectOps}

-- what happened was completed in the history
ends_within : (history : List Operation) (ended : Option ℕ)
    → outcome_of (option_map (λ (op : Operation). op.kind) (option_and_then (λ place. slice_get history place) ended)) ≡ Done
    → unwrap_or ended (2 ^ 64 - 1) < length history
ends_within history None h = absurd cc
ends_within history (Some place) h =
    elim (slice_get history place) as (λ found. slice_get history place ≡ found → outcome_of (option_map (λ (op : Operation). op.kind) found) ≡ Done → place < length history) [
      | None ↦ λ e done. absurd cc
      | Some op ↦ λ e done. slice_get_within history place op e
    ] refl h

mapped_from : {A B : Type 0} (f : A → B) (found : Option A) (y : B) → option_map f found ≡ Some y → (x : A) × (f x ≡ y)
mapped_from f None y e = absurd cc
mapped_from f (Some x) y e = (x, cc)

done_within : (object : Object) (history : List Operation) (pair : Pair) (op : RegOp) → reg_op_of object history pair ≡ Some op → op.outcome ≡ Done → op_end op < length history
done_within object history pair op given done =
    let from = mapped_from (op_with_call history pair) _ op given in
    subst (λ (c : RegOp). op_end c < length history) from.1
    (ends_within history pair.outcome (ap (λ (c : RegOp). c.outcome) from.1 ∙ done))

one_within : (object : Object) (history : List Operation) (pairs : List Pair) (ops : List RegOp) (place : ℕ) → AreRegOps object history pairs ops
    → IsDone ops place → op_end (op_at ops place) < length history
one_within object history [] [] place are done = absurd cc
one_within object history [] (op ∷ ops) place are done = absurd cc
one_within object history (pair ∷ pairs) [] place are done = absurd cc
one_within object history (pair ∷ pairs) (op ∷ ops) zero are done =
    let given : reg_op_of object history pair ≡ Some op = cc in
    done_within object history pair op given done
one_within object history (pair ∷ pairs) (op ∷ ops) (suc place) are done =
    let others : AreRegOps object history pairs ops = cc in
    one_within object history pairs ops place others done

pub stuck_within : (object : Object) (history : List Operation) (ops : List RegOp) (initial : Option ℤ) (stuck : Stuck) → AreObjectOps object history ops
    → IsStuck ops initial stuck → stuck.end < length history
stuck_within object history ops initial stuck are is =
    let completion = is.completion in
    subst (λ (end : ℕ). end < length history) completion.2 (one_within object history (history_pairs history) ops completion.0 are.1 completion.1)
