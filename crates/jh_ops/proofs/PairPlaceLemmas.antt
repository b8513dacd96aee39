-- The places of pairs lie in the history, each outcome behind its invocation.
use Rattle.std.proofs.Common.{◌≡◌, ℕ, ◌+◌, ◌<◌, ◌≤◌, Bool, List, [], ◌∷◌, length, Some, sym, subst, arith, inl, inr}
use Rattle.std.specs.Prelude.{All, IfSome, cond}
use Rattle.std.proofs.lemmas.Bool.{cases_Bool}
use Rattle.std.proofs.lemmas.List.{length-map}
use Rattle.std.proofs.lemmas.List.Elements.{All-nil, All-append, All-push}
use Rattle.jh_ops.specs.Operation.{Operation, operation, operations}
use Rattle.jh_ops.specs.Pairing.{is_of_client, first_of, pair_of, pairs_from, history_pairs, IsPairWithin}
use Rattle.jh_ops.specs.declared.operation.Kind.{Kind}
use Rattle.jh_ops.specs.declared.operation.Op.{Op}
use Rattle.jh_ops.specs.declared.operation.Process.{Process}
use Rattle.jh_ops.specs.declared.pairs.Pair.{Pair}

-- a client's first operation stands in the list
first_within : (client place : ℕ) (ops : List Operation) (before count : ℕ) → before < place → place + length ops ≤ count
    → IfSome (first_of client place ops) (λ at. (before < at) × (at < count))
first_within client place [] before count behind fits = tt
first_within client place (op ∷ ops) before count behind fits =
    elim (cases_Bool (is_of_client client op.process)) [
      | inl hit ↦ subst (λ (b : Bool). IfSome (cond b (Some place) (first_of client (place + 1) ops)) (λ at. (before < at) × (at < count))) (sym hit) (behind, omega (arith, fits))
      | inr miss ↦ subst (λ (b : Bool). IfSome (cond b (Some place) (first_of client (place + 1) ops)) (λ at. (before < at) × (at < count))) (sym miss)
          (first_within client (place + 1) ops before count (omega (arith, behind)) (omega (arith, fits)))
    ]

pair_within : (kind : Kind) (process : Process) (place : ℕ) (ops : List Operation) (count : ℕ) → place + 1 + length ops ≤ count → All (IsPairWithin count) (pair_of kind process place ops)
pair_within Kind.Invoke (Process.Client client) place ops count fits =
    All-push (IsPairWithin count) [] (record { invoke = place; outcome = first_of client (place + 1) ops }) (All-nil (IsPairWithin count))
    (record { invoke = omega (arith, fits); outcome = first_within client (place + 1) ops place count (omega arith) fits })
pair_within Kind.Invoke Process.Nemesis place ops count fits = All-nil (IsPairWithin count)
pair_within Kind.Ok process place ops count fits = All-nil (IsPairWithin count)
pair_within Kind.Fail process place ops count fits = All-nil (IsPairWithin count)
pair_within Kind.Info process place ops count fits = All-nil (IsPairWithin count)

from_within : (place : ℕ) (ops : List Operation) (count : ℕ) → place + length ops ≤ count → All (IsPairWithin count) (pairs_from place ops)
from_within place [] count fits = All-nil (IsPairWithin count)
from_within place (op ∷ ops) count fits =
    All-append (IsPairWithin count) (pair_of op.kind op.process place ops) (pairs_from (place + 1) ops)
    (pair_within op.kind op.process place ops count (omega (arith, fits))) (from_within (place + 1) ops count (omega (arith, fits)))

pub pairs_within : (history : List Op) (pairs : List Pair) → pairs ≡ history_pairs (operations history) → All (IsPairWithin (length history)) pairs
pairs_within history pairs is =
    let long = length-map history operation in
    subst (λ (ps : List Pair). All (IsPairWithin (length history)) ps) (sym is) (from_within 0 (operations history) (length history) (omega (arith, long)))
