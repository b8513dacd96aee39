-- Where transactions begin, and micro-operations that the code makes one by one.
use Rattle.std.proofs.Common.{◌≡◌, ℕ, zero, suc, ◌+◌, ◌≤◌, ◌^◌, List, [], ◌∷◌, ◌++◌, All, length, refl, ap, ◌∙◌, arith}
use Rattle.std.proofs.lemmas.List.{append_assoc, map-append}
use Rattle.std.proofs.lemmas.List.Elements.{All-nil, All-cons}
use Rattle.jh_edn.specs.Edn.{Edn}
use Rattle.jh_edn.specs.View.{view, views}
use Rattle.jh_edn.specs.declared.value.Value.{Value}
use Rattle.jh_test_parts.specs.SourceInside.{IsSlot}
use Rattle.jh_test_parts.specs.Transactions.{TransactionSource, slots_from, next_op, next_ops}
use Rattle.jh_test_parts.specs.declared.parts.TransactionShape.{TransactionShape}
use Rattle.jh_test_parts.specs.declared.transactions.Slot.{Slot}

pub slots_long : (key n : ℕ) → length (slots_from key n) ≡ n
slots_long key zero = refl
slots_long key (suc n) = ap suc (slots_long (key + 1) n)

pub slots_fit : (shape : TransactionShape) → 1 ≤ shape.appends → (key n : ℕ) → key + n ≤ 2 ^ 63 → All (IsSlot shape) (slots_from key n)
slots_fit shape some key zero few = All-nil (IsSlot shape)
slots_fit shape some key (suc n) few =
    let slot : Slot = record { key = key; appends = 0 } in
    All-cons (IsSlot shape) slot (slots_from (key + 1) n) (omega (arith, few), omega (arith, some))
    (slots_fit shape some (key + 1) n (omega (arith, few)))

-- one more micro-operation, and what then comes
pub op_made : (values : List Value) (v : Value) (n : ℕ) (source next : TransactionSource) (all : List Edn) → view v ≡ (next_op source).0 → next ≡ (next_op source).1
    → views values ++ (next_ops (suc n) source).0 ≡ all → views (values ++ v ∷ []) ++ (next_ops n next).0 ≡ all
op_made values v n source next all op is made =
    ap (λ l. l ++ (next_ops n next).0) (map-append view values (v ∷ []))
    ∙ append_assoc (views values) (view v ∷ []) _
    ∙ ap (λ x. views values ++ x ∷ (next_ops n next).0) op
    ∙ ap (λ s. views values ++ (next_op source).0 ∷ (next_ops n s).0) is ∙ made

pub source_made : (n : ℕ) (source next last : TransactionSource) → next ≡ (next_op source).1 → (next_ops (suc n) source).1 ≡ last → (next_ops n next).1 ≡ last
source_made n source next last is made = ap (λ s. (next_ops n s).1) is ∙ made
