-- The transactions of a test, one after another, as random numbers choose them. This project's own;
-- their form is that of Jepsen's workload list-append (jepsen.tests.cycle.append).
use Rattle.std.specs.Prelude.{ℕ, zero, suc, ◌+◌, ◌%◌, ◌^◌, ◌==◌, pos, Bool, List, [], ◌∷◌, codes, set}
use Rattle.std.specs.Prelude.{slice_index_or, if◌then◌else◌}
use Rattle.rand_pcg.specs.Lcg.{Lcg, started, increment_of}
use Rattle.rand_pcg.specs.Pcg.{pcg64, multiplier_128}
use Rattle.jh_edn.specs.Edn.{Edn, nil, int, keyword}
use Rattle.jh_edn.specs.Parts.{vector_of}
use Rattle.jh_test_parts.specs.declared.parts.TransactionShape.{TransactionShape}
use Rattle.jh_test_parts.specs.declared.transactions.Slot.{Slot}

-- where the transactions stand: how they are made, the random numbers, the slots, and the next key that
-- was never used
pub record TransactionSource : Type 0 where
  pub shape : TransactionShape
  pub random_numbers : Lcg
  pub slots : List Slot
  pub next_key : ℕ

abbrev pub no_slot : Slot
no_slot = record { key = 0; appends = 0 }

abbrev pub slots_from : ℕ → ℕ → List Slot
slots_from key zero = []
slots_from key (suc n) = (record { key = key; appends = 0 }) ∷ slots_from (key + 1) n

-- slot s has the key s at first; the random numbers are those of the seed's second stream
abbrev pub first_source : TransactionShape → ℕ → TransactionSource
first_source shape seed = record {
  shape = shape;
  random_numbers = started 128 multiplier_128 seed (increment_of 128 1);
  slots = slots_from 0 shape.keys;
  next_key = shape.keys;
}

abbrev pub after_random_number : TransactionSource → TransactionSource
after_random_number source = record source { random_numbers = (pcg64 source.random_numbers).1 }

abbrev pub random_number_of : TransactionSource → ℕ
random_number_of source = (pcg64 source.random_numbers).0

-- `[:r K nil]` and `[:append K E]`
abbrev pub read_written : ℕ → Edn
read_written key = vector_of (keyword (codes "r") ∷ int (pos key) ∷ nil ∷ [])

abbrev pub append_of : ℕ → ℕ → Edn
append_of key element =
    vector_of (keyword (codes "append") ∷ int (pos key) ∷ int (pos element) ∷ [])

-- whether a slot has all its appends with one more
abbrev pub is_full_with_one : TransactionSource → Slot → Bool
is_full_with_one source slot = slot.appends + 1 == source.shape.appends

-- the slot after one more append: another key takes its place where this one has all its appends
abbrev pub slot_after : TransactionSource → Slot → Slot
slot_after source slot =
    if is_full_with_one source slot then record { key = source.next_key; appends = 0 }
    else record { key = slot.key; appends = slot.appends + 1 }

-- the next key after it; keys are integers of a text, and no test comes to the end of them
abbrev pub key_after : TransactionSource → Slot → ℕ
key_after source slot =
    if is_full_with_one source slot then (source.next_key + 1) % 2 ^ 63 else source.next_key

abbrev pub source_after_append : TransactionSource → ℕ → Slot → TransactionSource
source_after_append source place slot = record source {
  slots = set source.slots place (slot_after source slot);
  next_key = key_after source slot;
}

-- a micro-operation on a slot: an append where the number that chose it is odd, else a read
abbrev pub op_on_slot : TransactionSource → Bool → ℕ → Slot → Edn × TransactionSource
op_on_slot source reads place slot =
    if reads then (read_written slot.key, source)
    else (append_of slot.key (slot.appends + 1), source_after_append source place slot)

abbrev pub op_on : TransactionSource → Bool → ℕ → Edn × TransactionSource
op_on source reads place = op_on_slot source reads place (slice_index_or source.slots place no_slot)

-- the next micro-operation takes two numbers: what it does, and the slot
abbrev pub next_op : TransactionSource → Edn × TransactionSource
next_op source =
    let chosen = after_random_number source in
    op_on (after_random_number chosen) (random_number_of source % 2 == 0)
    (random_number_of chosen % source.shape.keys)

-- so many micro-operations
abbrev pub next_ops : ℕ → TransactionSource → List Edn × TransactionSource
next_ops zero source = ([], source)
next_ops (suc n) source =
    let first = next_op source in
    let more = next_ops n first.1 in
    (first.0 ∷ more.0, more.1)

-- the next transaction takes a number for its length, and then those of its micro-operations
abbrev pub next_transaction : TransactionSource → Edn × TransactionSource
next_transaction source =
    let ops =
    next_ops (1 + random_number_of source % source.shape.most) (after_random_number source) in
    (vector_of ops.0, ops.1)
