-- What a contract sees of where transactions stand, and what holds of it. This project's own.
use Rattle.std.specs.Prelude.{◌≡◌, ◌<◌, ◌^◌, All, length}
use Rattle.jh_test_parts.specs.Test.{IsGoodShape}
use Rattle.jh_test_parts.specs.Transactions.{TransactionSource}
use Rattle.jh_test_parts.specs.declared.parts.TransactionShape.{TransactionShape}
use Rattle.jh_test_parts.specs.declared.transactions.Slot.{Slot}
use Rattle.jh_test_parts.specs.declared.transactions.TransactionSource.TheInside.{Inside}

abbrev pub source_of : Inside → TransactionSource
source_of a = record {
  shape = a.shape;
  random_numbers = a.random_numbers;
  slots = a.slots.items;
  next_key = a.next_key;
}

-- the key of a slot is an integer of a text, and takes more appends
abbrev pub IsSlot : TransactionShape → Slot → Type 0
IsSlot shape slot = (slot.key < 2 ^ 63) × (slot.appends < shape.appends)

pub record IsSource (a : Inside) : Type 0 where
  pub good : IsGoodShape a.shape
  pub long : length a.slots.items ≡ a.shape.keys
  pub slots : All (IsSlot a.shape) a.slots.items
  pub next : a.next_key < 2 ^ 63
