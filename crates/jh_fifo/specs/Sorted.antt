-- Sorted keys.
use Rattle.std.specs.Prelude.{◌≡◌, ℕ, ◌<◌, ◌≤◌, List, length, slice_index_or}

abbrev pub key_entry_at : List (ℕ × ℕ) → ℕ → ℕ × ℕ
key_entry_at entries number = slice_index_or entries number (0, 0)

-- The entries are the keys with their indexes, the least key first.
pub record AreSortedKeys (keys : List ℕ) (entries : List (ℕ × ℕ)) : Type 0 where
  pub each : (k : ℕ) → k < length entries → ((key_entry_at entries k).1 < length keys)
      × ((key_entry_at entries k).0 ≡ slice_index_or keys (key_entry_at entries k).1 0)
  pub whole : (index : ℕ) → index < length keys
      → (k : ℕ) × (k < length entries) × ((key_entry_at entries k).1 ≡ index)
  pub rise : (i j : ℕ) → i ≤ j → j < length entries
      → (key_entry_at entries i).0 ≤ (key_entry_at entries j).0
  pub apart : (i j : ℕ) → i < j → j < length entries
      → (key_entry_at entries i).1 ≡ (key_entry_at entries j).1 → ⊥
