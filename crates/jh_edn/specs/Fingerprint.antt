-- A number below 2^64 for each value, one number for equal values (this project's own).
-- That values which differ mostly differ in it saves time, and nothing else rests on it.
use Rattle.std.specs.Prelude.{ℕ, ◌+◌, ◌*◌, ◌/◌, ◌%◌, ◌^◌, ◌==◌, ◌≤◌, List, map, if◌then◌else◌}
use Rattle.std.specs.Prelude.{bit_xor}
use Rattle.std.specs.Int.{w64, cast_unsigned}
use Rattle.std.specs.List.{fold, count_by}
use Rattle.jh_edn.specs.Edn.{Edn, nil, boolean, int, char, str, keyword, symbol, list, vector}
use Rattle.jh_edn.specs.Edn.{mapping, set, tagged, Items, no_items, item, Members, no_members}
use Rattle.jh_edn.specs.Edn.{member}
use Rattle.jh_edn.specs.Order.{kind_of}

-- two numbers made one: their bits are spread by products, and folded down
unfoldable pub mix : ℕ → ℕ → ℕ
mix seed added =
    let spread = (seed + added * 0x9e3779b97f4a7c15 % 2 ^ 64) % 2 ^ 64 in
    let folded = bit_xor spread (spread / 2 ^ 32) * 0xd6e8feb86659fd93 % 2 ^ 64 in
    bit_xor folded (folded / 2 ^ 29)

-- one byte more of a text
unfoldable pub byte_more : ℕ → ℕ → ℕ
byte_more number byte = bit_xor number byte * 0x100000001b3 % 2 ^ 64

-- a text's number, by the rule named FNV-1a
unfoldable pub text_number : List ℕ → ℕ
text_number s = fold byte_more 0xcbf29ce484222325 s

abbrev mutual
  -- what a value holds, as a number
  pub content : Edn → ℕ
  content nil = 0
  content (boolean b) = if b then 1 else 0
  content (int z) = cast_unsigned w64 z
  content (char c) = c
  content (str s) = text_number s
  content (keyword s) = text_number s
  content (symbol s) = text_number s
  content (list xs) = items_number 0 xs
  content (vector xs) = items_number 0 xs
  content (mapping ms) = sum_of_members ms % 2 ^ 64
  content (set xs) = sum_of_items xs % 2 ^ 64
  content (tagged tag x) = mix (text_number tag) (mix (kind_of x) (content x))

  -- the elements of a sequence, the first one first
  pub items_number : ℕ → Items → ℕ
  items_number number no_items = number
  items_number number (item x xs) = items_number (mix number (mix (kind_of x) (content x))) xs

  -- the sum over the elements of a set
  pub sum_of_items : Items → ℕ
  sum_of_items no_items = 0
  sum_of_items (item x xs) = mix (kind_of x) (content x) + sum_of_items xs

  -- the sum over the pairs of a map
  pub sum_of_members : Members → ℕ
  sum_of_members no_members = 0
  sum_of_members (member k v ms) =
      mix (mix (kind_of k) (content k)) (mix (kind_of v) (content v)) + sum_of_members ms

abbrev pub fingerprint : Edn → ℕ
fingerprint x = mix (kind_of x) (content x)

abbrev pub fingerprints : List Edn → List ℕ
fingerprints xs = map fingerprint xs

-- no number stands twice
abbrev pub StandOnce : List ℕ → Type 0
StandOnce ns = (z : ℕ) → count_by (λ n. n == z) ns ≤ 1
