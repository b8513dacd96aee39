-- Which values can be printed and read back (this project's own; the rules are EDN's format
-- description's, "Built-in elements", and a limit of depth).
use Rattle.std.specs.Prelude.{◌≡◌, ℕ, ◌-◌, ◌<◌, true, FitsSigned}
use Rattle.std.specs.Int.{w64}
use Rattle.std.specs.Char.{IsScalar}
use Rattle.jh_edn.specs.Edn.{Edn, nil, boolean, int, char, str, keyword, symbol, list, vector}
use Rattle.jh_edn.specs.Edn.{mapping, set, tagged, Items, no_items, item, Members, no_members}
use Rattle.jh_edn.specs.Edn.{member}
use Rattle.jh_edn.specs.Equality.{Differ, KeysDiffer}
use Rattle.jh_edn.specs.Spelling.{is_name, is_symbol_name, is_tag}

-- Collections and tags are nested no deeper than that, integers fit 64 bits, names are names, no
-- key and no element stands twice.
abbrev mutual
  pub IsPrintable : ℕ → Edn → Type 0
  IsPrintable depth nil = Unit {0}
  IsPrintable depth (boolean b) = Unit {0}
  IsPrintable depth (int z) = FitsSigned w64 z
  IsPrintable depth (char c) = IsScalar c
  IsPrintable depth (str s) = Unit {0}
  IsPrintable depth (keyword name) = is_name name ≡ true
  IsPrintable depth (symbol name) = is_symbol_name name ≡ true
  IsPrintable depth (list xs) = (0 < depth) × ArePrintable (depth - 1) xs
  IsPrintable depth (vector xs) = (0 < depth) × ArePrintable (depth - 1) xs
  IsPrintable depth (mapping ms) = (0 < depth) × ArePrintablePairs (depth - 1) ms × KeysDiffer ms
  IsPrintable depth (set xs) = (0 < depth) × ArePrintable (depth - 1) xs × Differ xs
  IsPrintable depth (tagged tag x) = (0 < depth) × (is_tag tag ≡ true) × IsPrintable (depth - 1) x

  -- each element is
  pub ArePrintable : ℕ → Items → Type 0
  ArePrintable depth no_items = Unit {0}
  ArePrintable depth (item x xs) = IsPrintable depth x × ArePrintable depth xs

  -- each key and each value is
  pub ArePrintablePairs : ℕ → Members → Type 0
  ArePrintablePairs depth no_members = Unit {0}
  ArePrintablePairs depth (member k v ms) =
      IsPrintable depth k × IsPrintable depth v × ArePrintablePairs depth ms
