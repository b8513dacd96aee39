-- What can be printed can be printed with more depth.
use Rattle.std.proofs.Common.{ℕ, ◌-◌, ◌<◌, ◌≤◌, arith}
use Rattle.jh_edn.specs.Edn.{Edn, nil, boolean, int, char, str, keyword, symbol, list, vector, mapping, set, tagged, Items, no_items, item, Members, no_members, member}
use Rattle.jh_edn.specs.Printable.{IsPrintable, ArePrintable, ArePrintablePairs}

less : (d e : ℕ) → d ≤ e → d - 1 ≤ e - 1
less d e h = omega (arith, h)

some : (d e : ℕ) → d ≤ e → 0 < d → 0 < e
some d e h k = omega (arith, h, k)

mutual
  pub deeper : (x : Edn) (d e : ℕ) → d ≤ e → IsPrintable d x → IsPrintable e x
  deeper nil d e h p = p
  deeper (boolean b) d e h p = p
  deeper (int z) d e h p = p
  deeper (char c) d e h p = p
  deeper (str s) d e h p = p
  deeper (keyword s) d e h p = p
  deeper (symbol s) d e h p = p
  deeper (list xs) d e h p = (some d e h p.0, items_deeper xs (d - 1) (e - 1) (less d e h) p.1)
  deeper (vector xs) d e h p = (some d e h p.0, items_deeper xs (d - 1) (e - 1) (less d e h) p.1)
  deeper (mapping ms) d e h p = (some d e h p.0, pairs_deeper ms (d - 1) (e - 1) (less d e h) p.1, p.2)
  deeper (set xs) d e h p = (some d e h p.0, items_deeper xs (d - 1) (e - 1) (less d e h) p.1, p.2)
  deeper (tagged tag x) d e h p = (some d e h p.0, p.1, deeper x (d - 1) (e - 1) (less d e h) p.2)

  items_deeper : (xs : Items) (d e : ℕ) → d ≤ e → ArePrintable d xs → ArePrintable e xs
  items_deeper no_items d e h p = tt
  items_deeper (item x xs) d e h p = (deeper x d e h p.0, items_deeper xs d e h p.1)

  pub pairs_deeper : (ms : Members) (d e : ℕ) → d ≤ e → ArePrintablePairs d ms → ArePrintablePairs e ms
  pairs_deeper no_members d e h p = tt
  pairs_deeper (member k v ms) d e h p = (deeper k d e h p.0, deeper v d e h p.1, pairs_deeper ms d e h p.2)
