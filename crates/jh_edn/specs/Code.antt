-- A code for values: a tree of numbers for each, and no two values with one tree. Rattle wants it
-- of a type that a contract sees; nothing else reads it.
-- This project's own.
use Rattle.std.specs.Prelude.{◌≡◌, refl}
use Rattle.std.proofs.Common.{ap}
use Rattle.std.specs.Coded.{Coded, coded_ℕ, coded_ℤ, coded_bool, coded_list}
use Rattle.jh_edn.specs.Edn.{Edn, nil, boolean, int, char, str, keyword, symbol, list, vector}
use Rattle.jh_edn.specs.Edn.{mapping, set, tagged, Items, no_items, item, Members, no_members}
use Rattle.jh_edn.specs.Edn.{member}
use base.Stored.{Gv, gnil, gnum, gcons}

abbrev pub head : Gv → Gv
head gnil = gnil
head (gnum n) = gnil
head (gcons a b) = a

abbrev pub tail : Gv → Gv
tail gnil = gnil
tail (gnum n) = gnil
tail (gcons a b) = b

abbrev mutual
  pub code_edn : Edn → Gv
  code_edn nil = gnil
  code_edn (boolean b) = gcons (gnum 1) (coded_bool.code b)
  code_edn (int z) = gcons (gnum 2) (coded_ℤ.code z)
  code_edn (str s) = gcons (gnum 3) ((coded_list coded_ℕ).code s)
  code_edn (keyword s) = gcons (gnum 4) ((coded_list coded_ℕ).code s)
  code_edn (vector xs) = gcons (gnum 5) (code_items xs)
  code_edn (mapping ms) = gcons (gnum 6) (code_members ms)
  code_edn (char c) = gcons (gnum 7) (coded_ℕ.code c)
  code_edn (symbol s) = gcons (gnum 8) ((coded_list coded_ℕ).code s)
  code_edn (list xs) = gcons (gnum 9) (code_items xs)
  code_edn (set xs) = gcons (gnum 10) (code_items xs)
  code_edn (tagged tag x) = gcons (gnum 11) (gcons ((coded_list coded_ℕ).code tag) (code_edn x))

  pub code_items : Items → Gv
  code_items no_items = gnil
  code_items (item x xs) = gcons (code_edn x) (code_items xs)

  pub code_members : Members → Gv
  code_members no_members = gnil
  code_members (member k v ms) = gcons (code_edn k) (gcons (code_edn v) (code_members ms))

mutual
  pub inj_edn : (x y : Edn) → code_edn x ≡ code_edn y → x ≡ y
  inj_edn nil nil p = refl
  inj_edn (boolean b) (boolean c) p = ap boolean (coded_bool.inj b c (ap tail p))
  inj_edn (int b) (int c) p = ap int (coded_ℤ.inj b c (ap tail p))
  inj_edn (str b) (str c) p = ap str ((coded_list coded_ℕ).inj b c (ap tail p))
  inj_edn (keyword b) (keyword c) p = ap keyword ((coded_list coded_ℕ).inj b c (ap tail p))
  inj_edn (vector b) (vector c) p = ap vector (inj_items b c (ap tail p))
  inj_edn (mapping b) (mapping c) p = ap mapping (inj_members b c (ap tail p))
  inj_edn (char b) (char c) p = ap char (coded_ℕ.inj b c (ap tail p))
  inj_edn (symbol b) (symbol c) p = ap symbol ((coded_list coded_ℕ).inj b c (ap tail p))
  inj_edn (list b) (list c) p = ap list (inj_items b c (ap tail p))
  inj_edn (set b) (set c) p = ap set (inj_items b c (ap tail p))
  inj_edn (tagged s x) (tagged t y) p =
      λ i. tagged ((coded_list coded_ℕ).inj s t (ap (λ g. head (tail g)) p) i)
      (inj_edn x y (ap (λ g. tail (tail g)) p) i)
  inj_edn _ _ p = absurd cc

  inj_items : (x y : Items) → code_items x ≡ code_items y → x ≡ y
  inj_items no_items no_items p = refl
  inj_items (item x xs) (item y ys) p =
      λ i. item (inj_edn x y (ap head p) i) (inj_items xs ys (ap tail p) i)
  inj_items _ _ p = absurd cc

  inj_members : (x y : Members) → code_members x ≡ code_members y → x ≡ y
  inj_members no_members no_members p = refl
  inj_members (member k v ms) (member l w ns) p =
      λ i. member (inj_edn k l (ap head p) i) (inj_edn v w (ap (λ g. head (tail g)) p) i)
      (inj_members ms ns (ap (λ g. tail (tail g)) p) i)
  inj_members _ _ p = absurd cc

abbrev pub edn_coded : Coded Edn
edn_coded = record { code = code_edn; inj = inj_edn }
