-- What is printed of a value is ASCII where its strings and names are.
use Rattle.std.proofs.Common.{◌≡◌, ℕ, ◌<◌, ◌-◌, Bool, true, false, List, [], ◌∷◌, ◌++◌, codes, flat_map, refl, arith}
use Rattle.std.specs.Prelude.{ℤ, pos, negsuc, suc, ◌==◌, nat_lt, if◌then◌else◌, FitsSigned}
use Rattle.std.specs.Int.{w64}
use Rattle.std.specs.List.{AllByRecursion, list_all}
use Rattle.std.specs.Str.{IsAscii, IsUtf8}
use Rattle.std.specs.Fmt.{decimal, signed_decimal}
use Rattle.std.proofs.lemmas.Bool.{and_parts, ltb-true}
use Rattle.std.proofs.lemmas.Int.{ints}
use Rattle.std.proofs.lemmas.List.Elements.{All-from_recursion}
use Rattle.std.proofs.lemmas.Fmt.{IsAscii-decimal}
use Rattle.std.proofs.lemmas.Str.{IsAscii-append, IsUtf8-from_ascii}
use Rattle.std.proofs.lemmas.Str.Ascii.{IsAscii-nil, IsAscii-from_all}
use Rattle.jh_edn.specs.Bytes.{backspace, tab, line_feed, form_feed, carriage_return, quote, colon, backslash, open_paren, close_paren, open_bracket, close_bracket, open_brace, close_brace}
use Rattle.jh_edn.specs.Edn.{Edn, nil, boolean, int, char, str, keyword, symbol, list, vector, mapping, set, tagged, Items, no_items, item, Members, no_members, member}
use Rattle.jh_edn.specs.Print.{print, escape, joined_text, item_texts, member_texts}
use Rattle.jh_edn.specs.Printable.{IsPrintable, ArePrintable, ArePrintablePairs}

abbrev Low : ℕ → Type 0
Low b = b < 128

low_bytes : (bs : List ℕ) → list_all (λ b. nat_lt b 128) bs ≡ true → AllByRecursion Low bs
low_bytes [] h = tt
low_bytes (b ∷ bs) h =
    let parts = and_parts (nat_lt b 128) (list_all (λ b. nat_lt b 128) bs) h in
    (ltb-true b 128 parts.0, low_bytes bs parts.1)

-- a text whose bytes are tested
pub tested : (bs : List ℕ) → list_all (λ b. nat_lt b 128) bs ≡ true → IsAscii bs
tested bs h = IsAscii-from_all bs (All-from_recursion Low bs (low_bytes bs h))

one_byte : (b : ℕ) → b < 128 → IsAscii (b ∷ [])
one_byte b low = IsAscii-from_all (b ∷ []) (All-from_recursion Low (b ∷ []) (low, tt))

-- strings and keywords are ASCII, and nothing else has a text of its own
abbrev mutual
  pub HasAscii : Edn → Type 0
  HasAscii nil = Unit {0}
  HasAscii (boolean b) = Unit {0}
  HasAscii (int z) = Unit {0}
  HasAscii (char c) = ⊥
  HasAscii (str s) = IsAscii s
  HasAscii (keyword s) = IsAscii s
  HasAscii (symbol s) = ⊥
  HasAscii (list xs) = HaveAscii xs
  HasAscii (vector xs) = HaveAscii xs
  HasAscii (mapping ms) = PairsHaveAscii ms
  HasAscii (set xs) = ⊥
  HasAscii (tagged tag x) = ⊥

  pub HaveAscii : Items → Type 0
  HaveAscii no_items = Unit {0}
  HaveAscii (item x xs) = HasAscii x × HaveAscii xs

  pub PairsHaveAscii : Members → Type 0
  PairsHaveAscii no_members = Unit {0}
  PairsHaveAscii (member k v ms) = HasAscii k × HasAscii v × PairsHaveAscii ms

if_ascii : (t : Bool) (xs ys : List ℕ) → IsAscii xs → IsAscii ys → IsAscii (if t then xs else ys)
if_ascii true xs ys h k = h
if_ascii false xs ys h k = k

escape_ascii : (c : ℕ) → c < 128 → IsAscii (escape c)
escape_ascii c low =
    if_ascii (c == quote) _ _ (tested (codes "\\\"") refl)
    (if_ascii (c == backslash) _ _ (tested (codes "\\\\") refl)
    (if_ascii (c == line_feed) _ _ (tested (codes "\\n") refl)
    (if_ascii (c == tab) _ _ (tested (codes "\\t") refl)
    (if_ascii (c == carriage_return) _ _ (tested (codes "\\r") refl)
    (if_ascii (c == backspace) _ _ (tested (codes "\\b") refl)
    (if_ascii (c == form_feed) _ _ (tested (codes "\\f") refl) (one_byte c low)))))))

body_ascii : (s : List ℕ) → IsAscii s → IsAscii (flat_map escape s)
body_ascii [] h = IsAscii-nil
body_ascii (c ∷ cs) h = IsAscii-append (escape c) (flat_map escape cs) (escape_ascii c (h 0)) (body_ascii cs (λ i. h (suc i)))

joined_ascii : (between : List ℕ) (ts : List (List ℕ)) → IsAscii between → AllByRecursion IsAscii ts → IsAscii (joined_text between ts)
joined_ascii between [] h all = IsAscii-nil
joined_ascii between (t ∷ []) h all = all.0
joined_ascii between (t ∷ u ∷ ts) h all =
    IsAscii-append t (between ++ joined_text between (u ∷ ts)) all.0
    (IsAscii-append between (joined_text between (u ∷ ts)) h (joined_ascii between (u ∷ ts) h all.1))

within_ascii : (left right : ℕ) (inner : List ℕ) → IsAscii (left ∷ []) → IsAscii (right ∷ []) → IsAscii inner → IsAscii (left ∷ (inner ++ right ∷ []))
within_ascii left right inner first last h = IsAscii-append (left ∷ []) (inner ++ right ∷ []) first (IsAscii-append inner (right ∷ []) h last)

int_ascii : (z : ℤ) → FitsSigned w64 z → IsAscii (signed_decimal z)
int_ascii (pos n) h = IsAscii-decimal n (omega (arith, ints, h.sfits))
int_ascii (negsuc n) h = IsAscii-append (45 ∷ []) (decimal (suc n)) (one_byte 45 (omega arith)) (IsAscii-decimal (suc n) (omega (arith, ints, h.sfits)))

mutual
  pub print_ascii : (x : Edn) (d : ℕ) → IsPrintable d x → HasAscii x → IsAscii (print x)
  print_ascii nil d p h = tested (codes "nil") refl
  print_ascii (boolean b) d p h = if_ascii b (codes "true") (codes "false") (tested (codes "true") refl) (tested (codes "false") refl)
  print_ascii (int z) d p h = int_ascii z p
  print_ascii (char c) d p h = absurd h
  print_ascii (str s) d p h = within_ascii quote quote (flat_map escape s) (tested (quote ∷ []) refl) (tested (quote ∷ []) refl) (body_ascii s h)
  print_ascii (keyword s) d p h = IsAscii-append (colon ∷ []) s (tested (colon ∷ []) refl) h
  print_ascii (symbol s) d p h = absurd h
  print_ascii (list xs) d p h =
      within_ascii open_paren close_paren (joined_text (codes " ") (item_texts xs)) (tested (open_paren ∷ []) refl) (tested (close_paren ∷ []) refl)
      (joined_ascii (codes " ") (item_texts xs) (tested (codes " ") refl) (items_ascii xs (d - 1) p.1 h))
  print_ascii (vector xs) d p h =
      within_ascii open_bracket close_bracket (joined_text (codes " ") (item_texts xs)) (tested (open_bracket ∷ []) refl) (tested (close_bracket ∷ []) refl)
      (joined_ascii (codes " ") (item_texts xs) (tested (codes " ") refl) (items_ascii xs (d - 1) p.1 h))
  print_ascii (mapping ms) d p h =
      within_ascii open_brace close_brace (joined_text (codes ", ") (member_texts ms)) (tested (open_brace ∷ []) refl) (tested (close_brace ∷ []) refl)
      (joined_ascii (codes ", ") (member_texts ms) (tested (codes ", ") refl) (pairs_ascii ms (d - 1) p.1 h))
  print_ascii (set xs) d p h = absurd h
  print_ascii (tagged tag x) d p h = absurd h

  items_ascii : (xs : Items) (d : ℕ) → ArePrintable d xs → HaveAscii xs → AllByRecursion IsAscii (item_texts xs)
  items_ascii no_items d p h = tt
  items_ascii (item x xs) d p h = (print_ascii x d p.0 h.0, items_ascii xs d p.1 h.1)

  pairs_ascii : (ms : Members) (d : ℕ) → ArePrintablePairs d ms → PairsHaveAscii ms → AllByRecursion IsAscii (member_texts ms)
  pairs_ascii no_members d p h = tt
  pairs_ascii (member k v ms) d p h =
      (IsAscii-append (print k) (codes " " ++ print v) (print_ascii k d p.0 h.0) (IsAscii-append (codes " ") (print v) (tested (codes " ") refl) (print_ascii v d p.1 h.1)), pairs_ascii ms d p.2 h.2)

-- so it is a text
pub printed_utf8 : (x : Edn) (d : ℕ) → IsPrintable d x → HasAscii x → IsUtf8 (print x)
printed_utf8 x d p h = IsUtf8-from_ascii (print x) (print_ascii x d p h)
