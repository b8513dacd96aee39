-- What spells a token or a character is read.
use Rattle.std.proofs.Common.{◌≡◌, ℕ, ◌+◌, ◌-◌, ◌^◌, ◌<◌, ◌⊎◌, inl, inr, Bool, true, false, eqb, ltb, List, [], ◌∷◌, ◌++◌, length, take, drop, get_or, Option, Some, None, cond, Ok, refl, sym, ap, subst, ◌∙◌, arith, append_assoc}
use Rattle.std.specs.Prelude.{◌&&◌, ◌||◌, slice_get, chars, encode_utf8, codes, not, ℤ, pos, negsuc, FitsSigned, option_map}
use Rattle.std.specs.Int.{w64}
use Rattle.std.specs.Char.{digit_value}
use Rattle.std.specs.Char.{IsScalar}
use lib.Utf8.{scalar}
use Rattle.std.specs.Str.{bytes_eq}
use Rattle.std.proofs.lemmas.Str.{encode_ascii, chars-encodes, chars-append, IsUtf8-encode}
use Rattle.std.specs.Str.Parse.{IsNumeral, AllDigits, digits_value, signed_digits_value, without_leading_sign}
use Rattle.std.proofs.lemmas.Grind.{common_steps}
use Rattle.std.proofs.lemmas.Slice.Eq.{bytes_eq-Decides}
use Rattle.std.proofs.lemmas.Bool.{eqb-true, ne_eqb, cases_Bool}
use Rattle.std.proofs.lemmas.List.{take_at, drop_at, length-append, append-nil}
use Rattle.jh_edn.specs.Edn.{Edn, nil, boolean, int, char, keyword, symbol, Items, no_items, item, items_of, Members, no_members, member, members_of}
use Rattle.jh_edn.specs.Bytes.{backspace, tab, line_feed, form_feed, carriage_return, space, is_blank, is_hex, open_paren, quote, backslash, colon, plus, minus, slash, capital_n, digit_zero, open_bracket, open_brace, line_feed, is_space, is_delimiter, is_token_byte, is_plain, is_digit, is_symbol, is_first, escaped_byte}
use Rattle.std.specs.List.{list_all, count_by, prefix_len}
use Rattle.jh_edn.specs.Spelling.{HasNoLeadingZero, IsInteger, IsBody, is_name, is_constant, looks_numeric, is_symbol_name, char_named, char_numbered, is_surrogate, IsCharacter, BeginsNoToken, items_of_members}
use Rattle.jh_edn.specs.Reading.{read_with_front, body, sign_len, digits_end, begins_number, begins_fraction, is_suffix, magnitude, integer_spelled, number_of, atom_of, atom, token_of, constant_of, lone_char, char_spelled, char_of, begins_char, character_at, character, pairs_of}
use Rattle.jh_edn.proofs.NumberLemmas.{and_both, unsigned_is}
use Rattle.jh_edn.proofs.ReadTokenLemmas.{chosen, same_bytes}
use Rattle.jh_edn.proofs.StringBodyLemmas.{not_special}

both_and : (a b : Bool) → a ≡ true → b ≡ true → (a && b) ≡ true
both_and a b e f = rw (e, f) refl

body_front : (c : ℕ) (w : List ℕ) → is_plain c ≡ true → body (c ∷ w) ≡ read_with_front (c ∷ []) (body w)
unfolding body
body_front c [] h = let p = not_special c h in rw p.0 refl
body_front c (d ∷ s) h = let p = not_special c h in rw (p.0, p.1) refl

body_close : (r : List ℕ) → body (quote ∷ r) ≡ Ok ([], r)
unfolding body
body_close [] = refl
body_close (c ∷ r) = refl

body_escape : (e b : ℕ) (w : List ℕ) → escaped_byte e ≡ Some b → body (backslash ∷ e ∷ w) ≡ read_with_front (b ∷ []) (body w)
unfolding body
body_escape e b w h = rw h refl

pub body_complete : (t b r : List ℕ) → IsBody t b → body (b ++ quote ∷ r) ≡ Ok (t, r)
body_complete [] b r h = rw h (body_close r)
body_complete (x ∷ t) b r h =
    let below = body_complete t h.0 r h.1 in
    elim h.2 [
      | inl p ↦ rw p.1 (body_front x (h.0 ++ quote ∷ r) p.0 ∙ ap (read_with_front (x ∷ [])) below)
      | inr p ↦ rw p.2 (body_escape p.0 x (h.0 ++ quote ∷ r) p.1 ∙ ap (read_with_front (x ∷ [])) below)
    ]

-- ---- runs

leading_all : (p : ℕ → Bool) (a b : List ℕ) → list_all p a ≡ true → prefix_len p b ≡ 0 → prefix_len p (a ++ b) ≡ length a
leading_all p [] b h e = e
leading_all p (c ∷ a) b h e = let q = and_both (p c) (list_all p a) h in rw q.0 (omega (arith, leading_all p a b q.1 e))

no_token : (r : List ℕ) → BeginsNoToken r → prefix_len is_token_byte r ≡ 0
no_token [] h = refl
no_token (c ∷ r) h = rw h refl

digit_token : (c : ℕ) → is_digit c ≡ true → is_token_byte c ≡ true
unfolding is_digit is_token_byte is_space is_delimiter
digit_token c h = grind (arith, common_steps)

symbol_token : (c : ℕ) → is_symbol c ≡ true → is_token_byte c ≡ true
unfolding is_symbol is_digit is_token_byte is_space is_delimiter
symbol_token c h = grind (arith, common_steps)

symbols_token : (s : List ℕ) → list_all is_symbol s ≡ true → list_all is_token_byte s ≡ true
symbols_token [] h = refl
symbols_token (c ∷ s) h = let p = and_both (is_symbol c) (list_all is_symbol s) h in both_and (is_token_byte c) (list_all is_token_byte s) (symbol_token c p.0) (symbols_token s p.1)

name_token : (s : List ℕ) → is_name s ≡ true → list_all is_token_byte s ≡ true
unfolding is_name
name_token s h =
    let symbols = list_all is_symbol s in
    let first = is_first (get_or s 0 0) in
    let slashes = ltb (count_by (λ c. eqb c slash) s) 2 in
    let a = and_both ((first && symbols) && slashes) (not (eqb (get_or s (length s - 1) 0) slash)) h in
    let b = and_both (first && symbols) slashes a.0 in
    symbols_token s (and_both first symbols b.0).1

is_a_digit : (c : ℕ) → digit_value c < 10 → is_digit c ≡ true
unfolding is_digit
is_a_digit c h = grind (arith, common_steps)

digits_are : (s : List ℕ) → AllDigits 10 s → list_all is_digit s ≡ true
digits_are [] h = refl
digits_are (c ∷ s) h = both_and (is_digit c) (list_all is_digit s) (is_a_digit c h.0) (digits_are s h.1)

digits_token : (s : List ℕ) → AllDigits 10 s → list_all is_token_byte s ≡ true
digits_token [] h = refl
digits_token (c ∷ s) h = both_and (is_token_byte c) (list_all is_token_byte s) (digit_token c (is_a_digit c h.0)) (digits_token s h.1)

abbrev Cases : List ℕ → List ℕ → Type 0
Cases core ds = (core ≡ ds) ⊎ ((c : ℕ) × ((c ≡ plus) ⊎ (c ≡ minus)) × (core ≡ c ∷ ds))

signed_cases : (core : List ℕ) → 0 < length (without_leading_sign core) → Cases core (without_leading_sign core)
signed_cases [] lt = absurd (omega arith)
signed_cases (c ∷ s) lt =
    elim (cases_Bool (eqb c minus)) [
      | inl e ↦ rw e (inr (c, inr (eqb-true c minus e), refl))
      | inr e ↦
          elim (cases_Bool (eqb c plus)) [
            | inl f ↦ rw (e, f) (inr (c, inl (eqb-true c plus f), refl))
            | inr f ↦ rw (e, f) (inl refl)
          ]
    ]

digit_no_sign : (d : ℕ) (ds : List ℕ) → digit_value d < 10 → sign_len (d ∷ ds) ≡ 0
unfolding sign_len
digit_no_sign d ds h = rw (ne_eqb d plus (λ e. grind (arith, common_steps)), ne_eqb d minus (λ e. grind (arith, common_steps))) refl

sign_one : (c : ℕ) (s : List ℕ) → (c ≡ plus) ⊎ (c ≡ minus) → sign_len (c ∷ s) ≡ 1
unfolding sign_len
sign_one c s (inl e) = rw e refl
sign_one c s (inr e) = rw e refl

-- the sign and the digits, in front of what is no digit
pub record Cut (core ds tail : List ℕ) : Type 0 where
  pub unsigned : drop (sign_len (core ++ tail)) (core ++ tail) ≡ ds ++ tail
  pub end : sign_len (core ++ tail) + length ds ≡ length core

cut_core : (core ds tail : List ℕ) → Cases core ds → AllDigits 10 ds → 0 < length ds → Cut core ds tail
cut_core core [] tail k h lt = absurd (omega arith)
cut_core core (d ∷ ds) tail (inl e) h lt =
    let none = digit_no_sign d (ds ++ tail) h.0 in
    rw e (record { unsigned = rw none refl; end = omega (arith, none) })
cut_core core (d ∷ ds) tail (inr p) h lt =
    let one = sign_one p.0 ((d ∷ ds) ++ tail) p.1 in
    rw p.2 (record { unsigned = rw one refl; end = omega (arith, one) })

first_digit : (ds tail : List ℕ) → AllDigits 10 ds → 0 < length ds → is_digit (get_or (ds ++ tail) 0 0) ≡ true
first_digit [] tail h lt = absurd (omega arith)
first_digit (d ∷ ds) tail h lt = is_a_digit d h.0

-- what a number's digits are, in front of what is no digit
pub record Number (core tail : List ℕ) : Type 0 where
  pub begins : begins_number (core ++ tail) ≡ true
  pub front : take (digits_end (core ++ tail)) (core ++ tail) ≡ core
  pub back : drop (digits_end (core ++ tail)) (core ++ tail) ≡ tail

number_at : (core ds tail : List ℕ) → Cases core ds → AllDigits 10 ds → 0 < length ds → prefix_len is_digit tail ≡ 0 → Number core tail
number_at core ds tail k h lt none =
    let cut = cut_core core ds tail k h lt in
    let digits : prefix_len is_digit (drop (sign_len (core ++ tail)) (core ++ tail)) ≡ length ds = rw cut.unsigned (leading_all is_digit ds tail (digits_are ds h) none) in
    let end : digits_end (core ++ tail) ≡ length core = omega (arith, digits, cut.end) in
    record { begins = rw cut.unsigned (first_digit ds tail h lt); front = rw end (take_at core tail (length core) refl); back = rw end (drop_at core tail (length core) refl) }

n_no_digit : is_digit capital_n ≡ false
unfolding is_digit
n_no_digit = refl

n_no_fraction : begins_fraction (capital_n ∷ []) ≡ false
unfolding begins_fraction
n_no_fraction = refl

nil_no_fraction : begins_fraction [] ≡ false
unfolding begins_fraction
nil_no_fraction = refl

colon_token : is_token_byte colon ≡ true
unfolding is_token_byte is_space is_delimiter
colon_token = refl

sign_token : (c : ℕ) → (c ≡ plus) ⊎ (c ≡ minus) → is_token_byte c ≡ true
unfolding is_token_byte is_space is_delimiter
sign_token c (inl e) = rw e refl
sign_token c (inr e) = rw e refl

n_token : is_token_byte capital_n ≡ true
unfolding is_token_byte is_space is_delimiter
n_token = refl

core_token : (core ds : List ℕ) → Cases core ds → AllDigits 10 ds → list_all is_token_byte core ≡ true
core_token core ds (inl e) h = rw e (digits_token ds h)
core_token core ds (inr p) h = rw p.2 (both_and (is_token_byte p.0) (list_all is_token_byte ds) (sign_token p.0 p.1) (digits_token ds h))

all_append : (p : ℕ → Bool) (a b : List ℕ) → list_all p a ≡ true → list_all p b ≡ true → list_all p (a ++ b) ≡ true
all_append p [] b h k = k
all_append p (c ∷ a) b h k = let q = and_both (p c) (list_all p a) h in both_and (p c) (list_all p (a ++ b)) q.0 (all_append p a b q.1 k)

fits_ltb : (z : ℤ) → FitsSigned w64 z → ltb (magnitude z) (2 ^ 63) ≡ true
fits_ltb (pos n) h = let k : n < 2 ^ 63 = h.sfits in grind (arith, common_steps)
fits_ltb (negsuc n) h = let k : n < 2 ^ 63 = h.sfits in grind (arith, common_steps)

zero_test : (a n : ℕ) → (a ≡ digit_zero → n ≡ 1) → (ltb 1 n && eqb a digit_zero) ≡ false
zero_test a n h = grind (arith, common_steps)

integer_again : (core : List ℕ) → IsNumeral 10 (without_leading_sign core) → HasNoLeadingZero (without_leading_sign core) → FitsSigned w64 (signed_digits_value 10 core) → integer_spelled core ≡ Ok (signed_digits_value 10 core)
unfolding integer_spelled
integer_again core n z f =
    let ds = without_leading_sign core in
    rw (unsigned_is core, zero_test (get_or ds 0 0) (length ds) z, fits_ltb (signed_digits_value 10 core) f) refl

some_core : (core ds : List ℕ) → Cases core ds → 0 < length ds → 0 < length core
some_core core ds (inl e) lt = rw e lt
some_core core ds (inr p) lt = rw p.2 (omega arith)

pub record IsTokenOf (x : Edn) (token : List ℕ) : Type 0 where
  pub reads : atom_of token ≡ Ok x
  pub all : list_all is_token_byte token ≡ true
  pub some : 0 < length token

-- a number with what may stand behind its digits
number_again : (core tail : List ℕ) (z : ℤ) → Number core tail → begins_fraction tail ≡ false → is_suffix tail ≡ true → integer_spelled core ≡ Ok z → atom_of (core ++ tail) ≡ Ok (int z)
unfolding atom_of number_of
number_again core tail z n fraction suffix value = rw (n.begins, n.back, n.front, fraction, suffix, value) refl

pub integer_token : (token : List ℕ) (z : ℤ) → IsInteger token z → IsTokenOf (int z) token
integer_token token z h =
    let ds = without_leading_sign h.core in
    let cases = signed_cases h.core h.digits.0 in
    let value : integer_spelled h.core ≡ Ok z = rw h.value (integer_again h.core h.digits h.plain h.fits) in
    elim h.suffix [
      | inl e ↦
          let n = number_at h.core ds [] cases h.digits.1 h.digits.0 refl in
          let reads = number_again h.core [] z n nil_no_fraction refl value in
          rw e (record { reads = rw append-nil at reads; all = core_token h.core ds cases h.digits.1; some = some_core h.core ds cases h.digits.0 })
      | inr e ↦
          let n = number_at h.core ds (capital_n ∷ []) cases h.digits.1 h.digits.0 (rw n_no_digit refl) in
          rw e (record {
            reads = number_again h.core (capital_n ∷ []) z n n_no_fraction refl value;
            all = all_append is_token_byte h.core (capital_n ∷ []) (core_token h.core ds cases h.digits.1) (rw n_token refl);
            some = omega (arith, length-append h.core (capital_n ∷ []));
          })
    ]

pub keyword_token : (name : List ℕ) → is_name name ≡ true → IsTokenOf (keyword name) (colon ∷ name)
unfolding atom_of sign_len is_digit
keyword_token name h = record { reads = rw h refl; all = both_and (is_token_byte colon) (list_all is_token_byte name) colon_token (name_token name h); some = omega arith }

constant_token : (x : Edn) (constant : List ℕ) → atom_of constant ≡ Ok x → list_all is_token_byte constant ≡ true → 0 < length constant → IsTokenOf x constant
constant_token x constant e h lt = record { reads = e; all = h; some = lt }

pub nil_token : IsTokenOf nil (codes "nil")
unfolding atom_of sign_len is_digit constant_of is_token_byte is_space is_delimiter
nil_token = record { reads = refl; all = refl; some = omega arith }

pub true_token : IsTokenOf (boolean true) (codes "true")
unfolding atom_of sign_len is_digit constant_of is_token_byte is_space is_delimiter
true_token = record { reads = refl; all = refl; some = omega arith }

pub false_token : IsTokenOf (boolean false) (codes "false")
unfolding atom_of sign_len is_digit constant_of is_token_byte is_space is_delimiter
false_token = record { reads = refl; all = refl; some = omega arith }

slash_token : IsTokenOf (symbol (slash ∷ [])) (slash ∷ [])
unfolding atom_of sign_len is_digit constant_of is_symbol_name is_token_byte is_space is_delimiter
slash_token = record { reads = refl; all = refl; some = omega arith }

or_neither : (a b : Bool) → (a || b) ≡ false → (a ≡ false) × (b ≡ false)
or_neither true b h = absurd cc
or_neither false b h = (refl, h)

or_either : (a b : Bool) → (a || b) ≡ true → (a ≡ true) ⊎ (b ≡ true)
or_either true b h = inl refl
or_either false b h = inr h

numeric_begins : (s : List ℕ) → looks_numeric s ≡ false → begins_number s ≡ false
unfolding looks_numeric sign_len is_digit
numeric_begins [] h = refl
numeric_begins (c ∷ []) h = grind (arith, common_steps)
numeric_begins (c ∷ d ∷ s) h = grind (arith, common_steps)

-- a name begins with neither a colon nor nothing
name_first : (s : List ℕ) → is_name s ≡ true → is_first (get_or s 0 0) ≡ true
unfolding is_name
name_first s h =
    let symbols = list_all is_symbol s in
    let first = is_first (get_or s 0 0) in
    let slashes = ltb (count_by (λ c. eqb c slash) s) 2 in
    let a = and_both ((first && symbols) && slashes) (not (eqb (get_or s (length s - 1) 0) slash)) h in
    (and_both first symbols (and_both (first && symbols) slashes a.0).0).0

first_colon : (c : ℕ) → is_first c ≡ true → eqb c colon ≡ false
unfolding is_first is_symbol is_digit
first_colon c h = grind (arith, common_steps)

first_some : (s : List ℕ) → is_first (get_or s 0 0) ≡ true → 0 < length s
unfolding is_first is_symbol is_digit
first_some [] h = absurd cc
first_some (c ∷ s) h = omega arith

not_word : (s : List ℕ) → is_constant s ≡ false → constant_of s ≡ None
unfolding is_constant constant_of
not_word s h =
    let a = or_neither (bytes_eq s (codes "nil") || bytes_eq s (codes "true")) (bytes_eq s (codes "false")) h in
    let b = or_neither (bytes_eq s (codes "nil")) (bytes_eq s (codes "true")) a.0 in
    rw (b.0, b.1, a.1) refl

is_not : (b : Bool) → not b ≡ true → b ≡ false
is_not true h = absurd cc
is_not false h = refl

symbol_reads : (name : List ℕ) → begins_number name ≡ false → eqb (get_or name 0 0) colon ≡ false → constant_of name ≡ None → is_symbol_name name ≡ true → atom_of name ≡ Ok (symbol name)
unfolding atom_of
symbol_reads name a b c d = rw (a, b, c, d) refl

pub symbol_token_of : (name : List ℕ) → is_symbol_name name ≡ true → IsTokenOf (symbol name) name
unfolding is_symbol_name
symbol_token_of name h =
    elim (or_either (bytes_eq name (slash ∷ [])) ((is_name name && not (looks_numeric name)) && not (is_constant name)) h) [
      | inl e ↦ subst (λ (w : List ℕ). IsTokenOf (symbol w) w) (sym (same_bytes name (slash ∷ []) e)) slash_token
      | inr e ↦
          let a = and_both (is_name name && not (looks_numeric name)) (not (is_constant name)) e in
          let b = and_both (is_name name) (not (looks_numeric name)) a.0 in
          let first = name_first name b.0 in
          record {
            reads = symbol_reads name (numeric_begins name (is_not (looks_numeric name) b.1)) (first_colon (get_or name 0 0) first) (not_word name (is_not (is_constant name) a.1)) h;
            all = name_token name b.0;
            some = first_some name first;
          }
    ]

pub atom_complete : (x : Edn) (token r : List ℕ) → IsTokenOf x token → BeginsNoToken r → atom (token ++ r) ≡ Ok (x, r)
unfolding atom
atom_complete x token r h apart =
    let n = leading_all is_token_byte token r h.all (no_token r apart) in
    rw (n, take_at token r (length token) refl, drop_at token r (length token) refl, h.reads) refl

pub token_apart : (c : ℕ) → is_token_byte c ≡ true → (eqb c quote ≡ false) × (eqb c open_paren ≡ false) × (eqb c open_bracket ≡ false) × (eqb c open_brace ≡ false) × (eqb c backslash ≡ false)
unfolding is_token_byte is_space is_delimiter
token_apart c h = (grind (arith, common_steps), grind (arith, common_steps), grind (arith, common_steps), grind (arith, common_steps), grind (arith, common_steps))

unfoldable pub list_of : Items → List Edn
list_of no_items = []
list_of (item x xs) = x ∷ list_of xs

pub items_list : (xs : Items) → items_of (list_of xs) ≡ xs
unfolding list_of
items_list no_items = refl
items_list (item x xs) = ap (item x) (items_list xs)

pub pairs_list : (ms : Members) → (ps : List (Edn × Edn)) × (pairs_of (list_of (items_of_members ms)) ≡ Some ps) × (members_of ps ≡ ms)
unfolding list_of
pairs_list no_members = ([], refl, refl)
pairs_list (member k v ms) =
    let p = pairs_list ms in
    ((k, v) ∷ p.0, ap (option_map (λ (w : List (Edn × Edn)). (k, v) ∷ w)) p.1, ap (member k v) p.2)

-- ---- characters

-- a character, and the token behind it, that a character's text is
record Parts (d : ℕ) (name : List ℕ) : Type 0 where
  pub c : ℕ
  pub token : List ℕ
  pub parts : name ≡ encode_utf8 c ++ token
  pub scalar : IsScalar c
  pub all : list_all is_token_byte token ≡ true
  pub is : char_of c token ≡ Some d

alone_parts : (d : ℕ) (name : List ℕ) → IsScalar d → is_blank d ≡ false → name ≡ encode_utf8 d → Parts d name
unfolding char_of lone_char
alone_parts d name scalar h e = record { c = d; token = []; parts = e ∙ sym (append-nil (encode_utf8 d)); scalar = scalar; all = refl; is = rw h refl }

-- a name that begins with that byte
called_parts : (d c b : ℕ) (token name : List ℕ) → c < 128 → IsScalar c → list_all is_token_byte (b ∷ token) ≡ true → name ≡ c ∷ b ∷ token → char_spelled name ≡ Some d → Parts d name
unfolding char_of
called_parts d c b token name lt scalar h e is =
    let same : encode_utf8 c ++ b ∷ token ≡ name = rw (encode_ascii c lt) (sym e) in
    record { c = c; token = b ∷ token; parts = sym same; scalar = scalar; all = h; is = ap char_spelled same ∙ is }

called_named : (name : List ℕ) (d : ℕ) → char_named name ≡ Some d → char_spelled name ≡ Some d
unfolding char_spelled
called_named name d e = rw e refl

-- no name is a number
no_number : (name : List ℕ) (d : ℕ) → char_numbered name ≡ Some d → char_named name ≡ None
unfolding char_numbered char_named
no_number (u ∷ d₁ ∷ d₂ ∷ d₃ ∷ d₄ ∷ []) d h =
    let digits = d₁ ∷ d₂ ∷ d₃ ∷ d₄ ∷ [] in
    let fits = not (is_surrogate (digits_value 16 digits)) in
    elim (chosen ((eqb u 117 && list_all is_hex digits) && fits) (Some (digits_value 16 digits)) None (Some d) h) [
      | inl p ↦
          let first : u ≡ 117 = eqb-true u 117 (and_both (eqb u 117) (list_all is_hex digits) (and_both (eqb u 117 && list_all is_hex digits) fits p.0).0).0 in
          rw first refl
      | inr p ↦ absurd (let bad = p.1 in cc)
    ]
no_number _ d h = absurd cc

called_numbered : (name : List ℕ) (d : ℕ) → char_numbered name ≡ Some d → char_spelled name ≡ Some d
unfolding char_spelled
called_numbered name d e = rw (no_number name d e, e) refl

hex_token : (c : ℕ) → is_hex c ≡ true → is_token_byte c ≡ true
unfolding is_hex is_token_byte is_space is_delimiter
hex_token c h = grind (arith, common_steps)

hexes_token : (s : List ℕ) → list_all is_hex s ≡ true → list_all is_token_byte s ≡ true
hexes_token [] h = refl
hexes_token (c ∷ s) h = let p = and_both (is_hex c) (list_all is_hex s) h in both_and (is_token_byte c) (list_all is_token_byte s) (hex_token c p.0) (hexes_token s p.1)

numbered_parts : (name : List ℕ) (d : ℕ) → char_numbered name ≡ Some d → Parts d name
unfolding char_numbered
numbered_parts (u ∷ d₁ ∷ d₂ ∷ d₃ ∷ d₄ ∷ []) d h =
    let digits = d₁ ∷ d₂ ∷ d₃ ∷ d₄ ∷ [] in
    let name = u ∷ digits in
    let fits = not (is_surrogate (digits_value 16 digits)) in
    elim (chosen ((eqb u 117 && list_all is_hex digits) && fits) (Some (digits_value 16 digits)) None (Some d) h) [
      | inl p ↦
          let both = and_both (eqb u 117) (list_all is_hex digits) (and_both (eqb u 117 && list_all is_hex digits) fits p.0).0 in
          let first : u ≡ 117 = eqb-true u 117 both.0 in
          called_parts d 117 d₁ (d₂ ∷ d₃ ∷ d₄ ∷ []) name (omega arith) refl (hexes_token digits both.1) (ap (λ (n : ℕ). n ∷ digits) first) (called_numbered name d h)
      | inr p ↦ absurd (let bad = p.1 in cc)
    ]
numbered_parts _ d h = absurd cc

named_parts : (name : List ℕ) (d : ℕ) → char_named name ≡ Some d → Parts d name
unfolding char_named is_token_byte is_space is_delimiter
named_parts name d h =
    let is = called_named name d h in
    let sixth : Option ℕ = cond (bytes_eq name (codes "backspace")) (Some backspace) None in
    let fifth : Option ℕ = cond (bytes_eq name (codes "formfeed")) (Some form_feed) sixth in
    let fourth : Option ℕ = cond (bytes_eq name (codes "tab")) (Some tab) fifth in
    let third : Option ℕ = cond (bytes_eq name (codes "space")) (Some space) fourth in
    let second : Option ℕ = cond (bytes_eq name (codes "return")) (Some carriage_return) third in
    elim (chosen (bytes_eq name (codes "newline")) (Some line_feed) second (Some d) h) [
      | inl p ↦ called_parts d 110 101 (codes "wline") name (omega arith) refl refl (same_bytes name (codes "newline") p.0) is
      | inr p ↦
          elim (chosen (bytes_eq name (codes "return")) (Some carriage_return) third (Some d) p.1) [
            | inl q ↦ called_parts d 114 101 (codes "turn") name (omega arith) refl refl (same_bytes name (codes "return") q.0) is
            | inr q ↦
                elim (chosen (bytes_eq name (codes "space")) (Some space) fourth (Some d) q.1) [
                  | inl u ↦ called_parts d 115 112 (codes "ace") name (omega arith) refl refl (same_bytes name (codes "space") u.0) is
                  | inr u ↦
                      elim (chosen (bytes_eq name (codes "tab")) (Some tab) fifth (Some d) u.1) [
                        | inl v ↦ called_parts d 116 97 (codes "b") name (omega arith) refl refl (same_bytes name (codes "tab") v.0) is
                        | inr v ↦
                            elim (chosen (bytes_eq name (codes "formfeed")) (Some form_feed) sixth (Some d) v.1) [
                              | inl w ↦ called_parts d 102 111 (codes "rmfeed") name (omega arith) refl refl (same_bytes name (codes "formfeed") w.0) is
                              | inr w ↦
                                  elim (chosen (bytes_eq name (codes "backspace")) (Some backspace) None (Some d) w.1) [
                                    | inl y ↦ called_parts d 98 97 (codes "ckspace") name (omega arith) refl refl (same_bytes name (codes "backspace") y.0) is
                                    | inr y ↦ absurd (let bad = y.1 in cc)
                                  ]
                            ]
                      ]
                ]
          ]
    ]

character_parts : (d : ℕ) (name : List ℕ) → IsCharacter d name → Parts d name
character_parts d name (inl h) = alone_parts d name h.0 h.1 h.2
character_parts d name (inr (inl h)) = named_parts name d h
character_parts d name (inr (inr h)) = numbered_parts name d h

first_char : (c : ℕ) (t : List ℕ) → IsScalar c → slice_get (chars (encode_utf8 c ++ t)) 0 ≡ Some c
first_char c t h =
    let one : chars (encode_utf8 c ++ []) ≡ c ∷ [] = chars-encodes (c ∷ []) (both_and (scalar c) true h refl) in
    let lone_char : chars (encode_utf8 c) ≡ c ∷ [] = ap chars (sym (append-nil (encode_utf8 c))) ∙ one in
    ap (λ (w : List ℕ). slice_get w 0) (chars-append (encode_utf8 c) t (IsUtf8-encode c h) ∙ ap (λ (w : List ℕ). w ++ chars t) lone_char)

bytes_self : (s : List ℕ) → bytes_eq s s ≡ true
bytes_self s = (bytes_eq-Decides s s).1 refl

pub char_begins : (c : ℕ) (t : List ℕ) → IsScalar c → begins_char c (encode_utf8 c ++ t) ≡ true
char_begins c t h =
    let front = encode_utf8 c in
    let taken : take (length front) (front ++ t) ≡ front = take_at front t (length front) refl in
    both_and (scalar c) (bytes_eq (take (length front) (front ++ t)) front) h (ap (λ (w : List ℕ). bytes_eq w front) taken ∙ bytes_self front)

pub token_before : (token r : List ℕ) → list_all is_token_byte token ≡ true → BeginsNoToken r → (token_of (token ++ r) ≡ token) × (drop (prefix_len is_token_byte (token ++ r)) (token ++ r) ≡ r)
token_before token r h apart =
    let n = leading_all is_token_byte token r h (no_token r apart) in
    (rw n (take_at token r (length token) refl), rw n (drop_at token r (length token) refl))

pub character_complete : (d : ℕ) (name r : List ℕ) → IsCharacter d name → BeginsNoToken r → character (backslash ∷ (name ++ r)) ≡ Ok (char d, r)
unfolding character
character_complete d name r h apart =
    let p = character_parts d name h in
    let front = encode_utf8 p.c in
    let begin = backslash ∷ (name ++ r) in
    let t = p.token ++ r in
    let whole : name ++ r ≡ front ++ t = ap (λ (w : List ℕ). w ++ r) p.parts ∙ append_assoc front p.token r in
    let token = token_before p.token r p.all apart in
    let behind : drop (length front) (front ++ t) ≡ t = drop_at front t (length front) refl in
    let found : character_at (Some p.c) begin (front ++ t) ≡ Ok (char d, r) = rw (char_begins p.c t p.scalar, behind, token.0, token.1, p.is) refl in
    ap (λ (w : List ℕ). character_at (slice_get (chars w) 0) begin w) whole
    ∙ ap (λ (o : Option ℕ). character_at o begin (front ++ t)) (first_char p.c t p.scalar)
    ∙ found
