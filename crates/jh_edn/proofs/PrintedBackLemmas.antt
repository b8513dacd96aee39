-- What is printed of a value that can be printed spells it.
use Rattle.std.proofs.Common.{◌≡◌, ℕ, zero, suc, ◌+◌, ◌-◌, ◌*◌, ◌/◌, ◌%◌, ◌^◌, ◌<◌, ◌⊎◌, inl, inr, true, false, cond, eqb, ltb, not, ◌&&◌, List, [], ◌∷◌, ◌++◌, codes, length, get_or, Some, None, refl, sym, ap, subst, ◌∙◌, append_assoc, arith}
use Rattle.std.proofs.lemmas.List.{append-nil, length-append, get_or_append_left}
use Rattle.std.specs.Prelude.{ℤ, pos, negsuc, neg_ℤ, FitsSigned}
use Rattle.std.specs.Int.{w64}
use Rattle.std.specs.List.{flat_map}
use Rattle.std.specs.Fmt.{decimal, signed_decimal}
use Rattle.std.specs.Str.Parse.{IsNumeral, digits_value, signed_digits_value, without_leading_sign}
use Rattle.std.proofs.lemmas.Fmt.{decimal_nonempty, length-decimal-le_succ, first_decimal, decimal_by_steps, decimal_is_IsNumeral}
use Rattle.std.proofs.lemmas.Bool.{eqb-true, ne_eqb}
use Rattle.std.specs.Char.{IsScalar, digit_value, digit_char}
use Rattle.std.proofs.lemmas.Str.{digit_value-digit_char}
use Rattle.std.proofs.Math.Nat.{div-add-mod}
use Rattle.std.proofs.lemmas.Grind.{common_steps}
use Rattle.jh_edn.specs.Bytes.{space, comma, quote, backslash, open_paren, close_paren, open_bracket, close_bracket, open_brace, close_brace, hash, is_space, is_token_byte, is_delimiter, is_plain, is_blank, is_hex, escaped_byte, line_feed, tab, carriage_return, backspace, form_feed}
use Rattle.jh_edn.specs.Edn.{Edn, nil, boolean, int, char, str, keyword, symbol, list, vector, mapping, set, tagged, Items, no_items, item, Members, no_members, member}
use Rattle.jh_edn.specs.Spelling.{is_surrogate, char_named, char_numbered, IsInteger, HasNoLeadingZero, IsBody, IsCharacter, BeginsNoToken, nothing, white, Inner, SpellsElements, items_of_members, SpellsFront, grammar_around, inside, depth_limit, SpellsAll}
use Rattle.jh_edn.specs.Print.{escape, is_unshown, char_number, char_text, joined_text, print, item_texts, member_texts}
use Rattle.jh_edn.specs.Printable.{IsPrintable, ArePrintable, ArePrintablePairs}

-- a fact of a number follows from that of one number and that of all others
choose : (b c : ℕ) (P : ℕ → Type 0) → P c → (eqb b c ≡ false → P b) → P b
choose b c P here other =
    elim (eqb b c) as (λ t. eqb b c ≡ t → P b) [
      | true ↦ λ e. subst P (sym (eqb-true b c e)) here
      | false ↦ other
    ] refl

-- ---- integers

first_digit : (n : ℕ) → n < 2 ^ 64 → 47 < get_or (decimal n) 0 0
first_digit n h =
    (decimal_by_steps (λ m ds. (0 < length ds) × (47 < get_or ds 0 0)) (λ m l. (omega arith, omega arith))
    (λ m ds l k. (omega (arith, length-append ds ((48 + m % 10) ∷ [])), omega (arith, get_or_append_left ds ((48 + m % 10) ∷ []) 0 0 k.0, k.1))) n h).1

unsigned : (n : ℕ) → n < 2 ^ 64 → (without_leading_sign (decimal n) ≡ decimal n) × (signed_digits_value 10 (decimal n) ≡ pos (digits_value 10 (decimal n)))
unsigned n h =
    let minus : eqb (get_or (decimal n) 0 0) 45 ≡ false = ne_eqb (get_or (decimal n) 0 0) 45 (λ e. omega (arith, first_digit n h, e)) in
    let plus : eqb (get_or (decimal n) 0 0) 43 ≡ false = ne_eqb (get_or (decimal n) 0 0) 43 (λ e. omega (arith, first_digit n h, e)) in
    (rw (minus, plus) refl, rw (minus, plus) refl)

no_zero_first : (n : ℕ) → n < 2 ^ 64 → HasNoLeadingZero (decimal n)
no_zero_first zero h = λ e. omega (arith, decimal_nonempty 0 h, length-decimal-le_succ 0 h)
no_zero_first (suc n) h = λ e. absurd (omega (arith, first_decimal (suc n) (omega arith) h, e))

integer : (z : ℤ) → FitsSigned w64 z → IsInteger (signed_decimal z) z
integer (pos n) h =
    let less : n < 2 ^ 63 = h.sfits in
    let wide : n < 2 ^ 64 = omega (arith, less) in
    let is = unsigned n wide in
    let numeral = decimal_is_IsNumeral n wide in
    let value : signed_digits_value 10 (decimal n) ≡ pos n = is.1 ∙ ap pos numeral.1 in
    record {
      core = decimal n;
      suffix = inl refl;
      digits = subst (IsNumeral 10) (sym is.0) numeral.0;
      plain = subst HasNoLeadingZero (sym is.0) (no_zero_first n wide);
      fits = subst (FitsSigned w64) (sym value) h;
      value = sym value;
    }
integer (negsuc n) h =
    let less : n < 2 ^ 63 = h.sfits in
    let wide : suc n < 2 ^ 64 = omega (arith, less) in
    let numeral = decimal_is_IsNumeral (suc n) wide in
    let value : signed_digits_value 10 (45 ∷ decimal (suc n)) ≡ negsuc n = ap (λ k. neg_ℤ (pos k)) numeral.1 in
    record {
      core = 45 ∷ decimal (suc n);
      suffix = inl refl;
      digits = numeral.0;
      plain = no_zero_first (suc n) wide;
      fits = subst (FitsSigned w64) (sym value) h;
      value = sym value;
    }

-- ---- strings

abbrev Escapes : ℕ → Type 0
Escapes b = ((is_plain b ≡ true) × (escape b ≡ b ∷ [])) ⊎ ((e : ℕ) × (escaped_byte e ≡ Some b) × (escape b ≡ backslash ∷ e ∷ []))

escapes : (b : ℕ) → Escapes b
unfolding is_plain escaped_byte
escapes b =
    choose b quote Escapes (inr (quote, refl, refl)) (λ n1.
    choose b backslash Escapes (inr (backslash, refl, refl)) (λ n2.
    choose b line_feed Escapes (inr (110, refl, refl)) (λ n3.
    choose b tab Escapes (inr (116, refl, refl)) (λ n4.
    choose b carriage_return Escapes (inr (114, refl, refl)) (λ n5.
    choose b backspace Escapes (inr (98, refl, refl)) (λ n6.
    choose b form_feed Escapes (inr (102, refl, refl)) (λ n7.
    inl (rw (n1, n2) refl, rw (n1, n2, n3, n4, n5, n6, n7) refl))))))))

body_of : (t : List ℕ) → IsBody t (flat_map escape t)
body_of [] = refl
body_of (b ∷ t) =
    elim (escapes b) [
      | inl p ↦ (flat_map escape t, body_of t, inl (p.0, ap (λ (w : List ℕ). w ++ flat_map escape t) p.1))
      | inr p ↦ (flat_map escape t, body_of t, inr (p.0, p.1, ap (λ (w : List ℕ). w ++ flat_map escape t) p.2))
    ]

-- ---- characters

hexadecimal : (a b c : ℕ) → a < 16 → b < 16 → (0 + a) * 16 + b ≡ c → c < 128
    → cond (ltb a 16 && (ltb b 16 && true) && not (is_surrogate ((0 + a) * 16 + b))) (Some ((0 + a) * 16 + b)) None ≡ Some c
hexadecimal a b c first second is low =
    let high_digit : ltb a 16 ≡ true = grind (arith, common_steps) in
    let low_digit : ltb b 16 ≡ true = grind (arith, common_steps) in
    let whole : is_surrogate c ≡ false = grind (arith, common_steps) in
    rw (is, high_digit, low_digit, whole) refl

by_number : (c : ℕ) → c < 128 → char_numbered (char_number c) ≡ Some c
unfolding char_numbered is_hex
by_number c h =
    let high : digit_value (digit_char (c / 16)) ≡ c / 16 = digit_value-digit_char (c / 16) (omega (arith, div-add-mod c 16)) in
    let low : digit_value (digit_char (c % 16)) ≡ c % 16 = digit_value-digit_char (c % 16) (omega arith) in
    rw (high, low) (hexadecimal (c / 16) (c % 16) c (omega (arith, div-add-mod c 16)) (omega arith) (omega (arith, div-add-mod c 16)) h)

unshown_low : (c : ℕ) → is_unshown c ≡ true → c < 128
unshown_low c h = grind (arith, common_steps)

not_blank : (c : ℕ) → eqb c line_feed ≡ false → eqb c carriage_return ≡ false → eqb c space ≡ false → eqb c tab ≡ false → eqb c form_feed ≡ false → is_unshown c ≡ false → is_blank c ≡ false
unfolding is_blank
not_blank c n1 n2 n3 n4 n5 h = grind (arith, common_steps)

abbrev Character : ℕ → Type 0
Character c = IsScalar c → IsCharacter c (char_text c)

character : (c : ℕ) → Character c
unfolding char_text char_named is_blank
character c =
    choose c line_feed Character (λ s. inr (inl refl)) (λ n1.
    choose c carriage_return Character (λ s. inr (inl refl)) (λ n2.
    choose c space Character (λ s. inr (inl refl)) (λ n3.
    choose c tab Character (λ s. inr (inl refl)) (λ n4.
    choose c form_feed Character (λ s. inr (inl refl)) (λ n5.
    choose c backspace Character (λ s. inr (inl refl)) (λ n6.
    elim (is_unshown c) as (λ b. is_unshown c ≡ b → Character c) [
      | true ↦ λ e s. inr (inr (rw (n1, n2, n3, n4, n5, n6, e) (by_number c (unshown_low c e))))
      | false ↦ λ e s. inl (s, not_blank c n1 n2 n3 n4 n5 e, rw (n1, n2, n3, n4, n5, n6, e) refl)
    ] refl))))))

-- ---- white space before an element

space_is : is_space space ≡ true
unfolding is_space
space_is = refl

comma_is : is_space comma ≡ true
unfolding is_space
comma_is = refl

no_token_at : (c : ℕ) (s : List ℕ) → is_token_byte c ≡ false → BeginsNoToken (c ∷ s)
no_token_at c s h = h

space_no_token : is_token_byte space ≡ false
unfolding is_token_byte is_space
space_no_token = refl

comma_no_token : is_token_byte comma ≡ false
unfolding is_token_byte is_space
comma_no_token = refl

paren_no_token : is_token_byte close_paren ≡ false
unfolding is_token_byte is_space is_delimiter
paren_no_token = refl

bracket_no_token : is_token_byte close_bracket ≡ false
unfolding is_token_byte is_space is_delimiter
bracket_no_token = refl

brace_no_token : is_token_byte close_brace ≡ false
unfolding is_token_byte is_space is_delimiter
brace_no_token = refl

-- an element may stand behind one more white character
wider : (i : Inner) (c : ℕ) (x : Edn) (text rest : List ℕ) → is_space c ≡ true → (grammar_around i).next x text rest → (grammar_around i).next x (c ∷ text) rest
wider i c x text rest h p = (p.0, white c text refl h p.1, p.2)

wider_all : (i : Inner) (c : ℕ) (x : Edn) (xs : Items) (text rest : List ℕ) → is_space c ≡ true → SpellsElements (grammar_around i) (item x xs) text rest → SpellsElements (grammar_around i) (item x xs) (c ∷ text) rest
wider_all i c x xs text rest h p = (p.0, wider i c x text p.0 h p.1, p.2)

-- an element right here
here : (i : Inner) (x : Edn) (text rest : List ℕ) → SpellsFront i x text rest → (grammar_around i).next x text rest
here i x text rest f = (text, nothing refl, f)

-- ---- collections

pred : (d : ℕ) → suc d - 1 ≡ d
pred d = omega arith

mutual
  unfolding inside

  pub form_printed : (depth : ℕ) (x : Edn) (rest : List ℕ) → IsPrintable depth x → BeginsNoToken rest → SpellsFront (inside depth) x (print x ++ rest) rest
  form_printed depth nil rest h n = (codes "nil", refl, refl, n)
  form_printed depth (boolean true) rest h n = (codes "true", refl, refl, n)
  form_printed depth (boolean false) rest h n = (codes "false", refl, refl, n)
  form_printed depth (int z) rest h n = (signed_decimal z, integer z h, refl, n)
  form_printed depth (char c) rest h n = (char_text c, character c h, refl, n)
  form_printed depth (str t) rest h n = (flat_map escape t, body_of t, ap (λ (w : List ℕ). quote ∷ w) (append_assoc (flat_map escape t) (quote ∷ []) rest))
  form_printed depth (keyword s) rest h n = (58 ∷ s, (h, refl), refl, n)
  form_printed depth (symbol s) rest h n = (s, (h, refl), refl, n)
  form_printed zero (list xs) rest h n = absurd (omega (arith, h.0))
  form_printed (suc d) (list xs) rest h n = (
    joined_text (codes " ") (item_texts xs) ++ close_paren ∷ rest,
    ap (λ (w : List ℕ). open_paren ∷ w) (append_assoc (joined_text (codes " ") (item_texts xs)) (close_paren ∷ []) rest),
    elements_printed d xs (close_paren ∷ rest) (subst (λ k. ArePrintable k xs) (pred d) h.1) paren_no_token,
  )
  form_printed zero (vector xs) rest h n = absurd (omega (arith, h.0))
  form_printed (suc d) (vector xs) rest h n = (
    joined_text (codes " ") (item_texts xs) ++ close_bracket ∷ rest,
    ap (λ (w : List ℕ). open_bracket ∷ w) (append_assoc (joined_text (codes " ") (item_texts xs)) (close_bracket ∷ []) rest),
    elements_printed d xs (close_bracket ∷ rest) (subst (λ k. ArePrintable k xs) (pred d) h.1) bracket_no_token,
  )
  form_printed zero (mapping ms) rest h n = absurd (omega (arith, h.0))
  form_printed (suc d) (mapping ms) rest h n = (
    joined_text (codes ", ") (member_texts ms) ++ close_brace ∷ rest,
    ap (λ (w : List ℕ). open_brace ∷ w) (append_assoc (joined_text (codes ", ") (member_texts ms)) (close_brace ∷ []) rest),
    members_printed d ms (close_brace ∷ rest) (subst (λ k. ArePrintablePairs k ms) (pred d) h.1) brace_no_token,
    h.2,
  )
  form_printed zero (set xs) rest h n = absurd (omega (arith, h.0))
  form_printed (suc d) (set xs) rest h n = (
    joined_text (codes " ") (item_texts xs) ++ close_brace ∷ rest,
    ap (λ (w : List ℕ). hash ∷ open_brace ∷ w) (append_assoc (joined_text (codes " ") (item_texts xs)) (close_brace ∷ []) rest),
    elements_printed d xs (close_brace ∷ rest) (subst (λ k. ArePrintable k xs) (pred d) h.1) brace_no_token,
    h.2,
  )
  form_printed zero (tagged tag x) rest h n = absurd (omega (arith, h.0))
  form_printed (suc d) (tagged tag x) rest h n = (
    space ∷ (print x ++ rest),
    h.1,
    ap (λ (w : List ℕ). hash ∷ w) (append_assoc tag (space ∷ print x) rest),
    space_no_token,
    wider (inside d) space x (print x ++ rest) rest space_is (here (inside d) x (print x ++ rest) rest (form_printed d x rest (subst (λ k. IsPrintable k x) (pred d) h.2) n)),
  )

  elements_printed : (d : ℕ) (xs : Items) (tail : List ℕ) → ArePrintable d xs → BeginsNoToken tail → SpellsElements (grammar_around (inside d)) xs (joined_text (codes " ") (item_texts xs) ++ tail) tail
  elements_printed d no_items tail h n = nothing refl
  elements_printed d (item x no_items) tail h n = (tail, here (inside d) x (print x ++ tail) tail (form_printed d x tail h.0 n), nothing refl)
  elements_printed d (item x (item y ys)) tail h n =
      let more = joined_text (codes " ") (item_texts (item y ys)) ++ tail in
      let below = wider_all (inside d) space y ys more tail space_is (elements_printed d (item y ys) tail h.1 n) in
      let first = here (inside d) x (print x ++ (space ∷ more)) (space ∷ more) (form_printed d x (space ∷ more) h.0 space_no_token) in
      (space ∷ more, subst (λ text. (grammar_around (inside d)).next x text (space ∷ more)) (sym (append_assoc (print x) (space ∷ joined_text (codes " ") (item_texts (item y ys))) tail)) first, below)

  members_printed : (d : ℕ) (ms : Members) (tail : List ℕ) → ArePrintablePairs d ms → BeginsNoToken tail → SpellsElements (grammar_around (inside d)) (items_of_members ms) (joined_text (codes ", ") (member_texts ms) ++ tail) tail
  members_printed d no_members tail h n = nothing refl
  members_printed d (member k v no_members) tail h n =
      let second = here (inside d) v (print v ++ tail) tail (form_printed d v tail h.1 n) in
      let first = here (inside d) k (print k ++ (space ∷ (print v ++ tail))) (space ∷ (print v ++ tail)) (form_printed d k (space ∷ (print v ++ tail)) h.0 space_no_token) in (
        space ∷ (print v ++ tail),
        subst (λ text. (grammar_around (inside d)).next k text (space ∷ (print v ++ tail))) (sym (append_assoc (print k) (space ∷ print v) tail)) first,
        (tail, wider (inside d) space v (print v ++ tail) tail space_is second, nothing refl),
      )
  members_printed d (member k v (member l w ms)) tail h n =
      let more = joined_text (codes ", ") (member_texts (member l w ms)) ++ tail in
      let after = comma ∷ space ∷ more in
      let below = members_printed d (member l w ms) tail h.2 n in
      let spaced = wider_all (inside d) comma l (item w (items_of_members ms)) (space ∷ more) tail comma_is (wider_all (inside d) space l (item w (items_of_members ms)) more tail space_is below) in
      let second = here (inside d) v (print v ++ after) after (form_printed d v after h.1 comma_no_token) in
      let first = here (inside d) k (print k ++ (space ∷ (print v ++ after))) (space ∷ (print v ++ after)) (form_printed d k (space ∷ (print v ++ after)) h.0 space_no_token) in
      let joins : (((print k ++ (space ∷ print v)) ++ (comma ∷ space ∷ joined_text (codes ", ") (member_texts (member l w ms)))) ++ tail) ≡ print k ++ (space ∷ (print v ++ after)) =
      append_assoc (print k ++ (space ∷ print v)) (comma ∷ space ∷ joined_text (codes ", ") (member_texts (member l w ms))) tail ∙ append_assoc (print k) (space ∷ print v) after in (
        space ∷ (print v ++ after),
        subst (λ text. (grammar_around (inside d)).next k text (space ∷ (print v ++ after))) (sym joins) first,
        (after, wider (inside d) space v (print v ++ after) after space_is second, spaced),
      )

pub printed_spells : (x : Edn) → IsPrintable depth_limit x → SpellsAll (x ∷ []) (print x)
printed_spells x h =
    let form = subst (λ text. SpellsFront (inside depth_limit) x text []) (append-nil (print x)) (form_printed depth_limit x [] h tt) in
    ([], here (inside depth_limit) x (print x) [] form, nothing refl)
