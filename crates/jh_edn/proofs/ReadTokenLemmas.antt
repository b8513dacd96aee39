-- A token, a character or a set that is read is spelled so.
use Rattle.std.proofs.Common.{◌≡◌, ℕ, ◌+◌, ◌^◌, ◌<◌, ◌⊎◌, inl, inr, Bool, true, false, cond, eqb, ltb, List, [], ◌∷◌, ◌++◌, length, take, drop, get_or, Option, Some, None, Result, Ok, Err, refl, sym, ap, subst, ◌∙◌, arith}
use Rattle.std.specs.Prelude.{◌&&◌, encode_utf8, ℤ, FitsSigned, option_map}
use Rattle.std.specs.Int.{w64}
use Rattle.std.specs.Char.{IsScalar}
use lib.Utf8.{scalar}
use Rattle.std.specs.Str.{bytes_eq}
use Rattle.std.specs.Str.Parse.{signed_digits_value, without_leading_sign}
use Rattle.std.specs.List.{prefix_len}
use Rattle.std.proofs.lemmas.Grind.{common_steps}
use Rattle.std.proofs.lemmas.Slice.Eq.{bytes_eq-Decides}
use Rattle.std.proofs.lemmas.Bool.{eqb-true}
use Rattle.std.proofs.lemmas.List.{take-append-drop, append-nil}
use Rattle.jh_edn.specs.declared.syntax_error.SyntaxError.{SyntaxError}
use Rattle.jh_edn.specs.declared.syntax_error.SyntaxErrorKind.{SyntaxErrorKind}
use Rattle.jh_edn.specs.declared.syntax_error.SyntaxErrorKind.TheVariants.{UnexpectedEnd, BadToken, FloatUnsupported, IntegerRange, DuplicateKey}
use Rattle.jh_edn.specs.Edn.{Edn, int, char, mapping, set, no_items, item, items_of, members_of}
use Rattle.jh_edn.specs.Bytes.{is_blank, quote, backslash, capital_n, digit_zero, is_token_byte, is_plain, escaped_byte}
use Rattle.jh_edn.specs.Spelling.{HasNoLeadingZero, IsInteger, IsBody, char_named, char_numbered, IsCharacter, BeginsNoToken, items_of_members}
use Rattle.jh_edn.specs.Equality.{Differ, KeysDiffer}
use Rattle.jh_edn.specs.Reading.{◌>>=◌, syntax_error, read_with_front, read_after_escape, body, sign_len, digits_end, begins_number, begins_fraction, is_suffix, magnitude, integer_spelled, number_of, int_value, lone_char, either_char, char_spelled, char_of, char_value, begins_char, set_or_error, repeats_element, atom_or_error, pairs_of, repeats_key, map_or_error}
use Rattle.jh_edn.proofs.NumberLemmas.{numeral_cut, unsigned_is, fits_from, and_both}
use Rattle.jh_edn.proofs.KeyLemmas.{keys_differ, elements_differ}
use Rattle.jh_edn.proofs.PrefixLemmas.{prefix_len-cases}

pub chosen : {A : Type 0} (b : Bool) (x y z : A) → cond b x y ≡ z → ((b ≡ true) × (x ≡ z)) ⊎ ((b ≡ false) × (y ≡ z))
chosen true x y z e = inl (refl, e)
chosen false x y z e = inr (refl, e)

abbrev pub done : {A : Type 0} → A → Result A SyntaxError
done x = Ok x

pub ok_is : {A : Type 0} (x y : A) → done x ≡ done y → x ≡ y
ok_is x y e = cc

pub bind_ok : {A B : Type 0} (r : Result A SyntaxError) (f : A → Result B SyntaxError) (y : B) → (r >>= f) ≡ Ok y → (x : A) × (r ≡ Ok x) × (f x ≡ Ok y)
bind_ok (Ok x) f y e = (x, refl, e)
bind_ok (Err d) f y e = absurd cc

pub err_not : {A : Type 0} (f : SyntaxError) (y : A) → Err f ≡ done y → ⊥
err_not f y e = cc

-- what came behind a front
pub front_ok : {A : Type 0} (front : List A) (read : Result (List A × List ℕ) SyntaxError) (t : List A) (r : List ℕ) → read_with_front front read ≡ Ok (t, r) → (u : List A) × (read ≡ Ok (u, r)) × (t ≡ front ++ u)
front_ok {A} front (Ok x) t r e =
    let p = ok_is (front ++ x.0, x.1) (t, r) e in
    (x.0, ap (λ (w : List ℕ). Ok (x.0, w)) (ap (λ (q : List A × List ℕ). q.1) p), sym (ap (λ (q : List A × List ℕ). q.0) p))
front_ok front (Err f) t r e = absurd cc

option_ok : {A B : Type 0} (f : A → B) (o : Option A) (y : B) → option_map f o ≡ Some y → (x : A) × (o ≡ Some x) × (f x ≡ y)
option_ok f (Some x) y e = (x, refl, cc)
option_ok f None y e = absurd cc

plain_is : (c : ℕ) → eqb c quote ≡ false → eqb c backslash ≡ false → is_plain c ≡ true
unfolding is_plain
plain_is c e f = rw (e, f) refl

abbrev Body : List ℕ → List ℕ → List ℕ → Type 0
Body s t r = (b : List ℕ) × IsBody t b × (s ≡ b ++ quote ∷ r)

escape_sound : (c d : ℕ) (s t r : List ℕ) (o : Option ℕ) → escaped_byte d ≡ o → c ≡ backslash → ((t' r' : List ℕ) → body s ≡ Ok (t', r') → Body s t' r') → read_after_escape o (c ∷ d ∷ s) (body s) ≡ Ok (t, r) → Body (c ∷ d ∷ s) t r
escape_sound c d s t r (Some x) esc is below e =
    let p = front_ok (x ∷ []) (body s) t r e in
    let q = below p.0 r p.1 in
    subst (λ (w : List ℕ). Body (c ∷ d ∷ s) w r) (sym p.2)
    (backslash ∷ d ∷ q.0, (q.0, q.1, inr (d, esc, refl)), rw is (ap (λ (w : List ℕ). backslash ∷ d ∷ w) q.2))
escape_sound c d s t r None esc is below e = absurd cc

pub body_sound : (s t r : List ℕ) → body s ≡ Ok (t, r) → Body s t r
unfolding body
body_sound [] t r e = absurd cc
body_sound (c ∷ []) t r e =
    elim (chosen (eqb c quote) (done ([], [])) (syntax_error UnexpectedEnd []) (Ok (t, r)) e) [
      | inl p ↦
          let q = ok_is ([], []) (t, r) p.1 in
          subst (λ (w : List ℕ × List ℕ). Body (c ∷ []) w.0 w.1) q ([], refl, ap (λ (n : ℕ). n ∷ []) (eqb-true _ _ p.0))
      | inr p ↦ absurd (err_not _ _ p.1)
    ]
body_sound (c ∷ d ∷ s) t r e =
    elim (chosen (eqb c quote) (done ([], d ∷ s)) (cond (eqb c backslash) (read_after_escape (escaped_byte d) (c ∷ d ∷ s) (body s)) (read_with_front (c ∷ []) (body (d ∷ s)))) (Ok (t, r)) e) [
      | inl p ↦
          let q = ok_is ([], d ∷ s) (t, r) p.1 in
          subst (λ (w : List ℕ × List ℕ). Body (c ∷ d ∷ s) w.0 w.1) q ([], refl, ap (λ (n : ℕ). n ∷ d ∷ s) (eqb-true _ _ p.0))
      | inr p ↦
          elim (chosen (eqb c backslash) (read_after_escape (escaped_byte d) (c ∷ d ∷ s) (body s)) (read_with_front (c ∷ []) (body (d ∷ s))) (Ok (t, r)) p.1) [
            | inl q ↦ escape_sound c d s t r (escaped_byte d) refl (eqb-true _ _ q.0) (λ t' r' h. body_sound s t' r' h) q.1
            | inr q ↦
                let f = front_ok (c ∷ []) (body (d ∷ s)) t r q.1 in
                let g = body_sound (d ∷ s) f.0 r f.1 in
                subst (λ (w : List ℕ). Body (c ∷ d ∷ s) w r) (sym f.2)
                (c ∷ g.0, (g.0, g.1, inl (plain_is c p.0 q.0, refl)), ap (λ (w : List ℕ). c ∷ w) g.2)
          ]
    ]

-- ---- integers and keywords

no_zero : (n a : ℕ) → 0 < n → (ltb 1 n && eqb a digit_zero) ≡ false → a ≡ digit_zero → n ≡ 1
no_zero n a some h e = grind (arith, common_steps)

pub record Number (core : List ℕ) (z : ℤ) : Type 0 where
  pub plain : HasNoLeadingZero (without_leading_sign core)
  pub fits : FitsSigned w64 (signed_digits_value 10 core)
  pub value : z ≡ signed_digits_value 10 core

integer_sound : (core : List ℕ) (z : ℤ) → 0 < length (without_leading_sign core) → integer_spelled core ≡ Ok z → Number core z
unfolding integer_spelled
integer_sound core z some e =
    let ds = drop (sign_len core) core in
    let v = signed_digits_value 10 core in
    let last : Result ℤ SyntaxErrorKind = cond (ltb (magnitude v) (2 ^ 63)) (Ok v) (Err IntegerRange) in
    elim (chosen (ltb 1 (length ds) && eqb (get_or ds 0 0) digit_zero) (Err BadToken) last (Ok z) e) [
      | inl p ↦ absurd (let bad = p.1 in cc)
      | inr p ↦
          elim (chosen (ltb (magnitude v) (2 ^ 63)) (Ok v) (Err IntegerRange) (Ok z) p.1) [
            | inl q ↦
                let plain : HasNoLeadingZero ds = no_zero (length ds) (get_or ds 0 0) (rw (unsigned_is core) some) p.0 in
                record { plain = subst HasNoLeadingZero (unsigned_is core) plain; fits = fits_from v q.0; value = let same = q.1 in cc }
            | inr q ↦ absurd (let bad = q.1 in cc)
          ]
    ]

suffix_sound : (rest : List ℕ) → is_suffix rest ≡ true → (rest ≡ []) ⊎ (rest ≡ capital_n ∷ [])
suffix_sound [] e = inl refl
suffix_sound (c ∷ []) e = inr (ap (λ (n : ℕ). n ∷ []) (eqb-true c capital_n e))
suffix_sound (c ∷ d ∷ s) e = absurd cc

suffix_is : (n : ℕ) (token : List ℕ) → is_suffix (drop n token) ≡ true → (token ≡ take n token) ⊎ (token ≡ take n token ++ capital_n ∷ [])
suffix_is n token e =
    let whole : (rest : List ℕ) → drop n token ≡ rest → token ≡ take n token ++ rest = λ rest k. sym (take-append-drop n token) ∙ ap (λ (w : List ℕ). take n token ++ w) k in
    elim (suffix_sound (drop n token) e) [
      | inl k ↦ inl (whole [] k ∙ append-nil (take n token))
      | inr k ↦ inr (whole (capital_n ∷ []) k)
    ]

pub number_sound : (token : List ℕ) (z : ℤ) → begins_number token ≡ true → number_of token ≡ Ok z → IsInteger token z
unfolding number_of
number_sound token z begins e =
    let core = take (digits_end token) token in
    let rest = drop (digits_end token) token in
    let second : Result ℤ SyntaxErrorKind = cond (is_suffix rest) (integer_spelled core) (Err BadToken) in
    elim (chosen (begins_fraction rest) (Err FloatUnsupported) second (Ok z) e) [
      | inl p ↦ absurd (let bad = p.1 in cc)
      | inr p ↦
          elim (chosen (is_suffix rest) (integer_spelled core) (Err BadToken) (Ok z) p.1) [
            | inl q ↦
                let numeral = numeral_cut token begins in
                let n = integer_sound core z numeral.0 q.1 in
                record { core = core; suffix = suffix_is (digits_end token) token q.0; digits = numeral; plain = n.plain; fits = n.fits; value = n.value }
            | inr q ↦ absurd (let bad = q.1 in cc)
          ]
    ]

pub as_int_ok : (a : Result ℤ SyntaxErrorKind) (x : Edn) → int_value a ≡ Ok x → (z : ℤ) × (a ≡ Ok z) × (int z ≡ x)
as_int_ok (Ok z) x e = (z, refl, cc)
as_int_ok (Err k) x e = absurd cc

pub placed_ok : (a : Result Edn SyntaxErrorKind) (s after : List ℕ) (x : Edn) (r : List ℕ) → atom_or_error a s after ≡ Ok (x, r) → (a ≡ Ok x) × (after ≡ r)
placed_ok (Ok y) s after x r e = let p = ok_is (y, after) (x, r) e in (ap (λ (q : Edn × List ℕ). Ok q.0) p, ap (λ (q : Edn × List ℕ). q.1) p)
placed_ok (Err k) s after x r e = absurd cc

pub begins_with : (c : ℕ) (s : List ℕ) → 0 < c → get_or s 0 0 ≡ c → s ≡ c ∷ drop 1 s
begins_with c [] some e = absurd (omega arith)
begins_with c (a ∷ s) some e = ap (λ (n : ℕ). n ∷ s) e

pub token_ends : (s : List ℕ) → BeginsNoToken (drop (prefix_len is_token_byte s) s)
token_ends [] = tt
token_ends (c ∷ s) = prefix_len-cases is_token_byte (λ n. BeginsNoToken (drop n (c ∷ s))) c s (λ e. token_ends s) (λ e. e)

pub pairs_items : (xs : List Edn) (ms : List (Edn × Edn)) → pairs_of xs ≡ Some ms → items_of xs ≡ items_of_members (members_of ms)
pairs_items [] ms e = let same : [] ≡ ms = cc in subst (λ w. no_items ≡ items_of_members (members_of w)) same refl
pairs_items (k ∷ []) ms e = absurd cc
pairs_items (k ∷ v ∷ xs) ms e =
    let p = option_ok (λ (w : List (Edn × Edn)). (k, v) ∷ w) (pairs_of xs) ms e in
    subst (λ w. item k (item v (items_of xs)) ≡ items_of_members (members_of w)) p.2 (ap (λ w. item k (item v w)) (pairs_items xs p.0 p.1))

pub record Pairs (o : Option (List (Edn × Edn))) (after : List ℕ) (x : Edn) (r : List ℕ) : Type 0 where
  pub pairs : List (Edn × Edn)
  pub found : o ≡ Some pairs
  pub differ : KeysDiffer (members_of pairs)
  pub value : mapping (members_of pairs) ≡ x
  pub rest : after ≡ r

pub paired_ok : (o : Option (List (Edn × Edn))) (after : List ℕ) (x : Edn) (r : List ℕ) → map_or_error o after ≡ Ok (x, r) → Pairs o after x r
paired_ok None after x r e = absurd cc
paired_ok (Some ms) after x r e =
    let twice : Result (Edn × List ℕ) SyntaxError = Err (record { kind = DuplicateKey; left = length after + 1 }) in
    elim (chosen (repeats_key ms) twice (Ok (mapping (members_of ms), after)) (Ok (x, r)) e) [
      | inl p ↦ absurd (err_not _ _ p.1)
      | inr p ↦
          let q = ok_is (mapping (members_of ms), after) (x, r) p.1 in
          record { pairs = ms; found = refl; differ = keys_differ ms p.0; value = ap (λ (w : Edn × List ℕ). w.0) q; rest = ap (λ (w : Edn × List ℕ). w.1) q }
    ]

pub same_bytes : (a b : List ℕ) → bytes_eq a b ≡ true → a ≡ b
same_bytes a b h = (bytes_eq-Decides a b).0 h

-- the text is the character and what stands behind its bytes
pub begins_with_char : (c : ℕ) (t : List ℕ) → begins_char c t ≡ true → t ≡ encode_utf8 c ++ drop (length (encode_utf8 c)) t
begins_with_char c t h =
    let front = encode_utf8 c in
    let both = and_both (scalar c) (bytes_eq (take (length front) t) front) h in
    sym (take-append-drop (length front) t) ∙ ap (λ (w : List ℕ). w ++ drop (length front) t) (same_bytes (take (length front) t) front both.1)

pub is_scalar : (c : ℕ) (t : List ℕ) → begins_char c t ≡ true → IsScalar c
is_scalar c t h = (and_both (scalar c) (bytes_eq (take (length (encode_utf8 c)) t) (encode_utf8 c)) h).0

pub as_char_ok : (o : Option ℕ) (x : Edn) → char_value o ≡ Ok x → (c : ℕ) × (o ≡ Some c) × (char c ≡ x)
as_char_ok (Some c) x e = (c, refl, cc)
as_char_ok None x e = absurd cc

alone_sound : (c d : ℕ) → IsScalar c → lone_char c ≡ Some d → IsCharacter d (encode_utf8 c)
unfolding lone_char
alone_sound c d scalar e =
    elim (chosen (is_blank c) None (Some c) (Some d) e) [
      | inl p ↦ absurd (let bad = p.1 in cc)
      | inr p ↦ let same : c ≡ d = let h = p.1 in cc in inl (subst IsScalar same scalar, subst (λ n. is_blank n ≡ false) same p.0, ap encode_utf8 same)
    ]

either_char-sound : (name : List ℕ) (d : ℕ) (a b : Option ℕ) → char_named name ≡ a → char_numbered name ≡ b → either_char a b ≡ Some d → IsCharacter d name
either_char-sound name d (Some c) b e f h = inr (inl (e ∙ h))
either_char-sound name d None b e f h = inr (inr (f ∙ h))

called_sound : (name : List ℕ) (d : ℕ) → char_spelled name ≡ Some d → IsCharacter d name
unfolding char_spelled
called_sound name d e = either_char-sound name d (char_named name) (char_numbered name) refl refl e

-- what stands behind the backslash is the character
pub char_of-sound : (c : ℕ) (token : List ℕ) (d : ℕ) → IsScalar c → char_of c token ≡ Some d → IsCharacter d (encode_utf8 c ++ token)
unfolding char_of
char_of-sound c [] d scalar e = subst (IsCharacter d) (sym (append-nil (encode_utf8 c))) (alone_sound c d scalar e)
char_of-sound c (b ∷ token) d scalar e = called_sound (encode_utf8 c ++ b ∷ token) d e

-- a set whose elements differ, and what follows it
pub record Unique (xs : List Edn) (after : List ℕ) (x : Edn) (r : List ℕ) : Type 0 where
  pub differ : Differ (items_of xs)
  pub value : set (items_of xs) ≡ x
  pub rest : after ≡ r

pub unique_ok : (xs : List Edn) (after : List ℕ) (x : Edn) (r : List ℕ) → set_or_error xs after ≡ Ok (x, r) → Unique xs after x r
unique_ok xs after x r e =
    let twice : Result (Edn × List ℕ) SyntaxError = Err (record { kind = DuplicateKey; left = length after + 1 }) in
    elim (chosen (repeats_element xs) twice (Ok (set (items_of xs), after)) (Ok (x, r)) e) [
      | inl p ↦ absurd (err_not _ _ p.1)
      | inr p ↦
          let q = ok_is (set (items_of xs), after) (x, r) p.1 in
          record { differ = elements_differ xs p.0; value = ap (λ (w : Edn × List ℕ). w.0) q; rest = ap (λ (w : Edn × List ℕ). w.1) q }
    ]
