-- Characters, as a loop over none of them reads one.
use Rattle.std.proofs.Common.{◌≡◌, ℕ, ◌+◌, ◌-◌, ◌<◌, ◌≤◌, ◌^◌, inl, inr, true, false, cond, List, [], ◌∷◌, ◌++◌, length, take, drop, get_or, Option, Some, None, refl, sym, ap, subst, ◌∙◌, arith}
use Rattle.std.specs.Prelude.{slice_get, chars, encode_utf8, not, SomeIff, MatchOption, ◌*◌, ◌≢◌}
use Rattle.std.specs.Char.{IsScalar, InScalarRange, OutOfScalarRange, digit_value}
use Rattle.std.specs.Str.{IsUtf8}
use Rattle.std.specs.List.{slice_range, prefix_len}
use Rattle.std.specs.Str.Parse.{digits_value}
use lib.Utf8.{scalar, scalars}
use Rattle.std.proofs.lemmas.List.Folds.{length-prefix_len}
use Rattle.std.proofs.lemmas.Str.{chars-encodes}
use Rattle.std.proofs.lemmas.Bool.{ltb-true}
use Rattle.std.proofs.lemmas.Grind.{common_steps}
use Rattle.jh_edn.specs.Spelling.{is_surrogate, char_numbered}
use Rattle.jh_edn.proofs.NumberLemmas.{and_both}
use Rattle.jh_edn.proofs.ReadTokenLemmas.{chosen}
use Rattle.std.proofs.lemmas.List.{drop_at}
use Rattle.jh_edn.specs.Bytes.{is_hex, is_token_byte}
use Rattle.jh_edn.specs.Reading.{token_of, atom_or_error, char_value, lone_char, char_spelled, char_of, character_at, character}
use Rattle.jh_edn.proofs.TokenReadsLemmas.{char_begins}
use Rattle.jh_edn.proofs.TextFrontLemmas.{take_past}

-- the character behind the backslash, and what stands behind it
pub gives : (s t after : List ℕ) (first : ℕ) (found : Option ℕ) → t ≡ drop 1 s → slice_get (chars t) 0 ≡ Some first → t ≡ encode_utf8 first ++ after → IsScalar first
    → found ≡ char_of first (token_of after) → character s ≡ atom_or_error (char_value found) s (drop (prefix_len is_token_byte after) after)
unfolding character
gives s t after first found is one parts scalar e =
    let front = encode_utf8 first in
    let behind : drop (length front) (front ++ after) ≡ after = drop_at front after (length front) refl in
    let there : character_at (Some first) s (front ++ after) ≡ atom_or_error (char_value found) s (drop (prefix_len is_token_byte after) after) = rw (char_begins first after scalar, behind, e) refl in
    ap (λ (w : List ℕ). character_at (slice_get (chars w) 0) s w) (sym is)
    ∙ ap (λ (o : Option ℕ). character_at o s t) one
    ∙ ap (character_at (Some first) s) parts
    ∙ there

pub char_alone : (c : ℕ) (after : List ℕ) → prefix_len is_token_byte after ≡ 0 → char_of c (token_of after) ≡ lone_char c
unfolding char_of
char_alone c after e = rw e refl

pub char_called : (c : ℕ) (token name : List ℕ) → 0 < length token → name ≡ encode_utf8 c ++ token → char_of c token ≡ char_spelled name
unfolding char_of
char_called c [] name lt e = absurd (omega arith)
char_called c (d ∷ token) name lt e = rw e refl

head_scalar : (cs : List ℕ) (c : ℕ) → scalars cs ≡ true → slice_get cs 0 ≡ Some c → IsScalar c
head_scalar [] c h e = absurd cc
head_scalar (d ∷ cs) c h e = let same : d ≡ c = cc in subst IsScalar same (and_both (scalar d) (scalars cs) h).0

token_some : (s : List ℕ) → prefix_len is_token_byte s ≢ 0 → 0 < length (token_of s)
token_some s h = omega (arith, length-prefix_len is_token_byte s, h)

-- the character and the token behind it, as a slice has them
pub by_name : (c : ℕ) (t after name : List ℕ) (m n : ℕ) (found : Option ℕ) → t ≡ encode_utf8 c ++ after → name ≡ slice_range t 0 (m + n) → m ≡ length (encode_utf8 c) → n ≡ prefix_len is_token_byte after → n ≢ 0
    → found ≡ char_spelled name → found ≡ char_of c (token_of after)
by_name c t after name m n found parts is e f some h =
    let front = encode_utf8 c in
    let k : m + n - 0 ≡ length front + prefix_len is_token_byte after = omega (arith, e, f) in
    let whole : name ≡ front ++ token_of after = is ∙ ap (λ (i : ℕ). take i t) k ∙ ap (take (length front + prefix_len is_token_byte after)) parts ∙ take_past front after (prefix_len is_token_byte after) in
    h ∙ sym (char_called c (token_of after) name (token_some after (λ z. some (f ∙ z))) whole)

-- the first character of a text is one
pub scalar_first : (t : List ℕ) (c : ℕ) → IsUtf8 t → slice_get (chars t) 0 ≡ Some c → IsScalar c
scalar_first t c u h =
    let are : chars t ≡ u.0 = ap chars (sym u.1.1) ∙ chars-encodes u.0 u.1.0 in
    head_scalar u.0 c u.1.0 (ap (λ (w : List ℕ). slice_get w 0) (sym are) ∙ h)

-- ---- u and four digits

abbrev hex_value : ℕ → Option ℕ
hex_value c = cond (is_hex c) (Some (digit_value c)) None

-- a digit, and what it is worth
record Hex (c v : ℕ) : Type 0 where
  pub is : is_hex c ≡ true
  pub value : digit_value c ≡ v
  pub below : v < 16

pub hex_below : (c : ℕ) → is_hex c ≡ true → digit_value c < 16
unfolding is_hex
hex_below c h = ltb-true (digit_value c) 16 h

hex_is : (c v : ℕ) → hex_value c ≡ Some v → Hex c v
hex_is c v h =
    elim (chosen (is_hex c) (Some (digit_value c)) None (Some v) h) [
      | inl p ↦ let same : digit_value c ≡ v = let e = p.1 in cc in record { is = p.0; value = same; below = subst (λ n. n < 16) same (hex_below c p.0) }
      | inr p ↦ absurd (let bad = p.1 in cc)
    ]

surrogate_is : (n : ℕ) → 0xD800 ≤ n → n ≤ 0xDFFF → is_surrogate n ≡ true
surrogate_is n a b = grind (arith, common_steps)

no_surrogate : (n : ℕ) → InScalarRange n → is_surrogate n ≡ false
no_surrogate n (inl e) = grind (arith, common_steps)
no_surrogate n (inr e) = grind (arith, common_steps)

surrogate_or : (n : ℕ) (r : Option ℕ) → n < 2 ^ 16 → SomeIff r (IsScalar n) n → MatchOption r (OutOfScalarRange n) (λ _. InScalarRange n) → r ≡ cond (not (is_surrogate n)) (Some n) None
surrogate_or n None small h (inl e) = rw (surrogate_is n e.0 e.1) refl
surrogate_or n None small h (inr e) = absurd (omega arith)
surrogate_or n (Some x) small h e = rw (no_surrogate n e) (ap (λ (w : ℕ). Some w) h.1)

pub numbered_is : (name : List ℕ) (code v₁ v₂ v₃ v₄ : ℕ) (r : Option ℕ) → length name ≡ 5 → get_or name 0 0 ≡ 117
    → hex_value (get_or name 1 0) ≡ Some v₁ → hex_value (get_or name 2 0) ≡ Some v₂ → hex_value (get_or name 3 0) ≡ Some v₃ → hex_value (get_or name 4 0) ≡ Some v₄
    → code ≡ 16 * (16 * (16 * v₁ + v₂) + v₃) + v₄ → SomeIff r (IsScalar code) code → MatchOption r (OutOfScalarRange code) (λ _. InScalarRange code) → r ≡ char_numbered name
unfolding char_numbered
numbered_is (u ∷ a ∷ b ∷ c ∷ d ∷ []) code v₁ v₂ v₃ v₄ r l first h₁ h₂ h₃ h₄ is some range =
    let x₁ = hex_is a v₁ h₁ in
    let x₂ = hex_is b v₂ h₂ in
    let x₃ = hex_is c v₃ h₃ in
    let x₄ = hex_is d v₄ h₄ in
    let small : code < 2 ^ 16 = omega (arith, x₁.below, x₂.below, x₃.below, x₄.below) in
    let same : digits_value 16 (a ∷ b ∷ c ∷ d ∷ []) ≡ code = omega (arith, x₁.value, x₂.value, x₃.value, x₄.value) in
    rw (first, x₁.is, x₂.is, x₃.is, x₄.is, same) (surrogate_or code r small some range)
numbered_is [] code v₁ v₂ v₃ v₄ r l first h₁ h₂ h₃ h₄ is some range = absurd (omega arith)
numbered_is (u ∷ []) code v₁ v₂ v₃ v₄ r l first h₁ h₂ h₃ h₄ is some range = absurd (omega arith)
numbered_is (u ∷ a ∷ []) code v₁ v₂ v₃ v₄ r l first h₁ h₂ h₃ h₄ is some range = absurd (omega arith)
numbered_is (u ∷ a ∷ b ∷ []) code v₁ v₂ v₃ v₄ r l first h₁ h₂ h₃ h₄ is some range = absurd (omega arith)
numbered_is (u ∷ a ∷ b ∷ c ∷ []) code v₁ v₂ v₃ v₄ r l first h₁ h₂ h₃ h₄ is some range = absurd (omega arith)
numbered_is (u ∷ a ∷ b ∷ c ∷ d ∷ e ∷ s) code v₁ v₂ v₃ v₄ r l first h₁ h₂ h₃ h₄ is some range = absurd (omega arith)
