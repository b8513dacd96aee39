-- Where the front of a text may be cut.
use Rattle.std.proofs.Common.{◌≡◌, ℕ, suc, zero, ◌+◌, ◌-◌, ◌<◌, ◌≤◌, inl, inr, Bool, true, false, List, [], ◌∷◌, length, take, drop, get_or, refl, Some, None, arith}
use Rattle.std.specs.Prelude.{◌≢◌}
use Rattle.std.specs.List.{prefix_len}
use Rattle.std.specs.Str.{IsCharBoundary, IsUtf8}
use Rattle.std.proofs.lemmas.Str.{IsCharBoundary-before_ascii, IsCharBoundary-after_ascii, IsCharBoundary-start, IsCharBoundary-end}
use Rattle.std.proofs.lemmas.List.Sums.{prefix_len_passes, prefix_len_stops, prefix_len-le-length}
use Rattle.std.proofs.lemmas.List.{length-drop, get_or-drop, take_all}
use Rattle.std.proofs.Math.Nat.{eq-or-lt_of_le}
use Rattle.std.proofs.lemmas.Grind.{common_steps}
use Rattle.jh_edn.specs.Bytes.{is_token_byte, is_space, is_delimiter}
use Rattle.jh_lexemes.specs.Lexemes.{is_in_line, bracket_of, bracket_or, other_front, lexeme_of}
use Rattle.jh_lexemes.specs.declared.lexeme.Lexeme.{Lexeme}

token_ascii : (c : ℕ) → is_token_byte c ≡ false → c < 128
unfolding is_token_byte is_space is_delimiter
token_ascii c h = grind (arith, common_steps)

-- behind a run of token bytes that begins at a place
pub behind_run : (s : List ℕ) (at n : ℕ) → at ≤ length s → n ≡ prefix_len is_token_byte (drop at s) → IsCharBoundary s (at + n)
behind_run s at n l e =
    let t = drop at s in
    let most : n ≤ length t = rw e (prefix_len-le-length is_token_byte t) in
    let len : length t ≡ length s - at = length-drop at s in
    elim (eq-or-lt_of_le {n = at + n} {m = length s} (omega arith)) [
      | inr lt ↦
          let stop : is_token_byte (get_or t n 0) ≡ false = rw e (prefix_len_stops is_token_byte t 0 (omega arith)) in
          IsCharBoundary-before_ascii s (at + n) lt (token_ascii (get_or s (at + n) 0) (rw (← get_or-drop at s n 0) stop))
      | inl is ↦ rw is (IsCharBoundary-end s)
    ]

-- behind the rest of a line
line_ascii : (c : ℕ) → is_in_line c ≡ false → c < 128
line_ascii c h = grind (arith, common_steps)

pub behind_line : (s : List ℕ) (n : ℕ) → n ≡ prefix_len is_in_line s → IsCharBoundary s n
behind_line s n e =
    let most : n ≤ length s = rw e (prefix_len-le-length is_in_line s) in
    elim (eq-or-lt_of_le most) [
      | inr lt ↦
          let stop : is_in_line (get_or s n 0) ≡ false = rw e (prefix_len_stops is_in_line s 0 (omega arith)) in
          IsCharBoundary-before_ascii s n lt (line_ascii (get_or s n 0) stop)
      | inl is ↦ rw is (IsCharBoundary-end s)
    ]

space_ascii : (c : ℕ) → is_space c ≡ true → c < 128
unfolding is_space
space_ascii c h = grind (arith, common_steps)

-- behind white space
pub behind_spaces : (s : List ℕ) (n : ℕ) → IsUtf8 s → n ≡ prefix_len is_space s → IsCharBoundary s n
behind_spaces s zero u e = IsCharBoundary-start s u
behind_spaces s (suc n) u e =
    let most : suc n ≤ length s = rw e (prefix_len-le-length is_space s) in
    let last : is_space (get_or s n 0) ≡ true = prefix_len_passes is_space s n 0 (omega arith) in
    let here : n + 1 ≡ suc n = omega arith in
    rw (← here) (IsCharBoundary-after_ascii s n u (omega arith) (space_ascii (get_or s n 0) last))

-- behind a second byte that is ASCII
pub behind_two : (s : List ℕ) → IsUtf8 s → 1 < length s → get_or s 1 0 < 128 → IsCharBoundary s 2
behind_two s u l h = IsCharBoundary-after_ascii s 1 u l h

-- a byte that is not 0 is there
pub within : (s : List ℕ) (i : ℕ) → 0 < get_or s i 0 → i < length s
within [] i h = absurd (omega arith)
within (c ∷ s) zero h = omega arith
within (c ∷ s) (suc i) h = omega (arith, within s i h)

pub behind_token : (s : List ℕ) (n : ℕ) → n ≡ prefix_len is_token_byte s → IsCharBoundary s n
behind_token s n e = let here : 0 + n ≡ n = omega arith in rw (← here) (behind_run s 0 n (omega arith) e)

-- behind an ASCII first byte
pub behind_first : (s : List ℕ) → IsUtf8 s → 0 < length s → get_or s 0 0 < 128 → IsCharBoundary s 1
behind_first s u l h = IsCharBoundary-after_ascii s 0 u l h

-- one passes where the first does
some_passes : (p : ℕ → Bool) (s : List ℕ) (n : ℕ) → 0 < length s → p (get_or s 0 0) ≡ true → n ≡ prefix_len p s → 0 < n
some_passes p [] n l h e = absurd (omega arith)
some_passes p (c ∷ s) n l h e =
    let here : prefix_len p (c ∷ s) ≡ 1 + prefix_len p s = rw h refl in
    omega (arith, here)

pub some_line : (s : List ℕ) (n : ℕ) → 0 < length s → get_or s 0 0 ≡ 59 → n ≡ prefix_len is_in_line s → 0 < n
some_line s n l h e = some_passes is_in_line s n l (rw h refl) e

pub some_space : (s : List ℕ) (n : ℕ) → 0 < length s → is_space (get_or s 0 0) ≡ true → n ≡ prefix_len is_space s → 0 < n
some_space s n l h e = some_passes is_space s n l h e

token_first : (c : ℕ) → bracket_of c ≡ None → c ≢ 34 → c ≢ 59 → c ≢ 92 → is_space c ≡ false → is_token_byte c ≡ true
unfolding bracket_of is_token_byte is_delimiter
token_first c h q r t e = grind (arith, common_steps)

-- a byte that nothing else begins with is a byte of a token
pub some_token : (s : List ℕ) (n : ℕ) → 0 < length s → bracket_of (get_or s 0 0) ≡ None → get_or s 0 0 ≢ 34 → get_or s 0 0 ≢ 59 → get_or s 0 0 ≢ 92 → is_space (get_or s 0 0) ≡ false → n ≡ prefix_len is_token_byte s → 0 < n
some_token s n l h q r t e is = some_passes is_token_byte s n l (token_first (get_or s 0 0) h q r t e) is

-- a bracket is ASCII
pub bracket_ascii : (c : ℕ) (k : Lexeme) → bracket_of c ≡ Some k → c < 128
unfolding bracket_of
bracket_ascii c k h = grind (arith, common_steps)

pub behind_bracket : (s : List ℕ) (k : Lexeme) → IsUtf8 s → 0 < length s → bracket_of (get_or s 0 0) ≡ Some k → IsCharBoundary s 1
behind_bracket s k u l h = behind_first s u l (bracket_ascii (get_or s 0 0) k h)

pub lexeme-first : (s : List ℕ) → 0 < length s → lexeme_of s ≡ Some (bracket_or (bracket_of (get_or s 0 0)) (other_front (get_or s 0 0) s))
lexeme-first [] l = absurd (omega arith)
lexeme-first (c ∷ s) l = refl

-- what stands behind so many bytes, as a slice
pub slice_is : (n : ℕ) (s : List ℕ) → take (length s - n) (drop n s) ≡ drop n s
slice_is n s = let len = length-drop n s in take_all (length s - n) (drop n s) (omega arith)
