-- The lexemes of a text, put together.
use Rattle.std.proofs.Common.{◌≡◌, ℕ, zero, suc, ◌+◌, ◌<◌, ◌≤◌, Bool, true, false, cond, eqb, List, [], ◌∷◌, ◌++◌, length, take, drop, Option, Some, None, refl, ap, ◌∙◌, arith}
use Rattle.std.specs.Prelude.{◌≢◌, ◌&&◌, ◌==◌, slice_index, if◌then◌else◌}
use Rattle.std.specs.List.{flat_map, prefix_len}
use Rattle.std.proofs.lemmas.List.{take-append-drop, length-drop}
use Rattle.std.proofs.lemmas.Grind.{common_steps}
use Rattle.jh_edn.specs.Bytes.{is_space, is_token_byte, quote, backslash, semicolon, hash, underscore, open_brace}
use Rattle.jh_lexemes.specs.declared.lexeme.Lexeme.{Lexeme}
use Rattle.jh_lexemes.specs.declared.lexeme.Lexeme.TheVariants as kinds
use Rattle.jh_lexemes.specs.Lexemes.{closed_string, is_escape, is_in_line, quoted, string_front, character_len, hash_token, hash_front, bracket_of, other_front, bracket_or, lexemes_on, lexemes_from, lexemes_in}
use Rattle.jh_lexemes.proofs.FrontLemmas.{some_line, some_space, some_token}

-- one or the other has some bytes
either_some : (b : Bool) (x y : Lexeme × ℕ) → (b ≡ true → 0 < x.1) → (b ≡ false → 0 < y.1) → 0 < (cond b x y).1
either_some true x y h k = h refl
either_some false x y h k = k refl

quoted_len : (good escaped : Bool) (n : ℕ) (s : List ℕ) → 0 < n → 0 < (quoted good escaped n s).1
quoted_len good true n [] l = l
quoted_len good false n [] l = l
quoted_len good true n (c ∷ s) l = quoted_len (good && is_escape c) false (n + 1) s (omega arith)
quoted_len good false n (c ∷ s) l =
    either_some (c == quote) (closed_string good, n + 1) (quoted good (c == backslash) (n + 1) s) (λ e. omega arith) (λ e. quoted_len good (c == backslash) (n + 1) s (omega arith))

string_some : (s : List ℕ) → 0 < (string_front s).1
unfolding string_front
string_some s = quoted_len true false 1 (drop 1 s) (omega arith)

character_some : (s : List ℕ) → 0 < character_len s
unfolding character_len
character_some s = omega arith

hash_some : (s : List ℕ) → 0 < (hash_front s).1
unfolding hash_front
hash_some s =
    let token : Lexeme × ℕ = (hash_token (take (prefix_len is_token_byte (drop 1 s)) (drop 1 s)), 1 + prefix_len is_token_byte (drop 1 s)) in
    let some : 0 < 1 + prefix_len is_token_byte (drop 1 s) = omega arith in
    let two : 0 < 2 = omega arith in
    either_some (slice_index s 1 == underscore) (kinds.Discard, 2) (if slice_index s 1 == open_brace then (kinds.OpenSet, 2) else token) (λ e. two)
    (λ e. either_some (slice_index s 1 == open_brace) (kinds.OpenSet, 2) token (λ f. two) (λ f. some))

is_byte : (c d : ℕ) → eqb c d ≡ true → c ≡ d
is_byte c d h = grind (arith, common_steps)

is_other : (c d : ℕ) → eqb c d ≡ false → c ≢ d
is_other c d h = grind (arith, common_steps)

module _ (c : ℕ) (s : List ℕ) (none : bracket_of c ≡ None) where
  abbrev token_or_white : Lexeme × ℕ
  token_or_white =
      if is_space c then (kinds.White, prefix_len is_space (c ∷ s)) else (kinds.Token, prefix_len is_token_byte (c ∷ s))

  abbrev or_hash : Lexeme × ℕ
  or_hash = if c == hash then hash_front (c ∷ s) else token_or_white

  abbrev or_character : Lexeme × ℕ
  or_character = if c == backslash then (kinds.Character, character_len (c ∷ s)) else or_hash

  abbrev or_comment : Lexeme × ℕ
  or_comment = if c == semicolon then (kinds.Comment, prefix_len is_in_line (c ∷ s)) else or_character

  some : 0 < length (c ∷ s)
  some = omega arith

  other_some : 0 < (other_front c (c ∷ s)).1
  unfolding other_front
  other_some =
      either_some (c == quote) (string_front (c ∷ s)) or_comment (λ e. string_some (c ∷ s))
      (λ no_quote. either_some (c == semicolon) (kinds.Comment, prefix_len is_in_line (c ∷ s)) or_character (λ e. some_line (c ∷ s) (prefix_len is_in_line (c ∷ s)) some (is_byte c semicolon e) refl)
      (λ no_semicolon. either_some (c == backslash) (kinds.Character, character_len (c ∷ s)) or_hash (λ e. character_some (c ∷ s))
      (λ no_backslash. either_some (c == hash) (hash_front (c ∷ s)) token_or_white (λ e. hash_some (c ∷ s))
      (λ no_hash. either_some (is_space c) (kinds.White, prefix_len is_space (c ∷ s)) (kinds.Token, prefix_len is_token_byte (c ∷ s)) (λ e. some_space (c ∷ s) (prefix_len is_space (c ∷ s)) some e refl)
      (λ no_space. some_token (c ∷ s) (prefix_len is_token_byte (c ∷ s)) some none (is_other c quote no_quote) (is_other c semicolon no_semicolon) (is_other c backslash no_backslash) no_space refl)))))

front_some : (o : Option Lexeme) (c : ℕ) (s : List ℕ) → bracket_of c ≡ o → 0 < (bracket_or o (other_front c (c ∷ s))).1
front_some (Some bracket) c s e = omega arith
front_some None c s e = other_some c s e

abbrev Joined : ℕ → Type 0
Joined n = (at : ℕ) (s : List ℕ) → length s ≤ n → flat_map (λ l. l.spelled) (lexemes_from n at s) ≡ s

joined_on : (n : ℕ) → Joined n → (at : ℕ) (s : List ℕ) (l : Lexeme × ℕ) → 0 < l.1 → length s ≤ suc n → flat_map (λ l. l.spelled) (lexemes_on (lexemes_from n) at s (Some l)) ≡ s
joined_on n more at s l some most =
    let len = length-drop l.1 s in
    ap (λ (t : List ℕ). take l.1 s ++ t) (more (at + l.1) (drop l.1 s) (omega arith)) ∙ take-append-drop l.1 s

joined : (n : ℕ) → Joined n
unfolding lexemes_from
joined zero at [] most = refl
joined zero at (c ∷ s) most = absurd (omega arith)
joined (suc n) at [] most = refl
joined (suc n) at (c ∷ s) most =
    joined_on n (joined n) at (c ∷ s) (bracket_or (bracket_of c) (other_front c (c ∷ s))) (front_some (bracket_of c) c s refl) most

pub all_joined : (text : List ℕ) → flat_map (λ l. l.spelled) (lexemes_in text) ≡ text
all_joined text = joined (length text) 0 text (omega arith)
