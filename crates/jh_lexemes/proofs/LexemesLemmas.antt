-- The lexemes of a text, one more at a time.
use Rattle.std.proofs.Common.{◌≡◌, ℕ, zero, suc, ◌+◌, ◌-◌, ◌<◌, ◌≤◌, List, [], ◌∷◌, length, take, drop, Option, Some, None, refl, ap, ◌∙◌, drop-drop, arith}
use Rattle.std.specs.Prelude.{option_map}
use Rattle.jh_lexemes.specs.declared.lexeme.Lexeme.{Lexeme}
use Rattle.jh_lexemes.specs.Lexemes.{lexeme_of, lexemes_on, lexemes_from}

-- a lexeme with the place behind it, in place of its length
abbrev pub placed : ℕ → Option (Lexeme × ℕ) → Option (Lexeme × ℕ)
placed at found = option_map (λ l. (l.0, at + l.1)) found

found_len : (at end : ℕ) (kind : Lexeme) (o : Option (Lexeme × ℕ)) → Some (kind, end) ≡ placed at o → (o ≡ Some (kind, end - at)) × (at + (end - at) ≡ end)
found_len at end kind None h = absurd cc
found_len at end kind (Some l) h =
    let pair : ◌≡◌ {A = Lexeme × ℕ} (kind, end) (l.0, at + l.1) = cc in
    let same : kind ≡ l.0 = ap (λ (p : Lexeme × ℕ). p.0) pair in
    let ends : end ≡ at + l.1 = ap (λ (p : Lexeme × ℕ). p.1) pair in
    let len : end - at ≡ l.1 = omega arith in
    (rw (same, len) refl, omega arith)

none_found : (at : ℕ) (o : Option (Lexeme × ℕ)) → None ≡ placed at o → o ≡ None
none_found at None h = refl
none_found at (Some l) h = absurd cc

-- the lexeme at a place, and those behind it
pub lexemes_more : (n at end : ℕ) (text : List ℕ) (kind : Lexeme) → Some (kind, end) ≡ placed at (lexeme_of (drop at text))
    → lexemes_from (suc n) at (drop at text) ≡ record { kind = kind; at = at; spelled = take (end - at) (drop at text); behind = drop end text } ∷ lexemes_from n end (drop end text)
unfolding lexemes_from
lexemes_more n at end text kind h =
    let p = found_len at end kind (lexeme_of (drop at text)) h in
    let behind : drop (end - at) (drop at text) ≡ drop end text = drop-drop (end - at) at text ∙ ap (λ (m : ℕ). drop m text) p.1 in
    ap (lexemes_on (lexemes_from n) at (drop at text)) p.0 ∙ rw (p.1, behind) refl

-- no more at the end
pub lexemes_none : (n at : ℕ) (text : List ℕ) → None ≡ placed at (lexeme_of (drop at text)) → lexemes_from n at (drop at text) ≡ []
unfolding lexemes_from
lexemes_none zero at text h = refl
lexemes_none (suc n) at text h = ap (lexemes_on (lexemes_from n) at (drop at text)) (none_found at (lexeme_of (drop at text)) h)

-- the same where so many may still come
pub lexemes_next : (most turn at end : ℕ) (text : List ℕ) (kind : Lexeme) → turn < most → Some (kind, end) ≡ placed at (lexeme_of (drop at text))
    → lexemes_from (most - turn) at (drop at text) ≡ record { kind = kind; at = at; spelled = take (end - at) (drop at text); behind = drop end text } ∷ lexemes_from (most - (turn + 1)) end (drop end text)
lexemes_next most turn at end text kind l h =
    let n : most - turn ≡ suc (most - (turn + 1)) = omega arith in
    ap (λ (m : ℕ). lexemes_from m at (drop at text)) n ∙ lexemes_more (most - (turn + 1)) at end text kind h

pub lexemes_over : (most turn at : ℕ) (s : List ℕ) → most ≤ turn → lexemes_from (most - turn) at s ≡ []
unfolding lexemes_from
lexemes_over most turn at s l = let n : most - turn ≡ 0 = omega arith in rw n refl

pub lexemes_first : (text : List ℕ) → lexemes_from (length text - 0) 0 (drop 0 text) ≡ lexemes_from (length text) 0 text
lexemes_first text = let n : length text - 0 ≡ length text = omega arith in rw n refl
