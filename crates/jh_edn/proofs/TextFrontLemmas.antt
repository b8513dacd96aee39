-- Texts and their fronts.
use Rattle.std.proofs.Common.{◌≡◌, ℕ, ◌+◌, ◌<◌, ◌≤◌, ◌⊎◌, Bool, true, false, cond, eqb, List, ◌∷◌, length, drop, get_or, refl, sym, ap, ◌∙◌, arith, take, zero, suc, [], ◌++◌}
use Rattle.std.specs.Prelude.{not}
use Rattle.std.proofs.lemmas.List.{drop_more}
use Rattle.std.specs.Str.{IsCharBoundary, IsUtf8}
use Rattle.std.proofs.lemmas.Str.{IsCharBoundary-before_ascii, IsCharBoundary-after_ascii}
use Rattle.std.proofs.lemmas.Grind.{common_steps}
use Rattle.jh_edn.specs.Reading.{text_after_blank, text_after_comment}
use Rattle.jh_edn.specs.Bytes.{semicolon, line_feed, is_token_byte, is_space, is_delimiter, is_plain}

token_ascii : (c : ℕ) → is_token_byte c ≡ false → c < 128
unfolding is_token_byte is_space is_delimiter
token_ascii c h = grind (arith, common_steps)

-- small letters and digits are bytes of runs
pub letter_token : (c : ℕ) → ((97 ≤ c) × (c ≤ 122)) ⊎ ((48 ≤ c) × (c ≤ 57)) → is_token_byte c ≡ true
unfolding is_token_byte is_space is_delimiter
letter_token c h = grind (arith, common_steps)

pub token_stops : (s : List ℕ) (i : ℕ) → i < length s → is_token_byte (get_or s i 0) ≡ false → IsCharBoundary s i
token_stops s i l h = IsCharBoundary-before_ascii s i l (token_ascii (get_or s i 0) h)

plain_ascii : (c : ℕ) → is_plain c ≡ false → c < 128
unfolding is_plain
plain_ascii c h = grind (arith, common_steps)

pub plain_stops : (s : List ℕ) (i : ℕ) → i < length s → is_plain (get_or s i 0) ≡ false → IsCharBoundary s i
plain_stops s i l h = IsCharBoundary-before_ascii s i l (plain_ascii (get_or s i 0) h)

space_ascii : (c : ℕ) → is_space c ≡ true → c < 128
unfolding is_space
space_ascii c h = grind (arith, common_steps)

-- what follows white space and comments, behind some of them
abbrev pub after_some : Bool → List ℕ → List ℕ
after_some true s = text_after_comment s
after_some false s = text_after_blank s

after_one : (s : List ℕ) (k : ℕ) → k < length s → drop k s ≡ get_or s k 0 ∷ drop (k + 1) s
after_one s k l = drop_more s k 0 l

-- one byte more, in a comment, at its begin, and outside of one
pub comment_step : (s : List ℕ) (k : ℕ) → k < length s → after_some (not (eqb (get_or s k 0) line_feed)) (drop (k + 1) s) ≡ after_some true (drop k s)
comment_step s k l =
    let c = get_or s k 0 in
    let t = drop (k + 1) s in
    let same : after_some (not (eqb c line_feed)) t ≡ text_after_comment (c ∷ t) = elim (eqb c line_feed) as (λ b. after_some (not b) t ≡ cond b (text_after_blank t) (text_after_comment t)) [ true ↦ refl | false ↦ refl ] in
    same ∙ ap text_after_comment (sym (after_one s k l))

pub semicolon_step : (s : List ℕ) (k : ℕ) → k < length s → get_or s k 0 ≡ semicolon → after_some true (drop (k + 1) s) ≡ after_some false (drop k s)
unfolding is_space
semicolon_step s k l e =
    let here : drop k s ≡ semicolon ∷ drop (k + 1) s = after_one s k l ∙ ap (λ (n : ℕ). n ∷ drop (k + 1) s) e in
    ap text_after_blank (sym here)

pub white_step : (s : List ℕ) (k : ℕ) → k < length s → is_space (get_or s k 0) ≡ true → after_some false (drop (k + 1) s) ≡ after_some false (drop k s)
white_step s k l e =
    let here : text_after_blank (get_or s k 0 ∷ drop (k + 1) s) ≡ text_after_blank (drop (k + 1) s) = rw e refl in
    sym here ∙ ap text_after_blank (sym (after_one s k l))

pub feed_boundary : (s : List ℕ) (k : ℕ) → IsUtf8 s → k < length s → not (eqb (get_or s k 0) line_feed) ≡ false → IsCharBoundary s (k + 1)
feed_boundary s k u l e = IsCharBoundary-after_ascii s k u l (grind (arith, common_steps))

pub white_boundary : (s : List ℕ) (k : ℕ) → IsUtf8 s → k < length s → is_space (get_or s k 0) ≡ true → IsCharBoundary s (k + 1)
white_boundary s k u l e = IsCharBoundary-after_ascii s k u l (space_ascii (get_or s k 0) e)

-- a byte that is not 0 is there
pub within : (s : List ℕ) (i : ℕ) → 0 < get_or s i 0 → i < length s
within [] i h = absurd (omega arith)
within (c ∷ s) zero h = omega arith
within (c ∷ s) (suc i) h = omega (arith, within s i h)

pub take_past : (a b : List ℕ) (n : ℕ) → take (length a + n) (a ++ b) ≡ a ++ take n b
take_past [] b n = let k : 0 + n ≡ n = omega arith in rw k refl
take_past (c ∷ a) b n = let k : suc (length a) + n ≡ suc (length a + n) = omega arith in rw k (ap (λ (w : List ℕ). c ∷ w) (take_past a b n))
