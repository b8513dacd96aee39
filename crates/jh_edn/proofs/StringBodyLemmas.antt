-- The rest of a string.
use Rattle.std.proofs.Common.{◌≡◌, ℕ, ◌≤◌, ◌<◌, true, false, eqb, List, [], ◌∷◌, ◌++◌, length, take, drop, get_or, Some, None, Result, Ok, Err, refl, sym, ap, ◌∙◌, append_assoc, arith}
use Rattle.std.specs.Prelude.{◌≢◌}
use Rattle.std.specs.List.{prefix_len}
use Rattle.std.proofs.lemmas.Grind.{common_steps}
use Rattle.std.proofs.lemmas.List.{append-nil}
use Rattle.jh_edn.specs.declared.syntax_error.SyntaxError.{SyntaxError}
use Rattle.jh_edn.specs.declared.syntax_error.SyntaxErrorKind.TheVariants.{BadEscape}
use Rattle.jh_edn.specs.Bytes.{is_plain, escaped_byte}
use Rattle.jh_edn.specs.Reading.{body, read_with_front, syntax_error}
use Rattle.jh_edn.proofs.PrefixLemmas.{prefix_len-cases}

pub escape_ascii : (b c : ℕ) → escaped_byte b ≡ Some c → b < 128
unfolding escaped_byte
escape_ascii b c h = grind (arith, common_steps)

pub not_special : (c : ℕ) → is_plain c ≡ true → (eqb c 34 ≡ false) × (eqb c 92 ≡ false)
unfolding is_plain
not_special c h = grind (arith, common_steps)

pub read_with_front-nil : {A : Type 0} (r : Result (List A × List ℕ) SyntaxError) → r ≡ read_with_front [] r
read_with_front-nil (Ok x) = refl
read_with_front-nil (Err f) = refl

pub read_with_front-append : {A : Type 0} (a b : List A) (r : Result (List A × List ℕ) SyntaxError) → read_with_front a (read_with_front b r) ≡ read_with_front (a ++ b) r
read_with_front-append {A} a b (Ok x) = ap (λ (t : List A). Ok (t, x.1)) (sym (append_assoc a b x.0))
read_with_front-append a b (Err f) = refl

body_step : (c d : ℕ) (s : List ℕ) → is_plain c ≡ true → body (c ∷ d ∷ s) ≡ read_with_front (c ∷ []) (body (d ∷ s))
unfolding body
body_step c d s h = let p = not_special c h in rw (p.0, p.1) refl

body_last : (c : ℕ) → is_plain c ≡ true → body (c ∷ []) ≡ read_with_front (c ∷ []) (body [])
unfolding body
body_last c h = let p = not_special c h in rw p.0 refl

-- the bytes that stand for themselves, and then the rest
pub body_plain : (s : List ℕ) → body s ≡ read_with_front (take (prefix_len is_plain s) s) (body (drop (prefix_len is_plain s) s))
body_plain [] = read_with_front-nil (body [])
body_plain (c ∷ []) =
    prefix_len-cases is_plain (λ n. body (c ∷ []) ≡ read_with_front (take n (c ∷ [])) (body (drop n (c ∷ [])))) c []
    (λ e. body_last c e)
    (λ e. read_with_front-nil (body (c ∷ [])))
body_plain (c ∷ d ∷ s) =
    let n = prefix_len is_plain (d ∷ s) in
    prefix_len-cases is_plain (λ m. body (c ∷ d ∷ s) ≡ read_with_front (take m (c ∷ d ∷ s)) (body (drop m (c ∷ d ∷ s)))) c (d ∷ s)
    (λ e. body_step c d s e ∙ ap (read_with_front (c ∷ [])) (body_plain (d ∷ s)) ∙ read_with_front-append (c ∷ []) (take n (d ∷ s)) (body (drop n (d ∷ s))))
    (λ e. read_with_front-nil (body (c ∷ d ∷ s)))

stops_at : (c : ℕ) (s : List ℕ) → prefix_len is_plain (c ∷ s) ≡ 0 → is_plain c ≡ false
stops_at c s = prefix_len-cases is_plain (λ n. n ≡ 0 → is_plain c ≡ false) c s (λ e z. absurd (omega arith)) (λ e z. e)

is_escape : (c : ℕ) → is_plain c ≡ false → c ≢ 34 → (eqb c 34 ≡ false) × (eqb c 92 ≡ true)
unfolding is_plain
is_escape c h n = grind (arith, common_steps)

pub stop_none : (s : List ℕ) → prefix_len is_plain s ≡ 0 → 2 ≤ length s → get_or s 0 0 ≢ 34 → escaped_byte (get_or s 1 0) ≡ None → body s ≡ syntax_error BadEscape s
unfolding body
stop_none [] z l n e = absurd (omega arith)
stop_none (c ∷ []) z l n e = absurd (omega arith)
stop_none (c ∷ d ∷ s) z l n e = let p = is_escape c (stops_at c (d ∷ s) z) n in rw (p.0, p.1, e) refl

pub stop_some : (s : List ℕ) (x : ℕ) → prefix_len is_plain s ≡ 0 → 2 ≤ length s → get_or s 0 0 ≢ 34 → escaped_byte (get_or s 1 0) ≡ Some x → body s ≡ read_with_front (x ∷ []) (body (drop 2 s))
unfolding body
stop_some [] x z l n e = absurd (omega arith)
stop_some (c ∷ []) x z l n e = absurd (omega arith)
stop_some (c ∷ d ∷ s) x z l n e = let p = is_escape c (stops_at c (d ∷ s) z) n in rw (p.0, p.1, e) refl

-- one piece more
pub moved : (t u left here : List ℕ) (n : ℕ) (total : Result (List ℕ × List ℕ) SyntaxError) → n ≡ prefix_len is_plain left → u ≡ t ++ take n left → here ≡ drop n left → read_with_front t (body left) ≡ total → read_with_front u (body here) ≡ total
moved t u left here n total e f g so_far =
    rw (f, g, e) (sym (ap (read_with_front t) (body_plain left) ∙ read_with_front-append t (take (prefix_len is_plain left) left) (body (drop (prefix_len is_plain left) left))) ∙ so_far)

pub ended : (u here : List ℕ) (total found : Result (List ℕ × List ℕ) SyntaxError) → read_with_front u (body here) ≡ total → body here ≡ found → total ≡ read_with_front u found
ended u here total found so_far e = sym so_far ∙ ap (read_with_front u) e

-- a string without escapes
pub closed : (s after : List ℕ) (n : ℕ) → n ≡ prefix_len is_plain s → body (drop n s) ≡ Ok ([], after) → body s ≡ Ok (take n s, after)
closed s after n e h =
    let stop : body (drop (prefix_len is_plain s) s) ≡ Ok ([], after) = rw (← e) h in
    rw e (body_plain s ∙ ap (read_with_front (take (prefix_len is_plain s) s)) stop ∙ ap (λ (t : List ℕ). Ok (t, after)) (append-nil (take (prefix_len is_plain s) s)))
