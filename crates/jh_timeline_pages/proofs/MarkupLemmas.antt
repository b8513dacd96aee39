-- No byte of an escaped text is read as markup.
use Rattle.std.proofs.Common.{◌≡◌, ℕ, ◌+◌, ◌/◌, ◌%◌, ◌<◌, ◌≤◌, Bool, true, false, not, ◌&&◌, ◌||◌, cond, eqb, ltb, List, [], ◌∷◌, ◌++◌, codes, length, take, refl, ap, subst, ◌∙◌, append_assoc, append-nil, arith}
use Rattle.std.proofs.lemmas.Bool.{ne_eqb}
use Rattle.std.proofs.lemmas.Bool.Decides.{nat_tests}
use Rattle.std.proofs.lemmas.Fmt.{digits_is_IsNumeral}
use Rattle.std.specs.Char.{digit_value}
use Rattle.std.specs.Fmt.{digits}
use Rattle.std.specs.List.{flat_map}
use Rattle.std.specs.Str.Parse.{AllDigits}
use Rattle.jh_timeline_pages.specs.Markup.{escaped_text, short_text, is_inert, is_markup, is_hidden, is_invisible, number_text, escaped_character, label_room}
use lib.Utf8.{encode, next}

-- none of the bytes could be markup
abbrev is_plain : List ℕ → Bool
is_plain [] = true
is_plain (b ∷ bytes) = not (is_markup b) && is_plain bytes

split_and : (a b : Bool) → a && b ≡ true → (a ≡ true) × (b ≡ true)
split_and true b e = (refl, e)
split_and false b e = (e, absurd (cc))

plain_step : (a b rest : Bool) → not a ≡ true → rest ≡ true → (not a || b) && rest ≡ true
plain_step true b rest h e = absurd (cc)
plain_step false b rest h e = e

plain_inert : (p s : List ℕ) → is_plain p ≡ true → is_inert s ≡ true → is_inert (p ++ s) ≡ true
plain_inert [] s h e = e
plain_inert (b ∷ p) s h e =
    let both = split_and (not (is_markup b)) (is_plain p) h in
    plain_step (is_markup b) _ (is_inert (p ++ s)) both.0 (plain_inert p s both.1 e)

either : (b : Bool) (x y s : List ℕ) → is_inert (x ++ s) ≡ true → (b ≡ false → is_inert (y ++ s) ≡ true) → is_inert (cond b x y ++ s) ≡ true
either true x y s h k = h
either false x y s h k = k refl

either_way : (b : Bool) (x y s : List ℕ) → (b ≡ true → is_inert (x ++ s) ≡ true) → (b ≡ false → is_inert (y ++ s) ≡ true) → is_inert (cond b x y ++ s) ≡ true
either_way true x y s h k = h refl
either_way false x y s h k = k refl

markup_false : (b : ℕ) → eqb b 60 ≡ false → eqb b 62 ≡ false → eqb b 38 ≡ false → eqb b 34 ≡ false → eqb b 39 ≡ false → is_markup b ≡ false
markup_false b l g a q p = simp (l, g, a, q, p)

above_plain : (b : ℕ) → 128 ≤ b → is_markup b ≡ false
above_plain b h =
    markup_false b (ne_eqb b 60 (λ e. omega arith)) (ne_eqb b 62 (λ e. omega arith)) (ne_eqb b 38 (λ e. omega arith))
    (ne_eqb b 34 (λ e. omega arith)) (ne_eqb b 39 (λ e. omega arith))

-- a hexadecimal digit is none of these
digit_not : (b c : ℕ) → digit_value b < 16 → digit_value c ≡ 36 → eqb b c ≡ false
digit_not b c h e = ne_eqb b c (λ same. let wrong : digit_value b ≡ 36 = ap digit_value same ∙ e in omega (arith, wrong))

digit_plain : (b : ℕ) → digit_value b < 16 → is_markup b ≡ false
digit_plain b h =
    markup_false b (digit_not b 60 h refl) (digit_not b 62 h refl) (digit_not b 38 h refl) (digit_not b 34 h refl) (digit_not b 39 h refl)

plain_more : (b : ℕ) (bytes : List ℕ) → is_markup b ≡ false → is_plain bytes ≡ true → is_plain (b ∷ bytes) ≡ true
plain_more b bytes h e = simp (h, e)

digits_plain : (ds : List ℕ) → AllDigits 16 ds → is_plain ds ≡ true
digits_plain [] all = refl
digits_plain (d ∷ ds) all = plain_more d ds (digit_plain d all.0) (digits_plain ds all.1)

unshown_below : (c : ℕ) → is_hidden c || is_invisible c ≡ true → c < 65536
unshown_below c h = grind (arith, nat_tests)

number_inert : (c : ℕ) (s : List ℕ) → is_hidden c || is_invisible c ≡ true → is_inert s ≡ true → is_inert (number_text c ++ s) ≡ true
number_inert c s h e =
    let small : c < 65536 = unshown_below c h in
    let numeral = digits_is_IsNumeral 16 false (omega arith) (omega arith) c (omega (arith, small)) in
    let tail : is_inert ((digits 16 false c ++ codes "}") ++ s) ≡ true =
    rw (append_assoc (digits 16 false c) (codes "}") s) (plain_inert (digits 16 false c) (codes "}" ++ s) (digits_plain (digits 16 false c) numeral.0.1) e) in
    tail

above_more : (b : ℕ) (s : List ℕ) → 128 ≤ b → is_inert s ≡ true → is_inert (b ∷ s) ≡ true
above_more b s h e = plain_inert (b ∷ []) s (plain_more b [] (above_plain b h) refl) e

-- the bytes of a character beyond ASCII
abbrev two : ℕ → List ℕ
two c = (192 + c / 64) ∷ next c ∷ []

abbrev three : ℕ → List ℕ
three c = (224 + c / 4096) ∷ next (c / 64) ∷ next c ∷ []

abbrev four : ℕ → List ℕ
four c = (240 + c / 262144) ∷ next (c / 4096) ∷ next (c / 64) ∷ next c ∷ []

next_more : (bits : ℕ) (s : List ℕ) → is_inert s ≡ true → is_inert (next bits ∷ s) ≡ true
next_more bits s e = above_more (128 + bits % 64) s (omega arith) e

itself_inert : (c : ℕ) (s : List ℕ) → is_markup c ≡ false → is_inert s ≡ true → is_inert (encode c ++ s) ≡ true
unfolding encode
itself_inert c s h e =
    let one = next_more c s e in
    let more = next_more (c / 64) (next c ∷ s) one in
    either (ltb c 128) (c ∷ []) (cond (ltb c 2048) (two c) (cond (ltb c 65536) (three c) (four c))) s (plain_inert (c ∷ []) s (plain_more c [] h refl) e)
    (λ _. either (ltb c 2048) (two c) (cond (ltb c 65536) (three c) (four c)) s (above_more (192 + c / 64) (next c ∷ s) (omega arith) one)
    (λ _. either (ltb c 65536) (three c) (four c) s (above_more (224 + c / 4096) (next (c / 64) ∷ next c ∷ s) (omega arith) more)
    (λ _. above_more (240 + c / 262144) (next (c / 4096) ∷ next (c / 64) ∷ next c ∷ s) (omega arith) (next_more (c / 4096) (next (c / 64) ∷ next c ∷ s) more))))

shown_inert : (c : ℕ) (s : List ℕ) → is_inert s ≡ true → is_inert (escaped_character c ++ s) ≡ true
unfolding escaped_character
shown_inert c s e =
    either (eqb c 60) _ _ s e (λ l. either (eqb c 62) _ _ s e (λ g. either (eqb c 38) _ _ s e (λ a.
    either (eqb c 34) _ _ s e (λ q. either (eqb c 39) _ _ s e (λ p.
    either_way (is_hidden c || is_invisible c) _ _ s (λ h. number_inert c s h e) (λ _. itself_inert c s (markup_false c l g a q p) e))))))

all_inert : (cs s : List ℕ) → is_inert s ≡ true → is_inert (flat_map escaped_character cs ++ s) ≡ true
all_inert [] s e = e
all_inert (c ∷ cs) s e =
    rw (append_assoc (escaped_character c) (flat_map escaped_character cs) s) (shown_inert c (flat_map escaped_character cs ++ s) (all_inert cs s e))

whole_inert : (cs : List ℕ) → is_inert (flat_map escaped_character cs) ≡ true
whole_inert cs = subst (λ text. is_inert text ≡ true) (append-nil (flat_map escaped_character cs)) (all_inert cs [] refl)

pub escaped_inert : (text : List ℕ) → is_inert (escaped_text text) ≡ true
escaped_inert text = whole_inert _

pub short_inert : (characters : List ℕ) → is_inert (short_text characters) ≡ true
short_inert cs = choose (ltb label_room (length cs))
  where
    choose : (b : Bool) → is_inert (cond b (flat_map escaped_character (take label_room cs) ++ codes "&#8230;") (flat_map escaped_character cs)) ≡ true
    choose true = all_inert (take label_room cs) (codes "&#8230;") refl
    choose false = whole_inert cs
