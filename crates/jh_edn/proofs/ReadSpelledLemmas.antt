-- What is read is spelled so.
use Rattle.std.proofs.Common.{◌≡◌, ℕ, zero, suc, ◌⊎◌, inl, inr, true, false, cond, eqb, List, [], ◌∷◌, ◌++◌, length, drop, get_or, Option, Some, None, Result, Ok, Err, refl, sym, ap, subst, ◌∙◌, append_assoc, arith}
use Rattle.std.specs.Prelude.{◌&&◌, slice_get, chars, encode_utf8, codes}
use Rattle.std.specs.Str.{bytes_eq}
use Rattle.std.specs.List.{prefix_len}
use Rattle.std.proofs.lemmas.Grind.{common_steps}
use Rattle.std.proofs.lemmas.Bool.{eqb-true}
use Rattle.std.proofs.lemmas.List.{take-append-drop}
use Rattle.jh_edn.specs.declared.syntax_error.SyntaxError.{SyntaxError}
use Rattle.jh_edn.specs.declared.syntax_error.SyntaxErrorKind.{SyntaxErrorKind}
use Rattle.jh_edn.specs.declared.syntax_error.SyntaxErrorKind.TheVariants.{BadToken}
use Rattle.jh_edn.specs.Edn.{Edn, nil, boolean, str, keyword, symbol, list, vector, mapping, set, tagged, Items, items_of, members_of}
use Rattle.jh_edn.specs.Bytes.{open_paren, close_paren, quote, backslash, colon, open_bracket, close_bracket, open_brace, close_brace, semicolon, hash, underscore, line_feed, begins_discard, is_space, is_token_byte}
use Rattle.jh_edn.specs.Spelling.{is_name, is_symbol_name, is_tag, BeginsNoToken, IsLine, EndsLine, BeginsWithGap, nothing, white, comment, discard, Inner, SpellsElements, SpellsFront, grammar_around, inside}
use Rattle.jh_edn.specs.Reading.{◌>>=◌, syntax_error, read_with_front, body, token_of, begins_number, number_of, int_value, constant_of, constant_or_symbol, char_of, char_value, begins_char, char_before, character_at, character, set_or_error, hash_element, atom_of, atom, Read, DeeperReads, text_after_blank, text_after_comment, element, gap_turns, gap_in, items_step, items, deeper_reads, gap, read, pairs_of, map_or_error}
use Rattle.jh_edn.proofs.NumberLemmas.{and_both}
use Rattle.jh_edn.proofs.ReadTokenLemmas.{as_char_ok, as_int_ok, begins_with, begins_with_char, bind_ok, body_sound, char_of-sound, chosen, done, err_not, front_ok, is_scalar, number_sound, ok_is, paired_ok, pairs_items, placed_ok, same_bytes, token_ends, unique_ok}

module _ (deep : DeeperReads) (inner : Inner) where
  -- what a token is, as an element in front of a text that does not go on in it
  abbrev Stands : Edn → List ℕ → Type 0
  Stands x token = (rest : List ℕ) → BeginsNoToken rest → SpellsFront inner x (token ++ rest) rest

  constant_sound : (token : List ℕ) (x : Edn) → constant_of token ≡ Some x → Stands x token
  unfolding constant_of
  constant_sound token x e =
      let third : Option Edn = cond (bytes_eq token (codes "false")) (Some (boolean false)) None in
      let second : Option Edn = cond (bytes_eq token (codes "true")) (Some (boolean true)) third in
      elim (chosen (bytes_eq token (codes "nil")) (Some nil) second (Some x) e) [
        | inl p ↦ let same : nil ≡ x = let h = p.1 in cc in subst (λ (y : Edn). Stands y token) same (λ rest h. (token, same_bytes token (codes "nil") p.0, refl, h))
        | inr p ↦
            elim (chosen (bytes_eq token (codes "true")) (Some (boolean true)) third (Some x) p.1) [
              | inl q ↦ let same : boolean true ≡ x = let h = q.1 in cc in subst (λ (y : Edn). Stands y token) same (λ rest h. (token, same_bytes token (codes "true") q.0, refl, h))
              | inr q ↦
                  elim (chosen (bytes_eq token (codes "false")) (Some (boolean false)) None (Some x) q.1) [
                    | inl u ↦ let same : boolean false ≡ x = let h = u.1 in cc in subst (λ (y : Edn). Stands y token) same (λ rest h. (token, same_bytes token (codes "false") u.0, refl, h))
                    | inr u ↦ absurd (let bad = u.1 in cc)
                  ]
            ]
      ]

  constant_or_symbol-sound : (token : List ℕ) (o : Option Edn) (x : Edn) → constant_of token ≡ o → constant_or_symbol o token ≡ Ok x → Stands x token
  constant_or_symbol-sound token (Some y) x is e = let same : y ≡ x = cc in constant_sound token x (is ∙ ap (λ (w : Edn). Some w) same)
  constant_or_symbol-sound token None x is e =
      elim (chosen (is_symbol_name token) (Ok (symbol token)) (Err BadToken) (Ok x) e) [
        | inl q ↦
            let same : symbol token ≡ x = let h = q.1 in cc in
            subst (λ (y : Edn). Stands y token) same (λ rest h. (token, (q.0, refl), refl, h))
        | inr q ↦ absurd (let bad = q.1 in cc)
      ]

  keyword_or_constant : (token : List ℕ) (x : Edn) → cond (eqb (get_or token 0 0) colon && is_name (drop 1 token)) (Ok (keyword (drop 1 token))) (constant_or_symbol (constant_of token) token) ≡ Ok x → Stands x token
  keyword_or_constant token x e =
      elim (chosen (eqb (get_or token 0 0) colon && is_name (drop 1 token)) (Ok (keyword (drop 1 token))) (constant_or_symbol (constant_of token) token) (Ok x) e) [
        | inl q ↦
            let both = and_both (eqb (get_or token 0 0) colon) (is_name (drop 1 token)) q.0 in
            let same : keyword (drop 1 token) ≡ x = let h = q.1 in cc in
            subst (λ (y : Edn). Stands y token) same
            (λ rest h. (token, (both.1, begins_with colon token (omega arith) (eqb-true _ _ both.0)), refl, h))
        | inr q ↦ constant_or_symbol-sound token (constant_of token) x refl q.1
      ]

  atom_of-sound : (token : List ℕ) (x : Edn) → atom_of token ≡ Ok x → Stands x token
  unfolding atom_of
  atom_of-sound token x e =
      let other : Result Edn SyntaxErrorKind = cond (eqb (get_or token 0 0) colon && is_name (drop 1 token)) (Ok (keyword (drop 1 token))) (constant_or_symbol (constant_of token) token) in
      elim (chosen (begins_number token) (int_value (number_of token)) other (Ok x) e) [
        | inl p ↦
            let a = as_int_ok (number_of token) x p.1 in
            subst (λ (y : Edn). Stands y token) a.2 (λ rest h. (token, number_sound token a.0 p.0 a.1, refl, h))
        | inr p ↦ keyword_or_constant token x p.1
      ]

  atom_sound : (s : List ℕ) (x : Edn) (r : List ℕ) → atom s ≡ Ok (x, r) → SpellsFront inner x s r
  unfolding atom
  atom_sound s x r e =
      let p = placed_ok (atom_of (token_of s)) s (drop (prefix_len is_token_byte s) s) x r e in
      let whole : s ≡ token_of s ++ r = sym (take-append-drop (prefix_len is_token_byte s) s) ∙ ap (λ (w : List ℕ). token_of s ++ w) p.1 in
      subst (λ (w : List ℕ). SpellsFront inner x w r) (sym whole) (atom_of-sound (token_of s) x p.0 r (subst BeginsNoToken p.1 (token_ends s)))

  -- the backslash stands first
  char_before-sound : (c : ℕ) (t : List ℕ) (x : Edn) (r : List ℕ) → begins_char c t ≡ true → char_before c (backslash ∷ t) (drop (length (encode_utf8 c)) t) ≡ Ok (x, r) → SpellsFront inner x (backslash ∷ t) r
  char_before-sound c t x r b e =
      let front = encode_utf8 c in
      let after = drop (length front) t in
      let p = placed_ok (char_value (char_of c (token_of after))) (backslash ∷ t) (drop (prefix_len is_token_byte after) after) x r e in
      let a = as_char_ok (char_of c (token_of after)) x p.0 in
      let whole : t ≡ (front ++ token_of after) ++ r =
      begins_with_char c t b ∙ ap (λ (w : List ℕ). front ++ w) (sym (take-append-drop (prefix_len is_token_byte after) after) ∙ ap (λ (w : List ℕ). token_of after ++ w) p.1) ∙ sym (append_assoc front (token_of after) r) in
      subst (λ (y : Edn). SpellsFront inner y (backslash ∷ t) r) a.2
      (front ++ token_of after, char_of-sound c (token_of after) a.0 (is_scalar c t b) a.1, ap (λ (w : List ℕ). backslash ∷ w) whole, subst BeginsNoToken p.1 (token_ends after))

  character_at-sound : (o : Option ℕ) (t : List ℕ) (x : Edn) (r : List ℕ) → character_at o (backslash ∷ t) t ≡ Ok (x, r) → SpellsFront inner x (backslash ∷ t) r
  character_at-sound None t x r e = absurd cc
  character_at-sound (Some c) t x r e =
      elim (chosen (begins_char c t) (char_before c (backslash ∷ t) (drop (length (encode_utf8 c)) t)) (syntax_error BadToken (backslash ∷ t)) (Ok (x, r)) e) [
        | inl p ↦ char_before-sound c t x r p.0 p.1
        | inr p ↦ absurd (err_not _ _ p.1)
      ]

  character_sound : (t : List ℕ) (x : Edn) (r : List ℕ) → character (backslash ∷ t) ≡ Ok (x, r) → SpellsFront inner x (backslash ∷ t) r
  unfolding character
  character_sound t x r e = character_at-sound (slice_get (chars t) 0) t x r e

  abbrev pub ElementsSound : Type 0
  ElementsSound = (close : ℕ) (begin s : List ℕ) (xs : List Edn) (r : List ℕ) → deep.elements close begin s ≡ Ok (xs, r) → SpellsElements inner (items_of xs) s (close ∷ r)

  abbrev pub OneSound : Type 0
  OneSound = (begin s : List ℕ) (x : Edn) (r : List ℕ) → deep.one begin s ≡ Ok (x, r) → inner.next x s r

  module _ (h : ElementsSound) (one : OneSound) where
    hashed_sound : (s : List ℕ) (x : Edn) (r : List ℕ) → hash_element deep (hash ∷ s) ≡ Ok (x, r) → SpellsFront inner x (hash ∷ s) r
    unfolding hash_element
    hashed_sound s x r e =
        let begin = hash ∷ s in
        let tag = token_of s in
        let more = drop (prefix_len is_token_byte s) s in
        let braced : Result (Edn × List ℕ) SyntaxError = deep.elements close_brace begin (drop 1 s) >>= λ q. set_or_error q.0 q.1 in
        let tagging : Result (Edn × List ℕ) SyntaxError = deep.one begin more >>= λ q. Ok (tagged tag q.0, q.1) in
        let second : Result (Edn × List ℕ) SyntaxError = cond (is_tag tag) tagging (syntax_error BadToken begin) in
        elim (chosen (eqb (get_or s 0 0) open_brace) braced second (Ok (x, r)) e) [
          | inl p ↦
              let a = bind_ok (deep.elements close_brace begin (drop 1 s)) (λ q. set_or_error q.0 q.1) (x, r) p.1 in
              let m = unique_ok a.0.0 a.0.1 x r a.2 in
              subst (λ (y : Edn). SpellsFront inner y begin r) m.value
              (subst (λ (w : List ℕ). SpellsFront inner (set (items_of a.0.0)) begin w) m.rest
              (drop 1 s, ap (λ (w : List ℕ). hash ∷ w) (begins_with open_brace s (omega arith) (eqb-true _ _ p.0)), h close_brace begin (drop 1 s) a.0.0 a.0.1 a.1, m.differ))
          | inr p ↦
              elim (chosen (is_tag tag) tagging (syntax_error BadToken begin) (Ok (x, r)) p.1) [
                | inl q ↦
                    let a = bind_ok (deep.one begin more) (λ w. Ok (tagged tag w.0, w.1)) (x, r) q.1 in
                    subst (λ (y : Edn × List ℕ). SpellsFront inner y.0 begin y.1) (ok_is (tagged tag a.0.0, a.0.1) (x, r) a.2)
                    (more, q.0, ap (λ (w : List ℕ). hash ∷ w) (sym (take-append-drop (prefix_len is_token_byte s) s)), token_ends s, one begin more a.0.0 a.0.1 a.1)
                | inr q ↦ absurd (err_not _ _ q.1)
              ]
        ]

    abbrev as_string : List ℕ × List ℕ → Result (Edn × List ℕ) SyntaxError
    as_string q = Ok (str q.0, q.1)

    abbrev as_made : (Items → Edn) → List Edn × List ℕ → Result (Edn × List ℕ) SyntaxError
    as_made make q = Ok (make (items_of q.0), q.1)

    -- brackets, and what is made of the elements between them
    between_sound : (make : Items → Edn) (mark close : ℕ) (s : List ℕ) (x : Edn) (r : List ℕ)
        → ((xs : Items) (t : List ℕ) → SpellsElements inner xs s (close ∷ t) → SpellsFront inner (make xs) (mark ∷ s) t)
        → (deep.elements close (mark ∷ s) s >>= as_made make) ≡ Ok (x, r) → SpellsFront inner x (mark ∷ s) r
    between_sound make mark close s x r parsed e =
        let a = bind_ok (deep.elements close (mark ∷ s) s) (as_made make) (x, r) e in
        subst (λ (y : Edn × List ℕ). SpellsFront inner y.0 (mark ∷ s) y.1) (ok_is (make (items_of a.0.0), a.0.1) (x, r) a.2)
        (parsed (items_of a.0.0) a.0.1 (h close (mark ∷ s) s a.0.0 a.0.1 a.1))

    map_sound : (s : List ℕ) (x : Edn) (r : List ℕ) → (deep.elements close_brace (open_brace ∷ s) s >>= λ q. map_or_error (pairs_of q.0) q.1) ≡ Ok (x, r) → SpellsFront inner x (open_brace ∷ s) r
    map_sound s x r e =
        let a = bind_ok (deep.elements close_brace (open_brace ∷ s) s) (λ w. map_or_error (pairs_of w.0) w.1) (x, r) e in
        let m = paired_ok (pairs_of a.0.0) a.0.1 x r a.2 in
        let found = h close_brace (open_brace ∷ s) s a.0.0 a.0.1 a.1 in
        subst (λ (y : Edn). SpellsFront inner y (open_brace ∷ s) r) m.value
        (subst (λ (w : List ℕ). SpellsFront inner (mapping (members_of m.pairs)) (open_brace ∷ s) w) m.rest
        (s, refl, subst (λ (w : Items). SpellsElements inner w s (close_brace ∷ a.0.1)) (pairs_items a.0.0 m.pairs m.found) found, m.differ))

    string_sound : (s : List ℕ) (x : Edn) (r : List ℕ) → (body s >>= as_string) ≡ Ok (x, r) → SpellsFront inner x (quote ∷ s) r
    string_sound s x r e =
        let a = bind_ok (body s) as_string (x, r) e in
        let b = body_sound s a.0.0 a.0.1 a.1 in
        subst (λ (y : Edn × List ℕ). SpellsFront inner y.0 (quote ∷ s) y.1) (ok_is (str a.0.0, a.0.1) (x, r) a.2)
        (b.0, b.1, ap (λ (w : List ℕ). quote ∷ w) b.2)

    -- a byte that is that one
    at_byte : (c d : ℕ) (s : List ℕ) (x : Edn) (r : List ℕ) (given : ℕ → Result (Edn × List ℕ) SyntaxError)
        → eqb c d ≡ true → given c ≡ Ok (x, r) → (given d ≡ Ok (x, r) → SpellsFront inner x (d ∷ s) r) → SpellsFront inner x (c ∷ s) r
    at_byte c d s x r given e h parsed =
        let same : c ≡ d = eqb-true c d e in
        subst (λ (n : ℕ). SpellsFront inner x (n ∷ s) r) (sym same) (parsed (subst (λ (n : ℕ). given n ≡ Ok (x, r)) same h))

    element_sound : (s : List ℕ) (x : Edn) (r : List ℕ) → element deep s ≡ Ok (x, r) → SpellsFront inner x s r
    unfolding element
    element_sound [] x r e = absurd cc
    element_sound (c ∷ s) x r e =
        let Out : Type 0 = Result (Edn × List ℕ) SyntaxError in
        let text : ℕ → Out = λ n. body s >>= λ q. Ok (str q.0, q.1) in
        let paren : ℕ → Out = λ n. deep.elements close_paren (n ∷ s) s >>= λ q. Ok (list (items_of q.0), q.1) in
        let bracket : ℕ → Out = λ n. deep.elements close_bracket (n ∷ s) s >>= λ q. Ok (vector (items_of q.0), q.1) in
        let brace : ℕ → Out = λ n. deep.elements close_brace (n ∷ s) s >>= λ q. map_or_error (pairs_of q.0) q.1 in
        let marked : ℕ → Out = λ n. hash_element deep (n ∷ s) in
        let slashed : ℕ → Out = λ n. character (n ∷ s) in
        let last : Out = cond (is_token_byte c) (atom (c ∷ s)) (syntax_error BadToken (c ∷ s)) in
        let sixth : Out = cond (eqb c hash) (marked c) last in
        let fifth : Out = cond (eqb c backslash) (slashed c) sixth in
        let fourth : Out = cond (eqb c open_brace) (brace c) fifth in
        let third : Out = cond (eqb c open_bracket) (bracket c) fourth in
        let second : Out = cond (eqb c open_paren) (paren c) third in
        elim (chosen (eqb c quote) (text c) second (Ok (x, r)) e) [
          | inl p ↦ at_byte c quote s x r text p.0 p.1 (string_sound s x r)
          | inr p ↦
              elim (chosen (eqb c open_paren) (paren c) third (Ok (x, r)) p.1) [
                | inl q ↦ at_byte c open_paren s x r paren q.0 q.1 (between_sound list open_paren close_paren s x r (λ xs t g. (s, refl, g)))
                | inr q ↦
                    elim (chosen (eqb c open_bracket) (bracket c) fourth (Ok (x, r)) q.1) [
                      | inl u ↦ at_byte c open_bracket s x r bracket u.0 u.1 (between_sound vector open_bracket close_bracket s x r (λ xs t g. (s, refl, g)))
                      | inr u ↦
                          elim (chosen (eqb c open_brace) (brace c) fifth (Ok (x, r)) u.1) [
                            | inl v ↦ at_byte c open_brace s x r brace v.0 v.1 (map_sound s x r)
                            | inr v ↦
                                elim (chosen (eqb c backslash) (slashed c) sixth (Ok (x, r)) v.1) [
                                  | inl w ↦ at_byte c backslash s x r slashed w.0 w.1 (character_sound s x r)
                                  | inr w ↦
                                      elim (chosen (eqb c hash) (marked c) last (Ok (x, r)) w.1) [
                                        | inl y ↦ at_byte c hash s x r marked y.0 y.1 (hashed_sound s x r)
                                        | inr y ↦
                                            elim (chosen (is_token_byte c) (atom (c ∷ s)) (syntax_error BadToken (c ∷ s)) (Ok (x, r)) y.1) [
                                              | inl z ↦ atom_sound (c ∷ s) x r z.1
                                              | inr z ↦ absurd (err_not _ _ z.1)
                                            ]
                                      ]
                                ]
                          ]
                    ]
              ]
        ]

-- ---- gaps and elements

-- in a comment: its line, and a gap behind
record InComment (Next : Edn → List ℕ → List ℕ → Type 0) (s r : List ℕ) : Type 0 where
  pub line : List ℕ
  pub more : List ℕ
  pub parts : s ≡ line ++ more
  pub is_line : IsLine line
  pub ends : EndsLine more
  pub gap : BeginsWithGap Next more r

line_feed_white : is_space line_feed ≡ true
unfolding is_space
line_feed_white = refl

module _ (Next : Edn → List ℕ → List ℕ → Type 0) where
  mutual
    blank_sound : (s r : List ℕ) → BeginsWithGap Next (text_after_blank s) r → BeginsWithGap Next s r
    blank_sound [] r g = g
    blank_sound (c ∷ s) r g =
        elim (is_space c) as (λ b. is_space c ≡ b → BeginsWithGap Next (cond b (text_after_blank s) (cond (eqb c semicolon) (text_after_comment s) (c ∷ s))) r → BeginsWithGap Next (c ∷ s) r) [
          | true ↦ λ e h. white c s refl e (blank_sound s r h)
          | false ↦ λ e h.
              elim (eqb c semicolon) as (λ b. eqb c semicolon ≡ b → BeginsWithGap Next (cond b (text_after_comment s) (c ∷ s)) r → BeginsWithGap Next (c ∷ s) r) [
                | true ↦ λ f k.
                    let q = comment_sound s r k in
                    comment q.line q.more (ap (λ (n : ℕ). n ∷ s) (eqb-true _ _ f) ∙ ap (λ (w : List ℕ). semicolon ∷ w) q.parts) q.is_line q.ends q.gap
                | false ↦ λ f k. k
              ] refl h
        ] refl g

    comment_sound : (s r : List ℕ) → BeginsWithGap Next (text_after_comment s) r → InComment Next s r
    comment_sound [] r g = record { line = []; more = []; parts = refl; is_line = refl; ends = tt; gap = g }
    comment_sound (c ∷ s) r g =
        elim (eqb c line_feed) as (λ b. eqb c line_feed ≡ b → BeginsWithGap Next (cond b (text_after_blank s) (text_after_comment s)) r → InComment Next (c ∷ s) r) [
          | true ↦ λ e h.
              let feed : c ≡ line_feed = eqb-true _ _ e in
              record { line = []; more = c ∷ s; parts = refl; is_line = refl; ends = feed; gap = white c s refl (rw feed line_feed_white) (blank_sound s r h) }
          | false ↦ λ e h.
              let q = comment_sound s r h in
              record { line = c ∷ q.line; more = q.more; parts = ap (λ (w : List ℕ). c ∷ w) q.parts; is_line = rw e q.is_line; ends = q.ends; gap = q.gap }
        ] refl g

pub discard_is : (s : List ℕ) → begins_discard s ≡ true → s ≡ hash ∷ underscore ∷ drop 2 s
unfolding begins_discard
discard_is [] e = absurd cc
discard_is (c ∷ []) e = absurd (grind (arith, common_steps))
discard_is (c ∷ d ∷ s) e =
    let both = and_both (eqb c hash) (eqb d underscore) e in
    ap (λ (n : ℕ). n ∷ d ∷ s) (eqb-true _ _ both.0) ∙ ap (λ (n : ℕ). hash ∷ n ∷ s) (eqb-true _ _ both.1)

module _ (deep : DeeperReads) (inner : Inner) (one : OneSound deep inner) where
  gap_turns-sound : (n : ℕ) (s r : List ℕ) → gap_turns deep n s ≡ Ok r → BeginsWithGap inner.next s r
  unfolding gap_turns
  gap_turns-sound zero s r e = absurd cc
  gap_turns-sound (suc n) s r e =
      let t = text_after_blank s in
      let more : Result (List ℕ) SyntaxError = deep.one t (drop 2 t) >>= λ x. gap_turns deep n x.1 in
      elim (chosen (begins_discard t) more (Ok t) (Ok r) e) [
        | inl p ↦
            let a = bind_ok (deep.one t (drop 2 t)) (λ x. gap_turns deep n x.1) r p.1 in
            blank_sound inner.next s r (discard a.0.0 (drop 2 t) a.0.1 (discard_is t p.0) (one t (drop 2 t) a.0.0 a.0.1 a.1) (gap_turns-sound n a.0.1 r a.2))
        | inr p ↦ blank_sound inner.next s r (nothing (ok_is t r p.1))
      ]

  gap_in-sound : (s r : List ℕ) → gap_in deep s ≡ Ok r → BeginsWithGap inner.next s r
  gap_in-sound s r e = gap_turns-sound (suc (length s)) s r e

step_ok : (close : ℕ) (value : Read Edn) (more : Read (List Edn)) (here : List ℕ) (xs : List Edn) (r : List ℕ) → items_step close value more here ≡ Ok (xs, r)
    → ((here ≡ close ∷ r) × (xs ≡ [])) ⊎ ((x : Edn) × (after : List ℕ) × (ys : List Edn) × (value here ≡ Ok (x, after)) × (more after ≡ Ok (ys, r)) × (xs ≡ x ∷ ys))
step_ok close value more [] xs r e = absurd cc
step_ok close value more (c ∷ s) xs r e =
    let go : Result (List Edn × List ℕ) SyntaxError = value (c ∷ s) >>= λ x. read_with_front (x.0 ∷ []) (more x.1) in
    elim (chosen (eqb c close) (done ([], s)) go (Ok (xs, r)) e) [
      | inl p ↦
          let q = ok_is ([], s) (xs, r) p.1 in
          inl (rw (eqb-true c close p.0) (ap (λ (w : List Edn × List ℕ). close ∷ w.1) q), sym (ap (λ (w : List Edn × List ℕ). w.0) q))
      | inr p ↦
          let a = bind_ok (value (c ∷ s)) (λ x. read_with_front (x.0 ∷ []) (more x.1)) (xs, r) p.1 in
          let b = front_ok (a.0.0 ∷ []) (more a.0.1) xs r a.2 in
          inr (a.0.0, a.0.1, b.0, a.1, b.1, b.2)
    ]

module _ (close : ℕ) (deep : DeeperReads) (inner : Inner) (one : OneSound deep inner) (value : (s : List ℕ) (x : Edn) (r : List ℕ) → element deep s ≡ Ok (x, r) → SpellsFront inner x s r) where
  items_sound : (n : ℕ) (s : List ℕ) (xs : List Edn) (r : List ℕ) → items close (gap_in deep) (element deep) n s ≡ Ok (xs, r) → SpellsElements (grammar_around inner) (items_of xs) s (close ∷ r)
  unfolding items
  items_sound zero s xs r e = absurd cc
  items_sound (suc n) s xs r e =
      let a = bind_ok (gap_in deep s) (items_step close (element deep) (items close (gap_in deep) (element deep) n)) (xs, r) e in
      let gone = gap_in-sound deep inner one s a.0 a.1 in
      elim (step_ok close (element deep) (items close (gap_in deep) (element deep) n) a.0 xs r a.2) [
        | inl p ↦ rw p.1 (subst (λ (w : List ℕ). BeginsWithGap inner.next s w) p.0 gone)
        | inr p ↦ rw p.5 (p.1, (a.0, gone, value a.0 p.0 p.1 p.3), items_sound n p.1 p.2 r p.4)
      ]

-- what is read there is what may stand there
pub record Sound (deep : DeeperReads) (inner : Inner) : Type 0 where
  pub elements : ElementsSound deep inner
  pub one : OneSound deep inner

pub sound : (depth : ℕ) → Sound (deeper_reads depth) (inside depth)
unfolding deeper_reads inside
sound zero = record { elements = λ close begin s xs r bad. absurd (err_not _ _ bad); one = λ begin s x r bad. absurd (err_not _ _ bad) }
sound (suc depth) =
    let deep = deeper_reads depth in
    let below = sound depth in
    let value = element_sound deep (inside depth) below.elements below.one in
    record {
      elements = λ close begin s xs r e. items_sound close deep (inside depth) below.one value (suc (length s)) s xs r e;
      one = λ begin s x r e.
          let a = bind_ok (gap_in deep s) (element deep) (x, r) e in
          (a.0, gap_in-sound deep (inside depth) below.one s a.0 a.1, value a.0 x r a.2);
    }

pub gap_sound : (depth : ℕ) (s r : List ℕ) → gap depth s ≡ Ok r → BeginsWithGap (inside depth).next s r
gap_sound depth s r e = gap_in-sound (deeper_reads depth) (inside depth) (sound depth).one s r e

pub read_sound : (depth : ℕ) (s : List ℕ) (x : Edn) (r : List ℕ) → read depth s ≡ Ok (x, r) → SpellsFront (inside depth) x s r
read_sound depth s x r e = element_sound (deeper_reads depth) (inside depth) (sound depth).elements (sound depth).one s x r e
