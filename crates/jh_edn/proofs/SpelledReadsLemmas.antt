-- What is spelled so is read.
use Rattle.std.proofs.Common.{◌≡◌, ℕ, zero, suc, ◌<◌, ◌≤◌, ◌⊎◌, inl, inr, Bool, true, false, eqb, List, [], ◌∷◌, ◌++◌, length, get_or, Option, Some, Result, Ok, Err, refl, sym, ap, subst, ◌∙◌, arith}
use Rattle.std.specs.Prelude.{codes, not}
use Rattle.std.proofs.lemmas.Grind.{common_steps}
use Rattle.std.proofs.lemmas.Bool.{eqb-true, cases_Bool}
use Rattle.std.proofs.lemmas.List.{length-append}
use Rattle.jh_edn.specs.declared.syntax_error.SyntaxError.{SyntaxError}
use Rattle.jh_edn.specs.declared.syntax_error.SyntaxErrorKind.TheVariants.{BadToken}
use Rattle.jh_edn.specs.Edn.{Edn, nil, boolean, int, char, str, keyword, symbol, list, vector, mapping, set, tagged, Items, no_items, item, items_of, Members, members_of}
use Rattle.jh_edn.specs.Bytes.{line_feed, space, underscore, is_letter, open_paren, close_paren, quote, backslash, colon, open_bracket, close_bracket, open_brace, close_brace, semicolon, hash, underscore, line_feed, begins_discard, is_space, is_delimiter, is_token_byte, is_digit, is_symbol, is_first}
use Rattle.std.specs.List.{list_all}
use Rattle.jh_edn.specs.Spelling.{IsBody, is_name, is_symbol_name, is_tag, IsCharacter, BeginsNoToken, IsLine, EndsLine, BeginsWithGap, nothing, white, comment, discard, Inner, SpellsElements, SpellsFront, no_grammar, grammar_around, inside, items_of_members}
use Rattle.jh_edn.specs.Equality.{Differ, KeysDiffer}
use Rattle.jh_edn.specs.Reading.{◌>>=◌, sign_len, atom_of, constant_of, set_or_error, hash_element, repeats_element, Read, DeeperReads, text_after_blank, text_after_comment, element, gap_step, gap_turns, gap_in, items_step, items, deeper_reads, gap, read, pairs_of, repeats_key, map_or_error}
use Rattle.jh_edn.proofs.NumberLemmas.{and_both}
use Rattle.jh_edn.proofs.KeyLemmas.{no_key_twice, no_element_twice}
use Rattle.jh_edn.proofs.TokenReadsLemmas.{IsTokenOf, atom_complete, body_complete, character_complete, false_token, integer_token, items_list, keyword_token, list_of, nil_token, pairs_list, symbol_token_of, token_apart, token_before, true_token}

-- ---- what an element begins with

abbrev pub Closes : ℕ → Type 0
Closes close = (close ≡ close_paren) ⊎ ((close ≡ close_bracket) ⊎ (close ≡ close_brace))

-- no gap stands before this text
pub record Stands (s : List ℕ) : Type 0 where
  pub blank : text_after_blank s ≡ s
  pub kept : begins_discard s ≡ false

-- the text goes on with an element, and no closing bracket
pub record Starts (s : List ℕ) : Type 0 where
  pub first : ℕ
  pub rest : List ℕ
  pub is : s ≡ first ∷ rest
  pub stands : Stands s
  pub no_close : (close : ℕ) → Closes close → eqb first close ≡ false

pub nothing_stands : Stands []
unfolding begins_discard
nothing_stands = record { blank = refl; kept = refl }

unmarked : (c : ℕ) (s : List ℕ) → eqb c hash ≡ false → begins_discard (c ∷ s) ≡ false
unfolding begins_discard
unmarked c s h = rw h refl

stands_at : (c : ℕ) (s : List ℕ) → is_space c ≡ false → eqb c semicolon ≡ false → eqb c hash ≡ false → Stands (c ∷ s)
stands_at c s e f h = record { blank = rw (e, f) refl; kept = unmarked c s h }

starts_at : (c : ℕ) (s : List ℕ) → is_space c ≡ false → eqb c semicolon ≡ false → eqb c hash ≡ false → ((close : ℕ) → Closes close → eqb c close ≡ false) → Starts (c ∷ s)
starts_at c s e f h n = record { first = c; rest = s; is = refl; stands = stands_at c s e f h; no_close = n }

quote_space : is_space quote ≡ false
unfolding is_space
quote_space = refl

bracket_space : is_space open_bracket ≡ false
unfolding is_space
bracket_space = refl

brace_space : is_space open_brace ≡ false
unfolding is_space
brace_space = refl

paren_space : is_space open_paren ≡ false
unfolding is_space
paren_space = refl

backslash_space : is_space backslash ≡ false
unfolding is_space
backslash_space = refl

hash_space : is_space hash ≡ false
unfolding is_space
hash_space = refl

close_paren_space : is_space close_paren ≡ false
unfolding is_space
close_paren_space = refl

close_bracket_space : is_space close_bracket ≡ false
unfolding is_space
close_bracket_space = refl

close_brace_space : is_space close_brace ≡ false
unfolding is_space
close_brace_space = refl

close_stands : (close : ℕ) (s : List ℕ) → Closes close → Stands (close ∷ s)
close_stands close s (inl e) = rw e (stands_at close_paren s close_paren_space refl refl)
close_stands close s (inr (inl e)) = rw e (stands_at close_bracket s close_bracket_space refl refl)
close_stands close s (inr (inr e)) = rw e (stands_at close_brace s close_brace_space refl refl)

no_close_at : (c : ℕ) → eqb c close_paren ≡ false → eqb c close_bracket ≡ false → eqb c close_brace ≡ false → (close : ℕ) → Closes close → eqb c close ≡ false
no_close_at c d e f close (inl h) = rw h d
no_close_at c d e f close (inr (inl h)) = rw h e
no_close_at c d e f close (inr (inr h)) = rw h f

token_begins : (c : ℕ) → is_token_byte c ≡ true → (is_space c ≡ false) × (eqb c semicolon ≡ false) × (eqb c close_paren ≡ false) × (eqb c close_bracket ≡ false) × (eqb c close_brace ≡ false)
unfolding is_token_byte is_space is_delimiter
token_begins c h = (grind (arith, common_steps), grind (arith, common_steps), grind (arith, common_steps), grind (arith, common_steps), grind (arith, common_steps))

hash_no_atom : (s : List ℕ) → atom_of (hash ∷ s) ≡ Err BadToken
unfolding atom_of sign_len is_digit constant_of is_symbol_name is_name is_first is_symbol
hash_no_atom s = refl

unmarked_token : (x : Edn) (c : ℕ) (token : List ℕ) → atom_of (c ∷ token) ≡ Ok x → eqb c hash ≡ false
unmarked_token x c token h =
    elim (cases_Bool (eqb c hash)) [
      | inl e ↦
          let bad : Err BadToken ≡ Ok x = sym (hash_no_atom token) ∙ ap (λ n. atom_of (n ∷ token)) (sym (eqb-true c hash e)) ∙ h in
          absurd cc
      | inr e ↦ e
    ]

starts_token : (x : Edn) (token s : List ℕ) → IsTokenOf x token → Starts (token ++ s)
starts_token x [] s h = let k = h.some in absurd (omega arith)
starts_token x (c ∷ token) s h =
    let p = token_begins c (and_both (is_token_byte c) (list_all is_token_byte token) h.all).0 in
    starts_at c (token ++ s) p.0 p.1 (unmarked_token x c token h.reads) (no_close_at c p.2 p.3 p.4)

starts_hash : (c : ℕ) (s : List ℕ) → eqb c underscore ≡ false → Starts (hash ∷ c ∷ s)
unfolding begins_discard
starts_hash c s e = record {
  first = hash;
  rest = c ∷ s;
  is = refl;
  stands = record { blank = rw hash_space refl; kept = rw e refl };
  no_close = no_close_at hash refl refl refl;
}

-- ---- tags

letter_first : (tag : List ℕ) → is_tag tag ≡ true → is_letter (get_or tag 0 0) ≡ true
unfolding is_tag
letter_first tag h = (and_both (is_letter (get_or tag 0 0)) (is_symbol_name tag) h).0

tag_token : (tag : List ℕ) → is_tag tag ≡ true → IsTokenOf (symbol tag) tag
unfolding is_tag
tag_token tag h = symbol_token_of tag (and_both (is_letter (get_or tag 0 0)) (is_symbol_name tag) h).1

letter_is : (c : ℕ) → is_letter c ≡ true → (eqb c underscore ≡ false) × (eqb c open_brace ≡ false)
unfolding is_letter
letter_is c h = (grind (arith, common_steps), grind (arith, common_steps))

starts_tag : (tag more : List ℕ) → is_tag tag ≡ true → Starts (hash ∷ (tag ++ more))
starts_tag [] more h = let some = (tag_token [] h).some in absurd (omega arith)
starts_tag (c ∷ tag) more h = starts_hash c (tag ++ more) (letter_is c (letter_first (c ∷ tag) h)).0

tag_no_brace : (tag more : List ℕ) → is_tag tag ≡ true → eqb (get_or (tag ++ more) 0 0) open_brace ≡ false
tag_no_brace [] more h = let some = (tag_token [] h).some in absurd (omega arith)
tag_no_brace (c ∷ tag) more h = (letter_is c (letter_first (c ∷ tag) h)).1

-- ---- gaps

feed_blank : (s : List ℕ) → text_after_comment (line_feed ∷ s) ≡ text_after_blank (line_feed ∷ s)
unfolding is_space
feed_blank s = refl

not_false : (b : Bool) → not b ≡ true → b ≡ false
not_false true h = absurd cc
not_false false h = refl

after_line : (line more : List ℕ) → IsLine line → EndsLine more → text_after_comment (line ++ more) ≡ text_after_blank more
after_line [] [] h e = refl
after_line [] (c ∷ more) h e = rw e (feed_blank more)
after_line (c ∷ line) more h e =
    let both = and_both (not (eqb c line_feed)) (list_all (λ d. not (eqb d line_feed)) line) h in
    rw (not_false (eqb c line_feed) both.0) (after_line line more both.1 e)

-- reading one deeper reads what may stand there
pub record Ready (deep : DeeperReads) (inner : Inner) : Type 0 where
  pub elements : (close : ℕ) (begin s : List ℕ) (xs : Items) (r : List ℕ) → Closes close → SpellsElements inner xs s (close ∷ r) → deep.elements close begin s ≡ Ok (list_of xs, r)
  pub one : (begin s : List ℕ) (x : Edn) (r : List ℕ) → inner.next x s r → deep.one begin s ≡ Ok (x, r)
  pub next_shorter : (s : List ℕ) (x : Edn) (r : List ℕ) → inner.next x s r → length r < length s
  pub gap_shorter : (s r : List ℕ) → inner.gap s r → length r ≤ length s

eqb_self : (n : ℕ) → eqb n n ≡ true
eqb_self n = grind (arith, common_steps)

discard_begins : (s : List ℕ) → begins_discard (hash ∷ underscore ∷ s) ≡ true
unfolding begins_discard
discard_begins s = refl

discard_blank : (s : List ℕ) → text_after_blank (hash ∷ underscore ∷ s) ≡ hash ∷ underscore ∷ s
unfolding is_space
discard_blank s = refl

semicolon_space : is_space semicolon ≡ false
unfolding is_space
semicolon_space = refl

comment_blank : (s : List ℕ) → text_after_blank (semicolon ∷ s) ≡ text_after_comment s
comment_blank s = rw semicolon_space refl

white_blank : (c : ℕ) (s : List ℕ) → is_space c ≡ true → text_after_blank (c ∷ s) ≡ text_after_blank s
white_blank c s e = rw e refl

module _ (deep : DeeperReads) (inner : Inner) (ready : Ready deep inner) where
  gap_lessens : (s r : List ℕ) → BeginsWithGap inner.next s r → length r ≤ length s
  gap_lessens s r (nothing e) = rw e (omega arith)
  gap_lessens s r (white c more e space h) = omega (arith, ap length e, gap_lessens more r h)
  gap_lessens s r (comment line more e is_line ends h) = omega (arith, ap length e, length-append line more, gap_lessens more r h)
  gap_lessens s r (discard x more behind e h k) = omega (arith, ap length e, ready.next_shorter more x behind h, gap_lessens behind r k)

  -- another text with the same front of white space and comments is read alike
  turns_alike : (n : ℕ) (s t : List ℕ) → text_after_blank s ≡ text_after_blank t → gap_turns deep n s ≡ gap_turns deep n t
  unfolding gap_turns
  turns_alike zero s t e = refl
  turns_alike (suc n) s t e = ap (gap_step deep (gap_turns deep n)) e

  gap_turns-complete : (s r : List ℕ) → BeginsWithGap inner.next s r → Stands r → (n : ℕ) → length s < n → gap_turns deep n s ≡ Ok r
  unfolding gap_turns
  gap_turns-complete s r g at zero lt = absurd (omega arith)
  gap_turns-complete s r (nothing e) at (suc n) lt = rw (e, at.blank, at.kept) refl
  gap_turns-complete s r (white c more e space h) at (suc n) lt =
      turns_alike (suc n) s more (ap text_after_blank e ∙ white_blank c more space)
      ∙ gap_turns-complete more r h at (suc n) (omega (arith, ap length e))
  gap_turns-complete s r (comment line more e is_line ends h) at (suc n) lt =
      turns_alike (suc n) s more (ap text_after_blank e ∙ comment_blank (line ++ more) ∙ after_line line more is_line ends)
      ∙ gap_turns-complete more r h at (suc n) (omega (arith, ap length e, length-append line more))
  gap_turns-complete s r (discard x more behind e h k) at (suc n) lt =
      let below = gap_turns-complete behind r k at n (omega (arith, ap length e, ready.next_shorter more x behind h)) in
      ap (λ (w : List ℕ). gap_step deep (gap_turns deep n) (text_after_blank w)) e
      ∙ ap (gap_step deep (gap_turns deep n)) (discard_blank more)
      ∙ rw (discard_begins more, ready.one (hash ∷ underscore ∷ more) more x behind h) below

  gap_in-complete : (s r : List ℕ) → BeginsWithGap inner.next s r → Stands r → gap_in deep s ≡ Ok r
  gap_in-complete s r g at = gap_turns-complete s r g at (suc (length s)) (omega arith)

  -- ---- elements

  elements_lessen : (xs : Items) (s r : List ℕ) → SpellsElements inner xs s r → length r ≤ length s
  elements_lessen no_items s r h = ready.gap_shorter s r h
  elements_lessen (item x xs) s r h = omega (arith, ready.next_shorter s x h.0 h.1, elements_lessen xs h.0 r h.2)

  form_lessens : (x : Edn) (s r : List ℕ) → SpellsFront inner x s r → length r < length s
  form_lessens nil s r h = omega (arith, ap length h.2, length-append h.0 r, ap length h.1)
  form_lessens (boolean true) s r h = omega (arith, ap length h.2, length-append h.0 r, ap length h.1)
  form_lessens (boolean false) s r h = omega (arith, ap length h.2, length-append h.0 r, ap length h.1)
  form_lessens (char d) s r h = omega (arith, ap length h.2, length-append h.0 r)
  form_lessens (symbol name) s r h = omega (arith, ap length h.2, length-append h.0 r, ap length h.1.1, (symbol_token_of name h.1.0).some)
  form_lessens (list xs) s r h = omega (arith, ap length h.1, elements_lessen xs h.0 (close_paren ∷ r) h.2)
  form_lessens (set xs) s r h = omega (arith, ap length h.1, elements_lessen xs h.0 (close_brace ∷ r) h.2)
  form_lessens (tagged tag x) s r h = omega (arith, ap length h.2, length-append tag h.0, ready.next_shorter h.0 x r h.4)
  form_lessens (int z) s r h = omega (arith, ap length h.2, length-append h.0 r, (integer_token h.0 z h.1).some)
  form_lessens (str t) s r h = omega (arith, ap length h.2, length-append h.0 (quote ∷ r))
  form_lessens (keyword t) s r h = omega (arith, ap length h.2, length-append h.0 r, ap length h.1.1)
  form_lessens (vector xs) s r h = omega (arith, ap length h.1, elements_lessen xs h.0 (close_bracket ∷ r) h.2)
  form_lessens (mapping ms) s r h = omega (arith, ap length h.1, elements_lessen (items_of_members ms) h.0 (close_brace ∷ r) h.2)

  form_starts : (x : Edn) (s r : List ℕ) → SpellsFront inner x s r → Starts s
  form_starts nil s r h = rw (h.2, h.1) (starts_token nil (codes "nil") r nil_token)
  form_starts (boolean true) s r h = rw (h.2, h.1) (starts_token (boolean true) (codes "true") r true_token)
  form_starts (boolean false) s r h = rw (h.2, h.1) (starts_token (boolean false) (codes "false") r false_token)
  form_starts (char d) s r h = rw h.2 (starts_at backslash (h.0 ++ r) backslash_space refl refl (no_close_at backslash refl refl refl))
  form_starts (symbol name) s r h = rw (h.2, h.1.1) (starts_token (symbol name) name r (symbol_token_of name h.1.0))
  form_starts (list xs) s r h = rw h.1 (starts_at open_paren h.0 paren_space refl refl (no_close_at open_paren refl refl refl))
  form_starts (set xs) s r h = rw h.1 (starts_hash open_brace h.0 refl)
  form_starts (tagged tag x) s r h = rw h.2 (starts_tag tag h.0 h.1)
  form_starts (int z) s r h = rw h.2 (starts_token (int z) h.0 r (integer_token h.0 z h.1))
  form_starts (str t) s r h = rw h.2 (starts_at quote (h.0 ++ quote ∷ r) quote_space refl refl (no_close_at quote refl refl refl))
  form_starts (keyword t) s r h = rw (h.2, h.1.1) (starts_token (keyword t) (colon ∷ t) r (keyword_token t h.1.0))
  form_starts (vector xs) s r h = rw h.1 (starts_at open_bracket h.0 bracket_space refl refl (no_close_at open_bracket refl refl refl))
  form_starts (mapping ms) s r h = rw h.1 (starts_at open_brace h.0 brace_space refl refl (no_close_at open_brace refl refl refl))

  element_char : (d : ℕ) (name r : List ℕ) → IsCharacter d name → BeginsNoToken r → element deep (backslash ∷ (name ++ r)) ≡ Ok (char d, r)
  unfolding element
  element_char d name r h apart = character_complete d name r h apart

  element_token : (x : Edn) (token r : List ℕ) → IsTokenOf x token → BeginsNoToken r → element deep (token ++ r) ≡ Ok (x, r)
  unfolding element
  element_token x [] r h apart = let k = h.some in absurd (omega arith)
  element_token x (c ∷ token) r h apart =
      let first = (and_both (is_token_byte c) (list_all is_token_byte token) h.all).0 in
      let p = token_apart c first in
      let whole = atom_complete x (c ∷ token) r h apart in
      rw (p.0, p.1, p.2, p.3, p.4, unmarked_token x c token h.reads, first) whole

  element_string : (t b r : List ℕ) → IsBody t b → element deep (quote ∷ (b ++ quote ∷ r)) ≡ Ok (str t, r)
  unfolding element
  element_string t b r h = ap (λ (w : Result (List ℕ × List ℕ) SyntaxError). w >>= λ x. Ok (str x.0, x.1)) (body_complete t b r h)

  element_list : (xs : Items) (s r : List ℕ) → SpellsElements inner xs s (close_paren ∷ r) → element deep (open_paren ∷ s) ≡ Ok (list xs, r)
  unfolding element
  element_list xs s r h =
      ap (λ (w : Result (List Edn × List ℕ) SyntaxError). w >>= λ x. Ok (list (items_of x.0), x.1)) (ready.elements close_paren (open_paren ∷ s) s xs r (inl refl) h)
      ∙ ap (λ (w : Items). Ok (list w, r)) (items_list xs)

  element_vector : (xs : Items) (s r : List ℕ) → SpellsElements inner xs s (close_bracket ∷ r) → element deep (open_bracket ∷ s) ≡ Ok (vector xs, r)
  unfolding element
  element_vector xs s r h =
      ap (λ (w : Result (List Edn × List ℕ) SyntaxError). w >>= λ x. Ok (vector (items_of x.0), x.1)) (ready.elements close_bracket (open_bracket ∷ s) s xs r (inr (inl refl)) h)
      ∙ ap (λ (w : Items). Ok (vector w, r)) (items_list xs)

  element_map : (ms : Members) (s r : List ℕ) → KeysDiffer ms → SpellsElements inner (items_of_members ms) s (close_brace ∷ r) → element deep (open_brace ∷ s) ≡ Ok (mapping ms, r)
  unfolding element
  element_map ms s r differ h =
      let p = pairs_list ms in
      let unlike : repeats_key p.0 ≡ false = no_key_twice p.0 (subst KeysDiffer (sym p.2) differ) in
      let made : map_or_error (Some p.0) r ≡ Ok (mapping (members_of p.0), r) = rw unlike refl in
      ap (λ (w : Result (List Edn × List ℕ) SyntaxError). w >>= λ x. map_or_error (pairs_of x.0) x.1) (ready.elements close_brace (open_brace ∷ s) s (items_of_members ms) r (inr (inr refl)) h)
      ∙ ap (λ (w : Option (List (Edn × Edn))). map_or_error w r) p.1
      ∙ made
      ∙ ap (λ (w : Members). Ok (mapping w, r)) p.2

  hashed_set : (xs : Items) (s r : List ℕ) → Differ xs → SpellsElements inner xs s (close_brace ∷ r) → hash_element deep (hash ∷ open_brace ∷ s) ≡ Ok (set xs, r)
  unfolding hash_element
  hashed_set xs s r differ h =
      let ys = list_of xs in
      let unlike : repeats_element ys ≡ false = no_element_twice ys (subst Differ (sym (items_list xs)) differ) in
      let made : set_or_error ys r ≡ Ok (set (items_of ys), r) = rw unlike refl in
      ap (λ (w : Result (List Edn × List ℕ) SyntaxError). w >>= λ x. set_or_error x.0 x.1) (ready.elements close_brace (hash ∷ open_brace ∷ s) s xs r (inr (inr refl)) h)
      ∙ made
      ∙ ap (λ (w : Items). Ok (set w, r)) (items_list xs)

  hashed_tag : (tag : List ℕ) (x : Edn) (more r : List ℕ) → is_tag tag ≡ true → BeginsNoToken more → inner.next x more r → hash_element deep (hash ∷ (tag ++ more)) ≡ Ok (tagged tag x, r)
  unfolding hash_element
  hashed_tag tag x more r is apart h =
      let token = token_before tag more (tag_token tag is).all apart in
      let found : (deep.one (hash ∷ (tag ++ more)) more >>= λ w. Ok (tagged tag w.0, w.1)) ≡ Ok (tagged tag x, r) = rw (ready.one (hash ∷ (tag ++ more)) more x r h) refl in
      rw (tag_no_brace tag more is, token.0, token.1, is) found

  element_hash : (s : List ℕ) → element deep (hash ∷ s) ≡ hash_element deep (hash ∷ s)
  unfolding element
  element_hash s = refl

  form_complete : (x : Edn) (s r : List ℕ) → SpellsFront inner x s r → element deep s ≡ Ok (x, r)
  form_complete nil s r h = rw (h.2, h.1) (element_token nil (codes "nil") r nil_token h.3)
  form_complete (boolean true) s r h = rw (h.2, h.1) (element_token (boolean true) (codes "true") r true_token h.3)
  form_complete (boolean false) s r h = rw (h.2, h.1) (element_token (boolean false) (codes "false") r false_token h.3)
  form_complete (char d) s r h = rw h.2 (element_char d h.0 r h.1 h.3)
  form_complete (symbol name) s r h = rw (h.2, h.1.1) (element_token (symbol name) name r (symbol_token_of name h.1.0) h.3)
  form_complete (list xs) s r h = rw h.1 (element_list xs h.0 r h.2)
  form_complete (set xs) s r h = rw h.1 (element_hash (open_brace ∷ h.0) ∙ hashed_set xs h.0 r h.3 h.2)
  form_complete (tagged tag x) s r h = rw h.2 (element_hash (tag ++ h.0) ∙ hashed_tag tag x h.0 r h.1 h.3 h.4)
  form_complete (int z) s r h = rw h.2 (element_token (int z) h.0 r (integer_token h.0 z h.1) h.3)
  form_complete (str t) s r h = rw h.2 (element_string t h.0 r h.1)
  form_complete (keyword t) s r h = rw (h.2, h.1.1) (element_token (keyword t) (colon ∷ t) r (keyword_token t h.1.0) h.3)
  form_complete (vector xs) s r h = rw h.1 (element_vector xs h.0 r h.2)
  form_complete (mapping ms) s r h = rw h.1 (element_map ms h.0 r h.3 h.2)

  step_here : (close : ℕ) (more : Read (List Edn)) (c : ℕ) (s : List ℕ) (x : Edn) (after : List ℕ) (ys : List Edn) (r : List ℕ) → eqb c close ≡ false → element deep (c ∷ s) ≡ Ok (x, after) → more after ≡ Ok (ys, r)
      → items_step close (element deep) more (c ∷ s) ≡ Ok (x ∷ ys, r)
  step_here close more c s x after ys r e h k = rw (e, h, k) refl

  items_complete : (close : ℕ) → Closes close → (xs : Items) (n : ℕ) (s r : List ℕ) → SpellsElements (grammar_around inner) xs s (close ∷ r) → length s < n → items close (gap_in deep) (element deep) n s ≡ Ok (list_of xs, r)
  unfolding items list_of
  items_complete close is xs zero s r h lt = absurd (omega arith)
  items_complete close is no_items (suc n) s r h lt =
      let here = gap_in-complete s (close ∷ r) h (close_stands close r is) in
      ap (λ w. w >>= items_step close (element deep) (items close (gap_in deep) (element deep) n)) here ∙ rw (eqb_self close) refl
  items_complete close is (item x xs) (suc n) s r h lt =
      let at = h.1.0 in
      let begin = form_starts x at h.0 h.1.2 in
      let here = gap_in-complete s at h.1.1 begin.stands in
      let shorter : length h.0 < n = omega (arith, gap_lessens s at h.1.1, form_lessens x at h.0 h.1.2) in
      let below = items_complete close is xs n h.0 r h.2 shorter in
      let found : element deep (begin.first ∷ begin.rest) ≡ Ok (x, h.0) = ap (element deep) (sym begin.is) ∙ form_complete x at h.0 h.1.2 in
      ap (λ w. w >>= items_step close (element deep) (items close (gap_in deep) (element deep) n)) here
      ∙ ap (items_step close (element deep) (items close (gap_in deep) (element deep) n)) begin.is
      ∙ step_here close (items close (gap_in deep) (element deep) n) begin.first begin.rest x h.0 (list_of xs) r (begin.no_close close is) found below

  next_complete : (s : List ℕ) (x : Edn) (r : List ℕ) → (grammar_around inner).next x s r → (gap_in deep s >>= element deep) ≡ Ok (x, r)
  next_complete s x r h = ap (λ w. w >>= element deep) (gap_in-complete s h.0 h.1 (form_starts x h.0 r h.2).stands) ∙ form_complete x h.0 r h.2

  next_lessens : (s : List ℕ) (x : Edn) (r : List ℕ) → (grammar_around inner).next x s r → length r < length s
  next_lessens s x r h = omega (arith, gap_lessens s h.0 h.1, form_lessens x h.0 r h.2)

nothing_there : (xs : Items) (s r : List ℕ) → SpellsElements no_grammar xs s r → ⊥
nothing_there no_items s r h = h
nothing_there (item x xs) s r h = h.1

pub ready : (depth : ℕ) → Ready (deeper_reads depth) (inside depth)
unfolding deeper_reads inside
ready zero = record {
  elements = λ close begin s xs r is h. absurd (nothing_there xs s (close ∷ r) h);
  one = λ begin s x r h. absurd h;
  next_shorter = λ s x r h. absurd h;
  gap_shorter = λ s r h. absurd h;
}
ready (suc depth) =
    let below = ready depth in record {
      elements = λ close begin s xs r is h. items_complete (deeper_reads depth) (inside depth) below close is xs (suc (length s)) s r h (omega arith);
      one = λ begin s x r h. next_complete (deeper_reads depth) (inside depth) below s x r h;
      next_shorter = next_lessens (deeper_reads depth) (inside depth) below;
      gap_shorter = gap_lessens (deeper_reads depth) (inside depth) below;
    }

pub gap_complete : (depth : ℕ) (s r : List ℕ) → BeginsWithGap (inside depth).next s r → Stands r → gap depth s ≡ Ok r
gap_complete depth = gap_in-complete (deeper_reads depth) (inside depth) (ready depth)

pub read_complete : (depth : ℕ) (x : Edn) (s r : List ℕ) → SpellsFront (inside depth) x s r → read depth s ≡ Ok (x, r)
read_complete depth = form_complete (deeper_reads depth) (inside depth) (ready depth)

pub read_starts : (depth : ℕ) (x : Edn) (s r : List ℕ) → SpellsFront (inside depth) x s r → Starts s
read_starts depth = form_starts (deeper_reads depth) (inside depth) (ready depth)

pub gap_shorter : (depth : ℕ) (s r : List ℕ) → BeginsWithGap (inside depth).next s r → length r ≤ length s
gap_shorter depth = gap_lessens (deeper_reads depth) (inside depth) (ready depth)

pub form_shorter : (depth : ℕ) (x : Edn) (s r : List ℕ) → SpellsFront (inside depth) x s r → length r < length s
form_shorter depth = form_lessens (deeper_reads depth) (inside depth) (ready depth)
