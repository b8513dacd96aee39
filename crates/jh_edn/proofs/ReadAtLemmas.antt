-- Reading at a place of a text.
use Rattle.std.proofs.Common.{◌≡◌, ℕ, zero, suc, ◌-◌, ◌≤◌, ◌⊎◌, inl, inr, true, false, List, [], ◌∷◌, ◌++◌, length, take, drop, Ok, Err, refl, sym, ap, subst, ◌∙◌, append_assoc, arith}
use Rattle.std.proofs.lemmas.List.{take-append-drop, length-append, drop_at}
use Rattle.std.specs.Prelude.{◌≢◌}
use Rattle.std.specs.Str.{IsUtf8, IsCharBoundary}
use Rattle.std.proofs.lemmas.Str.{IsCharBoundary-at_seam}
use Rattle.jh_edn.specs.declared.error.EdnError.TheVariants.{OutOfMemory}
use Rattle.jh_edn.specs.declared.syntax_error.SyntaxError.{SyntaxError}
use Rattle.jh_edn.specs.declared.syntax_error.ReadError.{ReadError}
use Rattle.jh_edn.specs.declared.syntax_error.ReadError.TheVariants as errors
use Rattle.jh_edn.specs.Edn.{Edn, nil, boolean, int, char, str, keyword, symbol, list, vector, mapping, set, tagged, Items, no_items, item}
use Rattle.jh_edn.specs.Bytes.{backslash, open_paren, close_paren, quote, semicolon, hash, underscore, open_bracket, close_bracket, open_brace, close_brace}
use Rattle.jh_edn.specs.Gives.{Fails}
use Rattle.jh_edn.specs.Spelling.{BeginsWithGap, nothing, white, comment, discard, Inner, SpellsElements, SpellsFront, items_of_members, grammar_around, inside, depth_limit, whole, IsGap, Reads, NothingReads}
use Rattle.jh_edn.specs.Reading.{gap, read, next, error_in, IsFirstErrorAt}
use Rattle.jh_edn.proofs.ReadTokenLemmas.{done, ok_is, err_not}
use Rattle.jh_edn.proofs.ReadSpelledLemmas.{gap_sound, read_sound}
use Rattle.jh_edn.proofs.SpelledReadsLemmas.{gap_complete, nothing_stands, read_complete, read_starts}

-- ---- what stands behind is an end of the text

abbrev pub EndsIn : List ℕ → List ℕ → Type 0
EndsIn s r = (front : List ℕ) × (s ≡ front ++ r)

ends_further : (s m r : List ℕ) → EndsIn s m → EndsIn m r → EndsIn s r
ends_further s m r h k = (h.0 ++ k.0, h.1 ∙ ap (λ (w : List ℕ). h.0 ++ w) k.1 ∙ sym (append_assoc h.0 k.0 r))

ends_behind : (front s m r : List ℕ) → s ≡ front ++ m → EndsIn m r → EndsIn s r
ends_behind front s m r e k = ends_further s m r (front, e) k

without : (c : ℕ) (m r : List ℕ) → EndsIn m (c ∷ r) → EndsIn m r
without c m r h = (h.0 ++ c ∷ [], h.1 ∙ sym (append_assoc h.0 (c ∷ []) r))

record Ending (inner : Inner) : Type 0 where
  pub gap : (s r : List ℕ) → inner.gap s r → EndsIn s r
  pub next : (s : List ℕ) (x : Edn) (r : List ℕ) → inner.next x s r → EndsIn s r

module _ (inner : Inner) (ending : Ending inner) where
  gap_ending : (s r : List ℕ) → BeginsWithGap inner.next s r → EndsIn s r
  gap_ending s r (nothing e) = ([], e)
  gap_ending s r (white c more e space h) = ends_behind (c ∷ []) s more r e (gap_ending more r h)
  gap_ending s r (comment line more e is_line ends h) = ends_behind (semicolon ∷ line) s more r e (gap_ending more r h)
  gap_ending s r (discard x more behind e h k) =
      ends_behind (hash ∷ underscore ∷ []) s more r e (ends_further more behind r (ending.next more x behind h) (gap_ending behind r k))

  elements_ending : (xs : Items) (s r : List ℕ) → SpellsElements inner xs s r → EndsIn s r
  elements_ending no_items s r h = ending.gap s r h
  elements_ending (item x xs) s r h = ends_further s h.0 r (ending.next s x h.0 h.1) (elements_ending xs h.0 r h.2)

  form_ending : (x : Edn) (s r : List ℕ) → SpellsFront inner x s r → EndsIn s r
  form_ending nil s r h = (h.0, h.2)
  form_ending (boolean true) s r h = (h.0, h.2)
  form_ending (boolean false) s r h = (h.0, h.2)
  form_ending (char d) s r h = (backslash ∷ h.0, h.2)
  form_ending (symbol name) s r h = (h.0, h.2)
  form_ending (list xs) s r h = ends_behind (open_paren ∷ []) s h.0 r h.1 (without close_paren h.0 r (elements_ending xs h.0 (close_paren ∷ r) h.2))
  form_ending (set xs) s r h = ends_behind (hash ∷ open_brace ∷ []) s h.0 r h.1 (without close_brace h.0 r (elements_ending xs h.0 (close_brace ∷ r) h.2))
  form_ending (tagged tag x) s r h = ends_behind (hash ∷ tag) s h.0 r h.2 (ending.next h.0 x r h.4)
  form_ending (int z) s r h = (h.0, h.2)
  form_ending (str t) s r h = (quote ∷ (h.0 ++ quote ∷ []), h.2 ∙ ap (λ (w : List ℕ). quote ∷ w) (sym (append_assoc h.0 (quote ∷ []) r)))
  form_ending (keyword t) s r h = (h.0, h.2)
  form_ending (vector xs) s r h = ends_behind (open_bracket ∷ []) s h.0 r h.1 (without close_bracket h.0 r (elements_ending xs h.0 (close_bracket ∷ r) h.2))
  form_ending (mapping ms) s r h = ends_behind (open_brace ∷ []) s h.0 r h.1 (without close_brace h.0 r (elements_ending (items_of_members ms) h.0 (close_brace ∷ r) h.2))

  next_ending : (s : List ℕ) (x : Edn) (r : List ℕ) → (grammar_around inner).next x s r → EndsIn s r
  next_ending s x r h = ends_further s h.0 r (gap_ending s h.0 h.1) (form_ending x h.0 r h.2)

ending : (depth : ℕ) → Ending (inside depth)
unfolding inside
ending zero = record { gap = λ s r h. absurd h; next = λ s x r h. absurd h }
ending (suc depth) = let below = ending depth in record { gap = gap_ending (inside depth) below; next = next_ending (inside depth) below }

pub whole_ending : (s : List ℕ) (x : Edn) (r : List ℕ) → whole.next x s r → EndsIn s r
whole_ending = next_ending (inside depth_limit) (ending depth_limit)

-- ---- reading the next element

pub next_sound : (s here : List ℕ) (x : Edn) (r : List ℕ) → gap depth_limit s ≡ Ok here → read depth_limit here ≡ Ok (x, r) → whole.next x s r
next_sound s here x r e f = (here, gap_sound depth_limit s here e, read_sound depth_limit here x r f)

pub next_gap : (s : List ℕ) (x : Edn) (r : List ℕ) → (h : whole.next x s r) → gap depth_limit s ≡ Ok h.0
next_gap s x r h = gap_complete depth_limit s h.0 h.1 (read_starts depth_limit x h.0 r h.2).stands

pub next_complete : (s : List ℕ) (x : Edn) (r : List ℕ) → whole.next x s r → next depth_limit s ≡ Ok (x, r)
next_complete s x r h = rw (next_gap s x r h) (read_complete depth_limit x h.0 r h.2)

-- no text is a gap, or an element behind one, in two ways
pub one_next : (s : List ℕ) (x y : Edn) (r t : List ℕ) → whole.next x s r → whole.next y s t → (x ≡ y) × (r ≡ t)
one_next s x y r t h k =
    let same : done (x, r) ≡ done (y, t) = sym (next_complete s x r h) ∙ next_complete s y t k in
    let p = ok_is (x, r) (y, t) same in
    (ap (λ (q : Edn × List ℕ). q.0) p, ap (λ (q : Edn × List ℕ). q.1) p)

pub gap_whole : (s here : List ℕ) → gap depth_limit s ≡ Ok here → length here ≡ 0 → IsGap s
gap_whole s [] e n = gap_sound depth_limit s [] e
gap_whole s (c ∷ here) e n = absurd (omega arith)

pub gap_again : (s : List ℕ) → IsGap s → gap depth_limit s ≡ Ok []
gap_again s h = gap_complete depth_limit s [] h nothing_stands

pub no_gap : (s : List ℕ) (x : Edn) (r : List ℕ) → whole.next x s r → IsGap s → ⊥
no_gap s x r h g =
    let begin = read_starts depth_limit x h.0 r h.2 in
    let same : [] ≡ h.0 = ok_is [] h.0 (sym (gap_again s g) ∙ next_gap s x r h) in
    omega (arith, ap length same, ap length begin.is)

-- ---- places in a text

-- where an end of the text begins
pub record Place (text : List ℕ) (rest : List ℕ) : Type 0 where
  pub within : length rest ≤ length text
  pub rest_is : drop (length text - length rest) text ≡ rest
  pub seam : IsUtf8 rest → IsCharBoundary text (length text - length rest)

pub place : (text : List ℕ) (at : ℕ) (rest : List ℕ) → EndsIn (drop at text) rest → Place text rest
place text at rest h =
    let front = take at text ++ h.0 in
    let parts : text ≡ front ++ rest = sym (take-append-drop at text) ∙ ap (λ (w : List ℕ). take at text ++ w) h.1 ∙ sym (append_assoc (take at text) h.0 rest) in
    let k : length front ≡ length text - length rest = omega (arith, ap length parts, length-append front rest) in
    record {
      within = omega (arith, ap length parts, length-append front rest);
      rest_is = ap (λ n. drop n text) (sym k) ∙ ap (drop (length front)) parts ∙ drop_at front rest (length front) refl;
      seam = λ utf8. subst (IsCharBoundary text) k (IsCharBoundary-at_seam text front rest parts utf8);
    }

pub made : (text : List ℕ) (at : ℕ) (x : Edn) (rest : List ℕ) → whole.next x (drop at text) rest → Reads text at x (length text - length rest)
made text at x rest h =
    let p = place text at rest (whole_ending (drop at text) x rest h) in
    (omega arith, subst (λ (w : List ℕ). whole.next x (drop at text) w) (sym p.rest_is) h)

pub refused : (text : List ℕ) (at : ℕ) (f : SyntaxError) → next depth_limit (drop at text) ≡ Err f → (gap depth_limit (drop at text) ≡ Ok [] → ⊥) → NothingReads text at
refused text at f e left = (
  λ g. left (gap_again (drop at text) g),
  λ x end h. err_not f (x, drop end text) (sym e ∙ next_complete (drop at text) x (drop end text) h.1),
)

pub refused_or : (text : List ℕ) (at : ℕ) (e : ReadError) → Fails e (next depth_limit (drop at text)) → (gap depth_limit (drop at text) ≡ Ok [] → ⊥) → (error_in text e ≡ OutOfMemory) ⊎ NothingReads text at
refused_or text at errors.Memory h left = inl refl
refused_or text at (errors.Syntax f) h left = inr (refused text at f h left)

pub refused_gap : (text : List ℕ) (at : ℕ) (e : ReadError) → Fails e (gap depth_limit (drop at text)) → (error_in text e ≡ OutOfMemory) ⊎ NothingReads text at
refused_gap text at errors.Memory h = inl refl
refused_gap text at (errors.Syntax f) h = inr (refused text at f (rw h refl) (λ g. err_not f [] (sym h ∙ g)))

pub first_or : (text : List ℕ) (at : ℕ) (e : ReadError) → Fails e (next depth_limit (drop at text)) → (error_in text e ≡ OutOfMemory) ⊎ IsFirstErrorAt text at (error_in text e)
first_or text at errors.Memory h = inl refl
first_or text at (errors.Syntax f) h = inr (record { found = f; is_first = h; is = refl })

-- an error in the gap before the element is the element's
pub gap_error : (s : List ℕ) (e : ReadError) → Fails e (gap depth_limit s) → Fails e (next depth_limit s)
gap_error s errors.Memory h = tt
gap_error s (errors.Syntax f) h = rw h refl

pub read_error : (s here : List ℕ) (e : ReadError) → gap depth_limit s ≡ Ok here → Fails e (read depth_limit here) → Fails e (next depth_limit s)
read_error s here errors.Memory g h = tt
read_error s here (errors.Syntax f) g h = rw g h

pub not_at_end : (s here : List ℕ) → gap depth_limit s ≡ Ok here → length here ≢ 0 → gap depth_limit s ≡ Ok [] → ⊥
not_at_end s here e n g = n (ap length (ok_is here [] (sym e ∙ g)))
