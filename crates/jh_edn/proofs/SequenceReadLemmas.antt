-- A list or a vector is read by its elements.
use Rattle.std.proofs.Common.{◌≡◌, ℕ, ◌<◌, cond, eqb, List, [], ◌∷◌, ◌++◌, length, drop, get_or, Some, None, Ok, inl, inr, refl, sym, ap, subst, ◌∙◌, append_assoc, arith}
use Rattle.std.proofs.lemmas.Bool.{eqb-true}
use Rattle.std.specs.Str.{IsUtf8, IsCharBoundary}
use Rattle.std.proofs.lemmas.Str.{IsCharBoundary-after_ascii}
use Rattle.jh_edn.specs.declared.syntax_error.ReadError.{ReadError}
use Rattle.jh_edn.specs.declared.syntax_error.ReadError.TheVariants as errors
use Rattle.jh_edn.specs.Edn.{Edn, nil, boolean, int, char, str, keyword, symbol, list, vector, mapping, set, tagged, items_of, elements_of}
use Rattle.jh_edn.specs.Bytes.{IsAscii, open_paren, close_paren, open_bracket, close_bracket}
use Rattle.jh_edn.specs.Gives.{Fails}
use Rattle.jh_edn.specs.Reading.{◌>>=◌, gap, read, element}
use Rattle.jh_edn.specs.Sequences.{closing_bracket, elements_to, Takes, ReadsNoSequence}
use Rattle.jh_edn.specs.Spelling.{Inner, SpellsFront, inside, depth_limit, whole}
use Rattle.jh_edn.proofs.ElementLoopLemmas.{elements_below, gap_shorter, read_shorter}
use Rattle.jh_edn.proofs.SequenceLemmas.{list_of-items_of}
use Rattle.jh_edn.proofs.ReadTokenLemmas.{chosen, ok_is}
use Rattle.jh_edn.proofs.ReadAtLemmas.{next_gap, next_sound}

pub takes_more : (Had Has Then : List Edn → Type 0) (xs ys : List Edn) → Takes Had Has xs → Takes Has Then ys → Takes Had Then (xs ++ ys)
takes_more Had Has Then xs ys h k = λ before had. subst Then (append_assoc before xs ys) (k (before ++ xs) (h before had))

-- ---- the brackets of lists and of vectors

-- what is so at the bracket of a list and at that of a vector
by_bracket : (P : List ℕ → ℕ → Type 0) → ((s : List ℕ) → P (open_paren ∷ s) close_paren) → ((s : List ℕ) → P (open_bracket ∷ s) close_bracket)
    → (here : List ℕ) (close : ℕ) → closing_bracket here ≡ Some close → P here close
by_bracket P of_list of_vector [] close e = absurd cc
by_bracket P of_list of_vector (c ∷ s) close e =
    elim (chosen (eqb c open_paren) (Some close_paren) (cond (eqb c open_bracket) (Some close_bracket) None) (Some close) e) [
      | inl p ↦
          let is : close_paren ≡ close = let same = p.1 in cc in
          subst (λ (k : ℕ). P (k ∷ s) close) (sym (eqb-true c open_paren p.0)) (subst (P (open_paren ∷ s)) is (of_list s))
      | inr p ↦
          elim (chosen (eqb c open_bracket) (Some close_bracket) None (Some close) p.1) [
            | inl q ↦
                let is : close_bracket ≡ close = let same = q.1 in cc in
                subst (λ (k : ℕ). P (k ∷ s) close) (sym (eqb-true c open_bracket q.0)) (subst (P (open_bracket ∷ s)) is (of_vector s))
            | inr q ↦ absurd (let bad = q.1 in cc)
          ]
    ]

-- what stands first where a list or a vector begins
pub record Opens (here : List ℕ) (close : ℕ) : Type 0 where
  pub ascii : IsAscii close
  pub some : 0 < length here
  pub first : get_or here 0 0 < 128

pub opens : (here : List ℕ) (close : ℕ) → closing_bracket here ≡ Some close → Opens here close
opens =
    by_bracket Opens
    (λ s. record { ascii = omega arith; some = omega arith; first = omega arith })
    (λ s. record { ascii = omega arith; some = omega arith; first = omega arith })

pub behind_bracket : (here : List ℕ) (close : ℕ) → IsUtf8 here → closing_bracket here ≡ Some close → IsCharBoundary here 1
behind_bracket here close utf8 e =
    let o = opens here close e in
    IsCharBoundary-after_ascii here 0 utf8 o.some o.first

-- what is read from a bracket on: the value of its elements
record IsSequence (here : List ℕ) (close : ℕ) : Type 0 where
  pub of : List Edn → Edn
  pub elements : (xs : List Edn) → elements_of (of xs) ≡ Some xs
  pub is_read : read depth_limit here ≡ (elements_to close (drop 1 here) >>= λ x. Ok (of x.0, x.1))

list_read : (s : List ℕ) → read depth_limit (open_paren ∷ s) ≡ (elements_to close_paren s >>= λ x. Ok (list (items_of x.0), x.1))
unfolding element
list_read s = ap (λ w. w >>= λ x. Ok (list (items_of x.0), x.1)) (elements_below depth_limit close_paren (open_paren ∷ s) s (omega arith))

vector_read : (s : List ℕ) → read depth_limit (open_bracket ∷ s) ≡ (elements_to close_bracket s >>= λ x. Ok (vector (items_of x.0), x.1))
unfolding element
vector_read s = ap (λ w. w >>= λ x. Ok (vector (items_of x.0), x.1)) (elements_below depth_limit close_bracket (open_bracket ∷ s) s (omega arith))

is_sequence : (here : List ℕ) (close : ℕ) → closing_bracket here ≡ Some close → IsSequence here close
is_sequence =
    by_bracket IsSequence
    (λ s. record { of = λ xs. list (items_of xs); elements = λ xs. ap Some (list_of-items_of xs); is_read = list_read s })
    (λ s. record { of = λ xs. vector (items_of xs); elements = λ xs. ap Some (list_of-items_of xs); is_read = vector_read s })

sequence_read : (here : List ℕ) (close : ℕ) (xs : List Edn) (after : List ℕ) → closing_bracket here ≡ Some close → elements_to close (drop 1 here) ≡ Ok (xs, after)
    → (x : Edn) × (elements_of x ≡ Some xs) × (read depth_limit here ≡ Ok (x, after))
sequence_read here close xs after e h =
    let s = is_sequence here close e in
    (s.of xs, s.elements xs, s.is_read ∙ ap (λ w. w >>= λ x. Ok (s.of x.0, x.1)) h)

pub sequence_next : (s here : List ℕ) (close : ℕ) (xs : List Edn) (after : List ℕ) → gap depth_limit s ≡ Ok here → closing_bracket here ≡ Some close → elements_to close (drop 1 here) ≡ Ok (xs, after)
    → (x : Edn) × (elements_of x ≡ Some xs) × whole.next x s after × (length after < length s)
sequence_next s here close xs after e some h =
    let q = sequence_read here close xs after some h in
    (q.0, q.1, next_sound s here q.0 after e q.2, omega (arith, gap_shorter depth_limit s here e, read_shorter depth_limit here q.0 after q.2))

pub sequence_error : (here : List ℕ) (close : ℕ) (e : ReadError) → closing_bracket here ≡ Some close → Fails e (elements_to close (drop 1 here)) → Fails e (read depth_limit here)
sequence_error here close errors.Memory is h = tt
sequence_error here close (errors.Syntax f) is h =
    let s = is_sequence here close is in
    s.is_read ∙ ap (λ w. w >>= λ x. Ok (s.of x.0, x.1)) h

-- ---- no list and no vector

bare : (here more : List ℕ) (c close : ℕ) → closing_bracket here ≡ None → here ≡ c ∷ more → closing_bracket (c ∷ more) ≡ Some close → ⊥
bare here more c close none is some = let bad : None ≡ Some close = sym none ∙ ap closing_bracket is ∙ some in cc

other_form : (inner : Inner) (here : List ℕ) → closing_bracket here ≡ None → (x : Edn) (r : List ℕ) → SpellsFront inner x here r → elements_of x ≡ None
other_form inner here none (list xs) r h = absurd (bare here h.0 open_paren close_paren none h.1 refl)
other_form inner here none (vector xs) r h = absurd (bare here h.0 open_bracket close_bracket none h.1 refl)
other_form inner here none nil r h = refl
other_form inner here none (boolean b) r h = refl
other_form inner here none (int z) r h = refl
other_form inner here none (char d) r h = refl
other_form inner here none (str t) r h = refl
other_form inner here none (keyword name) r h = refl
other_form inner here none (symbol name) r h = refl
other_form inner here none (mapping ms) r h = refl
other_form inner here none (set xs) r h = refl
other_form inner here none (tagged tag x) r h = refl

pub reads_none : (text : List ℕ) (at : ℕ) (here : List ℕ) → gap depth_limit (drop at text) ≡ Ok here → closing_bracket here ≡ None → ReadsNoSequence text at
reads_none text at here e none = λ x end h.
    let same : h.1.0 ≡ here = ok_is h.1.0 here (sym (next_gap (drop at text) x (drop end text) h.1) ∙ e) in
    other_form (inside depth_limit) here none x (drop end text) (subst (λ (w : List ℕ). SpellsFront (inside depth_limit) x w (drop end text)) same h.1.2)
