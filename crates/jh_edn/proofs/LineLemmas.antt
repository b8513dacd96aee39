-- The values of a text, one more at a time.
use Rattle.std.proofs.Common.{◌≡◌, ℕ, suc, ◌+◌, ◌-◌, ◌<◌, ◌==◌, true, false, List, [], ◌∷◌, ◌++◌, length, refl, sym, ap, ◌∙◌, append-nil, append_assoc, arith, Ok, Err}
use Rattle.std.specs.Prelude.{Result}
use Rattle.jh_edn.specs.declared.syntax_error.SyntaxError.{SyntaxError}
use Rattle.jh_edn.specs.declared.syntax_error.ReadError.{ReadError}
use Rattle.jh_edn.specs.declared.syntax_error.ReadError.TheVariants as errors
use Rattle.jh_edn.specs.Edn.{Edn}
use Rattle.jh_edn.specs.Reading.{◌>>=◌, gap, read}
use Rattle.jh_edn.specs.Spelling.{depth_limit}
use Rattle.jh_edn.specs.Gives.{Fails}
use Rattle.jh_edn.specs.Lines.{with_first, values_behind, values_from, values_in}

-- these stand before those that follow
abbrev pub with_front : List Edn → Result (List Edn) SyntaxError → Result (List Edn) SyntaxError
with_front front more = more >>= λ xs. Ok (front ++ xs)

front_first : (front : List Edn) (x : Edn) (more : Result (List Edn) SyntaxError) → with_front front (with_first x more) ≡ with_front (front ++ x ∷ []) more
front_first front x (Ok xs) = ap (λ l. Ok l) (sym (append_assoc front (x ∷ []) xs))
front_first front x (Err e) = refl

module _ (at most : ℕ) (front : List Edn) (left all : List ℕ) (room : at < most) (rest : with_front front (values_from (most - at) left) ≡ values_in all) where
  -- one value at most is read here
  here_on : with_front front (gap depth_limit left >>= values_behind (values_from (most - (at + 1)))) ≡ values_in all
  here_on =
      let more : suc (most - (at + 1)) ≡ most - at = omega arith in
      ap (λ n. with_front front (values_from n left)) more ∙ rest

  pub gap_fails : (e : ReadError) → Fails e (gap depth_limit left) → Fails e (values_in all)
  gap_fails errors.Memory h = tt
  gap_fails (errors.Syntax f) h = sym here_on ∙ ap (λ r. with_front front (r >>= values_behind (values_from (most - (at + 1))))) h

  module _ (here : List ℕ) (gone : gap depth_limit left ≡ Ok here) where
    behind : with_front front (values_behind (values_from (most - (at + 1))) here) ≡ values_in all
    behind = ap (λ r. with_front front (r >>= values_behind (values_from (most - (at + 1))))) (sym gone) ∙ here_on

    pub ends_here : here ≡ [] → values_in all ≡ Ok front
    ends_here none =
        sym behind ∙ ap (λ s. with_front front (values_behind (values_from (most - (at + 1))) s)) none ∙ ap (λ l. Ok l) (append-nil front)

  behind_some : (c : ℕ) (s : List ℕ) → gap depth_limit left ≡ Ok (c ∷ s)
      → with_front front (read depth_limit (c ∷ s) >>= λ x. with_first x.0 (values_from (most - (at + 1)) x.1)) ≡ values_in all
  behind_some c s gone = behind (c ∷ s) gone

  pub value_fails : (here : List ℕ) (e : ReadError) → gap depth_limit left ≡ Ok here → (here ≡ [] → ⊥) → Fails e (read depth_limit here) → Fails e (values_in all)
  value_fails [] e gone some h = absurd (some refl)
  value_fails (c ∷ s) errors.Memory gone some h = tt
  value_fails (c ∷ s) (errors.Syntax f) gone some h =
      sym (behind_some c s gone) ∙ ap (λ r. with_front front (r >>= λ x. with_first x.0 (values_from (most - (at + 1)) x.1))) h

  pub value_on : (here : List ℕ) (x : Edn) (after : List ℕ) → gap depth_limit left ≡ Ok here → (here ≡ [] → ⊥) → read depth_limit here ≡ Ok (x, after)
      → with_front (front ++ x ∷ []) (values_from (most - (at + 1)) after) ≡ values_in all
  value_on [] x after gone some h = absurd (some refl)
  value_on (c ∷ s) x after gone some h =
      sym (front_first front x (values_from (most - (at + 1)) after))
      ∙ ap (λ r. with_front front (r >>= λ y. with_first y.0 (values_from (most - (at + 1)) y.1))) (sym h) ∙ behind_some c s gone

pub empty_of : (s : List ℕ) → true ≡ (length s == 0) → s ≡ []
empty_of [] h = refl
empty_of (c ∷ s) h = absurd (grind (arith, h))

pub some_of : (s : List ℕ) → false ≡ (length s == 0) → s ≡ [] → ⊥
some_of s h e = let none : length s ≡ 0 = ap length e in grind (arith, h, none)

pub value_next : (at most : ℕ) (front new : List Edn) (left all : List ℕ) → at < most → with_front front (values_from (most - at) left) ≡ values_in all
    → (here : List ℕ) (x : Edn) (after : List ℕ) → gap depth_limit left ≡ Ok here → (here ≡ [] → ⊥) → read depth_limit here ≡ Ok (x, after)
    → new ≡ front ++ x ∷ [] → with_front new (values_from (most - (at + 1)) after) ≡ values_in all
value_next at most front new left all room rest here x after gone some h pushed =
    ap (λ f. with_front f (values_from (most - (at + 1)) after)) pushed ∙ value_on at most front left all room rest here x after gone some h
