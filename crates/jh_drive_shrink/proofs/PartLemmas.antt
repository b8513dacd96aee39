-- What stands at some places of a list.
use Rattle.std.proofs.Common.{◌≡◌, ◌≢◌, ◌<◌, ◌≤◌, ◌+◌, ◌==◌, ◌∙◌, inl, inr, ℕ, zero, suc, true, false, cond, List, [], ◌∷◌, ◌++◌, length, get_or, drop, refl, sym, ap, append_assoc, arith, eq-eqb}
use Rattle.std.proofs.lemmas.Bool.{cases_lt}
use Rattle.std.proofs.lemmas.Bool.Decides.{eqb_tells}
use Rattle.std.proofs.lemmas.List.{drop_all, drop_more}
use Rattle.std.proofs.lemmas.List.Elements.{All-cons, All-tail, All-head, All-nil}
use Rattle.std.specs.List.{All, range_with_len, remove}
use Rattle.jh_shrink.specs.Shrunk.{IsSubsequence}
use Rattle.jh_drive_shrink.specs.PartsInside.{standing_at}

module _ {X : Type 0} where
  -- none are named
  pub standing_none : (place : ℕ) (xs : List X) → standing_at place xs [] ≡ []
  standing_none place [] = refl
  standing_none place (x ∷ xs) = refl

  -- the first is named
  pub standing_first : (place : ℕ) (x : X) (xs : List X) (p : ℕ) (ps : List ℕ) → p ≡ place → standing_at place (x ∷ xs) (p ∷ ps) ≡ x ∷ standing_at (place + 1) xs ps
  standing_first place x xs p ps same = ap (λ b. cond b (x ∷ standing_at (place + 1) xs ps) (standing_at (place + 1) xs (p ∷ ps))) (eq-eqb p place same)

  -- the first is not
  pub standing_later : (place : ℕ) (x : X) (xs : List X) (p : ℕ) (ps : List ℕ) → (p == place) ≡ false → standing_at place (x ∷ xs) (p ∷ ps) ≡ standing_at (place + 1) xs (p ∷ ps)
  standing_later place x xs p ps other = ap (λ b. cond b (x ∷ standing_at (place + 1) xs ps) (standing_at (place + 1) xs (p ∷ ps))) other

  sub_later : (xs : List X) (y : X) (ys : List X) → IsSubsequence xs ys → IsSubsequence xs (y ∷ ys)
  sub_later [] y ys s = tt
  sub_later (x ∷ xs) y ys s = inr s

  pub standing_is_part : (place : ℕ) (xs : List X) (ps : List ℕ) → IsSubsequence (standing_at place xs ps) xs
  standing_is_part place [] ps = tt
  standing_is_part place (x ∷ xs) [] = tt
  standing_is_part place (x ∷ xs) (p ∷ ps) =
      elim (p == place) as (λ b. IsSubsequence (cond b (x ∷ standing_at (place + 1) xs ps) (standing_at (place + 1) xs (p ∷ ps))) (x ∷ xs)) [
        | true ↦ inl (refl, standing_is_part (place + 1) xs ps)
        | false ↦ sub_later (standing_at (place + 1) xs (p ∷ ps)) x xs (standing_is_part (place + 1) xs (p ∷ ps))
      ]

  pub standing_few : (place : ℕ) (xs : List X) (ps : List ℕ) → length (standing_at place xs ps) ≤ length ps
  standing_few place [] ps = omega arith
  standing_few place (x ∷ xs) [] = omega arith
  standing_few place (x ∷ xs) (p ∷ ps) =
      elim (p == place) as (λ b. length (cond b (x ∷ standing_at (place + 1) xs ps) (standing_at (place + 1) xs (p ∷ ps))) ≤ length (p ∷ ps)) [
        | true ↦ omega (arith, standing_few (place + 1) xs ps)
        | false ↦ standing_few (place + 1) xs (p ∷ ps)
      ]

  pub standing_all : (P : X → Type 0) (place : ℕ) (xs : List X) (ps : List ℕ) → All P xs → All P (standing_at place xs ps)
  standing_all P place [] ps all = All-nil P
  standing_all P place (x ∷ xs) [] all = All-nil P
  standing_all P place (x ∷ xs) (p ∷ ps) all =
      elim (p == place) as (λ b. All P (cond b (x ∷ standing_at (place + 1) xs ps) (standing_at (place + 1) xs (p ∷ ps)))) [
        | true ↦ All-cons P x (standing_at (place + 1) xs ps) (All-head P x xs all) (standing_all P (place + 1) xs ps (All-tail P x xs all))
        | false ↦ standing_all P (place + 1) xs (p ∷ ps) (All-tail P x xs all)
      ]

-- ---- places that are a part of all

-- the places from one on are not below it
head_from : (low n p : ℕ) (ps : List ℕ) → IsSubsequence (p ∷ ps) (range_with_len low n) → low ≤ p
head_from low zero p ps sub = absurd sub
head_from low (suc n) p ps (inl it) = omega (arith, it.0)
head_from low (suc n) p ps (inr it) = omega (arith, head_from (low + 1) n p ps it)

not_here : (place n p : ℕ) (ps : List ℕ) → IsSubsequence (p ∷ ps) (range_with_len (place + 1) n) → (p == place) ≡ false
not_here place n p ps sub =
    let low : place + 1 ≤ p = head_from (place + 1) n p ps sub in
    elim (eqb_tells p place) [
      | inl same ↦ let is : p ≡ place = same.1 in absurd (omega (arith, is, low))
      | inr other ↦ other.0
    ]

sub_remove : {X : Type 0} (ps qs : List X) (i : ℕ) → IsSubsequence ps qs → IsSubsequence (remove ps i) qs
sub_remove [] qs zero sub = tt
sub_remove [] qs (suc i) sub = tt
sub_remove (p ∷ ps) [] i sub = absurd sub
sub_remove (p ∷ ps) (q ∷ qs) i (inr it) = sub_later (remove (p ∷ ps) i) q qs (sub_remove (p ∷ ps) qs i it)
sub_remove (p ∷ ps) (q ∷ qs) zero (inl it) = sub_later ps q qs it.1
sub_remove (p ∷ ps) (q ∷ qs) (suc i) (inl it) = inl (it.0, sub_remove ps qs i it.1)

module _ {X : Type 0} where
  -- the first is not named
  past : (place : ℕ) (x : X) (xs : List X) (ps : List ℕ) → IsSubsequence ps (range_with_len (place + 1) (length xs))
      → standing_at place (x ∷ xs) ps ≡ standing_at (place + 1) xs ps
  past place x xs [] sub = sym (standing_none (place + 1) xs)
  past place x xs (p ∷ ps) sub = standing_later place x xs p ps (not_here place (length xs) p ps sub)

  -- each has its own
  pub standing_each : (place : ℕ) (xs : List X) (ps : List ℕ) → IsSubsequence ps (range_with_len place (length xs)) → length (standing_at place xs ps) ≡ length ps
  standing_each place [] [] sub = refl
  standing_each place [] (p ∷ ps) sub = absurd sub
  standing_each place (x ∷ xs) [] sub = refl
  standing_each place (x ∷ xs) (p ∷ ps) (inl it) = ap length (standing_first place x xs p ps it.0) ∙ ap suc (standing_each (place + 1) xs ps it.1)
  standing_each place (x ∷ xs) (p ∷ ps) (inr it) = ap length (past place x xs (p ∷ ps) it) ∙ standing_each (place + 1) xs (p ∷ ps) it

  -- one place fewer is one fewer of what stands there
  pub standing_without : (place : ℕ) (xs : List X) (ps : List ℕ) (i : ℕ) → IsSubsequence ps (range_with_len place (length xs)) → i < length ps
      → standing_at place xs (remove ps i) ≡ remove (standing_at place xs ps) i
  standing_without place [] [] i sub below = absurd (omega (arith, below))
  standing_without place [] (p ∷ ps) i sub below = absurd sub
  standing_without place (x ∷ xs) [] i sub below = absurd (omega (arith, below))
  standing_without place (x ∷ xs) (p ∷ ps) zero (inl it) below =
      past place x xs ps it.1 ∙ sym (ap (λ l. remove l 0) (standing_first place x xs p ps it.0))
  standing_without place (x ∷ xs) (p ∷ ps) (suc i) (inl it) below =
      standing_first place x xs p (remove ps i) it.0
      ∙ ap (λ l. x ∷ l) (standing_without (place + 1) xs ps i it.1 (omega (arith, below)))
      ∙ sym (ap (λ l. remove l (suc i)) (standing_first place x xs p ps it.0))
  standing_without place (x ∷ xs) (p ∷ ps) i (inr it) below =
      past place x xs (remove (p ∷ ps) i) (sub_remove (p ∷ ps) (range_with_len (place + 1) (length xs)) i it)
      ∙ standing_without (place + 1) xs (p ∷ ps) i it below
      ∙ sym (ap (λ l. remove l i) (past place x xs (p ∷ ps) it))

  -- all stand at all places
  pub standing_whole : (place : ℕ) (xs : List X) → standing_at place xs (range_with_len place (length xs)) ≡ xs
  standing_whole place [] = refl
  standing_whole place (x ∷ xs) = standing_first place x xs place (range_with_len (place + 1) (length xs)) refl ∙ ap (λ l. x ∷ l) (standing_whole (place + 1) xs)

  -- ---- one after another

  -- what stands here is the next that is named
  pub standing_here : (xs : List X) (ps : List ℕ) (place found : ℕ) (x : X) → place < length xs → x ≡ get_or xs place x → found < length ps → get_or ps found 0 ≡ place
      → standing_at place (drop place xs) (drop found ps) ≡ x ∷ standing_at (place + 1) (drop (place + 1) xs) (drop (found + 1) ps)
  standing_here xs ps place found x within is some same =
      let all : drop place xs ≡ x ∷ drop (place + 1) xs = drop_more xs place x within ∙ ap (λ y. y ∷ drop (place + 1) xs) (sym is) in
      ap (λ l. standing_at place l (drop found ps)) all ∙ ap (λ l. standing_at place (x ∷ drop (place + 1) xs) l) (drop_more ps found 0 some)
      ∙ standing_first place x (drop (place + 1) xs) (get_or ps found 0) (drop (found + 1) ps) same

  -- it is not
  pub standing_not_here : (xs : List X) (ps : List ℕ) (place found : ℕ) (x : X) → place < length xs → found < length ps → get_or ps found 0 ≢ place
      → standing_at place (drop place xs) (drop found ps) ≡ standing_at (place + 1) (drop (place + 1) xs) (drop found ps)
  standing_not_here xs ps place found x within some differs =
      let named : drop found ps ≡ get_or ps found 0 ∷ drop (found + 1) ps = drop_more ps found 0 some in
      let other : (get_or ps found 0 == place) ≡ false = elim (eqb_tells (get_or ps found 0) place) [ inl same ↦ absurd (differs same.1) | inr it ↦ it.0 ] in
      ap (λ l. standing_at place l (drop found ps)) (drop_more xs place x within)
      ∙ ap (λ l. standing_at place (get_or xs place x ∷ drop (place + 1) xs) l) named
      ∙ standing_later place (get_or xs place x) (drop (place + 1) xs) (get_or ps found 0) (drop (found + 1) ps) other
      ∙ ap (λ l. standing_at (place + 1) (drop (place + 1) xs) l) (sym named)

  -- all that are named were found
  pub standing_over : (xs : List X) (ps : List ℕ) (place found : ℕ) → length ps ≤ found → standing_at place xs (drop found ps) ≡ []
  standing_over xs ps place found over = ap (λ l. standing_at place xs l) (drop_all found ps over) ∙ standing_none place xs

  pub found_more : (xs : List X) (ps : List ℕ) (place found : ℕ) (part whole : List X) (x : X) → place < length xs → x ≡ get_or xs place x → (found < length ps) × (get_or ps found 0 ≡ place)
      → part ++ standing_at place (drop place xs) (drop found ps) ≡ whole
      → (part ++ x ∷ []) ++ standing_at (place + 1) (drop (place + 1) xs) (drop (found + 1) ps) ≡ whole
  found_more xs ps place found part whole x within is next so_far =
      append_assoc part (x ∷ []) (standing_at (place + 1) (drop (place + 1) xs) (drop (found + 1) ps))
      ∙ ap (λ l. part ++ l) (sym (standing_here xs ps place found x within is next.0 next.1)) ∙ so_far

  pub passed_over : (xs : List X) (ps : List ℕ) (place found : ℕ) (part whole : List X) → place < length xs → (found < length ps → get_or ps found 0 ≢ place)
      → part ++ standing_at place (drop place xs) (drop found ps) ≡ whole
      → part ++ standing_at (place + 1) (drop (place + 1) xs) (drop found ps) ≡ whole
  passed_over [] ps place found part whole within other so_far = absurd (omega (arith, within))
  passed_over (x ∷ xs) ps place found part whole within other so_far =
      elim (cases_lt found (length ps)) [
        | inl some ↦ ap (λ l. part ++ l) (sym (standing_not_here (x ∷ xs) ps place found x within some (other some))) ∙ so_far
        | inr none ↦
            ap (λ l. part ++ l) (standing_over (drop (place + 1) (x ∷ xs)) ps (place + 1) found none ∙ sym (standing_over (drop place (x ∷ xs)) ps place found none)) ∙ so_far
      ]
