-- A string as it stands between quotes: what stands for itself, and then a byte that is escaped.
use Rattle.std.proofs.Common.{◌≡◌, ℕ, zero, suc, ◌+◌, ◌<◌, true, List, [], ◌∷◌, ◌++◌, length, take, drop, get_or, refl, sym, ap, ◌∙◌, append_assoc, arith}
use Rattle.std.specs.List.{flat_map, prefix_len}
use Rattle.std.proofs.lemmas.Grind.{common_steps}
use Rattle.std.proofs.lemmas.List.{append-nil, drop_all}
use Rattle.jh_edn.specs.Print.{escape, is_printed_bare}
use Rattle.jh_edn.proofs.PrefixLemmas.{prefix_len-cases}

bare_escape : (c : ℕ) → is_printed_bare c ≡ true → escape c ≡ c ∷ []
unfolding is_printed_bare
bare_escape c h = grind (arith, common_steps)

pub bare_front : (s : List ℕ) → flat_map escape s ≡ take (prefix_len is_printed_bare s) s ++ flat_map escape (drop (prefix_len is_printed_bare s) s)
bare_front [] = refl
bare_front (c ∷ s) =
    prefix_len-cases is_printed_bare (λ n. flat_map escape (c ∷ s) ≡ take n (c ∷ s) ++ flat_map escape (drop n (c ∷ s))) c s
    (λ e. ap (λ (w : List ℕ). w ++ flat_map escape s) (bare_escape c e) ∙ ap (λ (w : List ℕ). c ∷ w) (bare_front s))
    (λ e. refl)

-- a byte further
next_escape : (s : List ℕ) (n : ℕ) → n < length s → flat_map escape (drop n s) ≡ escape (get_or s n 0) ++ flat_map escape (drop (n + 1) s)
next_escape [] n h = absurd (omega arith)
next_escape (c ∷ s) zero h = refl
next_escape (c ∷ s) (suc n) h = let k : suc n + 1 ≡ suc (n + 1) = omega arith in rw k (next_escape s n (omega arith))

module _ (done left total : List ℕ) (n : ℕ) (len : n ≡ prefix_len is_printed_bare left) (so_far : done ++ flat_map escape left ≡ total) where
  front : (done ++ take n left) ++ flat_map escape (drop n left) ≡ total
  front = append_assoc done (take n left) (flat_map escape (drop n left)) ∙ rw len (ap (λ (w : List ℕ). done ++ w) (sym (bare_front left))) ∙ so_far

  -- what stands for itself, and then a byte that is escaped
  pub piece_more : n < length left → ((done ++ take n left) ++ escape (get_or left n 0)) ++ flat_map escape (drop (n + 1) left) ≡ total
  piece_more h =
      append_assoc (done ++ take n left) (escape (get_or left n 0)) (flat_map escape (drop (n + 1) left))
      ∙ ap (λ (w : List ℕ). (done ++ take n left) ++ w) (sym (next_escape left n h)) ∙ front

  -- what stands for itself up to the end
  pub piece_last : n ≡ length left → done ++ take n left ≡ total
  piece_last h =
      let none : drop n left ≡ [] = drop_all n left (omega (arith, h)) in
      sym (append-nil (done ++ take n left)) ∙ ap (λ (s : List ℕ). (done ++ take n left) ++ flat_map escape s) (sym none) ∙ front
