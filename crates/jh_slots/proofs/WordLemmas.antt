-- Parts of a table's words, after a word was written.
use Rattle.std.proofs.Common.{◌≡◌, ◌⊎◌, ℕ, zero, suc, ◌+◌, ◌-◌, ◌<◌, ◌≤◌, List, [], ◌∷◌, length, set, take, drop, replicate, get_or, Some, refl, sym, ap, ◌∙◌, inl, inr, ⊎_elim, arith}
use Rattle.std.proofs.lemmas.List.{take-set-le, drop-set-lt, drop-set-add, ext_get_or, get_or-take, get_or-drop, length-take-le, length-drop, get_or-replicate, length-replicate}
use Rattle.jh_slots.specs.Seats.{Mark, Words}
use Rattle.jh_slots.specs.States.{len_of}
use Rattle.jh_slots.specs.Stored.{mark_of, status_of}

pub seg_other : (b n j x : ℕ) (ws : List ℕ) → (j < b) ⊎ (b + n ≤ j) → take n (drop b (set ws j x)) ≡ take n (drop b ws)
seg_other b n j x ws (inl h) = ap (take n) (drop-set-lt b ws j x h)
seg_other b n j x ws (inr h) =
    let k : ℕ = j - b in
    let is : b + k ≡ j = omega arith in
    let le : n ≤ k = omega arith in
    ap (λ i. take n (drop b (set ws i x))) (sym is) ∙ (ap (take n) (drop-set-add b ws k x) ∙ take-set-le n (drop b ws) k x le)

pub take_set_in : (n p x : ℕ) (ws : List ℕ) → take n (set ws p x) ≡ set (take n ws) p x
take_set_in zero p x ws = refl
take_set_in (suc n) p x [] = refl
take_set_in (suc n) zero x (w ∷ ws) = refl
take_set_in (suc n) (suc p) x (w ∷ ws) = ap (λ l. w ∷ l) (take_set_in n p x ws)

pub seg_in : (b n j p x : ℕ) (ws : List ℕ) → j ≡ b + p → take n (drop b (set ws j x)) ≡ set (take n (drop b ws)) p x
seg_in b n j p x ws is = ap (λ i. take n (drop b (set ws i x))) is ∙ (ap (take n) (drop-set-add b ws p x) ∙ take_set_in n p x (drop b ws))

pub seg_zeros : (b n : ℕ) (ws : List ℕ) → b + n ≤ length ws → ((k : ℕ) → k < n → get_or ws (b + k) 0 ≡ 0) → take n (drop b ws) ≡ replicate n 0
seg_zeros b n ws fit h =
    let len : length (take n (drop b ws)) ≡ n = length-take-le n (drop b ws) (omega (arith, length-drop b ws)) in
    ext_get_or 0 (take n (drop b ws)) (replicate n 0) (len ∙ sym (length-replicate n 0))
    (λ i lt. let small : i < n = omega arith in get_or-take n (drop b ws) i 0 small ∙ (get_or-drop b ws i 0 ∙ (h i small ∙ sym (get_or-replicate n i 0 0 small))))

pub marks_same : (b j x n : ℕ) (ws : List ℕ) → ((m : Mark) → mark_of n (drop b ws) ≡ Some m → (j < b) ⊎ (b + len_of m ≤ j)) → ((m : Mark) → mark_of n (drop b ws) ≡ Some m → n ≡ status_of m)
    → mark_of n (drop b (set ws j x)) ≡ mark_of n (drop b ws)
marks_same b j x zero ws clear fits = refl
marks_same b j x (suc zero) ws clear fits = refl
marks_same b j x (suc (suc k)) ws clear fits =
    let m : Mark = Words (take (suc k) (drop b ws)) in
    let len : suc (suc k) ≡ suc (length (take (suc k) (drop b ws))) = fits m refl in
    ap (λ l. Some (Words l)) (seg_other b (suc k) j x ws (⊎_elim (λ (h : j < b). inl h) (λ (h : b + length (take (suc k) (drop b ws)) ≤ j). inr (omega arith)) (clear m refl)))

pub zeros_len : (n : ℕ) → length {A = ℕ} (replicate n 0) ≡ n
zeros_len n = length-replicate n 0
