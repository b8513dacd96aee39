-- The greatest level of loss: among the counts, and among the faults.
use Rattle.std.proofs.Common.{◌≡◌, ℕ, ◌+◌, ◌<◌, ◌≤◌, true, false, List, [], ◌∷◌, ◌++◌, length, get_or, max, refl, ap, ◌∙◌, sym, arith, zero, suc}
use Rattle.std.specs.Prelude.{if◌then◌else◌, fold, nat_lt}
use Rattle.std.specs.List.{All, count_by, list_any, range_with_len}
use Rattle.std.proofs.lemmas.Bool.{eqb-true, eq-eqb}
use Rattle.std.proofs.lemmas.List.{map-id}
use Rattle.std.proofs.lemmas.List.Elements.{All-from_get_or}
use Rattle.std.proofs.lemmas.List.Folds.{Any-from_list_any, list_any_at}
use Rattle.std.proofs.lemmas.List.FromFn.{map-range_with_len_more, length-range_with_len, get_or-range_with_len}
use Rattle.jh_tables.specs.Faults.{FaultValue, IsFault, FitsCount, names_link}
use Rattle.jh_tables.specs.Faults.FaultValue.{Cut, Slow, Loss, Fix, Pause, Kill, Bump}
use Rattle.jh_tables.specs.Overlay.{loss_by}
use Rattle.jh_tables.specs.Tallies.{level_held, greatest_level}
use Rattle.jh_tables.specs.Standing.{loses}
use Rattle.jh_tables.proofs.CountLemmas.{max_start, max_bound, max_each, some_counted}

-- one more number in a row
pub range_push : (a n : ℕ) → range_with_len a (n + 1) ≡ range_with_len a n ++ (a + n) ∷ []
range_push a n =
    sym (map-id (range_with_len a (n + 1))) ∙ map-range_with_len_more (λ k. k) a n (a + n) refl
    ∙ ap (λ ks. ks ++ (a + n) ∷ []) (map-id (range_with_len a n))

-- no fault has a level above twenty
pub loss_at_most : (a b : ℕ) (fault : FaultValue) → IsFault fault → loss_by a b fault ≤ 20
loss_at_most a b (Loss level links) right = elim (names_link links a b) as (λ s. (if s then level else 0) ≤ 20) [
  | true ↦ right.0.1
  | false ↦ omega arith
]
loss_at_most a b (Cut links) right = omega arith
loss_at_most a b (Slow ms links) right = omega arith
loss_at_most a b (Fix ms links) right = omega arith
loss_at_most a b (Pause nodes) right = omega arith
loss_at_most a b (Kill nodes) right = omega arith
loss_at_most a b (Bump bumps) right = omega arith

module _ (n a b start : ℕ) (losses : List ℕ) (faults : List FaultValue) (right : All (λ f. IsFault f × FitsCount n f) faults)
    (counts : (i : ℕ) → i < 20 → get_or losses i 0 ≡ count_by (loses a b (i + 1)) faults) where
  abbrev over : ℕ
  over = fold (λ m f. max m (loss_by a b f)) start faults

  -- a level whose count is not 0 is some fault's
  held_over : (i : ℕ) → i < 20 → level_held losses i ≤ over
  held_over i h = elim (nat_lt 0 (get_or losses i 0)) as (λ s. nat_lt 0 (get_or losses i 0) ≡ s → (if s then i + 1 else 0) ≤ over) [
    | true ↦ λ s.
        let some : list_any (loses a b (i + 1)) faults ≡ true = sym (some_counted (loses a b (i + 1)) faults) ∙ ap (nat_lt 0) (sym (counts i h)) ∙ s in
        let found = Any-from_list_any (loses a b (i + 1)) faults some in
        let level : loss_by a b found.1 ≡ i + 1 = eqb-true (loss_by a b found.1) (i + 1) found.4 in
        let least = max_each (loss_by a b) start faults found.0 found.1 found.2 in
        let same = ap (loss_by a b) found.3 in
        omega (arith, level, least, same)
    | false ↦ λ s. omega arith
  ] refl

  -- a fault's level has a count that is not 0
  fault_held : (k : ℕ) (d : FaultValue) → k < length faults → (v : ℕ) → loss_by a b (get_or faults k d) ≡ v → v ≤ 20 → v ≤ greatest_level losses start
  fault_held k d h zero is short = omega arith
  fault_held k d h (suc i) is short =
      let below : i < 20 = omega (arith, short) in
      let on : suc i ≡ i + 1 = omega arith in
      let this : loses a b (i + 1) (get_or faults k d) ≡ true = eq-eqb (loss_by a b (get_or faults k d)) (i + 1) (is ∙ on) in
      let some : list_any (loses a b (i + 1)) faults ≡ true = list_any_at (loses a b (i + 1)) faults k d h this in
      let counted : nat_lt 0 (get_or losses i 0) ≡ true = ap (nat_lt 0) (counts i below) ∙ some_counted (loses a b (i + 1)) faults ∙ some in
      let held : level_held losses i ≡ i + 1 = rw counted refl in
      let within : i < length (range_with_len 0 20) = rw (length-range_with_len 0 20) below in
      let least = max_each (level_held losses) start (range_with_len 0 20) i 0 within in
      let same : level_held losses (get_or (range_with_len 0 20) i 0) ≡ level_held losses i = ap (level_held losses) (get_or-range_with_len 0 20 i 0 below ∙ omega arith) in
      omega (arith, held, least, same)

  -- the counts give the greatest level of the faults
  pub level_is_over : greatest_level losses start ≡ over
  level_is_over =
      let most = max_bound (level_held losses) start over (range_with_len 0 20) (max_start (loss_by a b) start faults)
      (All-from_get_or (λ i. level_held losses i ≤ over) (range_with_len 0 20) 0 (λ i h.
      let below : i < 20 = rw (length-range_with_len 0 20) at h in
      let same : get_or (range_with_len 0 20) i 0 ≡ i = get_or-range_with_len 0 20 i 0 below ∙ omega arith in
      rw same (held_over i below))) in
      let least = max_bound (loss_by a b) start (greatest_level losses start) faults (max_start (level_held losses) start (range_with_len 0 20))
      (λ k d h. fault_held k d h (loss_by a b (get_or faults k d)) refl (loss_at_most a b (get_or faults k d) (right k d h).0)) in
      omega (arith, most, least)
