-- Entries of fixes: their bits, and which are free.
use Rattle.std.proofs.Common.{◌≡◌, ◌≢◌, ℕ, ◌+◌, ◌*◌, ◌<◌, ◌^◌, ◌%◌, Bool, true, false, List, [], ◌∷◌, length, get_or, set, take, refl, ◌∙◌, sym, arith, get_or-set_same, get_or-set_other, w64, bit_or, zero, suc, replicate}
use Rattle.std.specs.Prelude.{Option, None, Some, is_some, if◌then◌else◌, ◌||◌, ◌&&◌, ◌==◌}
use Rattle.std.specs.List.{All, count_by}
use Rattle.std.specs.Int.{bit_at}
use Rattle.std.proofs.Math.Bool.{or-false}
use Rattle.std.proofs.lemmas.Bool.{eqb-true, eq-eqb, or_right, false≢true}
use Rattle.std.proofs.lemmas.List.Folds.{list_any_more}
use Rattle.std.proofs.lemmas.List.Sums.{sum_by-cons}
use Rattle.std.proofs.lemmas.List.Elements.{All-head, All-tail}
use Rattle.std.proofs.lemmas.Nat.Bits.{bit_at-zero, bit_at_set_same, bit_at_set_other}
use Rattle.jh_tables.specs.Faults.{names_link, is_same_link}
use Rattle.jh_tables.specs.ChangingInside.{AreMarked}
use Rattle.jh_tables.specs.Tallies.{latest_fix}
use Rattle.jh_tables.specs.declared.counted.FixEntry.{FixEntry}

-- where each passes all are counted
pub all_counted : {X : Type 0} (p : X → Bool) (xs : List X) → All (λ x. p x ≡ true) xs → count_by p xs ≡ length xs
all_counted p [] all = refl
all_counted p (x ∷ xs) all =
    let here : p x ≡ true = All-head (λ y. p y ≡ true) x xs all in
    let one : ◌≡◌ {A = ℕ} (if p x then 1 else 0) 1 = rw here refl in
    omega (arith, sum_by-cons (λ y. if p y then 1 else 0) x xs, one, all_counted p xs (All-tail (λ y. p y ≡ true) x xs all))

-- a word's bit after another one of it is set
bit_more : (word k b : ℕ) → k < 64 → (bit_at (bit_or word (1 * 2 ^ k % 18446744073709551616)) b == 1) ≡ ((bit_at word b == 1) || (k == b))
bit_more word k b within =
    elim (k == b) as (λ s. (k == b) ≡ s → (bit_at (bit_or word (1 * 2 ^ k % 18446744073709551616)) b == 1) ≡ ((bit_at word b == 1) || s)) [
      | true ↦ λ s.
          let same = eqb-true k b s in
          rw (or_right (bit_at word b == 1) true refl, ← same, bit_at_set_same w64 word k within) refl
      | false ↦ λ s.
          let other : b ≢ k = (λ e. false≢true (sym s ∙ eq-eqb k b (sym e))) in
          rw (or-false (bit_at word b == 1), bit_at_set_other w64 word k within b other) refl
    ] refl

or_assoc : (x y z : Bool) → ((x || y) || z) ≡ (x || (y || z))
or_assoc true y z = refl
or_assoc false y z = refl

-- one more of the links
pub mark_more : (links : List (ℕ × ℕ)) (i : ℕ) (old mid : List ℕ) (x : ℕ × ℕ) → i < length links → x ≡ get_or links i x → x.0 < 64 → x.1 < 64 → length mid ≡ 64
    → AreMarked (take i links) old mid → AreMarked (take (i + 1) links) old (set mid x.0 (bit_or (get_or mid x.0 0) (1 * 2 ^ x.1 % 18446744073709551616)))
mark_more links i old mid x h is p q size marked a b ha hb =
    let word = bit_or (get_or mid x.0 0) (1 * 2 ^ x.1 % 18446744073709551616) in
    let before = bit_at (get_or old a 0) b == 1 in
    let place : x.0 < length mid = rw size p in
    rw (list_any_more (λ l. is_same_link l (a, b)) links i x h, ← is, ← or_assoc before (names_link (take i links) a b) (is_same_link x (a, b)), ← marked a b ha hb)
    (elim (x.0 == a) as (λ s. (x.0 == a) ≡ s → (bit_at (get_or (set mid x.0 word) a 0) b == 1) ≡ ((bit_at (get_or mid a 0) b == 1) || (s && (x.1 == b)))) [
      | true ↦ λ s. rw (← eqb-true x.0 a s, get_or-set_same mid x.0 word 0 place) (bit_more (get_or mid x.0 0) x.1 b q)
      | false ↦ λ s.
          let other : a ≢ x.0 = (λ e. false≢true (sym s ∙ eq-eqb x.0 a (sym e))) in
          rw (get_or-set_other mid x.0 a word 0 other, or-false (bit_at (get_or mid a 0) b == 1)) refl
    ] refl)

zeros : (n a : ℕ) → ◌≡◌ {A = ℕ} (get_or (replicate n 0) a 0) 0
zeros zero a = refl
zeros (suc n) zero = refl
zeros (suc n) (suc a) = zeros n a

-- the bits of these links are set in words where none was
pub marked_first : (links : List (ℕ × ℕ)) (new : List ℕ) → AreMarked links (replicate 64 0) new
    → (a b : ℕ) → a < 64 → b < 64 → (bit_at (get_or new a 0) b == 1) ≡ names_link links a b
marked_first links new marked a b ha hb = marked a b ha hb ∙ rw (zeros 64 a, bit_at-zero b) refl

-- where no entry is in use no link is fixed
pub none_latest : (a b : ℕ) (entries : List (Option FixEntry)) → count_by is_some entries ≡ 0 → latest_fix a b entries ≡ None
none_latest a b [] e = refl
none_latest a b (None ∷ entries) e =
    none_latest a b entries (omega (arith, e, sum_by-cons (λ (x : Option FixEntry). if is_some x then 1 else 0) None entries))
none_latest a b (Some fix ∷ entries) e =
    absurd (omega (arith, e, sum_by-cons (λ (x : Option FixEntry). if is_some x then 1 else 0) (Some fix) entries))
