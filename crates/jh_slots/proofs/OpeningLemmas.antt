-- The table at its start.
use Rattle.std.proofs.Common.{◌≡◌, ℕ, zero, suc, ◌+◌, ◌*◌, ◌≤◌, List, [], ◌∷◌, length, Some, None, refl, sym, ◌∙◌, subst, arith, replicate, true}
use Rattle.std.specs.Prelude.{Option, slice_index}
use mathlib.Core.Option.{some, some-ne-none, some-injective}
use lib.ListN.{get_elem?}
use Rattle.std.specs.FinMap as map
use Rattle.std.specs.Ordering.{nat_cmp}
use Rattle.std.proofs.lemmas.List.{length-replicate}
use Rattle.jh_slots.specs.Seats.{Mark, Knowledge, newcomer}
use Rattle.jh_slots.specs.States.{IsSoundLog}
use Rattle.jh_slots.specs.Stored.{View, IsStored, shown_state, opening_view, row_mark, mark_of, status_at, place_at}
use lib.ListN.{drop}

-- the only one of a list of one
pub only : {A : Type 0} (P : A → Type 0) (a : A) (i : ℕ) (b : A) → P a → get_elem? (a ∷ []) i ≡ some b → P b
only P a zero b h e = subst P (some-injective a b e) h
only P a (suc i) b h e = absurd (some-ne-none b (sym e))

zero_at : (n k : ℕ) → slice_index (replicate n 0) k ≡ 0
zero_at zero k = refl
zero_at (suc n) zero = refl
zero_at (suc n) (suc k) = zero_at n k

abbrev none : Option Mark
none = None

unmarked : (cap n r : ℕ) (m : Mark) → row_mark cap (replicate n 0) r ≡ Some m → none ≡ Some m
unmarked cap n r m e = subst (λ x. mark_of x (drop (place_at r 0) (replicate n 0)) ≡ Some m) (zero_at n (status_at cap r)) e

nothing : {X : Type 0} (q : ℕ) (x : X) (P : Type 0) → map.get (map.empty {X = X} {R = nat_cmp}) q ≡ Some x → P
nothing {X} q x P e = let n : map.get (map.empty {X = X} {R = nat_cmp}) q ≡ None = map.get-empty nat_cmp q in let h : None ≡ Some x = sym n ∙ e in absurd (cc)

opens_zero : (cap n : ℕ) → n ≡ 1 + 6 * cap → IsSoundLog cap (shown_state cap (replicate n 0) (opening_view cap ∷ [])) × IsStored cap (replicate n 0) (opening_view cap ∷ [])
opens_zero cap n len = (
  record {
    next = rw zero_at (omega arith);
    low = λ i v e. only (λ (u : Knowledge). u.low ≤ slice_index (replicate n 0) 0) newcomer i v (omega arith) e;
    seen = λ i v r m e is. only (λ (u : Knowledge). map.get u.seen r ≡ Some m → row_mark cap (replicate n 0) r ≡ Some m) newcomer i v (nothing r m _) e is;
    claims = λ i v f c e is. only (λ (u : Knowledge). map.get u.claims f ≡ Some c → (1 ≤ c.rows) × (f + c.rows ≤ slice_index (replicate n 0) 0) × (length c.words ≡ 5 * c.rows)) newcomer i v (nothing f c _) e is;
    apart = λ i j v w f g c d e e' is is'. absurd (only (λ (u : Knowledge). map.get u.claims f ≡ Some c → ⊥) newcomer i v (nothing f c ⊥) e is);
    marked = λ r m e. let x = unmarked cap n r m e in absurd (cc);
    clear = λ i v f c r m e is mk. let x = unmarked cap n r m mk in absurd (cc);
  },
  record {
    size = length-replicate n 0 ∙ len;
    caps = λ i v e. only (λ (u : View). u.live ≡ true → u.cap ≡ cap) (opening_view cap) i v (λ _. refl) e;
    held = λ i v f c e is. absurd (only (λ (u : View). map.get u.knows.claims f ≡ Some c → ⊥) (opening_view cap) i v (nothing f c ⊥) e is);
    notes = λ i v x e is. absurd (only (λ (u : View). u.note ≡ Some x → ⊥) (opening_view cap) i v (λ (h : None ≡ Some x). absurd (cc)) e is);
    joins = λ i v p e is. absurd (only (λ (u : View). u.before ≡ Some p → ⊥) (opening_view cap) i v (λ (h : None ≡ Some p). absurd (cc)) e is);
    statuses = λ r m e. let x = unmarked cap n r m e in absurd (cc);
    zeros = λ k a b. zero_at n (1 + k);
  },
)

pub opens : (cap : ℕ) (words : List ℕ) → words ≡ replicate (1 + 6 * cap) 0 → IsSoundLog cap (shown_state cap words (opening_view cap ∷ [])) × IsStored cap words (opening_view cap ∷ [])
opens cap words is = subst (λ (ws : List ℕ). IsSoundLog cap (shown_state cap ws (opening_view cap ∷ [])) × IsStored cap ws (opening_view cap ∷ [])) (sym is) (opens_zero cap _ refl)
