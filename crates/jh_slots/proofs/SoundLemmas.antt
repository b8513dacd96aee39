-- Each event of a seat keeps what holds of all states.
use Rattle.std.proofs.Common.{◌≡◌, ◌≢◌, ◌⊎◌, ℕ, ◌+◌, ◌*◌, ◌<◌, ◌≤◌, List, length, set, Some, None, refl, sym, ◌∙◌, subst, inl, inr, ⊎_elim, arith}
use Rattle.std.specs.Prelude.{Option}
use mathlib.Core.Option.{some}
use lib.ListN.{get_elem?}
use Rattle.std.specs.FinMap as map
use Rattle.atomic_table.proofs.Lists.{at_set}
use Rattle.jh_slots.specs.Seats.{Mark, Claim, Knowledge}
use Rattle.jh_slots.specs.States.{LogState, IsSoundLog, Moves, state_after_event, len_of, IsClear}

pub each_set : (P : ℕ → Knowledge → Type 0) (l : List Knowledge) (i : ℕ) (w : Knowledge) → P i w → ((j : ℕ) (u : Knowledge) → get_elem? l j ≡ some u → P j u) → (j : ℕ) (u : Knowledge) → get_elem? (set l i w) j ≡ some u → P j u
each_set P l i w mine others j u e =
    ⊎_elim
    (λ (t : (j ≡ i) × (w ≡ u)). subst (λ (y : ℕ × Knowledge). P y.0 y.1) (λ k. (sym t.0 k, t.1 k)) mine)
    (λ (t : (j ≢ i) × (get_elem? l j ≡ some u)). others j u t.1)
    (at_set l i j w u e)

-- where a claim comes from: an old one of the seat, of as many rows, or it is the moving seat's and starts at the next free row
abbrev Origin : LogState → ℕ → ℕ → ℕ → Claim → Type 0
Origin s i j f c = ((u : Knowledge) × (d : Claim) × (get_elem? s.seats j ≡ some u) × (map.get u.claims f ≡ Some d) × (d.rows ≡ c.rows)) ⊎ ((j ≡ i) × (f ≡ s.next))

origin : (s : LogState) (i : ℕ) (v w : Knowledge) (next : ℕ) (marks : ℕ → Option Mark) → get_elem? s.seats i ≡ some v → Moves s v w next marks
    → (j : ℕ) (u : Knowledge) → get_elem? (set s.seats i w) j ≡ some u → (f : ℕ) (c : Claim) → map.get u.claims f ≡ Some c → Origin s i j f c
origin s i v w next marks at m =
    each_set (λ j u. (f : ℕ) (c : Claim) → map.get u.claims f ≡ Some c → Origin s i j f c) s.seats i w
    (λ f c e. ⊎_elim
    (λ (t : (d : Claim) × (map.get v.claims f ≡ Some d) × (d.rows ≡ c.rows)). inl (v, t.0, at, t.1, t.2))
    (λ (t : (f ≡ s.next) × (1 ≤ c.rows) × (s.next + c.rows ≤ next)). inr (refl, t.0))
    ((m.claims f c e).1))
    (λ j u e f c is. inl (u, c, e, is, refl))

claims_of : (cap : ℕ) (s : LogState) (i : ℕ) (v w : Knowledge) (next : ℕ) (marks : ℕ → Option Mark) → IsSoundLog cap s → get_elem? s.seats i ≡ some v → Moves s v w next marks
    → (f : ℕ) (c : Claim) → map.get w.claims f ≡ Some c → (1 ≤ c.rows) × (f + c.rows ≤ next) × (length c.words ≡ 5 * c.rows)
claims_of cap s i v w next marks g at m f c e =
    let up = m.up in
    let is = m.claims f c e in
    ⊎_elim
    (λ (t : (d : Claim) × (map.get v.claims f ≡ Some d) × (d.rows ≡ c.rows)). let h = g.claims i v f t.0 at t.1 in let a : 1 ≤ t.0.rows = h.0 in let b : f + t.0.rows ≤ s.next = h.1 in let same = t.2 in (omega arith, omega arith, is.0))
    (λ (t : (f ≡ s.next) × (1 ≤ c.rows) × (s.next + c.rows ≤ next)). let x = t.0 in let y = t.2 in (t.1, omega arith, is.0))
    is.1

abbrev Apart : ℕ → ℕ → ℕ → ℕ → Claim → Claim → Type 0
Apart i j f g c d = ((i ≡ j) × (f ≡ g)) ⊎ ((f + c.rows ≤ g) ⊎ (g + d.rows ≤ f))

apart_of : (cap : ℕ) (s : LogState) (i j k f h : ℕ) (c d : Claim) → IsSoundLog cap s → Origin s i j f c → Origin s i k h d → Apart j k f h c d
apart_of cap s i j k f h c d g (inl (u, c', at, is, same)) (inl (u', d', at', is', same')) =
    ⊎_elim (λ t. inl t)
    (λ o. ⊎_elim (λ (x : f + c'.rows ≤ h). inr (inl (omega arith))) (λ (y : h + d'.rows ≤ f). inr (inr (omega arith))) o)
    (g.apart j k u u' f h c' d' at at' is is')
apart_of cap s i j k f h c d g (inl (u, c', at, is, same)) (inr (_, y)) = let b : f + c'.rows ≤ s.next = (g.claims j u f c' at is).1 in inr (inl (omega arith))
apart_of cap s i j k f h c d g (inr (_, y)) (inl (u, d', at, is, same)) = let b : h + d'.rows ≤ s.next = (g.claims k u h d' at is).1 in inr (inr (omega arith))
apart_of cap s i j k f h c d g (inr (x, y)) (inr (x', y')) = inl (x ∙ sym x', y ∙ sym y')

clear_of : (cap : ℕ) (s : LogState) (i : ℕ) (v w : Knowledge) (j f r : ℕ) (c : Claim) (m : Mark) → IsSoundLog cap s → get_elem? s.seats i ≡ some v
    → (j ≡ i → map.get w.claims f ≡ Some c) → Origin s i j f c
    → (s.marks r ≡ Some m) ⊎ ((d : Claim) × (map.get v.claims r ≡ Some d) × (len_of m ≤ 5 * d.rows) × (map.get w.claims r ≡ None)) → IsClear r m f c
clear_of cap s i v w j f r c m g at own (inl (u, c', at', is, same)) (inl old) =
    ⊎_elim (λ (x : f + c'.rows ≤ r). inl (omega arith)) (λ x. inr x) (g.clear j u f c' r m at' is old)
clear_of cap s i v w j f r c m g at own (inr (x, y)) (inl old) = let h = g.marked r m old in let a : r < s.next = h.0 in let b : 5 * r + len_of m ≤ 5 * s.next = h.1 in inr (omega arith, omega arith)
clear_of cap s i v w j f r c m g at own (inl (u, c', at', is, same)) (inr (d, has, small, gone)) =
    let one : 1 ≤ d.rows = (g.claims i v r d at has).0 in
    ⊎_elim
    (λ (t : (i ≡ j) × (r ≡ f)). let now : map.get w.claims r ≡ Some c = subst (λ (x : ℕ). map.get w.claims x ≡ Some c) (sym t.1) (own (sym t.0)) in absurd (cc))
    (λ o. ⊎_elim (λ (x : r + d.rows ≤ f). inr (omega arith, omega arith)) (λ (y : f + c'.rows ≤ r). inl (omega arith)) o)
    (g.apart i j v u r f d c' at at' has is)
clear_of cap s i v w j f r c m g at own (inr (x, y)) (inr (d, has, small, gone)) =
    let one : 1 ≤ d.rows = (g.claims i v r d at has).0 in
    let b : r + d.rows ≤ s.next = (g.claims i v r d at has).1 in inr (omega arith, omega arith)

pub good_moves : (cap : ℕ) (s : LogState) (i : ℕ) (v w : Knowledge) (next : ℕ) (marks : ℕ → Option Mark) → IsSoundLog cap s → get_elem? s.seats i ≡ some v → Moves s v w next marks → next ≤ cap → IsSoundLog cap (state_after_event s i w next marks)
good_moves cap s i v w next marks g at m le =
    let come = origin s i v w next marks at m in
    record {
      next = le;
      low = each_set (λ j u. u.low ≤ next) s.seats i w m.low (λ j u e. let a : u.low ≤ s.next = g.low j u e in let up = m.up in omega arith);
      seen = λ j u r x e. each_set (λ j u. (r : ℕ) (x : Mark) → map.get u.seen r ≡ Some x → marks r ≡ Some x) s.seats i w m.seen (λ j u e r x is. m.grows r x (g.seen j u r x e is)) j u e r x;
      claims = λ j u f c e. each_set (λ j u. (f : ℕ) (c : Claim) → map.get u.claims f ≡ Some c → (1 ≤ c.rows) × (f + c.rows ≤ next) × (length c.words ≡ 5 * c.rows)) s.seats i w
          (claims_of cap s i v w next marks g at m)
          (λ j u e f c is. let h = g.claims j u f c e is in let a : f + c.rows ≤ s.next = h.1 in let up = m.up in (h.0, omega arith, h.2)) j u e f c;
      apart = λ j k u u' f h c d e e' is is'. apart_of cap s i j k f h c d g (come j u e f c is) (come k u' e' h d is');
      marked = λ r x is. ⊎_elim
          (λ (old : s.marks r ≡ Some x). let h = g.marked r x old in let a : r < s.next = h.0 in let b : 5 * r + len_of x ≤ 5 * s.next = h.1 in let up = m.up in (omega arith, omega arith))
          (λ (t : (d : Claim) × (map.get v.claims r ≡ Some d) × (len_of x ≤ 5 * d.rows) × (map.get w.claims r ≡ None)).
          let h = g.claims i v r t.0 at t.1 in let a : 1 ≤ t.0.rows = h.0 in let b : r + t.0.rows ≤ s.next = h.1 in let small = t.2 in let up = m.up in (omega arith, omega arith))
          (m.marked r x is);
      clear = λ j u f c r x e is mk.
          clear_of cap s i v w j f r c x g at
          (λ same. ⊎_elim (λ (t : (j ≡ i) × (w ≡ u)). subst (λ (y : Knowledge). map.get y.claims f ≡ Some c) (sym t.1) is) (λ (t : (j ≢ i) × (get_elem? s.seats j ≡ some u)). absurd (t.0 same)) (at_set s.seats i j w u e))
          (come j u e f c is) (m.marked r x mk);
    }
