-- A split and a join of seats keep what holds of all states.
use Rattle.std.proofs.Common.{◌≡◌, ◌≢◌, ◌⊎◌, ℕ, ◌≤◌, List, [], ◌∷◌, ◌++◌, set, Some, refl, sym, ap, ◌∙◌, subst, inl, inr, ⊎_elim, arith}
use mathlib.Core.Option.{some}
use lib.ListN.{get_elem?}
use Rattle.std.specs.FinMap as map
use Rattle.atomic_table.proofs.Lists.{at_set, at_snoc}
use Rattle.jh_slots.specs.Seats.{Mark, Claim, Knowledge, newcomer, knowledge_after_split, knowledge_after_join, Agree}
use Rattle.jh_slots.specs.States.{LogState, IsSoundLog}
use Rattle.jh_slots.proofs.MapLemmas.{of_gather, nothing_at}

-- a claim of a seat after a step was a claim of some seat before it
pub record Was (s : LogState) (now : List Knowledge) (to : ℕ → ℕ → Type 0) : Type 0 where
  pub low : (j : ℕ) (u : Knowledge) → get_elem? now j ≡ some u → u.low ≤ s.next
  pub seen : (j : ℕ) (u : Knowledge) (r : ℕ) (m : Mark) → get_elem? now j ≡ some u → map.get u.seen r ≡ Some m → (k : ℕ) × (v : Knowledge) × (get_elem? s.seats k ≡ some v) × (map.get v.seen r ≡ Some m)
  pub claims : (j : ℕ) (u : Knowledge) (f : ℕ) (c : Claim) → get_elem? now j ≡ some u → map.get u.claims f ≡ Some c → (k : ℕ) × (v : Knowledge) × (get_elem? s.seats k ≡ some v) × (map.get v.claims f ≡ Some c) × to k j
  pub one : (k i j : ℕ) → to k i → to k j → i ≡ j

-- the same rows, and seats that know nothing new
pub good_was : (cap : ℕ) (s : LogState) (now : List Knowledge) (to : ℕ → ℕ → Type 0) → IsSoundLog cap s → Was s now to → IsSoundLog cap (record { next = s.next; marks = s.marks; seats = now })
good_was cap s now to g w =
    record {
      next = g.next;
      low = w.low;
      seen = λ j u r m e is. let t = w.seen j u r m e is in g.seen t.0 t.1 r m t.2 t.3;
      claims = λ j u f c e is. let t = w.claims j u f c e is in g.claims t.0 t.1 f c t.2 t.3;
      apart = λ i j u v f h c d e e' is is'.
          let a = w.claims i u f c e is in let b = w.claims j v h d e' is' in
          ⊎_elim (λ (t : (a.0 ≡ b.0) × (f ≡ h)). inl (w.one b.0 i j (subst (λ (k : ℕ). to k i) t.0 a.4) b.4, t.1)) (λ o. inr o) (g.apart a.0 b.0 a.1 b.1 f h c d a.2 b.2 a.3 b.3);
      marked = g.marked;
      clear = λ j u f c r m e is mk. let t = w.claims j u f c e is in g.clear t.0 t.1 f c r m t.2 t.3 mk;
    }

pub was_split : (cap : ℕ) (s : LogState) (i : ℕ) (v : Knowledge) → IsSoundLog cap s → get_elem? s.seats i ≡ some v → Was s (s.seats ++ knowledge_after_split v ∷ []) (λ k j. k ≡ j)
was_split cap s i v g at =
    record {
      low = λ j u e. ⊎_elim (λ old. g.low j u old) (λ (is : knowledge_after_split v ≡ u). subst (λ (x : Knowledge). x.low ≤ s.next) is (g.low i v at)) (at_snoc s.seats (knowledge_after_split v) u j e);
      seen = λ j u r m e has. ⊎_elim (λ old. (j, u, old, has)) (λ (is : knowledge_after_split v ≡ u). (i, v, at, ap (λ (x : Knowledge). map.get x.seen r) is ∙ has)) (at_snoc s.seats (knowledge_after_split v) u j e);
      claims = λ j u f c e has. ⊎_elim (λ old. (j, u, old, has, refl)) (λ (is : knowledge_after_split v ≡ u). absurd (nothing_at f c (ap (λ (x : Knowledge). map.get x.claims f) is ∙ has))) (at_snoc s.seats (knowledge_after_split v) u j e);
      one = λ k i j a b. sym a ∙ b;
    }

-- where the claims of the seats i and j go when j is joined to i
abbrev pub JoinsTo : ℕ → ℕ → ℕ → ℕ → Type 0
JoinsTo i j k l = ((k ≡ l) × (k ≢ j)) ⊎ ((k ≡ j) × (l ≡ i))

pub was_join : (cap : ℕ) (s : LogState) (i j : ℕ) (v w : Knowledge) → IsSoundLog cap s → j ≢ i → get_elem? s.seats i ≡ some v → get_elem? s.seats j ≡ some w → Was s (set (set s.seats i (knowledge_after_join v w)) j newcomer) (JoinsTo i j)
was_join cap s i j v w g ne at at' =
    record {
      low = λ k u e. who k u e (λ k u. u.low ≤ s.next) (λ x. omega arith) (let a : v.low ≤ s.next = g.low i v at in let b : w.low ≤ s.next = g.low j w at' in omega arith) (λ k u _ _ old. g.low k u old);
      seen = λ k u r m e. who k u e (λ k u. map.get u.seen r ≡ Some m → (k : ℕ) × (v : Knowledge) × (get_elem? s.seats k ≡ some v) × (map.get v.seen r ≡ Some m))
          (λ k has. absurd (nothing_at r m has))
          (λ has. ⊎_elim (λ a. (i, v, at, a)) (λ b. (j, w, at', b)) (of_gather v.seen w.seen r m has))
          (λ k u _ _ old has. (k, u, old, has));
      claims = λ k u f c e. who k u e (λ k u. map.get u.claims f ≡ Some c → (l : ℕ) × (x : Knowledge) × (get_elem? s.seats l ≡ some x) × (map.get x.claims f ≡ Some c) × JoinsTo i j l k)
          (λ k has. absurd (nothing_at f c has))
          (λ has. ⊎_elim (λ a. (i, v, at, a, inl (refl, λ e. ne (sym e)))) (λ b. (j, w, at', b, inr (refl, refl))) (of_gather v.claims w.claims f c has))
          (λ k u _ nj old has. (k, u, old, has, inl (refl, nj)));
      one = λ k a b p q. ⊎_elim
          (λ (x : (k ≡ a) × (k ≢ j)). ⊎_elim (λ (y : (k ≡ b) × (k ≢ j)). sym x.0 ∙ y.0) (λ (y : (k ≡ j) × (b ≡ i)). absurd (x.1 y.0)) q)
          (λ (x : (k ≡ j) × (a ≡ i)). ⊎_elim (λ (y : (k ≡ b) × (k ≢ j)). absurd (y.1 x.0)) (λ (y : (k ≡ j) × (b ≡ i)). x.1 ∙ sym y.1) q) p;
    }
  where
    who : (k : ℕ) (u : Knowledge) → get_elem? (set (set s.seats i (knowledge_after_join v w)) j newcomer) k ≡ some u → (P : ℕ → Knowledge → Type 0)
        → ((k : ℕ) → P k newcomer) → P i (knowledge_after_join v w) → ((k : ℕ) (u : Knowledge) → k ≢ i → k ≢ j → get_elem? s.seats k ≡ some u → P k u) → P k u
    who k u e P spent mine else =
        ⊎_elim
        (λ (t : (k ≡ j) × (newcomer ≡ u)). subst (λ (x : Knowledge). P k x) t.1 (spent k))
        (λ (t : (k ≢ j) × (get_elem? (set s.seats i (knowledge_after_join v w)) k ≡ some u)).
        ⊎_elim
        (λ (y : (k ≡ i) × (knowledge_after_join v w ≡ u)). subst (λ (z : ℕ × Knowledge). P z.0 z.1) (λ n. (sym y.0 n, y.1 n)) mine)
        (λ (y : (k ≢ i) × (get_elem? s.seats k ≡ some u)). else k u y.0 t.0 y.1)
        (at_set s.seats i k (knowledge_after_join v w) u t.1))
        (at_set (set s.seats i (knowledge_after_join v w)) j k newcomer u e)

-- two seats agree
pub agrees : (cap : ℕ) (s : LogState) (i j : ℕ) (v w : Knowledge) → IsSoundLog cap s → j ≢ i → get_elem? s.seats i ≡ some v → get_elem? s.seats j ≡ some w → Agree v w
agrees cap s i j v w g ne at at' = (
  λ r m n a b. let e : Some m ≡ Some n = sym (g.seen i v r m at a) ∙ g.seen j w r n at' b in cc,
  λ f h c d a b. ⊎_elim (λ (t : (i ≡ j) × (f ≡ h)). absurd (ne (sym t.0))) (λ o. o) (g.apart i j v w f h c d at at' a b),
)
