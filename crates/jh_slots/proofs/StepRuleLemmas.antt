-- Each step on the table keeps its rule.
use Rattle.std.proofs.Common.{◌≡◌, ◌≢◌, ◌⊎◌, ℕ, zero, suc, ◌+◌, ◌*◌, ◌-◌, ◌<◌, ◌≤◌, List, [], ◌∷◌, length, set, take, drop, replicate, Bool, true, false, Some, refl, sym, ap, ◌∙◌, subst, inl, inr, ⊎_elim, arith}
use Rattle.std.specs.Prelude.{Option, slice_index, ◌==◌, MatchBool}
use mathlib.Core.Option.{some, none, some-ne-none}
use lib.ListN.{get_elem?}
use prog.Atomic.{either}
use Rattle.std.specs.FinMap as map
use Rattle.std.proofs.lemmas.List.{set-get_or, map-set, length-set, get_or-set_other, get_or-set_same, length-replicate}
use Rattle.std.proofs.lemmas.Bool.{eqb-true}
use Rattle.atomic_table.specs.Table.{State, Act, step, stepped, Valid, carried_after, Allows, keeps}
use Rattle.atomic_table.proofs.Lists.{at_set, at_map, set_here}
use Rattle.jh_slots.specs.Seats.{Mark, Words, Claim, Knowledge, knowledge_after_look, knowledge_after_claim, AreClaimsApart, Agree}
use Rattle.jh_slots.specs.States.{IsSoundLog, Moves, len_of}
use Rattle.jh_slots.specs.Stored.{Note, View, IsTableKept, IsStored, shown_state, row_mark, mark_of, status_of, status_at, place_at, IsNoted}
use Rattle.jh_slots.specs.Steps.{OwnView, view_knowing, Looks, TakesRows}
use Rattle.jh_slots.proofs.SoundLemmas.{good_moves}
use Rattle.jh_slots.proofs.MapLemmas.{inserted}
use Rattle.jh_slots.proofs.WordLemmas.{zeros_len, seg_other, seg_zeros, marks_same}

pub each_at : {A : Type 0} (P : ℕ → A → Type 0) (l : List A) (i : ℕ) (w : A) → P i w → ((j : ℕ) (u : A) → j ≢ i → get_elem? l j ≡ some u → P j u) → (j : ℕ) (u : A) → get_elem? (set l i w) j ≡ some u → P j u
each_at {A} P l i w mine others j u e =
    ⊎_elim
    (λ (t : (j ≡ i) × (w ≡ u)). subst (λ (y : ℕ × A). P y.0 y.1) (λ k. (sym t.0 k, t.1 k)) mine)
    (λ (t : (j ≢ i) × (get_elem? l j ≡ some u)). others j u t.0 t.1)
    (at_set l i j w u e)

pub rebuild : (cap : ℕ) (words now : List ℕ) (views : List View) (i : ℕ) (v w : View) → IsSoundLog cap (shown_state cap words views) → get_elem? views i ≡ some v
    → Moves (shown_state cap words views) v.knows w.knows (slice_index now 0) (row_mark cap now) → slice_index now 0 ≤ cap → IsSoundLog cap (shown_state cap now (set views i w))
rebuild cap words now views i v w g at m le =
    subst (λ ss. IsSoundLog cap (record { next = slice_index now 0; marks = row_mark cap now; seats = ss })) (sym (map-set (λ (u : View). u.knows) views i w))
    (good_moves cap (shown_state cap words views) i v.knows w.knows (slice_index now 0) (row_mark cap now) g (at_map (λ (u : View). u.knows) views i v at) m le)

-- a step that leaves the words and the seat's claims
pub record Quiet (cap : ℕ) (words : List ℕ) (v w : View) : Type 0 where
  pub live : w.live ≡ v.live
  pub caps : w.cap ≡ v.cap
  pub claims : w.knows.claims ≡ v.knows.claims
  pub low : w.knows.low ≤ slice_index words 0
  pub seen : (r : ℕ) (m : Mark) → map.get w.knows.seen r ≡ Some m → row_mark cap words r ≡ Some m
  pub note : (x : Note) → w.note ≡ Some x → IsNoted (row_mark cap words) x
  pub before : (p : Knowledge × Knowledge) → w.before ≡ Some p → v.before ≡ Some p

quiet : (cap : ℕ) (words : List ℕ) (views : List View) (i : ℕ) (v w : View) → IsSoundLog cap (shown_state cap words views) → IsStored cap words views → get_elem? views i ≡ some v → Quiet cap words v w
    → IsSoundLog cap (shown_state cap words (set views i w)) × IsStored cap words (set views i w)
quiet cap words views i v w g l at q =
    let back : (f : ℕ) (c : Claim) → map.get w.knows.claims f ≡ Some c → map.get v.knows.claims f ≡ Some c = λ f c e. ap (λ m. map.get m f) (sym q.claims) ∙ e in
    let known = at_map (λ (u : View). u.knows) views i v at in (
      rebuild cap words words views i v w g at
          (record {
            up = omega arith;
            low = q.low;
            seen = q.seen;
            grows = λ r m e. e;
            claims = λ f c e. ((g.claims i v.knows f c known (back f c e)).2, inl (c, back f c e, refl));
            marked = λ r m e. inl e;
          })
          g.next,
      record {
        size = l.size;
        caps = each_at (λ j u. u.live ≡ true → u.cap ≡ cap) views i w (λ e. q.caps ∙ l.caps i v at (sym q.live ∙ e)) (λ j u _ e. l.caps j u e);
        held = λ j u f c e is. each_at (λ j u. (f : ℕ) (c : Claim) → map.get u.knows.claims f ≡ Some c → take (length c.words) (drop (place_at f 0) words) ≡ c.words) views i w
            (λ f c is. l.held i v f c at (back f c is)) (λ j u _ e f c is. l.held j u f c e is) j u e f c is;
        notes = λ j u x e is. each_at (λ j u. (x : Note) → u.note ≡ Some x → IsNoted (row_mark cap words) x) views i w q.note (λ j u _ e x is. l.notes j u x e is) j u e x is;
        joins = λ j u p e is. each_at (λ j u. (p : Knowledge × Knowledge) → u.before ≡ Some p → Agree p.0 p.1) views i w (λ p is. l.joins i v p at (q.before p is)) (λ j u _ e p is. l.joins j u p e is) j u e p is;
        statuses = l.statuses;
        zeros = l.zeros;
      },
    )

-- a load, for the rule
pub quietly : (cap : ℕ) (s : State ℕ View) (k i : ℕ) (v w : View) → IsTableKept cap s → get_elem? s.views i ≡ some v → Quiet cap s.words v w
    → IsSoundLog cap (shown_state cap (set s.words k (slice_index s.words k)) (set s.views i w)) × IsStored cap (set s.words k (slice_index s.words k)) (set s.views i w)
quietly cap s k i v w kept at q =
    subst (λ ws. IsSoundLog cap (shown_state cap ws (set s.views i w)) × IsStored cap ws (set s.views i w)) (sym (set-get_or s.words k 0)) (quiet cap s.words s.views i v w kept.0 kept.1 at q)

pub looks : (cap slots id : ℕ) (me : OwnView) → Allows (IsTableKept cap) slots id me 0 (λ n. n) (Looks (step slots 0 0 0 none) me)
looks cap slots id me s kept len at small =
    let g = kept.0 in let l = kept.1 in let v = me.0 in let n = slice_index s.words 0 in
    let known = at_map (λ (u : View). u.knows) s.views id v at in
    let w : View = view_knowing v (knowledge_after_look n v.knows) in (
      w,
      keeps,
      tt,
      quietly cap s 0 id v w kept at
          (record { live = refl; caps = refl; claims = refl; low = omega arith; seen = λ r m e. g.seen id v.knows r m known e; note = λ x e. l.notes id v x at e; before = λ p e. e }),
      (refl, refl, g.low id v.knows known, λ live. subst (λ (c : ℕ). n ≤ c) (sym (l.caps id v at live)) g.next),
    )

-- a mark stays where a word is written that is neither its status nor one of its words
pub kept_mark : (cap j x r : ℕ) (words : List ℕ) → j ≢ status_at cap r → ((m : Mark) → row_mark cap words r ≡ Some m → (j < place_at r 0) ⊎ (place_at r 0 + len_of m ≤ j)) → ((m : Mark) → row_mark cap words r ≡ Some m → slice_index words (status_at cap r) ≡ status_of m)
    → row_mark cap (set words j x) r ≡ row_mark cap words r
kept_mark cap j x r words ne clear fits =
    ap (λ n. mark_of n (drop (place_at r 0) (set words j x))) (get_or-set_other words j (status_at cap r) x 0 (λ e. ne (sym e)))
    ∙ marks_same (place_at r 0) j x (slice_index words (status_at cap r)) words clear fits

-- a step that writes a word
pub record Written (cap : ℕ) (words now : List ℕ) (views : List View) (i : ℕ) (v w : View) : Type 0 where
  pub size : length now ≡ length words
  pub live : w.live ≡ v.live
  pub caps : w.cap ≡ v.cap
  pub note : w.note ≡ v.note
  pub before : w.before ≡ v.before
  pub grows : (r : ℕ) (m : Mark) → row_mark cap words r ≡ Some m → row_mark cap now r ≡ Some m
  pub mine : (f : ℕ) (c : Claim) → map.get w.knows.claims f ≡ Some c → take (length c.words) (drop (place_at f 0) now) ≡ c.words
  pub others : (j : ℕ) (u : View) (f : ℕ) (c : Claim) → j ≢ i → get_elem? views j ≡ some u → map.get u.knows.claims f ≡ Some c → take (length c.words) (drop (place_at f 0) now) ≡ take (length c.words) (drop (place_at f 0) words)
  pub statuses : (r : ℕ) (m : Mark) → row_mark cap now r ≡ Some m → slice_index now (status_at cap r) ≡ status_of m
  pub zeros : (k : ℕ) → 5 * slice_index now 0 ≤ k → k < 5 * cap → slice_index now (1 + k) ≡ 0

still_noted : (a b : ℕ → Option Mark) (x : Note) → ((r : ℕ) (m : Mark) → a r ≡ Some m → b r ≡ Some m) → IsNoted a x → IsNoted b x
still_noted a b x up n = (n.0, up x.row (Words n.0) n.1, n.2, n.3)

pub lies_on : (cap : ℕ) (words now : List ℕ) (views : List View) (i : ℕ) (v w : View) → IsStored cap words views → get_elem? views i ≡ some v → Written cap words now views i v w → IsStored cap now (set views i w)
lies_on cap words now views i v w l at m =
    record {
      size = m.size ∙ l.size;
      caps = each_at (λ j u. u.live ≡ true → u.cap ≡ cap) views i w (λ e. m.caps ∙ l.caps i v at (sym m.live ∙ e)) (λ j u _ e. l.caps j u e);
      held = λ j u f c e is. each_at (λ j u. (f : ℕ) (c : Claim) → map.get u.knows.claims f ≡ Some c → take (length c.words) (drop (place_at f 0) now) ≡ c.words) views i w
          m.mine (λ j u ne e f c is. m.others j u f c ne e is ∙ l.held j u f c e is) j u e f c is;
      notes = λ j u x e is. each_at (λ j u. (x : Note) → u.note ≡ Some x → IsNoted (row_mark cap now) x) views i w
          (λ x is. still_noted (row_mark cap words) (row_mark cap now) x m.grows (l.notes i v x at (sym m.note ∙ is)))
          (λ j u _ e x is. still_noted (row_mark cap words) (row_mark cap now) x m.grows (l.notes j u x e is)) j u e x is;
      joins = λ j u p e is. each_at (λ j u. (p : Knowledge × Knowledge) → u.before ≡ Some p → Agree p.0 p.1) views i w (λ p is. l.joins i v p at (sym m.before ∙ is)) (λ j u _ e p is. l.joins j u p e is) j u e p is;
      statuses = m.statuses;
      zeros = m.zeros;
    }

-- after a write of word 0
module _ (cap : ℕ) (words : List ℕ) (views : List View) (id : ℕ) (v : View) (rows : ℕ) where
  abbrev Next : ℕ
  Next = slice_index words 0

  abbrev Now : List ℕ
  Now = set words 0 (Next + rows)

  abbrev New : View
  New = view_knowing v (knowledge_after_claim Next rows v.knows)

  abbrev Fresh : Claim
  Fresh = record { rows = rows; words = replicate (5 * rows) 0 }

  same_mark : IsStored cap words views → (r : ℕ) → row_mark cap Now r ≡ row_mark cap words r
  same_mark l r = kept_mark cap 0 (Next + rows) r words (λ e. omega arith) (λ m e. inl (omega arith)) (l.statuses r)

  next_is : IsStored cap words views → slice_index Now 0 ≡ Next + rows
  next_is l = let size = l.size in let some_word : 0 < length words = omega arith in get_or-set_same words 0 (Next + rows) 0 some_word

  mine_taken : IsStored cap words views → get_elem? views id ≡ some v → Next + rows ≤ cap → (f : ℕ) (c : Claim) → map.get New.knows.claims f ≡ Some c → take (length c.words) (drop (place_at f 0) Now) ≡ c.words
  mine_taken l at fit f c e =
      seg_other (place_at f 0) (length c.words) 0 (Next + rows) words (inl (omega arith))
      ∙ ⊎_elim
      (λ (t : (f ≡ Next) × (Fresh ≡ c)).
      let size = l.size in
      let n : ℕ = 5 * rows in
      let zero : (k : ℕ) → k < n → slice_index words (place_at Next 0 + k) ≡ 0 = λ k h. let m : ℕ = 5 * Next + k in ap (slice_index words) (omega arith) ∙ l.zeros m (omega arith) (omega arith) in
      let fresh : take n (drop (place_at Next 0) words) ≡ replicate n 0 = seg_zeros (place_at Next 0) n words (omega arith) zero in
      let whole : take (length Fresh.words) (drop (place_at Next 0) words) ≡ Fresh.words = ap (λ k. take k (drop (place_at Next 0) words)) (length-replicate n 0) ∙ fresh in
      subst (λ (x : ℕ × Claim). take (length x.1.words) (drop (place_at x.0 0) words) ≡ x.1.words) (λ i. (sym t.0 i, t.1 i)) whole)
      (λ t. l.held id v f c at t.1)
      (inserted v.knows.claims Next f Fresh c e)

  taken : IsSoundLog cap (shown_state cap words views) → IsStored cap words views → get_elem? views id ≡ some v → 1 ≤ rows → Next + rows ≤ cap
      → IsSoundLog cap (shown_state cap Now (set views id New)) × IsStored cap Now (set views id New)
  taken g l at one fit =
      let known = at_map (λ (u : View). u.knows) views id v at in
      let same = same_mark l in
      let next = next_is l in
      let grows : (r : ℕ) (m : Mark) → row_mark cap words r ≡ Some m → row_mark cap Now r ≡ Some m = λ r m e. same r ∙ e in
      let back : (r : ℕ) (m : Mark) → row_mark cap Now r ≡ Some m → row_mark cap words r ≡ Some m = λ r m e. sym (same r) ∙ e in (
        rebuild cap words Now views id v New g at
            (record {
              up = omega arith;
              low = omega arith;
              seen = λ r m e. grows r m (g.seen id v.knows r m known e);
              grows = grows;
              claims = λ f c e. ⊎_elim
                  (λ (t : (f ≡ Next) × (Fresh ≡ c)). let x : rows ≡ c.rows = ap (λ (y : Claim). y.rows) t.1 in let y : length Fresh.words ≡ length c.words = ap (λ (y : Claim). length y.words) t.1 in let z : length Fresh.words ≡ 5 * rows = zeros_len (5 * rows) in (omega arith, inr (t.0, omega arith, omega arith)))
                  (λ t. ((g.claims id v.knows f c known t.1).2, inl (c, t.1, refl)))
                  (inserted v.knows.claims Next f Fresh c e);
              marked = λ r m e. inl (back r m e);
            })
            (omega arith),
        lies_on cap words Now views id v New l at
            (record {
              size = length-set words 0 (Next + rows);
              live = refl;
              caps = refl;
              note = refl;
              before = refl;
              grows = grows;
              mine = mine_taken l at fit;
              others = λ j u f c ne e is. seg_other (place_at f 0) (length c.words) 0 (Next + rows) words (inl (omega arith));
              statuses = λ r m e. get_or-set_other words 0 (status_at cap r) (Next + rows) 0 (λ e. omega arith) ∙ l.statuses r m (back r m e);
              zeros = λ k a b. get_or-set_other words 0 (1 + k) (Next + rows) 0 (λ e. omega arith) ∙ l.zeros k (omega arith) b;
            }),
      )

-- the claims of the seat that stepped
pub own_apart : (cap : ℕ) (now : List ℕ) (views : List View) (id : ℕ) (v w : View) → get_elem? views id ≡ some v → IsSoundLog cap (shown_state cap now (set views id w)) → AreClaimsApart w.knows
own_apart cap now views id v w at g f h c d is is' =
    let here : get_elem? (set views id w) id ≡ some w = set_here views id w (below views id v at) in
    let known = at_map (λ (u : View). u.knows) (set views id w) id w here in
    ⊎_elim (λ (t : (id ≡ id) × (f ≡ h)). inl t.1) (λ o. inr o) (g.apart id id w.knows w.knows f h c d known known is is')
  where
    below : (l : List View) (i : ℕ) (u : View) → get_elem? l i ≡ some u → i < length l
    below [] i u e = absurd (some-ne-none u (sym e))
    below (x ∷ xs) zero u e = omega arith
    below (x ∷ xs) (suc i) u e = let h : i < length xs = below xs i u e in omega arith

abbrev TakesIf : ℕ → ℕ → ℕ → OwnView → State ℕ View → ℕ → ℕ → Bool → Type 0
TakesIf cap slots id me s old new b =
    (w : View) × (a : Act ℕ) × Valid s.homes me.1 a × IsTableKept cap (stepped s 0 (either b new (slice_index s.words 0)) id me.1 w a)
    × ((carried_after me.1 a ≡ me.1) × (me.0.knows.low ≤ slice_index s.words 0) × (me.0.live ≡ true → slice_index s.words 0 ≤ me.0.cap)
    × MatchBool b
    ((w ≡ view_knowing me.0 (knowledge_after_claim (slice_index s.words 0) (new - old) me.0.knows)) × ((r : ℕ) (m : Mark) → map.get me.0.knows.seen r ≡ Some m → r < slice_index s.words 0) × AreClaimsApart w.knows)
    (w ≡ view_knowing me.0 (knowledge_after_look (slice_index s.words 0) me.0.knows)))

takes_if : (cap slots id old rows : ℕ) (me : OwnView) → 1 ≤ rows → old + rows ≤ cap → (s : State ℕ View) → IsTableKept cap s → get_elem? s.views id ≡ some me.0 → (b : Bool) → (slice_index s.words 0 == old) ≡ b → TakesIf cap slots id me s old (old + rows) b
takes_if cap slots id old rows me one fit s kept at true is =
    let g = kept.0 in let l = kept.1 in let v = me.0 in let n : ℕ = slice_index s.words 0 in
    let same : n ≡ old = eqb-true n old is in
    let count : rows ≡ (old + rows) - old = omega arith in
    let all = taken cap s.words s.views id v rows g l at one (omega arith) in
    let both : IsSoundLog cap (shown_state cap (set s.words 0 (old + rows)) (set s.views id (view_knowing v (knowledge_after_claim n ((old + rows) - old) v.knows)))) × IsStored cap (set s.words 0 (old + rows)) (set s.views id (view_knowing v (knowledge_after_claim n ((old + rows) - old) v.knows))) =
    subst (λ (x : ℕ × ℕ). IsSoundLog cap (shown_state cap (set s.words 0 x.0) (set s.views id (view_knowing v (knowledge_after_claim n x.1 v.knows)))) × IsStored cap (set s.words 0 x.0) (set s.views id (view_knowing v (knowledge_after_claim n x.1 v.knows)))) (λ i. (ap (λ k. k + rows) same i, count i)) all in
    let apart = own_apart cap (set s.words 0 (old + rows)) s.views id v (view_knowing v (knowledge_after_claim n ((old + rows) - old) v.knows)) at both.0 in
    let known = at_map (λ (u : View). u.knows) s.views id v at in (
      view_knowing v (knowledge_after_claim n ((old + rows) - old) v.knows),
      keeps,
      tt,
      both,
      (refl, g.low id v.knows known, (λ live. subst (λ (c : ℕ). n ≤ c) (sym (l.caps id v at live)) g.next), (refl, (λ r m e. (g.marked r m (g.seen id v.knows r m known e)).0), apart)),
    )
takes_if cap slots id old rows me one fit s kept at false is =
    let g = kept.0 in let l = kept.1 in let v = me.0 in let n : ℕ = slice_index s.words 0 in
    let known = at_map (λ (u : View). u.knows) s.views id v at in
    let w : View = view_knowing v (knowledge_after_look n v.knows) in (
      w,
      keeps,
      tt,
      quietly cap s 0 id v w kept at
          (record { live = refl; caps = refl; claims = refl; low = omega arith; seen = λ r m e. g.seen id v.knows r m known e; note = λ x e. l.notes id v x at e; before = λ p e. e }),
      (refl, g.low id v.knows known, (λ live. subst (λ (c : ℕ). n ≤ c) (sym (l.caps id v at live)) g.next), refl),
    )

pub takes : (cap slots id old rows : ℕ) (me : OwnView) → 1 ≤ rows → old + rows ≤ cap → Allows (IsTableKept cap) slots id me 0 (λ n. either (n == old) (old + rows) n) (TakesRows (step slots 0 old (old + rows) none) me)
takes cap slots id old rows me one fit s kept len at small = takes_if cap slots id old rows me one fit s kept at (slice_index s.words 0 == old) refl
