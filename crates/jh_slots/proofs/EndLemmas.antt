-- A store of a claim's status keeps the rule.
use Rattle.std.proofs.Common.{◌≡◌, ◌≢◌, ◌⊎◌, ℕ, zero, suc, ◌+◌, ◌*◌, ◌<◌, ◌≤◌, List, length, set, take, drop, true, Some, None, refl, sym, ap, ◌∙◌, subst, inl, inr, ⊎_elim, arith}
use Rattle.std.specs.Prelude.{slice_index}
use mathlib.Core.Option.{some, none}
use mathlib.Core.Logic.{dite}
use native.Mathlib.Decide.{ℕ_discrete}
use lib.ListN.{get_elem?}
use Rattle.std.specs.FinMap as map
use Rattle.std.proofs.lemmas.List.{length-set, get_or-set_other, get_or-set_same, take-take, length-take-le}
use Rattle.atomic_table.specs.Table.{step, Allows, keeps}
use Rattle.atomic_table.proofs.Lists.{at_map}
use Rattle.jh_slots.specs.Seats.{Mark, Words, Void, Claim, claim_at, knowledge_after_end}
use Rattle.jh_slots.specs.States.{IsSoundLog, len_of}
use Rattle.jh_slots.specs.Stored.{View, IsTableKept, IsStored, shown_state, row_mark, mark_of, status_of, status_at, place_at}
use Rattle.jh_slots.specs.Steps.{OwnView, view_knowing, Ends}
use Rattle.jh_slots.proofs.MapLemmas.{gone, inserted, removed}
use Rattle.jh_slots.proofs.WordLemmas.{seg_other}
use Rattle.jh_slots.proofs.StepRuleLemmas.{rebuild, lies_on, kept_mark}
use Rattle.jh_slots.proofs.WriteLemmas.{claim_is}

-- the mark that a status makes of a claim's words is the one that it makes of the table's
same_words : (b x j y : ℕ) (ws cw : List ℕ) (m : Mark) → take (length cw) (drop b ws) ≡ cw → x ≤ 1 + length cw → b + length cw ≤ j → mark_of x cw ≡ Some m → mark_of x (drop b (set ws j y)) ≡ Some m
same_words b zero j y ws cw m is le far e = e
same_words b (suc zero) j y ws cw m is le far e = e
same_words b (suc (suc k)) j y ws cw m is le far e =
    let small : suc k ≤ length cw = omega arith in
    ap (λ l. Some (Words l)) (seg_other b (suc k) j y ws (inr (omega arith)) ∙ (sym (take-take (suc k) (length cw) (drop b ws) small) ∙ ap (take (suc k)) is)) ∙ e

-- and it is the status of that mark
status_is : (x : ℕ) (cw : List ℕ) (m : Mark) → x ≤ 1 + length cw → mark_of x cw ≡ Some m → (x ≡ status_of m) × (len_of m ≤ length cw)
status_is zero cw m le e = let h : None ≡ Some m = e in absurd (cc)
status_is (suc zero) cw m le e = let h : Some Void ≡ Some m = e in let is : Void ≡ m = cc in subst (λ (m : Mark). (1 ≡ status_of m) × (len_of m ≤ length cw)) is (refl, omega arith)
status_is (suc (suc k)) cw m le e =
    let ws : List ℕ = take (suc k) cw in
    let len : length ws ≡ suc k = length-take-le (suc k) cw (omega arith) in
    let h : Some (Words ws) ≡ Some m = e in let is : Words ws ≡ m = cc in subst (λ (m : Mark). (suc (suc k) ≡ status_of m) × (len_of m ≤ length cw)) is (omega arith, omega arith)

module _ (cap : ℕ) (words : List ℕ) (views : List View) (id : ℕ) (v : View) (f x : ℕ) (c : Claim) (m : Mark) where
  abbrev At : ℕ
  At = status_at cap f

  abbrev Now : List ℕ
  Now = set words At x

  abbrev New : View
  New = view_knowing v (knowledge_after_end f m v.knows)

  abbrev Has : Type 0
  Has = map.get v.knows.claims f ≡ Some c

  module _ (g : IsSoundLog cap (shown_state cap words views)) (l : IsStored cap words views) (at : get_elem? views id ≡ some v) (has : Has) (fits : x ≤ 1 + 5 * c.rows) (is : mark_of x c.words ≡ Some m) where
    known : get_elem? (shown_state cap words views).seats id ≡ some v.knows
    known = at_map (λ (u : View). u.knows) views id v at

    own : (1 ≤ c.rows) × (f + c.rows ≤ slice_index words 0) × (length c.words ≡ 5 * c.rows)
    own = g.claims id v.knows f c known has

    pub end_next : slice_index Now 0 ≡ slice_index words 0
    end_next = get_or-set_other words At 0 x 0 (λ e. omega arith)

    end_status : slice_index Now At ≡ x
    end_status = let size = l.size in let o = own in let most : slice_index words 0 ≤ cap = g.next in get_or-set_same words At x 0 (omega arith)

    -- no other row's words reach a status
    far : (r : ℕ) (y : Mark) → row_mark cap words r ≡ Some y → place_at r 0 + len_of y ≤ At
    far r y e = let h = g.marked r y e in let most : slice_index words 0 ≤ cap = g.next in let a : 5 * r + len_of y ≤ 5 * slice_index words 0 = h.1 in omega arith

    pub end_else : (r : ℕ) → r ≢ f → row_mark cap Now r ≡ row_mark cap words r
    end_else r ne = kept_mark cap At x r words (λ e. ne (omega arith)) (λ y e. inr (far r y e)) (l.statuses r)

    pub end_here : row_mark cap Now f ≡ Some m
    end_here =
        let o = own in let most : slice_index words 0 ≤ cap = g.next in let len = own.2 in
        subst (λ n. mark_of n (drop (place_at f 0) Now) ≡ Some m) (sym end_status)
        (same_words (place_at f 0) x At x words c.words m (l.held id v f c at has) (omega arith) (omega arith) is)

    -- the row had no mark
    unmarked : (y : Mark) → row_mark cap words f ≡ Some y → ⊥
    unmarked y e = let o = own in ⊎_elim (λ (h : f + c.rows ≤ f). omega arith) (λ (h : (f < f) × (5 * f + len_of y ≤ 5 * f)). let h0 = h.0 in omega arith) (g.clear id v.knows f c f y known has e)

    end_grows : (r : ℕ) (y : Mark) → row_mark cap words r ≡ Some y → row_mark cap Now r ≡ Some y
    end_grows r y e = end_else r (λ same. unmarked y (ap (row_mark cap words) (sym same) ∙ e)) ∙ e

    end_marked : (r : ℕ) (y : Mark) → row_mark cap Now r ≡ Some y → ((r ≡ f) × (m ≡ y)) ⊎ (row_mark cap words r ≡ Some y)
    end_marked r y e =
        dite (ℕ_discrete r f)
        (λ same. let h : Some m ≡ Some y = sym end_here ∙ (ap (row_mark cap Now) (sym same) ∙ e) in let is : m ≡ y = cc in inl (same, is))
        (λ ne. inr (sym (end_else r ne) ∙ e))

    end_claims : (h : ℕ) (d : Claim) → map.get New.knows.claims h ≡ Some d → map.get v.knows.claims h ≡ Some d
    end_claims h d e = (removed v.knows.claims f h d e).1

    held_far : (j : ℕ) (u : View) (h : ℕ) (d : Claim) → get_elem? views j ≡ some u → map.get u.knows.claims h ≡ Some d → take (length d.words) (drop (place_at h 0) Now) ≡ take (length d.words) (drop (place_at h 0) words)
    held_far j u h d e is =
        let t = g.claims j u.knows h d (at_map (λ (u : View). u.knows) views j u e) is in let len = t.2 in let end = t.1 in let most : slice_index words 0 ≤ cap = g.next in
        seg_other (place_at h 0) (length d.words) At x words (inr (omega arith))

    pub end_all : IsSoundLog cap (shown_state cap Now (set views id New)) × IsStored cap Now (set views id New)
    end_all =
        let next : slice_index Now 0 ≡ slice_index words 0 = end_next in
        let low : v.knows.low ≤ slice_index words 0 = g.low id v.knows known in
        let most : slice_index words 0 ≤ cap = g.next in
        let st = status_is x c.words m (let len = own.2 in omega arith) is in (
          rebuild cap words Now views id v New g at
              (record {
                up = omega arith;
                low = omega arith;
                seen = λ r y e. ⊎_elim
                    (λ (t : (r ≡ f) × (m ≡ y)). subst (λ (z : ℕ × Mark). row_mark cap Now z.0 ≡ Some z.1) (λ i. (sym t.0 i, t.1 i)) end_here)
                    (λ (t : (r ≢ f) × (map.get v.knows.seen r ≡ Some y)). end_grows r y (g.seen id v.knows r y known t.1))
                    (inserted v.knows.seen f r m y e);
                grows = end_grows;
                claims = λ h d e. ((g.claims id v.knows h d known (end_claims h d e)).2, inl (d, end_claims h d e, refl));
                marked = λ r y e. ⊎_elim
                    (λ (t : (r ≡ f) × (m ≡ y)).
                    let small : len_of y ≤ 5 * c.rows = let a = st.1 in let len = own.2 in let b : len_of m ≡ len_of y = ap len_of t.1 in omega arith in
                    inr (c, ap (map.get v.knows.claims) t.0 ∙ has, small, ap (map.get (map.remove v.knows.claims f)) t.0 ∙ gone v.knows.claims f))
                    (λ old. inl old)
                    (end_marked r y e);
              })
              (omega arith),
          lies_on cap words Now views id v New l at
              (record {
                size = length-set words At x;
                live = refl;
                caps = refl;
                note = refl;
                before = refl;
                grows = end_grows;
                mine = λ h d e. held_far id v h d at (end_claims h d e) ∙ l.held id v h d at (end_claims h d e);
                others = λ j u h d ne e is. held_far j u h d e is;
                statuses = λ r y e. dite (ℕ_discrete r f)
                    (λ same. let h : Some m ≡ Some y = sym end_here ∙ (ap (row_mark cap Now) (sym same) ∙ e) in let is : m ≡ y = cc in
                    ap (λ k. slice_index Now (status_at cap k)) same ∙ (end_status ∙ (st.0 ∙ ap status_of is)))
                    (λ ne. get_or-set_other words At (status_at cap r) x 0 (λ e. ne (omega arith)) ∙ l.statuses r y (sym (end_else r ne) ∙ e));
                zeros = λ k a b. get_or-set_other words At (1 + k) x 0 (λ e. omega arith) ∙ l.zeros k (omega arith) b;
              }),
        )

pub ends : (cap slots id f x : ℕ) (me : OwnView) (c : Claim) (m : Mark) → me.0.live ≡ true → me.0.cap ≡ cap → map.get me.0.knows.claims f ≡ Some c → x ≤ 1 + 5 * c.rows → mark_of x c.words ≡ Some m
    → Allows (IsTableKept cap) slots id me (status_at cap f) (λ _. x) (λ _. Ends (step slots (status_at cap f) x 0 none) me x)
ends cap slots id f x me c m live here has fits is s kept len at small =
    let v = me.0 in (
      New cap s.words s.views id v f x c m,
      keeps,
      tt,
      end_all cap s.words s.views id v f x c m kept.0 kept.1 at has fits is,
      (
        refl,
        λ h y e eq.
            let one : f ≡ h = omega arith in
            let claim : claim_at v.knows h ≡ c = ap (claim_at v.knows) (sym one) ∙ claim_is v.knows f c has in
            let both : Some m ≡ Some y = sym is ∙ (ap (mark_of x) (ap (λ (d : Claim). d.words) (sym claim)) ∙ eq) in
            let same : m ≡ y = cc in
            λ i. view_knowing v (knowledge_after_end (one i) (same i) v.knows),
      ),
    )

pub ends_at : (cap slots id f x j : ℕ) (me : OwnView) (c : Claim) (m : Mark) → j ≡ status_at cap f → me.0.live ≡ true → me.0.cap ≡ cap → map.get me.0.knows.claims f ≡ Some c → x ≤ 1 + 5 * c.rows → mark_of x c.words ≡ Some m
    → Allows (IsTableKept cap) slots id me j (λ _. x) (λ _. Ends (step slots j x 0 none) me x)
ends_at cap slots id f x j me c m e live here has fits is = subst (λ (k : ℕ). Allows (IsTableKept cap) slots id me k (λ _. x) (λ _. Ends (step slots k x 0 none) me x)) (sym e) (ends cap slots id f x me c m live here has fits is)

-- the status of a record
pub mark_of-len : (len : ℕ) (ws : List ℕ) → 1 ≤ len → mark_of (len + 1) ws ≡ Some (Words (take len ws))
mark_of-len zero ws h = absurd (omega arith)
mark_of-len (suc k) ws h = let e : suc k + 1 ≡ suc (suc k) = omega arith in ap (λ n. mark_of n ws) e

-- each status from 1 on is that of a mark
pub mark_there : (status : ℕ) (words : List ℕ) → 1 ≤ status → (m : Mark) × (mark_of status words ≡ Some m)
mark_there zero words least = absurd (omega arith)
mark_there (suc zero) words least = (Void, refl)
mark_there (suc (suc k)) words least = (Words (take (suc k) words), refl)
