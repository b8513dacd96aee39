-- A store of a claim's word, or of its status, keeps the rule.
use Rattle.std.proofs.Common.{◌≡◌, ◌≢◌, ◌⊎◌, ℕ, ◌+◌, ◌*◌, ◌<◌, ◌≤◌, List, length, set, take, drop, Some, refl, sym, ap, ◌∙◌, subst, inl, inr, ⊎_elim, arith}
use Rattle.std.specs.Prelude.{slice_index}
use Rattle.std.specs.Option.{unwrap_or}
use mathlib.Core.Option.{some, none}
use lib.ListN.{get_elem?}
use Rattle.std.specs.FinMap as map
use Rattle.std.proofs.lemmas.List.{length-set, get_or-set_other}
use Rattle.atomic_table.specs.Table.{step, Allows, keeps}
use Rattle.atomic_table.proofs.Lists.{at_map}
use Rattle.jh_slots.specs.Seats.{Mark, Claim, Knowledge, claim_at, no_claim, written_claim}
use Rattle.jh_slots.specs.States.{IsSoundLog, len_of}
use Rattle.jh_slots.specs.Stored.{View, IsTableKept, IsStored, shown_state, row_mark, status_at, place_at}
use Rattle.jh_slots.specs.Steps.{OwnView, view_knowing, Writes}
use Rattle.jh_slots.proofs.MapLemmas.{inserted}
use Rattle.jh_slots.proofs.WordLemmas.{seg_other, seg_in}
use Rattle.jh_slots.proofs.StepRuleLemmas.{rebuild, lies_on, kept_mark}

pub claim_is : (v : Knowledge) (f : ℕ) (c : Claim) → map.get v.claims f ≡ Some c → claim_at v f ≡ c
claim_is v f c e = ap (λ o. unwrap_or o no_claim) e

-- words of another claim, of another seat or at another row
apart_words : (f p g : ℕ) (c d : Claim) → p < 5 * c.rows → length d.words ≡ 5 * d.rows → (f + c.rows ≤ g) ⊎ (g + d.rows ≤ f) → (place_at f p < place_at g 0) ⊎ (place_at g 0 + length d.words ≤ place_at f p)
apart_words f p g c d lt len (inl h) = inl (omega arith)
apart_words f p g c d lt len (inr h) = inr (omega arith)

module _ (cap : ℕ) (words : List ℕ) (views : List View) (id : ℕ) (v : View) (f p x : ℕ) (c : Claim) where
  abbrev At : ℕ
  At = place_at f p

  abbrev Now : List ℕ
  Now = set words At x

  abbrev Put : Claim
  Put = written_claim c p x

  abbrev New : View
  New = view_knowing v (record { seen = v.knows.seen; low = v.knows.low; claims = map.insert v.knows.claims f Put })

  abbrev Has : Type 0
  Has = map.get v.knows.claims f ≡ Some c

  put_mark : IsSoundLog cap (shown_state cap words views) → IsStored cap words views → get_elem? views id ≡ some v → Has → p < 5 * c.rows → (r : ℕ) → row_mark cap Now r ≡ row_mark cap words r
  put_mark g l at has lt r =
      let known = at_map (λ (u : View). u.knows) views id v at in
      let end : f + c.rows ≤ slice_index words 0 = (g.claims id v.knows f c known has).1 in
      let most : slice_index words 0 ≤ cap = g.next in
      kept_mark cap At x r words (λ e. omega arith)
      (λ m e. ⊎_elim (λ (h : f + c.rows ≤ r). inl (omega arith)) (λ (h : (r < f) × (5 * r + len_of m ≤ 5 * f)). let h1 = h.1 in inr (omega arith)) (g.clear id v.knows f c r m known has e))
      (l.statuses r)

  put_next : slice_index Now 0 ≡ slice_index words 0
  put_next = get_or-set_other words At 0 x 0 (λ e. omega arith)

  put_mine : IsSoundLog cap (shown_state cap words views) → IsStored cap words views → get_elem? views id ≡ some v → Has → p < 5 * c.rows → (h : ℕ) (d : Claim) → map.get New.knows.claims h ≡ Some d → take (length d.words) (drop (place_at h 0) Now) ≡ d.words
  put_mine g l at has lt h d e =
      let known = at_map (λ (u : View). u.knows) views id v at in
      ⊎_elim
      (λ (t : (h ≡ f) × (Put ≡ d)).
      let own : take (length Put.words) (drop (place_at f 0) Now) ≡ Put.words =
      ap (λ k. take k (drop (place_at f 0) Now)) (length-set c.words p x) ∙ (seg_in (place_at f 0) (length c.words) At p x words (omega arith) ∙ ap (λ l. set l p x) (l.held id v f c at has)) in
      subst (λ (y : ℕ × Claim). take (length y.1.words) (drop (place_at y.0 0) Now) ≡ y.1.words) (λ i. (sym t.0 i, t.1 i)) own)
      (λ (t : (h ≢ f) × (map.get v.knows.claims h ≡ Some d)).
      let len = (g.claims id v.knows h d known t.1).2 in
      seg_other (place_at h 0) (length d.words) At x words
      (apart_words f p h c d lt len (⊎_elim (λ (y : (id ≡ id) × (f ≡ h)). absurd (t.0 (sym y.1))) (λ y. y) (g.apart id id v.knows v.knows f h c d known known has t.1)))
      ∙ l.held id v h d at t.1)
      (inserted v.knows.claims f h Put d e)

  put : IsSoundLog cap (shown_state cap words views) → IsStored cap words views → get_elem? views id ≡ some v → Has → p < 5 * c.rows
      → IsSoundLog cap (shown_state cap Now (set views id New)) × IsStored cap Now (set views id New)
  put g l at has lt =
      let known = at_map (λ (u : View). u.knows) views id v at in
      let same = put_mark g l at has lt in
      let own = g.claims id v.knows f c known has in
      let next : slice_index Now 0 ≡ slice_index words 0 = put_next in
      let low : v.knows.low ≤ slice_index words 0 = g.low id v.knows known in
      let end : f + c.rows ≤ slice_index words 0 = own.1 in
      let most : slice_index words 0 ≤ cap = g.next in
      let grows : (r : ℕ) (m : Mark) → row_mark cap words r ≡ Some m → row_mark cap Now r ≡ Some m = λ r m e. same r ∙ e in
      let back : (r : ℕ) (m : Mark) → row_mark cap Now r ≡ Some m → row_mark cap words r ≡ Some m = λ r m e. sym (same r) ∙ e in (
        rebuild cap words Now views id v New g at
            (record {
              up = omega arith;
              low = omega arith;
              seen = λ r m e. grows r m (g.seen id v.knows r m known e);
              grows = grows;
              claims = λ h d e. ⊎_elim
                  (λ (t : (h ≡ f) × (Put ≡ d)).
                  let n : length Put.words ≡ length d.words = ap (λ (y : Claim). length y.words) t.1 in let k : c.rows ≡ d.rows = ap (λ (y : Claim). y.rows) t.1 in let m : length (set c.words p x) ≡ length c.words = length-set c.words p x in let o = own.2 in
                  (omega arith, inl (c, ap (map.get v.knows.claims) t.0 ∙ has, k)))
                  (λ (t : (h ≢ f) × (map.get v.knows.claims h ≡ Some d)). ((g.claims id v.knows h d known t.1).2, inl (d, t.1, refl)))
                  (inserted v.knows.claims f h Put d e);
              marked = λ r m e. inl (back r m e);
            })
            (omega arith),
        lies_on cap words Now views id v New l at
            (record {
              size = length-set words At x;
              live = refl;
              caps = refl;
              note = refl;
              before = refl;
              grows = grows;
              mine = put_mine g l at has lt;
              others = λ j u h d ne e is.
                  let there = at_map (λ (u : View). u.knows) views j u e in
                  let len = (g.claims j u.knows h d there is).2 in
                  seg_other (place_at h 0) (length d.words) At x words
                  (apart_words f p h c d lt len (⊎_elim (λ (y : (id ≡ j) × (f ≡ h)). absurd (ne (sym y.0))) (λ y. y) (g.apart id j v.knows u.knows f h c d known there has is)));
              statuses = λ r m e. get_or-set_other words At (status_at cap r) x 0 (λ e. omega arith) ∙ l.statuses r m (back r m e);
              zeros = λ k a b. get_or-set_other words At (1 + k) x 0 (λ e. omega arith) ∙ l.zeros k (omega arith) b;
            }),
      )

  -- of the claims of one seat, a place is in one
  one_claim : IsSoundLog cap (shown_state cap words views) → get_elem? views id ≡ some v → Has → p < 5 * c.rows
      → (g q : ℕ) (d : Claim) → map.get v.knows.claims g ≡ Some d → q < 5 * d.rows → place_at f p ≡ place_at g q → (f ≡ g) × (p ≡ q)
  one_claim g at has lt h q d is lt' same =
      let known = at_map (λ (u : View). u.knows) views id v at in
      ⊎_elim
      (λ (t : (id ≡ id) × (f ≡ h)). let e = t.1 in (e, omega arith))
      (λ o. ⊎_elim (λ (x : f + c.rows ≤ h). absurd (omega arith)) (λ (y : h + d.rows ≤ f). absurd (omega arith)) o)
      (g.apart id id v.knows v.knows f h c d known known has is)

pub writes : (cap slots id f p x : ℕ) (me : OwnView) (c : Claim) → map.get me.0.knows.claims f ≡ Some c → p < 5 * c.rows → Allows (IsTableKept cap) slots id me (place_at f p) (λ _. x) (λ _. Writes (step slots (place_at f p) x 0 none) me x)
writes cap slots id f p x me c has lt s kept len at small =
    let v = me.0 in
    let same : map.insert v.knows.claims f (written_claim c p x) ≡ map.insert v.knows.claims f (written_claim (claim_at v.knows f) p x) = ap (λ d. map.insert v.knows.claims f (written_claim d p x)) (sym (claim_is v.knows f c has)) in (
      New cap s.words s.views id v f p x c,
      keeps,
      tt,
      put cap s.words s.views id v f p x c kept.0 kept.1 at has lt,
      (
        refl,
        λ h q d is lt' e.
            let one = one_claim cap s.words s.views id v f p x c kept.0 at has lt h q d is lt' e in
            λ i. view_knowing v (record { seen = v.knows.seen; low = v.knows.low; claims = subst (λ (y : ℕ × ℕ). map.insert v.knows.claims f (written_claim c p x) ≡ map.insert v.knows.claims y.0 (written_claim (claim_at v.knows y.0) y.1 x)) (λ i. (one.0 i, one.1 i)) same i }),
      ),
    )
