-- A split and a join keep the rule.
use Rattle.std.proofs.Common.{◌≡◌, ◌≢◌, ℕ, List, [], ◌∷◌, ◌++◌, length, set, take, drop, Some, None, true, false, refl, sym, ap, ◌∙◌, subst, ⊎_elim}
use Rattle.std.specs.Prelude.{slice_index}
use mathlib.Core.Option.{some, none}
use lib.ListN.{get_elem?}
use Rattle.std.specs.FinMap as fin
use Rattle.std.proofs.lemmas.List.{map-append, map-set}
use Rattle.atomic_table.specs.Table.{step, Allows, Splits, Joins, keeps}
use Rattle.atomic_table.proofs.Lists.{at_set, at_snoc, at_map, set_again, set_else}
use Rattle.jh_slots.specs.Seats.{Claim, Knowledge, newcomer, knowledge_after_split, knowledge_after_join, Agree}
use Rattle.jh_slots.specs.States.{IsSoundLog}
use Rattle.jh_slots.specs.Stored.{Note, View, IsTableKept, IsStored, shown_state, knowledge_of, row_mark, place_at, IsNoted, copy_view, join_view, spent_view}
use Rattle.jh_slots.specs.Steps.{OwnView, Recalls, view_forgetting}
use Rattle.jh_slots.proofs.MapLemmas.{of_gather, nothing_at}
use Rattle.jh_slots.proofs.JoinLemmas.{good_was, was_split, was_join, JoinsTo, agrees}
use Rattle.jh_slots.proofs.StepRuleLemmas.{quietly}

known : (views : List View) (i : ℕ) (v : View) → get_elem? views i ≡ some v → get_elem? (knowledge_of views) i ≡ some v.knows
known views i v at = at_map (λ (u : View). u.knows) views i v at

-- what the words say of one view
record Fits (cap : ℕ) (words : List ℕ) (v : View) : Type 0 where
  caps : v.live ≡ true → v.cap ≡ cap
  held : (f : ℕ) (c : Claim) → fin.get v.knows.claims f ≡ Some c → take (length c.words) (drop (place_at f 0) words) ≡ c.words
  notes : (x : Note) → v.note ≡ Some x → IsNoted (row_mark cap words) x
  joins : (p : Knowledge × Knowledge) → v.before ≡ Some p → Agree p.0 p.1

fits : (cap : ℕ) (words : List ℕ) (views : List View) (i : ℕ) (v : View) → IsStored cap words views → get_elem? views i ≡ some v → Fits cap words v
fits cap words views i v l at = record { caps = l.caps i v at; held = λ f c e. l.held i v f c at e; notes = λ x e. l.notes i v x at e; joins = λ p e. l.joins i v p at e }

lies_all : (cap : ℕ) (words : List ℕ) (views now : List View) → IsStored cap words views → ((i : ℕ) (v : View) → get_elem? now i ≡ some v → Fits cap words v) → IsStored cap words now
lies_all cap words views now l all =
    record { size = l.size; caps = λ i v e. (all i v e).caps; held = λ i v f c e is. (all i v e).held f c is; notes = λ i v x e is. (all i v e).notes x is; joins = λ i v p e is. (all i v e).joins p is; statuses = l.statuses; zeros = l.zeros }

fits_copy : (cap : ℕ) (words : List ℕ) (v : View) → Fits cap words v → Fits cap words (copy_view v)
fits_copy cap words v f = record { caps = f.caps; held = λ h c e. absurd (nothing_at h c e); notes = λ x e. let bad : None ≡ Some x = e in absurd (cc); joins = λ p e. let bad : None ≡ Some p = e in absurd (cc) }

fits_spent : (cap : ℕ) (words : List ℕ) → Fits cap words spent_view
fits_spent cap words = record { caps = λ e. let bad : false ≡ true = e in absurd (cc); held = λ h c e. absurd (nothing_at h c e); notes = λ x e. let bad : None ≡ Some x = e in absurd (cc); joins = λ p e. let bad : None ≡ Some p = e in absurd (cc) }

fits_both : (cap : ℕ) (words : List ℕ) (v w : View) → Fits cap words v → Fits cap words w → Agree v.knows w.knows → Fits cap words (join_view v w)
fits_both cap words v w f g agree =
    record {
      caps = f.caps;
      held = λ h c e. ⊎_elim (λ a. f.held h c a) (λ b. g.held h c b) (of_gather v.knows.claims w.knows.claims h c e);
      notes = f.notes;
      joins = λ p e. let both : Some (v.knows, w.knows) ≡ Some p = e in let is : (v.knows, w.knows) ≡ p = cc in subst (λ (q : Knowledge × Knowledge). Agree q.0 q.1) is agree;
    }

pub splits : (cap id : ℕ) (v : View) → Splits (IsTableKept cap) id v v (copy_view v)
splits cap id v s kept at =
    let back = λ (ws : List View). IsSoundLog cap (shown_state cap s.words (ws ++ copy_view v ∷ [])) × IsStored cap s.words (ws ++ copy_view v ∷ []) in
    let seats = was_split cap (shown_state cap s.words s.views) id v.knows kept.0 (known s.views id v at) in
    subst back (sym (set_again s.views id v at)) (
      subst (λ ss. IsSoundLog cap (record { next = slice_index s.words 0; marks = row_mark cap s.words; seats = ss })) (sym (map-append (λ (u : View). u.knows) s.views (copy_view v ∷ [])))
          (good_was cap (shown_state cap s.words s.views) (knowledge_of s.views ++ knowledge_after_split v.knows ∷ []) (λ k j. k ≡ j) kept.0 seats),
      lies_all cap s.words s.views (s.views ++ copy_view v ∷ []) kept.1
          (λ j u e. ⊎_elim (λ old. fits cap s.words s.views j u kept.1 old) (λ (is : copy_view v ≡ u). subst (Fits cap s.words) is (fits_copy cap s.words v (fits cap s.words s.views id v kept.1 at))) (at_snoc s.views (copy_view v) u j e)),
    )

pub unites : (cap id : ℕ) (v : View) (other : ℕ) (w : View) → Joins (IsTableKept cap) id v other w (join_view v w) spent_view
unites cap id v other w s kept at ne at' =
    let there : get_elem? s.views other ≡ some w = sym (set_else s.views id other (join_view v w) ne) ∙ at' in
    let now : List View = set (set s.views id (join_view v w)) other spent_view in
    let is : knowledge_of now ≡ set (set (knowledge_of s.views) id (knowledge_after_join v.knows w.knows)) other newcomer =
    map-set (λ (u : View). u.knows) (set s.views id (join_view v w)) other spent_view ∙ ap (λ l. set l other newcomer) (map-set (λ (u : View). u.knows) s.views id (join_view v w)) in
    let a = known s.views id v at in let b = known s.views other w there in
    let agree = agrees cap (shown_state cap s.words s.views) id other v.knows w.knows kept.0 ne a b in
    let seats = was_join cap (shown_state cap s.words s.views) id other v.knows w.knows kept.0 ne a b in (
      subst (λ ss. IsSoundLog cap (record { next = slice_index s.words 0; marks = row_mark cap s.words; seats = ss })) (sym is)
          (good_was cap (shown_state cap s.words s.views) (set (set (knowledge_of s.views) id (knowledge_after_join v.knows w.knows)) other newcomer) (JoinsTo id other) kept.0 seats),
      lies_all cap s.words s.views now kept.1
          (λ j u e. ⊎_elim
          (λ (t : (j ≡ other) × (spent_view ≡ u)). subst (Fits cap s.words) t.1 (fits_spent cap s.words))
          (λ (t : (j ≢ other) × (get_elem? (set s.views id (join_view v w)) j ≡ some u)).
          ⊎_elim
          (λ (y : (j ≡ id) × (join_view v w ≡ u)). subst (Fits cap s.words) y.1 (fits_both cap s.words v w (fits cap s.words s.views id v kept.1 at) (fits cap s.words s.views other w kept.1 there) agree))
          (λ (y : (j ≢ id) × (get_elem? s.views j ≡ some u)). fits cap s.words s.views j u kept.1 y.1)
          (at_set s.views id j (join_view v w) u t.1))
          (at_set (set s.views id (join_view v w)) other j spent_view u e)),
    )

pub recalls : (cap slots id : ℕ) (me : OwnView) → Allows (IsTableKept cap) slots id me 0 (λ n. n) (Recalls (step slots 0 0 0 none) me)
recalls cap slots id me s kept len at small =
    let v = me.0 in let l = kept.1 in let g = kept.0 in let k = known s.views id v at in (
      view_forgetting v,
      keeps,
      tt,
      quietly cap s 0 id v (view_forgetting v) kept at
          (record { live = refl; caps = refl; claims = refl; low = g.low id v.knows k; seen = λ r m e. g.seen id v.knows r m k e; note = λ x e. l.notes id v x at e; before = λ p e. let bad : None ≡ Some p = e in absurd (cc) }),
      (refl, refl, λ p e. l.joins id v p at e),
    )
