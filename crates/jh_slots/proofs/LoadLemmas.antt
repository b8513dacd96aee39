-- A load of a status, or of a record's word, keeps the rule.
use Rattle.std.proofs.Common.{◌≡◌, ◌≢◌, ℕ, zero, suc, ◌+◌, ◌*◌, ◌<◌, ◌≤◌, List, [], ◌∷◌, ◌++◌, length, take, drop, get_or, Bool, true, false, cond, Some, None, refl, sym, ap, ◌∙◌, subst, ⊎_elim, arith}
use Rattle.std.specs.Prelude.{Option, slice_index, ◌==◌}
use mathlib.Core.Option.{some, none}
use lib.ListN.{get_elem?}
use Rattle.std.specs.FinMap as map
use Rattle.std.proofs.lemmas.Bool.{eqb-true}
use Rattle.std.proofs.lemmas.List.{take_more, take_all, get_or-drop, get_or-take, length_push, length-take}
use Rattle.atomic_table.specs.Table.{step, Allows, keeps}
use Rattle.atomic_table.proofs.Lists.{at_map}
use Rattle.jh_slots.specs.Seats.{Mark, Words, Void, Knowledge, knowledge_after_read}
use Rattle.jh_slots.specs.States.{IsSoundLog}
use Rattle.jh_slots.specs.Stored.{Note, View, IsTableKept, IsStored, shown_state, row_mark, mark_of, status_at, place_at, IsNoted}
use Rattle.jh_slots.specs.Steps.{OwnView, IsStatus, Peeks, Gathers, view_peeked, view_gathered}
use Rattle.jh_slots.proofs.MapLemmas.{inserted}
use Rattle.jh_slots.proofs.StepRuleLemmas.{quietly, Quiet}

-- a view that saw a mark of the table has only marks of the table
saw_all : (marks : ℕ → Option Mark) (v : Knowledge) (r : ℕ) (m : Mark) → ((q : ℕ) (x : Mark) → map.get v.seen q ≡ Some x → marks q ≡ Some x) → marks r ≡ Some m → (q : ℕ) (x : Mark) → map.get (knowledge_after_read r m v).seen q ≡ Some x → marks q ≡ Some x
saw_all marks v r m all here q x e =
    ⊎_elim
    (λ (t : (q ≡ r) × (m ≡ x)). subst (λ (z : ℕ × Mark). marks z.0 ≡ Some z.1) (λ i. (sym t.0 i, t.1 i)) here)
    (λ (t : (q ≢ r) × (map.get v.seen q ≡ Some x)). all q x t.1)
    (inserted v.seen r q m x e)

module _ (cap : ℕ) (words : List ℕ) (views : List View) (id : ℕ) (v : View) (g : IsSoundLog cap (shown_state cap words views)) (l : IsStored cap words views) (at : get_elem? views id ≡ some v) where
  known : get_elem? (shown_state cap words views).seats id ≡ some v.knows
  known = at_map (λ (u : View). u.knows) views id v at

  pub peek_quiet : (r n : ℕ) → slice_index words (status_at cap r) ≡ n → Quiet cap words v (view_peeked n r v)
  peek_quiet r zero e = record { live = refl; caps = refl; claims = refl; low = g.low id v.knows known; seen = λ q m is. g.seen id v.knows q m known is; note = λ x is. l.notes id v x at is; before = λ p e. e }
  peek_quiet r (suc zero) e =
      record {
        live = refl;
        caps = refl;
        claims = refl;
        low = g.low id v.knows known;
        seen = saw_all (row_mark cap words) v.knows r Void (λ q m is. g.seen id v.knows q m known is) (ap (λ n. mark_of n (drop (place_at r 0) words)) e);
        note = λ x is. l.notes id v x at is;
        before = λ p e. e;
      }
  peek_quiet r (suc (suc k)) e =
      record {
        live = refl;
        caps = refl;
        claims = refl;
        low = g.low id v.knows known;
        seen = λ q m is. g.seen id v.knows q m known is;
        note = λ x is.
            let ws : List ℕ = take (suc k) (drop (place_at r 0) words) in
            let here : row_mark cap words r ≡ Some (Words ws) = ap (λ n. mark_of n (drop (place_at r 0) words)) e in
            let status : suc (suc k) ≡ suc (length ws) = sym e ∙ l.statuses r (Words ws) here in
            let n : Note = record { row = r; len = suc k; words = [] } in
            let same : n ≡ x = let h : Some n ≡ Some x = is in cc in
            subst (IsNoted (row_mark cap words)) same (ws, here, omega arith, refl);
        before = λ p e. e;
      }

  pub peek_seen : (r n : ℕ) (m : Mark) → slice_index words (status_at cap r) ≡ n → map.get v.knows.seen r ≡ Some m → IsStatus n m
  peek_seen r zero m e is = let h : None ≡ Some m = sym (ap (λ n. mark_of n (drop (place_at r 0) words)) e) ∙ g.seen id v.knows r m known is in absurd (cc)
  peek_seen r (suc zero) m e is = let h : Some Void ≡ Some m = sym (ap (λ n. mark_of n (drop (place_at r 0) words)) e) ∙ g.seen id v.knows r m known is in cc
  peek_seen r (suc (suc k)) m e is =
      let ws : List ℕ = take (suc k) (drop (place_at r 0) words) in
      let here : row_mark cap words r ≡ Some (Words ws) = ap (λ n. mark_of n (drop (place_at r 0) words)) e in
      let h : Some (Words ws) ≡ Some m = sym here ∙ g.seen id v.knows r m known is in
      let status : suc (suc k) ≡ suc (length ws) = sym e ∙ l.statuses r (Words ws) here in
      let same : m ≡ Words ws = cc in
      (ws, same, omega arith)

  pub peek_fits : (r n : ℕ) → slice_index words (status_at cap r) ≡ n → 1 < n → 5 * r + n ≤ 1 + 5 * cap
  peek_fits r zero e big = absurd (omega arith)
  peek_fits r (suc zero) e big = absurd (omega arith)
  peek_fits r (suc (suc k)) e big =
      let ws : List ℕ = take (suc k) (drop (place_at r 0) words) in
      let here : row_mark cap words r ≡ Some (Words ws) = ap (λ n. mark_of n (drop (place_at r 0) words)) e in
      let status : suc (suc k) ≡ suc (length ws) = sym e ∙ l.statuses r (Words ws) here in
      let fit : 5 * r + length ws ≤ 5 * slice_index words 0 = (g.marked r (Words ws) here).1 in
      let most : slice_index words 0 ≤ cap = g.next in omega arith

  -- the next word of a record that is being read
  next_word : (x : Note) → IsNoted (row_mark cap words) x → length x.words < x.len
      → (ws : List ℕ) × (row_mark cap words x.row ≡ Some (Words ws)) × (length ws ≡ x.len) × (take (length x.words + 1) ws ≡ x.words ++ slice_index words (place_at x.row (length x.words)) ∷ [])
  next_word x (ws, here, len, first) lt =
      let k : ℕ = length x.words in
      let word : get_or ws k 0 ≡ slice_index words (place_at x.row k) = read_word x.row k (slice_index words (status_at cap x.row)) ws here (omega arith) in
      let more : take (k + 1) ws ≡ take k ws ++ get_or ws k 0 ∷ [] = take_more ws k 0 (omega arith) in
      (ws, here, len, more ∙ λ i. first i ++ word i ∷ [])
    where
      read_word : (r k n : ℕ) (ws : List ℕ) → mark_of n (drop (place_at r 0) words) ≡ Some (Words ws) → k < length ws → get_or ws k 0 ≡ slice_index words (place_at r k)
      read_word r k zero ws e lt = let h : None ≡ Some (Words ws) = e in absurd (cc)
      read_word r k (suc zero) ws e lt = let h : Some Void ≡ Some (Words ws) = e in absurd (cc)
      read_word r k (suc (suc n)) ws e lt =
          let rest : List ℕ = drop (place_at r 0) words in
          let h : Some (Words (take (suc n) rest)) ≡ Some (Words ws) = e in
          let is : ws ≡ take (suc n) rest = cc in
          let len : length ws ≡ length (take (suc n) rest) = ap length is in
          let small : k < suc n = omega (arith, length-take (suc n) rest) in
          let place : place_at r 0 + k ≡ place_at r k = omega arith in
          ap (λ l. get_or l k 0) is ∙ (get_or-take (suc n) rest k 0 small ∙ (get_or-drop (place_at r 0) words k 0 ∙ ap (λ i. get_or words i 0) place))

  -- the record is whole once its last word was read
  whole : (x : Note) → (t : (ws : List ℕ) × (row_mark cap words x.row ≡ Some (Words ws)) × (length ws ≡ x.len) × (take (length x.words + 1) ws ≡ x.words ++ slice_index words (place_at x.row (length x.words)) ∷ []))
      → length x.words + 1 ≡ x.len → row_mark cap words x.row ≡ Some (Words (x.words ++ slice_index words (place_at x.row (length x.words)) ∷ []))
  whole x (ws, here, len, more) last =
      let all : take (length x.words + 1) ws ≡ ws = take_all (length x.words + 1) ws (omega arith) in
      here ∙ ap (λ l. Some (Words l)) (sym all ∙ more)

  pub gather_quiet : (x : Note) → v.note ≡ Some x → length x.words < x.len → Quiet cap words v (view_gathered (slice_index words (place_at x.row (length x.words))) x v)
  gather_quiet x is lt =
      let n : ℕ = slice_index words (place_at x.row (length x.words)) in
      let t = next_word x (l.notes id v x at is) lt in
      let seen : (b : Bool) → (length x.words + 1 == x.len) ≡ b → (q : ℕ) (m : Mark) → map.get (cond b (knowledge_after_read x.row (Words (x.words ++ n ∷ [])) v.knows) v.knows).seen q ≡ Some m → row_mark cap words q ≡ Some m = by_end x n t in
      record {
        live = refl;
        caps = refl;
        claims = claims_same (length x.words + 1 == x.len) (knowledge_after_read x.row (Words (x.words ++ n ∷ [])) v.knows) refl;
        low = low_same (length x.words + 1 == x.len) (knowledge_after_read x.row (Words (x.words ++ n ∷ [])) v.knows) refl;
        seen = seen (length x.words + 1 == x.len) refl;
        note = λ y e.
            let m : Note = record { row = x.row; len = x.len; words = x.words ++ n ∷ [] } in
            let same : m ≡ y = let h : Some m ≡ Some y = e in cc in
            subst (IsNoted (row_mark cap words)) same (t.0, t.1, t.2, ap (λ k. take k t.0) (length_push x.words n) ∙ t.3);
        before = λ p e. e;
      }
    where
      by_end : (x : Note) (n : ℕ) → (ws : List ℕ) × (row_mark cap words x.row ≡ Some (Words ws)) × (length ws ≡ x.len) × (take (length x.words + 1) ws ≡ x.words ++ slice_index words (place_at x.row (length x.words)) ∷ [])
          → (b : Bool) → (length x.words + 1 == x.len) ≡ b → (q : ℕ) (m : Mark) → map.get (cond b (knowledge_after_read x.row (Words (x.words ++ slice_index words (place_at x.row (length x.words)) ∷ [])) v.knows) v.knows).seen q ≡ Some m → row_mark cap words q ≡ Some m
      by_end x n t true e q m is = saw_all (row_mark cap words) v.knows x.row (Words (x.words ++ slice_index words (place_at x.row (length x.words)) ∷ [])) (λ q m is. g.seen id v.knows q m known is) (whole x t (eqb-true (length x.words + 1) x.len e)) q m is
      by_end x n t false e q m is = g.seen id v.knows q m known is

      claims_same : (b : Bool) (k : Knowledge) → k.claims ≡ v.knows.claims → (cond b k v.knows).claims ≡ v.knows.claims
      claims_same true k e = e
      claims_same false k e = refl

      low_same : (b : Bool) (k : Knowledge) → k.low ≡ v.knows.low → (cond b k v.knows).low ≤ slice_index words 0
      low_same true k e = let low : v.knows.low ≤ slice_index words 0 = g.low id v.knows known in omega arith
      low_same false k e = g.low id v.knows known

  pub gather_same : (x : Note) → v.note ≡ Some x → length x.words < x.len → length x.words + 1 ≡ x.len → (m : Mark) → map.get v.knows.seen x.row ≡ Some m → m ≡ Words (x.words ++ slice_index words (place_at x.row (length x.words)) ∷ [])
  gather_same x is lt last m e =
      let both : Some m ≡ Some (Words (x.words ++ slice_index words (place_at x.row (length x.words)) ∷ [])) = sym (g.seen id v.knows x.row m known e) ∙ whole x (next_word x (l.notes id v x at is) lt) last in cc

pub peeks : (cap slots id r : ℕ) (me : OwnView) → me.0.cap ≡ cap → Allows (IsTableKept cap) slots id me (status_at cap r) (λ n. n) (Peeks (step slots (status_at cap r) 0 0 none) me)
peeks cap slots id r me here s kept len at small =
    let v = me.0 in let n : ℕ = slice_index s.words (status_at cap r) in (
      view_peeked n r v,
      keeps,
      tt,
      quietly cap s (status_at cap r) id v (view_peeked n r v) kept at (peek_quiet cap s.words s.views id v kept.0 kept.1 at r n refl),
      (refl, λ q e. let same : r ≡ q = omega arith in ((λ m is. peek_seen cap s.words s.views id v kept.0 kept.1 at q n m (ap (λ k. slice_index s.words (status_at cap k)) (sym same)) is), ap (λ k. view_peeked n k v) same, λ big. subst (λ (c : ℕ). 1 < n → 5 * q + n ≤ 1 + 5 * c) (sym here) (λ big. subst (λ (k : ℕ). 5 * k + n ≤ 1 + 5 * cap) same (peek_fits cap s.words s.views id v kept.0 kept.1 at r n refl big)) big)),
    )

pub gathers : (cap slots id : ℕ) (me : OwnView) (x : Note) → me.0.note ≡ Some x → length x.words < x.len → Allows (IsTableKept cap) slots id me (place_at x.row (length x.words)) (λ n. n) (Gathers (step slots (place_at x.row (length x.words)) 0 0 none) me)
gathers cap slots id me x is lt s kept len at small =
    let v = me.0 in let n : ℕ = slice_index s.words (place_at x.row (length x.words)) in (
      view_gathered n x v,
      keeps,
      tt,
      quietly cap s (place_at x.row (length x.words)) id v (view_gathered n x v) kept at (gather_quiet cap s.words s.views id v kept.0 kept.1 at x is lt),
      (
        refl,
        λ y e lt' _.
            let both : Some x ≡ Some y = sym is ∙ e in
            let same : x ≡ y = cc in
            subst (λ (y : Note). (view_gathered n x v ≡ view_gathered n y v) × (length y.words + 1 ≡ y.len → (m : Mark) → map.get v.knows.seen y.row ≡ Some m → m ≡ Words (y.words ++ n ∷ []))) same
            (refl, λ last m e. gather_same cap s.words s.views id v kept.0 kept.1 at x is lt last m e),
      ),
    )

pub peeks_at : (cap slots id r j : ℕ) (me : OwnView) → j ≡ status_at cap r → me.0.cap ≡ cap → Allows (IsTableKept cap) slots id me j (λ n. n) (Peeks (step slots j 0 0 none) me)
peeks_at cap slots id r j me e here = subst (λ (k : ℕ). Allows (IsTableKept cap) slots id me k (λ n. n) (Peeks (step slots k 0 0 none) me)) (sym e) (peeks cap slots id r me here)

pub gathers_at : (cap slots id j : ℕ) (me : OwnView) (x : Note) → j ≡ place_at x.row (length x.words) → me.0.note ≡ Some x → length x.words < x.len → Allows (IsTableKept cap) slots id me j (λ n. n) (Gathers (step slots j 0 0 none) me)
gathers_at cap slots id j me x e is lt = subst (λ (k : ℕ). Allows (IsTableKept cap) slots id me k (λ n. n) (Gathers (step slots k 0 0 none) me)) (sym e) (gathers cap slots id me x is lt)
