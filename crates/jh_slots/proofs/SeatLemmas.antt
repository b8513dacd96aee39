-- What each event leaves true of a seat.
use Rattle.std.proofs.Common.{◌≡◌, ◌≢◌, ℕ, ◌+◌, ◌*◌, ◌<◌, ◌≤◌, List, [], length, set, replicate, Some, None, true, refl, sym, ap, ◌∙◌, subst, ⊎_elim, arith}
use Rattle.std.specs.FinMap as map
use Rattle.std.specs.Ordering.{nat_cmp}
use Rattle.std.proofs.lemmas.List.{length-set}
use Rattle.jh_slots.specs.Seats.{Mark, Claim, Knowledge, HoldsClaim, claim_at, knowledge_after_look, knowledge_after_claim, knowledge_after_write, knowledge_after_end, knowledge_after_read, written_claim, AreClaimsApart}
use Rattle.jh_slots.specs.Stored.{View, IsSeat, opening_view, copy_view, join_view}
use Rattle.atomic_table.specs.Seated.{TableId}
use mathlib.Core.Option.{none}
use Rattle.std.specs.Prelude.{◌==◌, MatchBool, Bool, false}
use Rattle.std.proofs.Common.{◌-◌}
use Rattle.std.proofs.lemmas.Bool.{eqb-true}
use Rattle.atomic_table.specs.Table.{step}
use Rattle.jh_slots.specs.Steps.{OwnView, TakesRows, view_knowing, view_forgetting}
use Rattle.jh_slots.proofs.MapLemmas.{inserted, removed, of_gather, nothing_at}
use Rattle.jh_slots.proofs.WordLemmas.{zeros_len}
use Rattle.jh_slots.proofs.WriteLemmas.{claim_is}

abbrev new_claim : ℕ → Claim
new_claim rows = record { rows = rows; words = replicate (5 * rows) 0 }

pub seat_opening : (cap : ℕ) → cap ≤ 65536 → IsSeat (1 + 6 * cap) (opening_view cap)
seat_opening cap le =
    record {
      live = refl;
      size = refl;
      small = le;
      claims = λ f c e. let n : map.get (map.empty {X = Claim} {R = nat_cmp}) f ≡ None = map.get-empty nat_cmp f in let h : None ≡ Some c = sym n ∙ e in absurd (cc);
      seen = λ r m e. let n : map.get (map.empty {X = Mark} {R = nat_cmp}) r ≡ None = map.get-empty nat_cmp r in let h : None ≡ Some m = sym n ∙ e in absurd (cc);
    }

module _ (n : ℕ) (v : View) (s : IsSeat n v) where
  pub seat_looked : (k : ℕ) → IsSeat n (view_knowing v (knowledge_after_look k v.knows))
  seat_looked k = record { live = s.live; size = s.size; small = s.small; claims = s.claims; seen = s.seen }

  pub seat_took : (first rows : ℕ) → 1 ≤ rows → first + rows ≤ v.cap → IsSeat n (view_knowing v (knowledge_after_claim first rows v.knows))
  seat_took first rows one fit =
      record {
        live = s.live;
        size = s.size;
        small = s.small;
        claims = λ f c e. ⊎_elim
            (λ (t : (f ≡ first) × (new_claim rows ≡ c)).
            let x : rows ≡ c.rows = ap (λ (y : Claim). y.rows) t.1 in let y : length (new_claim rows).words ≡ length c.words = ap (λ (y : Claim). length y.words) t.1 in let z : length (new_claim rows).words ≡ 5 * rows = zeros_len (5 * rows) in let w = t.0 in
            (omega arith, omega arith, omega arith))
            (λ (t : (f ≢ first) × (map.get v.knows.claims f ≡ Some c)). s.claims f c t.1)
            (inserted v.knows.claims first f (new_claim rows) c e);
        seen = s.seen;
      }

  pub seat_wrote : (f p x : ℕ) (c : Claim) → map.get v.knows.claims f ≡ Some c → IsSeat n (view_knowing v (knowledge_after_write f p x v.knows))
  seat_wrote f p x c has =
      let old = s.claims f c has in
      record {
        live = s.live;
        size = s.size;
        small = s.small;
        claims = λ g d e. ⊎_elim
            (λ (t : (g ≡ f) × (written_claim (claim_at v.knows f) p x ≡ d)).
            let is : written_claim c p x ≡ d = ap (λ (y : Claim). written_claim y p x) (sym (claim_is v.knows f c has)) ∙ t.1 in
            let k : c.rows ≡ d.rows = ap (λ (y : Claim). y.rows) is in let m : length (set c.words p x) ≡ length d.words = ap (λ (y : Claim). length y.words) is in let l : length (set c.words p x) ≡ length c.words = length-set c.words p x in let w = t.0 in
            (omega arith, omega arith, omega arith))
            (λ (t : (g ≢ f) × (map.get v.knows.claims g ≡ Some d)). s.claims g d t.1)
            (inserted v.knows.claims f g (written_claim (claim_at v.knows f) p x) d e);
        seen = s.seen;
      }

  seen_more : (r : ℕ) (m : Mark) → r < v.cap → (q : ℕ) (x : Mark) → map.get (map.insert v.knows.seen r m) q ≡ Some x → q < v.cap
  seen_more r m lt q x e = ⊎_elim (λ (t : (q ≡ r) × (m ≡ x)). let h = t.0 in omega arith) (λ (t : (q ≢ r) × (map.get v.knows.seen q ≡ Some x)). s.seen q x t.1) (inserted v.knows.seen r q m x e)

  pub seat_ended : (f : ℕ) (m : Mark) → f < v.cap → IsSeat n (view_knowing v (knowledge_after_end f m v.knows))
  seat_ended f m lt = record { live = s.live; size = s.size; small = s.small; claims = λ g d e. s.claims g d (removed v.knows.claims f g d e).1; seen = seen_more f m lt }

  pub seat_saw : (r : ℕ) (m : Mark) → r < v.cap → IsSeat n (view_knowing v (knowledge_after_read r m v.knows))
  seat_saw r m lt = record { live = s.live; size = s.size; small = s.small; claims = s.claims; seen = seen_more r m lt }

-- the note and the events of a view may change it without a seat's facts
pub seat_note : (n : ℕ) (v w : View) → IsSeat n v → w.live ≡ v.live → w.cap ≡ v.cap → w.knows ≡ v.knows → IsSeat n w
seat_note n v w s live caps knows =
    record {
      live = live ∙ s.live;
      size = s.size ∙ ap (λ k. 1 + 6 * k) (sym caps);
      small = subst (λ k. k ≤ 65536) (sym caps) s.small;
      claims = subst (λ (y : ℕ × Knowledge). (f : ℕ) (c : Claim) → map.get y.1.claims f ≡ Some c → (1 ≤ c.rows) × (f + c.rows ≤ y.0) × (length c.words ≡ 5 * c.rows)) (λ i. (sym caps i, sym knows i)) s.claims;
      seen = subst (λ (y : ℕ × Knowledge). (r : ℕ) (m : Mark) → map.get y.1.seen r ≡ Some m → r < y.0) (λ i. (sym caps i, sym knows i)) s.seen;
    }

-- a seat after a step
pub stays : (a b : List (ℕ × ℕ)) (t u : TableId) (v w : View) → a ≡ [] → b ≡ a → u ≡ t → v ≡ w → IsSeat t.words w → (b ≡ []) × IsSeat u.words v
stays a b t u v w empty same table is s = (same ∙ empty, subst (λ (y : ℕ × View). IsSeat y.0 y.1) (λ i. (ap (λ z. z.words) (sym table) i, sym is i)) s)

-- the seat's count of rows is its table's
pub cap_is : (n rows : ℕ) (v : View) → IsSeat n v → n ≡ 1 + 6 * rows → v.cap ≡ rows
cap_is n rows v s e = let size = s.size in omega arith

-- a claim that the seat holds
pub own_claim : (n rows : ℕ) (v : View) (k : Knowledge) (f r : ℕ) → IsSeat n v → n ≡ 1 + 6 * rows → v.knows ≡ k → HoldsClaim k f r
    → (c : Claim) × (map.get v.knows.claims f ≡ Some c) × (c.rows ≡ r) × (1 ≤ r) × (f + r ≤ rows) × (length c.words ≡ 5 * r)
own_claim n rows v k f r s e is (words, has) =
    let c : Claim = record { rows = r; words = words } in
    let here : map.get v.knows.claims f ≡ Some c = ap (λ (x : Knowledge). map.get x.claims f) is ∙ has in
    let h = s.claims f c here in
    let cap = cap_is n rows v s e in
    (c, here, refl, h.0, omega arith, h.2)

-- a seat after an exchange of the next free row
pub takes_stay : (cap slots first rows n : ℕ) (me you : OwnView) (t u : TableId) → me.1 ≡ [] → u ≡ t → IsSeat t.words me.0 → me.0.cap ≡ cap → 1 ≤ rows → first + rows ≤ cap
    → TakesRows (step slots 0 first (first + rows) none) me n you → (you.1 ≡ []) × IsSeat u.words you.0
takes_stay cap slots first rows n me you t u empty table s here one fit e = cases (n == first) refl e.3
  where
    cases : (b : Bool) → (n == first) ≡ b → MatchBool b ((you.0 ≡ view_knowing me.0 (knowledge_after_claim n ((first + rows) - first) me.0.knows)) × ((r : ℕ) (m : Mark) → map.get me.0.knows.seen r ≡ Some m → r < n) × AreClaimsApart you.0.knows) (you.0 ≡ view_knowing me.0 (knowledge_after_look n me.0.knows)) → (you.1 ≡ []) × IsSeat u.words you.0
    cases true is h =
        let same : n ≡ first = eqb-true n first is in
        let k : (first + rows) - first ≡ rows = omega arith in
        let w : View = view_knowing me.0 (knowledge_after_claim n rows me.0.knows) in
        stays me.1 you.1 t u you.0 w empty e.0 table (h.0 ∙ ap (λ k. view_knowing me.0 (knowledge_after_claim n k me.0.knows)) k) (seat_took t.words me.0 s n rows one (omega arith))
    cases false is h = stays me.1 you.1 t u you.0 (view_knowing me.0 (knowledge_after_look n me.0.knows)) empty e.0 table h (seat_looked t.words me.0 s n)

pub seat_copied : (n : ℕ) (v : View) → IsSeat n v → IsSeat n (copy_view v)
seat_copied n v s = record { live = s.live; size = s.size; small = s.small; claims = λ f c e. absurd (nothing_at f c e); seen = s.seen }

pub seat_joined : (n : ℕ) (v w : View) → IsSeat n v → IsSeat n w → IsSeat n (view_forgetting (join_view v w))
seat_joined n v w s t =
    let a = s.size in let b = t.size in let same : w.cap ≡ v.cap = omega arith in
    record {
      live = s.live;
      size = s.size;
      small = s.small;
      claims = λ f c e. ⊎_elim (λ h. s.claims f c h) (λ h. let k = t.claims f c h in (k.0, (let l = k.1 in omega arith), k.2)) (of_gather v.knows.claims w.knows.claims f c e);
      seen = λ r m e. ⊎_elim (λ h. s.seen r m h) (λ h. let k = t.seen r m h in omega arith) (of_gather v.knows.seen w.knows.seen r m e);
    }
