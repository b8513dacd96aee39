-- What holds after every list of events.
use Rattle.std.proofs.Common.{◌≡◌, ◌≢◌, ℕ, zero, suc, ◌+◌, ◌*◌, ◌<◌, ◌≤◌, List, [], ◌∷◌, ◌++◌, length, set, take, replicate, cond, Some, None, refl, sym, ap, ◌∙◌, subst, inl, inr, ⊎_elim, arith, ne_eqb, eq-eqb}
use Rattle.std.specs.Prelude.{Option}
use mathlib.Core.Option.{some, some-ne-none, some-injective}
use mathlib.Core.Logic.{dite}
use native.Mathlib.Decide.{ℕ_discrete}
use lib.ListN.{get_elem?}
use Rattle.std.specs.FinMap as map
use Rattle.std.proofs.lemmas.List.{length-set, length-take-le}
use Rattle.jh_slots.specs.Seats.{Mark, Words, Void, Claim, Knowledge, newcomer, knowledge_after_look, knowledge_after_claim, knowledge_after_write, knowledge_after_end, knowledge_after_publish, knowledge_after_void, knowledge_after_read, knowledge_after_split, knowledge_after_join, claim_at, written_claim}
use Rattle.jh_slots.specs.States.{LogState, IsSoundLog, Moves, state_after_event, len_of}
use Rattle.jh_slots.specs.Events.{Event, look, claim, write, publish, void, read, split, join, marks_with, opening_state, Leads, EventsLead, Lasts, SlotLaws}
use Rattle.jh_slots.proofs.SoundLemmas.{good_moves}
use Rattle.jh_slots.proofs.JoinLemmas.{agrees, good_was, was_split, was_join, JoinsTo}
use Rattle.jh_slots.proofs.MapLemmas.{inserted, removed, gone, nothing_at}
use Rattle.jh_slots.proofs.WordLemmas.{zeros_len}
use Rattle.jh_slots.proofs.WriteLemmas.{claim_is}
use Rattle.jh_slots.proofs.CallerLemmas.{seen_published, joined_first, joined_second}

only_one : (v : Knowledge) (i : ℕ) (u : Knowledge) → get_elem? (v ∷ []) i ≡ some u → v ≡ u
only_one v zero u e = some-injective v u e
only_one v (suc i) u e = absurd (some-ne-none u (sym e))

good_opening : (cap : ℕ) → IsSoundLog cap opening_state
good_opening cap =
    record {
      next = omega arith;
      low = λ i v e. subst (λ (u : Knowledge). u.low ≤ 0) (only_one newcomer i v e) (omega arith);
      seen = λ i v r m e is. absurd (nothing_at r m (ap (λ (u : Knowledge). map.get u.seen r) (only_one newcomer i v e) ∙ is));
      claims = λ i v f c e is. absurd (nothing_at f c (ap (λ (u : Knowledge). map.get u.claims f) (only_one newcomer i v e) ∙ is));
      apart = λ i j v w f h c d e e' is is'. absurd (nothing_at f c (ap (λ (u : Knowledge). map.get u.claims f) (only_one newcomer i v e) ∙ is));
      marked = λ r m e. let bad : None ≡ Some m = e in absurd (cc);
      clear = λ i v f c r m e is mk. let bad : None ≡ Some m = mk in absurd (cc);
    }

module _ (cap : ℕ) (s : LogState) (i : ℕ) (v : Knowledge) (g : IsSoundLog cap s) (at : get_elem? s.seats i ≡ some v) where
  -- an event that leaves the marks and the seat's claims
  quiet : (w : Knowledge) → w.low ≤ s.next → w.claims ≡ v.claims → ((r : ℕ) (m : Mark) → map.get w.seen r ≡ Some m → s.marks r ≡ Some m) → Moves s v w s.next s.marks
  quiet w low same seen =
      let back : (f : ℕ) (c : Claim) → map.get w.claims f ≡ Some c → map.get v.claims f ≡ Some c = λ f c e. ap (λ x. map.get x f) (sym same) ∙ e in
      record { up = omega arith; low = low; seen = seen; grows = λ r m e. e; claims = λ f c e. ((g.claims i v f c at (back f c e)).2, inl (c, back f c e, refl)); marked = λ r m e. inl e }

  taking : (rows : ℕ) → 1 ≤ rows → Moves s v (knowledge_after_claim s.next rows v) (s.next + rows) s.marks
  taking rows one =
      let fresh : Claim = record { rows = rows; words = replicate (5 * rows) 0 } in
      record {
        up = omega arith;
        low = omega arith;
        seen = λ r m e. g.seen i v r m at e;
        grows = λ r m e. e;
        claims = λ f c e. ⊎_elim
            (λ (t : (f ≡ s.next) × (fresh ≡ c)). let x : rows ≡ c.rows = ap (λ (y : Claim). y.rows) t.1 in let y : length fresh.words ≡ length c.words = ap (λ (y : Claim). length y.words) t.1 in let z : length fresh.words ≡ 5 * rows = zeros_len (5 * rows) in (omega arith, inr (t.0, omega arith, omega arith)))
            (λ (t : (f ≢ s.next) × (map.get v.claims f ≡ Some c)). ((g.claims i v f c at t.1).2, inl (c, t.1, refl)))
            (inserted v.claims s.next f fresh c e);
        marked = λ r m e. inl e;
      }

  writing : (f p x : ℕ) (c : Claim) → map.get v.claims f ≡ Some c → Moves s v (knowledge_after_write f p x v) s.next s.marks
  writing f p x c has =
      let put : Claim = written_claim (claim_at v f) p x in
      let is : put ≡ written_claim c p x = ap (λ (y : Claim). written_claim y p x) (claim_is v f c has) in
      let own = (g.claims i v f c at has).2 in
      record {
        up = omega arith;
        low = g.low i v at;
        seen = λ r m e. g.seen i v r m at e;
        grows = λ r m e. e;
        claims = λ h d e. ⊎_elim
            (λ (t : (h ≡ f) × (put ≡ d)).
            let same : written_claim c p x ≡ d = sym is ∙ t.1 in
            let k : c.rows ≡ d.rows = ap (λ (y : Claim). y.rows) same in let n : length (set c.words p x) ≡ length d.words = ap (λ (y : Claim). length y.words) same in let m : length (set c.words p x) ≡ length c.words = length-set c.words p x in
            (omega arith, inl (c, ap (map.get v.claims) t.0 ∙ has, k)))
            (λ (t : (h ≢ f) × (map.get v.claims h ≡ Some d)). ((g.claims i v h d at t.1).2, inl (d, t.1, refl)))
            (inserted v.claims f h put d e);
        marked = λ r m e. inl e;
      }

  -- the marks once the claim at f has ended
  marks_here : (f : ℕ) (m : Mark) → marks_with f m s.marks f ≡ Some m
  marks_here f m = ap (λ b. cond b (Some m) (s.marks f)) (eq-eqb f f refl)

  marks_else : (f r : ℕ) (m : Mark) → r ≢ f → marks_with f m s.marks r ≡ s.marks r
  marks_else f r m ne = ap (λ b. cond b (Some m) (s.marks r)) (ne_eqb r f ne)

  ending : (f : ℕ) (c : Claim) (m : Mark) → map.get v.claims f ≡ Some c → len_of m ≤ 5 * c.rows → Moves s v (knowledge_after_end f m v) s.next (marks_with f m s.marks)
  ending f c m has small =
      let one : 1 ≤ c.rows = (g.claims i v f c at has).0 in
      let grows : (r : ℕ) (x : Mark) → s.marks r ≡ Some x → marks_with f m s.marks r ≡ Some x =
      λ r x e. marks_else f r m (λ same.
      ⊎_elim (λ (h : f + c.rows ≤ r). omega arith) (λ (h : (r < f) × (5 * r + len_of x ≤ 5 * f)). let h0 = h.0 in omega arith) (g.clear i v f c r x at has e)) ∙ e in
      record {
        up = omega arith;
        low = g.low i v at;
        seen = λ r x e. ⊎_elim
            (λ (t : (r ≡ f) × (m ≡ x)). subst (λ (z : ℕ × Mark). marks_with f m s.marks z.0 ≡ Some z.1) (λ k. (sym t.0 k, t.1 k)) (marks_here f m))
            (λ (t : (r ≢ f) × (map.get v.seen r ≡ Some x)). grows r x (g.seen i v r x at t.1))
            (inserted v.seen f r m x e);
        grows = grows;
        claims = λ h d e. let old = (removed v.claims f h d e).1 in ((g.claims i v h d at old).2, inl (d, old, refl));
        marked = λ r x e. dite (ℕ_discrete r f)
            (λ same. let both : Some m ≡ Some x = sym (marks_here f m) ∙ (ap (marks_with f m s.marks) (sym same) ∙ e) in let is : m ≡ x = cc in let n : len_of m ≡ len_of x = ap len_of is in
            inr (c, ap (map.get v.claims) same ∙ has, omega arith, ap (map.get (map.remove v.claims f)) same ∙ gone v.claims f))
            (λ ne. inl (sym (marks_else f r m ne) ∙ e));
      }

  by_move : (w : Knowledge) (next : ℕ) (marks : ℕ → Option Mark) (t : LogState) → Moves s v w next marks → next ≤ cap → t ≡ state_after_event s i w next marks → IsSoundLog cap t × Lasts s t
  by_move w next marks t m le is = subst (λ (x : LogState). IsSoundLog cap x × Lasts s x) (sym is) (good_moves cap s i v w next marks g at m le, m.grows)

  leads : (e : Event) (t : LogState) → Leads cap s i v e t → IsSoundLog cap t × Lasts s t
  leads look t is = by_move (knowledge_after_look s.next v) s.next s.marks t (quiet (knowledge_after_look s.next v) (omega arith) refl (λ r m e. g.seen i v r m at e)) g.next is
  leads (claim rows) t (one, fit, is) = by_move (knowledge_after_claim s.next rows v) (s.next + rows) s.marks t (taking rows one) fit is
  leads (write f p x) t (c, has, lt, is) = by_move (knowledge_after_write f p x v) s.next s.marks t (writing f p x c has) g.next is
  leads (publish f len) t (c, has, one, fit, is) =
      let m : Mark = Words (take len c.words) in
      let own : length c.words ≡ 5 * c.rows = (g.claims i v f c at has).2 in
      let n : length (take len c.words) ≡ len = length-take-le len c.words (omega arith) in
      let same : knowledge_after_publish f len v ≡ knowledge_after_end f m v = ap (λ (y : Claim). knowledge_after_end f (Words (take len y.words)) v) (claim_is v f c has) in
      by_move (knowledge_after_end f m v) s.next (marks_with f m s.marks) t (ending f c m has (omega arith)) g.next (is ∙ ap (λ w. state_after_event s i w s.next (marks_with f m s.marks)) same)
  leads (void f) t (c, has, is) = by_move (knowledge_after_void f v) s.next (marks_with f Void s.marks) t (ending f c Void has (omega arith)) g.next is
  leads (read r) t (inl (m, here, is)) =
      by_move (knowledge_after_read r m v) s.next s.marks t
      (quiet (knowledge_after_read r m v) (g.low i v at) refl
      (λ q x e. ⊎_elim (λ (y : (q ≡ r) × (m ≡ x)). subst (λ (z : ℕ × Mark). s.marks z.0 ≡ Some z.1) (λ k. (sym y.0 k, y.1 k)) here) (λ (y : (q ≢ r) × (map.get v.seen q ≡ Some x)). g.seen i v q x at y.1) (inserted v.seen r q m x e)))
      g.next is
  leads (read r) t (inr (none, is)) = subst (λ (x : LogState). IsSoundLog cap x × Lasts s x) (sym is) (g, λ q m e. e)
  leads split t is = subst (λ (x : LogState). IsSoundLog cap x × Lasts s x) (sym is) (good_was cap s (s.seats ++ knowledge_after_split v ∷ []) (λ k j. k ≡ j) g (was_split cap s i v g at), λ q m e. e)
  leads (join j) t (w, ne, at', is) = subst (λ (x : LogState). IsSoundLog cap x × Lasts s x) (sym is) (good_was cap s (set (set s.seats i (knowledge_after_join v w)) j newcomer) (JoinsTo i j) g (was_join cap s i j v w g ne at at'), λ q m e. e)

runs : (cap : ℕ) (es : List (ℕ × Event)) (s t : LogState) → IsSoundLog cap s → EventsLead cap s es t → IsSoundLog cap t × Lasts s t
runs cap [] s t g is = subst (λ (x : LogState). IsSoundLog cap x × Lasts s x) is (g, λ r m e. e)
runs cap (e ∷ es) s t g (v, m, at, led, rest) =
    let one = leads cap s e.0 v g at e.1 m led in
    let more = runs cap es m t one.0 rest in
    (more.0, λ r x is. more.1 r x (one.1 r x is))

pub slot_laws_hold : SlotLaws
slot_laws_hold cap before after s t a b =
    let one = runs cap before opening_state s (good_opening cap) a in
    let two = runs cap after s t one.0 b in
    let g = two.0 in
    record {
      lasting = λ i v r m at is. two.1 r m (one.0.seen i v r m at is);
      agree = λ i j v w r m n at at' is is'. let e : Some m ≡ Some n = sym (two.1 r m (one.0.seen i v r m at is)) ∙ g.seen j w r n at' is' in cc;
      apart = g.apart;
      begins = λ i v at. (g.low i v at, g.next, λ r m is. (g.marked r m (g.seen i v r m at is)).0);
      publishes = λ i v f len c at has. seen_published v (knowledge_after_publish f len v) f len refl ∙ ap (λ (y : Claim). Some (Words (take len y.words))) (claim_is v f c has);
      joins = λ i j v w ne at at'.
          let same = agrees cap t i j v w g ne at at' in
          (same, (λ r m is. joined_first v w (knowledge_after_join v w) r m refl is), (λ r m is. joined_second v w (knowledge_after_join v w) r m refl same is));
    }
