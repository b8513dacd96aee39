-- Clusters, step by step.
use Rattle.std.proofs.Common.{◌≡◌, ℕ, zero, suc, ℤ, true, eqb, Option, Some, None, List, [], ◌∷◌, ◌++◌, refl, sym, ap, subst, ◌∙◌, inl, inr}
use Rattle.std.specs.Prelude.{◌⊎◌}
use Rattle.std.proofs.lemmas.Bool.{or_right}
use Rattle.jh_linear.specs.declared.register.RegCall.{RegCall}
use Rattle.jh_linear.specs.declared.register.RegCall.TheVariants.{Read, Write, Cas}
use Rattle.jh_linear.specs.declared.register.RegOp.{RegOp}
use Rattle.jh_linear.specs.Order.{IsPossible, has, StandBefore, Allows, IsLegalFrom}
use Rattle.jh_unique.specs.Unique.{WritesValue, NeedsValue, GivesValue, reg_call_at, WritesAt, WriteOnce, MustStand, ClusterBegins, IsChainTo, HasValue, IsOfCluster}
use Rattle.jh_unique.specs.Reasons.{HandsOnBy, HandsOn}
use Rattle.jh_unique.specs.Clusters.{AreInStep}
use Rattle.jh_unique.specs.Walk.{RunsTo, IsReachedValue, IsCasFrom, HasComeTo, HasReads, AreReads, IsWalked}
use Rattle.jh_unique.proofs.ListLemmas.{has_left, has_right, has_cases, has_head, one_is, split_at, before_cases, before_itself, before_push, once_if, once_push}
use Rattle.jh_unique.proofs.RunLemmas.{legal_cut, source, needs_held}
use Rattle.jh_unique.proofs.ClusterLemmas.{write_writes, cas_writes, cas_needs}
use Rattle.jh_unique.proofs.PartLemmas.{needed_possible, legal_append}

pub read_or_write : (call : RegCall) (v : ℤ) → GivesValue call v → (call ≡ Read (Some v)) ⊎ WritesValue call v
read_or_write (Read None) v h = absurd h
read_or_write (Read (Some seen)) v h = inl (ap (λ x. Read (Some x)) h)
read_or_write (Write new) v h = inr h
read_or_write (Cas old new) v h = inr h

pub cas_new : (a b c d : ℤ) → ◌≡◌ {A = RegCall} (Cas a b) (Cas c d) → b ≡ d
cas_new a b c d h = cc

pub read_no_cas : (a b c : ℤ) → ◌≡◌ {A = RegCall} (Read (Some a)) (Cas b c) → ⊥
read_no_cas a b c h = cc

module _ (ops : List RegOp) where
  pub must_possible : (p : ℕ) → MustStand ops p → IsPossible ops p
  must_possible p must = needed_possible ops must.0 p must.1

  pub must_writer : (w q : ℕ) (v : ℤ) → WritesAt ops w v → NeedsValue (reg_call_at ops q) v → MustStand ops q → MustStand ops w
  must_writer w q v writes needs must = (q ∷ must.0, (v, writes, needs, must.1))

  pub path_more : (p : ℕ) (between : List ℕ) (q r : ℕ) → HandsOnBy ops p between q → MustStand ops r → HandsOn ops q r → (more : List ℕ) × HandsOnBy ops p more r
  path_more p [] q r h must leads = (q ∷ [], (h.0, h.2, (h.1, must, leads)))
  path_more p (m ∷ ms) q r h must leads = let rest = path_more m ms q r h.2 must leads in (m ∷ rest.0, (h.0, h.1, rest.1))

  pub legal_reads : (v : ℤ) (rs : List ℕ) → ((p : ℕ) → has rs p ≡ true → reg_call_at ops p ≡ Read (Some v)) → IsLegalFrom ops (Some v) rs (Some v)
  legal_reads v [] each = refl
  legal_reads v (r ∷ rs) each = (
    Some v,
    (let both : Allows (Read (Some v)) (Some v) (Some v) = (refl, refl) in subst (λ c. Allows c (Some v) (Some v)) (sym (each r (has_head r rs))) both),
    legal_reads v rs (λ p h. each p (or_right (eqb r p) _ h)),
  )

module _ (ops : List RegOp) (initial : Option ℤ) (once : WriteOnce ops initial) (cluster : ℕ) where
  runs_more : (c : ℕ) (xs ys : List ℕ) (v w : ℤ) → RunsTo ops initial c xs v → IsLegalFrom ops (Some v) ys (Some w) → RunsTo ops initial c (xs ++ ys) w
  runs_more zero xs ys v w h k = legal_append ops xs ys initial (Some v) (Some w) h k
  runs_more (suc b) xs ys v w h k = λ held. legal_append ops xs ys held (Some v) (Some w) (h held) k

  -- a value that is written by one of what is possible is needed in a run only behind its writer
  written_in : (start : Option ℤ) (xs : List ℕ) (last : Option ℤ) → ((v : ℤ) (q : ℕ) → WritesAt ops q v → start ≡ Some v → ⊥) → ((p : ℕ) → has xs p ≡ true → IsPossible ops p) → IsLegalFrom ops start xs last
      → (v : ℤ) (q : ℕ) → WritesAt ops q v → last ≡ Some v → has xs q ≡ true
  written_in start xs last other possible legal v q writes is = elim (source ops xs start last v legal is) as (λ _. has xs q ≡ true) [
    | inl begun ↦ absurd (other v q writes begun)
    | inr w ↦ subst (λ z. has xs z ≡ true) (once.apart v w.0 q (possible w.0 w.1, w.2) writes) w.1
  ]

  needed_in : (start : Option ℤ) (xs : List ℕ) (last : Option ℤ) → ((v : ℤ) (q : ℕ) → WritesAt ops q v → start ≡ Some v → ⊥) → ((p : ℕ) → has xs p ≡ true → IsPossible ops p) → IsLegalFrom ops start xs last
      → (v : ℤ) (p q : ℕ) → has xs p ≡ true → NeedsValue (reg_call_at ops p) v → WritesAt ops q v → has xs q ≡ true
  needed_in start xs last other possible legal v p q here needs writes =
      let r = split_at xs p here in
      let c = legal_cut ops r.0 r.1 p start last (subst (λ zs. IsLegalFrom ops start zs last) r.2 legal) in
      let into : (z : ℕ) → has r.0 z ≡ true → has xs z ≡ true = λ z h. subst (λ zs. has zs z ≡ true) (sym r.2) (has_left r.0 (p ∷ r.1) z h) in
      into q (written_in start r.0 c.0 other (λ z h. possible z (into z h)) c.2 v q writes (needs_held (reg_call_at ops p) c.0 c.1 v c.3 needs))

  none_start : (v : ℤ) (q : ℕ) → WritesAt ops q v → ◌≡◌ {A = Option ℤ} None (Some v) → ⊥
  none_start v q writes h = cc

  -- the same, of a cluster's run
  last_written : (c : ℕ) (xs : List ℕ) (value v : ℤ) → RunsTo ops initial c xs value → ((p : ℕ) → has xs p ≡ true → IsPossible ops p) → (q : ℕ) → WritesAt ops q v → value ≡ v → has xs q ≡ true
  last_written zero xs value v runs possible q writes is = written_in initial xs (Some value) (λ u z w e. once.fresh u z w e) possible runs v q writes (ap (λ x. Some x) is)
  last_written (suc b) xs value v runs possible q writes is = written_in None xs (Some value) none_start possible (runs None) v q writes (ap (λ x. Some x) is)

  run_written : (c : ℕ) (xs : List ℕ) (value v : ℤ) → RunsTo ops initial c xs value → ((p : ℕ) → has xs p ≡ true → IsPossible ops p) → (p q : ℕ) → has xs p ≡ true → NeedsValue (reg_call_at ops p) v → WritesAt ops q v → has xs q ≡ true
  run_written zero xs value v runs possible p q here needs writes = needed_in initial xs (Some value) (λ u z w e. once.fresh u z w e) possible runs v p q here needs writes
  run_written (suc b) xs value v runs possible p q here needs writes = needed_in None xs (Some value) none_start possible (runs None) v p q here needs writes

  -- The reads of the value.
  module _ (value : ℤ) (numbers rs : List ℕ) (come : HasComeTo ops initial cluster value numbers) (reads : AreReads ops value rs) where
    read_needs : (p : ℕ) → has rs p ≡ true → NeedsValue (reg_call_at ops p) value
    read_needs p h = subst (λ c. NeedsValue c value) (sym (reads.each p h).1) refl

    read_leaves : (p : ℕ) → has rs p ≡ true → GivesValue (reg_call_at ops p) value
    read_leaves p h = subst (λ c. GivesValue c value) (sym (reads.each p h).1) refl

    apart : (p : ℕ) → has numbers p ≡ true → has rs p ≡ true → ⊥
    apart p h k = come.fresh p h (read_needs p k)

    reads_once : (p : ℕ) → StandBefore (numbers ++ rs) p p → ⊥
    reads_once p h = elim (before_cases numbers rs p p h) as (λ _. ⊥) [
      | inl old ↦ before_itself numbers p come.walk.once old
      | inr more ↦ elim more as (λ _. ⊥) [
        | inl across ↦ apart p across.0 across.1
        | inr new ↦ before_itself rs p reads.once new
      ]
    ]

    reads_turn : (p q : ℕ) → StandBefore (numbers ++ rs) p q → AreInStep ops p q
    reads_turn p q h = elim (before_cases numbers rs p q h) as (λ _. AreInStep ops p q) [
      | inl old ↦ come.walk.in_turn p q old
      | inr more ↦ elim more as (λ _. AreInStep ops p q) [
        | inl across ↦ inl (come.leads p q across.0 (reads.each q across.1).0 (read_needs q across.1))
        | inr new ↦ inr (reads.sorted p q new)
      ]
    ]

    reads_reached : (v : ℤ) → IsReachedValue ops initial cluster (numbers ++ rs) v → IsReachedValue ops initial cluster numbers v
    reads_reached v h = elim h as (λ _. IsReachedValue ops initial cluster numbers v) [
      | inl begun ↦ inl begun
      | inr by ↦ elim (has_cases numbers rs by.0 by.2) as (λ _. IsReachedValue ops initial cluster numbers v) [
        | inl old ↦ inr (by.0, by.1, old, by.3)
        | inr new ↦ absurd (read_no_cas value by.1 v (sym (reads.each by.0 new).1 ∙ by.3))
      ]
    ]

    -- who begins or reaches the value stands there
    reacher : (c : ℕ) → c ≡ cluster → (v : ℤ) (p : ℕ) → ClusterBegins ops initial c v → WritesAt ops p v → has numbers p ≡ true
    reacher zero is v p begun writes = absurd (once.fresh v p writes begun)
    reacher (suc w) is v p begun writes =
        let same : w ≡ p = once.apart v w p (write_writes ops initial once w v begun.0 begun.1) writes in
        subst (λ z. has numbers z ≡ true) same (come.walk.begins w (sym is))

    reads_whole : (p : ℕ) (v : ℤ) → IsReachedValue ops initial cluster (numbers ++ rs) v → MustStand ops p → GivesValue (reg_call_at ops p) v → has (numbers ++ rs) p ≡ true
    reads_whole p v h must leaves =
        let old = reads_reached v h in
        elim (come.whole p v old must leaves) as (λ _. has (numbers ++ rs) p ≡ true) [
          | inl there ↦ has_left numbers rs p there
          | inr is ↦ elim (read_or_write (reg_call_at ops p) v leaves) as (λ _. has (numbers ++ rs) p ≡ true) [
            | inl read ↦ has_right numbers rs p (reads.whole p must (read ∙ ap (λ x. Read (Some x)) is))
            | inr writes ↦ elim old as (λ _. has (numbers ++ rs) p ≡ true) [
              | inl begun ↦ has_left numbers rs p (reacher cluster refl v p begun (must_possible ops p must, writes))
              | inr by ↦
                  let same : by.0 ≡ p = once.apart v by.0 p (cas_writes ops initial once by.0 by.1 v (must_possible ops by.0 (come.walk.each_there by.0 by.2)) by.3) (must_possible ops p must, writes) in
                  has_left numbers rs p (subst (λ z. has numbers z ≡ true) same by.2)
            ]
          ]
        ]

    pub with_reads : HasReads ops initial cluster value (numbers ++ rs)
    with_reads = record {
      walk = record {
        once = once_if (numbers ++ rs) reads_once;
        has_value = come.walk.has_value;
        each_of = λ p h. elim (has_cases numbers rs p h) as (λ _. IsOfCluster ops initial cluster p) [ inl old ↦ come.walk.each_of p old | inr new ↦ (value, read_leaves p new, come.walk.has_value) ];
        each_there = λ p h. elim (has_cases numbers rs p h) as (λ _. MustStand ops p) [ inl old ↦ come.walk.each_there p old | inr new ↦ (reads.each p new).0 ];
        begins = λ w is. has_left numbers rs w (come.walk.begins w is);
        runs = runs_more cluster numbers rs value value come.walk.runs (legal_reads ops value rs (λ p h. (reads.each p h).1));
        in_turn = reads_turn;
        went_on = λ p old reached must cas. elim (come.walk.went_on p old (reads_reached old reached) must cas) as (λ _. (has (numbers ++ rs) p ≡ true) ⊎ (old ≡ value)) [ inl there ↦ inl (has_left numbers rs p there) | inr is ↦ inr is ];
      };
      fresh = λ p h cas. elim (has_cases numbers rs p h) as (λ _. ⊥) [
        | inl old ↦ come.fresh p old (cas_needs ops initial once p value cas.0 cas.1)
        | inr new ↦ read_no_cas value value cas.0 (sym (reads.each p new).1 ∙ cas.1)
      ];
      leads = λ p q h must cas. elim (has_cases numbers rs p h) as (λ _. (between : List ℕ) × HandsOnBy ops p between q) [
        | inl old ↦ come.leads p q old must (cas_needs ops initial once q value cas.0 cas.1)
        | inr new ↦ ([], ((reads.each p new).0, must, inr (value, cas.0, (reads.each p new).1, cas.1)))
      ];
      whole = reads_whole;
    }

  -- The compare-and-set from the value.
  module _ (value new : ℤ) (numbers : List ℕ) (q : ℕ) (have : HasReads ops initial cluster value numbers) (must : MustStand ops q) (cas : reg_call_at ops q ≡ Cas value new) (alone : (p : ℕ) → MustStand ops p → IsCasFrom ops p value → p ≡ q) where
    q_writes : WritesAt ops q new
    q_writes = cas_writes ops initial once q value new (must_possible ops q must) cas

    q_new : has numbers q ≡ true → ⊥
    q_new h = have.fresh q h (new, cas)

    all_possible : (p : ℕ) → has numbers p ≡ true → IsPossible ops p
    all_possible p h = must_possible ops p (have.walk.each_there p h)

    push_cases : (p : ℕ) → has (numbers ++ q ∷ []) p ≡ true → (has numbers p ≡ true) ⊎ (q ≡ p)
    push_cases p h = elim (has_cases numbers (q ∷ []) p h) as (λ _. (has numbers p ≡ true) ⊎ (q ≡ p)) [ inl old ↦ inl old | inr here ↦ inr (one_is q p here) ]

    cas_fresh : (p : ℕ) → has (numbers ++ q ∷ []) p ≡ true → NeedsValue (reg_call_at ops p) new → ⊥
    cas_fresh p h needs = elim (push_cases p h) as (λ _. ⊥) [
      | inl old ↦ q_new (run_written cluster numbers value new have.walk.runs all_possible p q old needs q_writes)
      | inr is ↦
          let same : value ≡ new = subst (λ c. NeedsValue c new) (ap (reg_call_at ops) (sym is) ∙ cas) needs in
          q_new (last_written cluster numbers value new have.walk.runs all_possible q q_writes same)
    ]

    cas_leads : (p next : ℕ) → has (numbers ++ q ∷ []) p ≡ true → MustStand ops next → NeedsValue (reg_call_at ops next) new → (between : List ℕ) × HandsOnBy ops p between next
    cas_leads p next h also needs = elim (push_cases p h) as (λ _. (between : List ℕ) × HandsOnBy ops p between next) [
      | inl old ↦ let r = have.leads p q old must (new, cas) in path_more ops p r.0 q next r.1 also (inl (new, q_writes, needs))
      | inr is ↦ subst (λ z. (between : List ℕ) × HandsOnBy ops z between next) is ([], (must, also, inl (new, q_writes, needs)))
    ]

    cas_reached : (v : ℤ) → IsReachedValue ops initial cluster (numbers ++ q ∷ []) v → IsReachedValue ops initial cluster numbers v ⊎ (v ≡ new)
    cas_reached v h = elim h as (λ _. IsReachedValue ops initial cluster numbers v ⊎ (v ≡ new)) [
      | inl begun ↦ inl (inl begun)
      | inr by ↦ elim (push_cases by.0 by.2) as (λ _. IsReachedValue ops initial cluster numbers v ⊎ (v ≡ new)) [
        | inl old ↦ inl (inr (by.0, by.1, old, by.3))
        | inr is ↦ inr (cas_new by.1 v value new (sym by.3 ∙ ap (reg_call_at ops) (sym is) ∙ cas))
      ]
    ]

    pub with_cas : HasComeTo ops initial cluster new (numbers ++ q ∷ [])
    with_cas =
        let chain = have.walk.has_value in
        let reached : HasValue ops initial cluster new = (q ∷ chain.0, (value, must_possible ops q must, cas, chain.1)) in
        record {
          walk = record {
            once = once_push numbers q have.walk.once q_new;
            has_value = reached;
            each_of = λ p h. elim (push_cases p h) as (λ _. IsOfCluster ops initial cluster p) [ inl old ↦ have.walk.each_of p old | inr is ↦ subst (IsOfCluster ops initial cluster) is (new, subst (λ c. GivesValue c new) (sym cas) refl, reached) ];
            each_there = λ p h. elim (push_cases p h) as (λ _. MustStand ops p) [ inl old ↦ have.walk.each_there p old | inr is ↦ subst (MustStand ops) is must ];
            begins = λ w is. has_left numbers (q ∷ []) w (have.walk.begins w is);
            runs = runs_more cluster numbers (q ∷ []) value new have.walk.runs (Some new, subst (λ c. Allows c (Some value) (Some new)) (sym cas) (refl, refl), refl);
            in_turn = λ a b h. elim (before_push numbers q a b h) as (λ _. AreInStep ops a b) [
              | inl old ↦ have.walk.in_turn a b old
              | inr last ↦ inl (subst (λ z. (between : List ℕ) × HandsOnBy ops a between z) last.1 (have.leads a q last.0 must (new, cas)))
            ];
            went_on = λ p old h also from. elim (cas_reached old h) as (λ _. (has (numbers ++ q ∷ []) p ≡ true) ⊎ (old ≡ new)) [
              | inl before ↦ elim (have.walk.went_on p old before also from) as (λ _. (has (numbers ++ q ∷ []) p ≡ true) ⊎ (old ≡ new)) [
                | inl there ↦ inl (has_left numbers (q ∷ []) p there)
                | inr is ↦ inl (has_right numbers (q ∷ []) p (subst (λ z. has (q ∷ []) z ≡ true) (sym (alone p also (subst (IsCasFrom ops p) is from))) (has_head q [])))
              ]
              | inr is ↦ inr is
            ];
          };
          fresh = cas_fresh;
          leads = cas_leads;
          whole = λ p v h also leaves. elim (cas_reached v h) as (λ _. (has (numbers ++ q ∷ []) p ≡ true) ⊎ (v ≡ new)) [ inl before ↦ inl (has_left numbers (q ∷ []) p (have.whole p v before also leaves)) | inr is ↦ inr is ];
        }

  -- Where there is none, all is there.
  module _ (value : ℤ) (numbers : List ℕ) (have : HasReads ops initial cluster value numbers) (none : (p : ℕ) → MustStand ops p → IsCasFrom ops p value → ⊥) where
    all_reached : (ps : List ℕ) (v : ℤ) → IsChainTo ops initial cluster ps v → (p : ℕ) → MustStand ops p → GivesValue (reg_call_at ops p) v ⊎ NeedsValue (reg_call_at ops p) v → IsReachedValue ops initial cluster numbers v
    all_reached [] v comes p must touches = inl comes
    all_reached (x ∷ ps) v comes p must touches =
        let writes : WritesAt ops x v = cas_writes ops initial once x comes.0 v comes.1 comes.2 in
        let also : MustStand ops x = elim touches as (λ _. MustStand ops x) [
          | inl leaves ↦ elim (read_or_write (reg_call_at ops p) v leaves) as (λ _. MustStand ops x) [
            | inl read ↦ must_writer ops x p v writes (subst (λ c. NeedsValue c v) (sym read) refl) must
            | inr wrote ↦ subst (MustStand ops) (once.apart v p x (must_possible ops p must, wrote) writes) must
          ]
          | inr needs ↦ must_writer ops x p v writes needs must
        ] in
        let older = all_reached ps comes.0 comes.3 x also (inr (cas_needs ops initial once x comes.0 v comes.2)) in
        elim (have.walk.went_on x comes.0 older also (v, comes.2)) as (λ _. IsReachedValue ops initial cluster numbers v) [
          | inl there ↦ inr (x, comes.0, there, comes.2)
          | inr is ↦ absurd (none x also (subst (IsCasFrom ops x) is (v, comes.2)))
        ]

    pub walked : IsWalked ops initial cluster numbers
    walked = record { value = value; walk = have.walk; whole = λ p v inside must leaves. have.whole p v (all_reached inside.0 v inside.1 p must (inl leaves)) must leaves }
