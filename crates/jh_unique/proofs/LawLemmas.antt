-- Why there is no order: each reason excludes every order.
use Rattle.std.proofs.Common.{◌≡◌, ℕ, zero, suc, ℤ, true, Option, Some, List, [], ◌∷◌, ◌++◌, refl, sym, ap, subst, ◌∙◌, inl, inr, arith}
use Rattle.std.specs.Prelude.{◌⊎◌, ◌≢◌}
use Rattle.jh_linear.specs.declared.register.RegCall.{RegCall}
use Rattle.jh_linear.specs.declared.register.RegCall.TheVariants.{Read, Cas}
use Rattle.jh_linear.specs.declared.register.RegOp.{RegOp}
use Rattle.jh_linear.specs.Order.{IsPossible, has, StandBefore, HasNoneTwice, Precedes, Allows, IsLegalFrom, IsOrder}
use Rattle.jh_unique.specs.Unique.{WritesValue, NeedsValue, GivesValue, reg_call_at, WritesAt, WriteOnce, IsNeeded, MustStand, HasValue, IsOfCluster}
use Rattle.jh_unique.specs.Reasons.{HasNoOrigin, AreFromOne, HandsOn, HandsOnBy, AreCrossedClusters}
use Rattle.jh_unique.proofs.ListLemmas.{has_left, has_head, split_at, before_first, before_second, before_right, before_across, before_itself, before_trans, before_total, before_cases, stands_in_front}
use Rattle.jh_unique.proofs.RunLemmas.{all_has, legal_cut, source, needs_held, leaves_next, writes_leaves, leaves_cases, one_value, some_same, never}
use Rattle.jh_unique.proofs.ClusterLemmas.{cas_writes, cas_needs, closed, one_cluster, rooted_run, rooted_start}

stands_behind : (front back : List ℕ) (p q : ℕ) → HasNoneTwice (front ++ p ∷ back) → StandBefore (front ++ p ∷ back) p q → has back q ≡ true
stands_behind front back p q once h = elim (before_cases front (p ∷ back) p q h) as (λ _. has back q ≡ true) [
  | inl inside ↦ absurd (before_itself (front ++ p ∷ back) p once (before_across front (p ∷ back) p p (before_first front p q inside) (has_head p back)))
  | inr more ↦ elim more as (λ _. has back q ≡ true) [
    | inl across ↦ absurd (before_itself (front ++ p ∷ back) p once (before_across front (p ∷ back) p p across.0 (has_head p back)))
    | inr behind ↦ elim behind as (λ _. has back q ≡ true) [ inl now ↦ now.1 | inr later ↦ before_second back p q later ]
  ]
]

not_same_call : (a b : ℤ) → ◌≡◌ {A = RegCall} (Read (Some a)) (Cas a b) → ⊥
not_same_call a b e = cc

module _ (ops : List RegOp) (initial : Option ℤ) (order : List ℕ) (once : WriteOnce ops initial) (orders : IsOrder ops initial order) where
  distinct : HasNoneTwice order
  distinct = orders.partial.distinct

  pub possible : (p : ℕ) → has order p ≡ true → IsPossible ops p
  possible = all_has (IsPossible ops) order orders.partial.possible

  pub not_twice : (p q : ℕ) → StandBefore order p q → StandBefore order q p → ⊥
  not_twice p q h k = before_itself order p distinct (before_trans order p q p distinct h k)

  -- The order, cut at an operation, and the values on both sides of it.
  record Cut (p : ℕ) : Type 0 where
    front : List ℕ
    back : List ℕ
    is : order ≡ front ++ p ∷ back
    held : Option ℤ
    next : Option ℤ
    before : IsLegalFrom ops initial front held
    now : Allows (reg_call_at ops p) held next
    behind : IsLegalFrom ops next back orders.last

  cut : (p : ℕ) → has order p ≡ true → Cut p
  cut p h =
      let r = split_at order p h in
      let c = legal_cut ops r.0 r.1 p initial orders.last (subst (λ xs. IsLegalFrom ops initial xs orders.last) r.2 orders.partial.runs) in
      record { front = r.0; back = r.1; is = r.2; held = c.0; next = c.1; before = c.2; now = c.3; behind = c.4 }

  front_there : (p : ℕ) (c : Cut p) (q : ℕ) → has c.front q ≡ true → has order q ≡ true
  front_there p c q h = subst (λ xs. has xs q ≡ true) (sym c.is) (has_left c.front (p ∷ c.back) q h)

  front_before : (p : ℕ) (c : Cut p) (q : ℕ) → has c.front q ≡ true → StandBefore order q p
  front_before p c q h = subst (λ xs. StandBefore xs q p) (sym c.is) (before_across c.front (p ∷ c.back) q p h (has_head p c.back))

  before_back : (p : ℕ) (c : Cut p) (q : ℕ) → has c.back q ≡ true → StandBefore order p q
  before_back p c q h = subst (λ xs. StandBefore xs p q) (sym c.is) (before_right c.front (p ∷ c.back) p q (inl (refl, h)))

  back_there : (p : ℕ) (c : Cut p) (q : ℕ) → has c.back q ≡ true → has order q ≡ true
  back_there p c q h = before_second order p q (before_back p c q h)

  in_front : (p : ℕ) (c : Cut p) (q : ℕ) → StandBefore order q p → has c.front q ≡ true
  in_front p c q h = stands_in_front c.front c.back p q (subst HasNoneTwice c.is distinct) (subst (λ xs. StandBefore xs q p) c.is h)

  in_back : (p : ℕ) (c : Cut p) (q : ℕ) → StandBefore order p q → has c.back q ≡ true
  in_back p c q h = stands_behind c.front c.back p q (subst HasNoneTwice c.is distinct) (subst (λ xs. StandBefore xs p q) c.is h)

  -- who wrote what an operation needs stands before it
  pub writer_before : (p q : ℕ) (v : ℤ) → WritesAt ops p v → NeedsValue (reg_call_at ops q) v → has order q ≡ true → StandBefore order p q
  writer_before p q v writes needs there =
      let c = cut q there in
      let is : c.held ≡ Some v = needs_held (reg_call_at ops q) c.held c.next v c.now needs in
      elim (source ops c.front initial c.held v c.before is) as (λ _. StandBefore order p q) [
        | inl started ↦ absurd (once.fresh v p writes started)
        | inr w ↦
            let same : w.0 ≡ p = once.apart v w.0 p (possible w.0 (front_there q c w.0 w.1), w.2) writes in
            subst (λ z. StandBefore order z q) same (front_before q c w.0 w.1)
      ]

  needed_there : (readers : List ℕ) (p : ℕ) → IsNeeded ops readers p → has order p ≡ true
  needed_there [] p done = orders.whole p done
  needed_there (q ∷ qs) p h = before_first order p q (writer_before p q h.0 h.1 h.2 (needed_there qs q h.3))

  pub there : (p : ℕ) → MustStand ops p → has order p ≡ true
  there p must = needed_there must.0 p must.1

  -- Values that are reached from outside only by an entry.
  module _ (V : ℤ → Type 0) (Entry : ℕ → Type 0) (shut : (p : ℕ) (v : ℤ) → IsPossible ops p → GivesValue (reg_call_at ops p) v → V v → Entry p ⊎ ((u : ℤ) × NeedsValue (reg_call_at ops p) u × V u)) where
    -- behind an operation that left another value they are held only behind an entry
    pub left_again : (d c : ℕ) (v u : ℤ) → GivesValue (reg_call_at ops d) v → (V v → ⊥) → StandBefore order d c → V u → GivesValue (reg_call_at ops c) u ⊎ NeedsValue (reg_call_at ops c) u
        → ((w : ℕ) → Entry w → StandBefore order d w → ⊥) → ⊥
    left_again d c v u leaves outside h inside touches nothing =
        let k = cut d (before_first order d c h) in
        never ops V Entry shut k.back k.next orders.last (λ q e. possible q (back_there d k q e)) (λ w e enters. nothing w enters (before_back d k w e)) k.behind
        (λ z is within. outside (subst V (some_same z v (sym is ∙ leaves_next (reg_call_at ops d) k.held k.next v k.now leaves)) within))
        c u (in_back d k c h) inside touches

    -- before an entry they are not held
    pub entered : (c d : ℕ) (u : ℤ) → ((v : ℤ) → initial ≡ Some v → V v → ⊥) → StandBefore order c d → V u → GivesValue (reg_call_at ops c) u ⊎ NeedsValue (reg_call_at ops c) u
        → ((w : ℕ) → Entry w → StandBefore order w d → ⊥) → ⊥
    entered c d u outside h inside touches nothing =
        let k = cut d (before_second order c d h) in
        never ops V Entry shut k.front initial k.held (λ q e. possible q (front_there d k q e)) (λ w e enters. nothing w enters (front_before d k w e)) k.before outside
        c u (in_front d k c h) inside touches

    -- so they stand together
    pub together : (c d e : ℕ) (u v z : ℤ) → ((p q : ℕ) → Entry p → Entry q → p ≡ q) → ((v : ℤ) → initial ≡ Some v → V v → ⊥)
        → V u → GivesValue (reg_call_at ops c) u ⊎ NeedsValue (reg_call_at ops c) u → GivesValue (reg_call_at ops d) v → (V v → ⊥) → V z → GivesValue (reg_call_at ops e) z ⊎ NeedsValue (reg_call_at ops e) z
        → StandBefore order c d → StandBefore order d e → ⊥
    together c d e u v z one outside first touches leaves other last touches' h k =
        left_again d e v z leaves other k last touches' (λ w enters late.
        entered c d u outside h first touches (λ x enters' early.
        not_twice d w late (subst (λ y. StandBefore order y d) (one x w enters' enters) early)))

  -- What needs a value stands before the compare-and-set that replaces it.
  from_value : (v : ℤ) (p : ℕ) (z : ℤ) → IsPossible ops p → GivesValue (reg_call_at ops p) z → z ≡ v → WritesAt ops p v ⊎ ((u : ℤ) × NeedsValue (reg_call_at ops p) u × (u ≡ v))
  from_value v p z possible' leaves is = elim (leaves_cases (reg_call_at ops p) z leaves) as (λ _. WritesAt ops p v ⊎ ((u : ℤ) × NeedsValue (reg_call_at ops p) u × (u ≡ v))) [
    | inl needs ↦ inr (z, needs, is)
    | inr writes ↦ inl (possible', subst (λ y. WritesValue (reg_call_at ops p) y) is writes)
  ]

  pub not_behind : (p q : ℕ) (old new : ℤ) → reg_call_at ops p ≡ Cas old new → NeedsValue (reg_call_at ops q) old → StandBefore order p q → ⊥
  not_behind p q old new is needs h =
      let here : has order p ≡ true = before_first order p q h in
      let wrote : WritesAt ops p new = cas_writes ops initial once p old new (possible p here) is in
      let needed : NeedsValue (reg_call_at ops p) old = cas_needs ops initial once p old new is in
      left_again (λ z. z ≡ old) (λ w. WritesAt ops w old) (from_value old) p q new old (writes_leaves (reg_call_at ops p) new wrote.1)
      (λ same. before_itself order p distinct (writer_before p p old (subst (λ z. WritesAt ops p z) same wrote) needed here))
      h refl (inr needs)
      (λ w writes late. not_twice p w late (writer_before w p old writes needed here))

  pub from_one : (p q : ℕ) (old : ℤ) → AreFromOne ops p q old → ⊥
  from_one p q old h = elim (before_total order p q (there p h.0) (there q h.1)) as (λ _. ⊥) [
    | inl same ↦ h.2 same
    | inr two ↦ elim two as (λ _. ⊥) [
      | inl first ↦ not_behind p q old h.3.0 h.3.1 (cas_needs ops initial once q old h.4.0 h.4.1) first
      | inr second ↦ not_behind q p old h.4.0 h.4.1 (cas_needs ops initial once p old h.3.0 h.3.1) second
    ]
  ]

  -- by what they say
  pub led : (p q : ℕ) → has order p ≡ true → has order q ≡ true → HandsOn ops p q → StandBefore order p q
  led p q here also h = elim h as (λ _. StandBefore order p q) [
    | inl w ↦ writer_before p q w.0 w.1 w.2 also
    | inr r ↦ elim (before_total order p q here also) as (λ _. StandBefore order p q) [
      | inl same ↦ absurd (not_same_call r.0 r.1 (sym r.2 ∙ ap (reg_call_at ops) same ∙ r.3))
      | inr two ↦ elim two as (λ _. StandBefore order p q) [
        | inl right ↦ right
        | inr wrong ↦ absurd (not_behind q p r.0 r.1 r.3 (subst (λ c. NeedsValue c r.0) (sym r.2) refl) wrong)
      ]
    ]
  ]

  pub path : (p : ℕ) (between : List ℕ) (q : ℕ) → HandsOnBy ops p between q → StandBefore order p q
  path p [] q h = led p q (there p h.0) (there q h.1) h.2
  path p (m ∷ ms) q h =
      let rest = path m ms q h.2 in
      before_trans order p m q distinct (led p m (there p h.0) (before_first order m q rest) h.1) rest

  -- a ring of such steps has no order, nor has one that leads back in time
  pub ring : (p : ℕ) (between : List ℕ) → HandsOnBy ops p between p → ⊥
  ring p between h = before_itself order p distinct (path p between p h)

  pub late : (p : ℕ) (between : List ℕ) (q : ℕ) → HandsOnBy ops p between q → Precedes ops q p → ⊥
  late p between q h over =
      let stands = path p between q h in
      not_twice p q stands (orders.partial.precedence q p over (before_first order p q stands))

  -- what is needed comes from somewhere
  pub from_somewhere : (p : ℕ) (v : ℤ) → has order p ≡ true → NeedsValue (reg_call_at ops p) v → (r : ℕ) × HasValue ops initial r v
  from_somewhere p v here needs =
      let c = cut p here in
      rooted_run ops initial once c.front initial c.held (λ q h. possible q (front_there p c q h)) c.before (rooted_start ops initial once) v (needs_held (reg_call_at ops p) c.held c.next v c.now needs)

  pub from_nowhere : (p : ℕ) (v : ℤ) → HasNoOrigin ops initial p v → ⊥
  from_nowhere p v h = let r = from_somewhere p v (there p h.0) h.1 in h.2 r.0 r.1

  -- Clusters.

  one_entry : (r p q : ℕ) → r ≡ suc p → r ≡ suc q → p ≡ q
  one_entry r p q h k = omega (arith, h, k)

  begins_later : (w : ℕ) (v : ℤ) → initial ≡ Some v → HasValue ops initial (suc w) v → ⊥
  begins_later w v is inside = let same : zero ≡ suc w = one_cluster ops initial once zero (suc w) v ([], is) inside in absurd (omega (arith, same))

  -- nothing of another cluster stands between two operations of one,
  pub stand_together : (r s c d e : ℕ) → (s ≢ r) → IsOfCluster ops initial r c → IsOfCluster ops initial s d → IsOfCluster ops initial r e → StandBefore order c d → StandBefore order d e → ⊥
  stand_together zero s c d e differ first other last h k =
      left_again (HasValue ops initial zero) (λ w. zero ≡ suc w) (closed ops initial once zero) d e other.0 last.0 other.1
      (λ inside. differ (one_cluster ops initial once s zero other.0 other.2 inside)) k last.2 (inl last.1) (λ w none late'. absurd (omega (arith, none)))
  stand_together (suc b) s c d e differ first other last h k =
      together (HasValue ops initial (suc b)) (λ w. suc b ≡ suc w) (closed ops initial once (suc b)) c d e first.0 other.0 last.0 (one_entry (suc b)) (begins_later b)
      first.2 (inl first.1) other.1 (λ inside. differ (one_cluster ops initial once s (suc b) other.0 other.2 inside)) last.2 (inl last.1) h k

  -- and nothing of another cluster before that of the start
  pub start_first : (s d e : ℕ) → (s ≢ 0) → IsOfCluster ops initial s d → IsOfCluster ops initial 0 e → StandBefore order d e → ⊥
  start_first s d e differ other last k =
      left_again (HasValue ops initial 0) (λ w. 0 ≡ suc w) (closed ops initial once 0) d e other.0 last.0 other.1
      (λ inside. differ (one_cluster ops initial once s 0 other.0 other.2 inside)) k last.2 (inl last.1) (λ w none late'. absurd (omega (arith, none)))

  of_two : (r s d : ℕ) → IsOfCluster ops initial r d → IsOfCluster ops initial s d → r ≡ s
  of_two r s d h k = one_cluster ops initial once r s h.0 h.2 (subst (HasValue ops initial s) (one_value (reg_call_at ops d) k.0 h.0 k.1 h.1) k.2)

  -- one of the first stands before one of the second, so all do
  pub all_before : (r s c d a b : ℕ) → r ≢ s → IsOfCluster ops initial r c → IsOfCluster ops initial s d → StandBefore order c d → IsOfCluster ops initial r a → IsOfCluster ops initial s b → StandBefore order b a → ⊥
  all_before r s c d a b differ first other h first' other' k =
      elim (before_total order a d (before_second order b a k) (before_second order c d h)) as (λ _. ⊥) [
        | inl same ↦
            let is : IsOfCluster ops initial r d = subst (IsOfCluster ops initial r) same first' in
            differ (of_two r s d is other)
        | inr two ↦ elim two as (λ _. ⊥) [
          | inl early ↦ stand_together s r b a d differ other' first' other k early
          | inr behind ↦ stand_together r s c d a (λ e. differ (sym e)) first other first' h behind
        ]
      ]

  kept : (a b : ℕ) → Precedes ops a b → MustStand ops b → StandBefore order a b
  kept a b over must = orders.partial.precedence a b over (there b must)

  pub crossed : (r s : ℕ) → AreCrossedClusters ops initial r s → ⊥
  crossed r s h = elim h.1 as (λ _. ⊥) [
    | inl start ↦ elim h.2 as (λ _. ⊥) [
      | inl also ↦ h.0 (start ∙ sym also)
      | inr m ↦ start_first s m.0 m.1 (λ e. h.0 (start ∙ sym e)) m.2 (subst (λ z. IsOfCluster ops initial z m.1) start m.3) (kept m.0 m.1 m.4 m.5)
    ]
    | inr l ↦ elim h.2 as (λ _. ⊥) [
      | inl start ↦ start_first r l.0 l.1 (λ e. h.0 (e ∙ sym start)) l.2 (subst (λ z. IsOfCluster ops initial z l.1) start l.3) (kept l.0 l.1 l.4 l.5)
      | inr m ↦ all_before r s l.0 l.1 m.1 m.0 h.0 l.2 l.3 (kept l.0 l.1 l.4 l.5) m.3 m.2 (kept m.0 m.1 m.4 m.5)
    ]
  ]
