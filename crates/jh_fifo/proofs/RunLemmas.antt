-- What a legal run of a queue does with values.
use Rattle.std.proofs.Common.{◌≡◌, ℕ, true, eqb, List, [], ◌∷◌, ◌++◌, refl, sym, ap, subst, ◌∙◌, inl, inr}
use Rattle.std.specs.Prelude.{◌⊎◌}
use Rattle.std.proofs.lemmas.Bool.{false≢true, or_right}
use Rattle.jh_fifo.specs.declared.operations.FifoCall.{FifoCall}
use Rattle.jh_fifo.specs.declared.operations.FifoCall.TheVariants.{Enqueue, Dequeue, Empty}
use Rattle.jh_fifo.specs.declared.operations.FifoOp.{FifoOp}
use Rattle.jh_fifo.specs.Order.{has_place, QueueAllows, LeadsQueue, PlaceStandsBefore, HasNoPlaceTwice}
use Rattle.jh_fifo.specs.Reasons.{call_at, Enqueues, Dequeues, EnqueuedOnce}
use Rattle.jh_fifo.proofs.ListLemmas.{has_cons, has_head, has_left, has_right, has_cases, head_once, tail_once, once_cons, none_twice, one_is, before_right, before_second, middle_shift}

pub same_enqueue : (x y : ℕ) → ◌≡◌ {A = FifoCall} (Enqueue x) (Enqueue y) → x ≡ y
same_enqueue x y h = cc

pub same_dequeue : (x y : ℕ) → ◌≡◌ {A = FifoCall} (Dequeue x) (Dequeue y) → x ≡ y
same_dequeue x y h = cc

pub not_both_calls : (x y : ℕ) → ◌≡◌ {A = FifoCall} (Enqueue x) (Dequeue y) → ⊥
not_both_calls x y h = cc

pub not_enqueue : (x : ℕ) → ◌≡◌ {A = FifoCall} (Enqueue x) Empty → ⊥
not_enqueue x h = cc

pub not_dequeue : (x : ℕ) → ◌≡◌ {A = FifoCall} (Dequeue x) Empty → ⊥
not_dequeue x h = cc

-- the value that a call enqueues
abbrev pub value_in : FifoCall → List ℕ
value_in (Enqueue value) = value ∷ []
value_in (Dequeue value) = []
value_in Empty = []

-- what was there, goes or stays; what comes, was there or is enqueued
pub enters : (call : FifoCall) (queue next : List ℕ) (v : ℕ) → QueueAllows call queue next → call ≡ Enqueue v → has_place next v ≡ true
enters call queue next v allows is =
    let h : next ≡ queue ++ v ∷ [] = subst (λ c. QueueAllows c queue next) is allows in
    subst (λ q. has_place q v ≡ true) (sym h) (has_right queue (v ∷ []) v (has_head v []))

pub stays : (call : FifoCall) (queue next : List ℕ) (v : ℕ) → QueueAllows call queue next → has_place queue v ≡ true → (has_place next v ≡ true) ⊎ (call ≡ Dequeue v)
stays (Enqueue w) queue next v allows there = inl (subst (λ q. has_place q v ≡ true) (sym allows) (has_left queue (w ∷ []) v there))
stays (Dequeue w) queue next v allows there = elim (has_cons w next v (subst (λ q. has_place q v ≡ true) allows there)) as (λ _. (has_place next v ≡ true) ⊎ (◌≡◌ {A = FifoCall} (Dequeue w) (Dequeue v))) [
  | inl e ↦ inr (ap (λ x. Dequeue x) e)
  | inr later ↦ inl later
]
stays Empty queue next v allows there = absurd (false≢true (subst (λ q. has_place q v ≡ true) allows.0 there))

pub came : (call : FifoCall) (queue next : List ℕ) (v : ℕ) → QueueAllows call queue next → has_place next v ≡ true → (has_place queue v ≡ true) ⊎ (call ≡ Enqueue v)
came (Enqueue w) queue next v allows there = elim (has_cases queue (w ∷ []) v (subst (λ q. has_place q v ≡ true) allows there)) as (λ _. (has_place queue v ≡ true) ⊎ (◌≡◌ {A = FifoCall} (Enqueue w) (Enqueue v))) [
  | inl e ↦ inl e
  | inr e ↦ inr (ap (λ x. Enqueue x) (one_is w v e))
]
came (Dequeue w) queue next v allows there = inl (subst (λ q. has_place q v ≡ true) (sym allows) (or_right (eqb w v) _ there))
came Empty queue next v allows there = absurd (false≢true (subst (λ q. has_place q v ≡ true) allows.1 there))

-- what is there and comes, with a call and without it
abbrev pub Goes : FifoCall → List ℕ → List ℕ → List ℕ → Type 0
Goes call queue next rest =
    (((v : ℕ) → call ≡ Dequeue v → ⊥) × (queue ++ (value_in call ++ rest) ≡ next ++ rest))
    ⊎ ((v : ℕ) × (call ≡ Dequeue v) × (queue ++ (value_in call ++ rest) ≡ v ∷ (next ++ rest)))

pub goes : (call : FifoCall) (queue next rest : List ℕ) → QueueAllows call queue next → Goes call queue next rest
goes (Enqueue w) queue next rest allows = inl (λ v e. not_both_calls w v e, middle_shift queue rest w ∙ ap (λ q. q ++ rest) (sym allows))
goes (Dequeue w) queue next rest allows = inr (w, refl, ap (λ q. q ++ rest) allows)
goes Empty queue next rest allows = inl (λ v e. not_dequeue v (sym e), ap (λ q. q ++ rest) (allows.0 ∙ sym allows.1))

module _ (ops : List FifoOp) where
  -- the values that these operations enqueue
  abbrev pub enqueued : List ℕ → List ℕ
  enqueued [] = []
  enqueued (p ∷ order) = value_in (call_at ops p) ++ enqueued order

  pub enqueued_has : (order : List ℕ) (p v : ℕ) → has_place order p ≡ true → Enqueues ops v p → has_place (enqueued order) v ≡ true
  enqueued_has [] p v there is = absurd (false≢true there)
  enqueued_has (x ∷ order) p v there is = elim (has_cons x order p there) as (λ _. has_place (enqueued (x ∷ order)) v ≡ true) [
    | inl e ↦ subst (λ c. has_place (value_in c ++ enqueued order) v ≡ true) (sym (ap (λ y. call_at ops y) e ∙ is)) (has_head v (enqueued order))
    | inr later ↦ has_right (value_in (call_at ops x)) (enqueued order) v (enqueued_has order p v later is)
  ]

  in_value : (call : FifoCall) (v : ℕ) → has_place (value_in call) v ≡ true → call ≡ Enqueue v
  in_value (Enqueue w) v h = ap (λ x. Enqueue x) (one_is w v h)
  in_value (Dequeue w) v h = absurd (false≢true h)
  in_value Empty v h = absurd (false≢true h)

  pub in_enqueued : (order : List ℕ) (v : ℕ) → has_place (enqueued order) v ≡ true → (p : ℕ) × (has_place order p ≡ true) × Enqueues ops v p
  in_enqueued [] v h = absurd (false≢true h)
  in_enqueued (x ∷ order) v h = elim (has_cases (value_in (call_at ops x)) (enqueued order) v h) as (λ _. (p : ℕ) × (has_place (x ∷ order) p ≡ true) × Enqueues ops v p) [
    | inl here ↦ (x, has_head x order, in_value (call_at ops x) v here)
    | inr later ↦ let r = in_enqueued order v later in (r.0, or_right (eqb x r.0) _ r.1, r.2)
  ]

  pub enqueued_before : (order : List ℕ) (p q a b : ℕ) → PlaceStandsBefore order p q → Enqueues ops a p → Enqueues ops b q → PlaceStandsBefore (enqueued order) a b
  enqueued_before [] p q a b h is_a is_b = absurd h
  enqueued_before (x ∷ order) p q a b h is_a is_b = elim h as (λ _. PlaceStandsBefore (enqueued (x ∷ order)) a b) [
    | inl now ↦ subst (λ c. PlaceStandsBefore (value_in c ++ enqueued order) a b) (sym (ap (λ y. call_at ops y) now.0 ∙ is_a)) (inl (refl, enqueued_has order q b now.1 is_b))
    | inr later ↦ before_right (value_in (call_at ops x)) (enqueued order) a b (enqueued_before order p q a b later is_a is_b)
  ]

  one_more : (call : FifoCall) (xs : List ℕ) → HasNoPlaceTwice xs → ((v : ℕ) → call ≡ Enqueue v → has_place xs v ≡ true → ⊥) → HasNoPlaceTwice (value_in call ++ xs)
  one_more (Enqueue w) xs once new = once_cons w xs (λ h. new w refl h) once
  one_more (Dequeue w) xs once new = once
  one_more Empty xs once new = once

  pub enqueued_once : EnqueuedOnce ops → (order : List ℕ) → HasNoPlaceTwice order → HasNoPlaceTwice (enqueued order)
  enqueued_once apart [] once = none_twice
  enqueued_once apart (x ∷ order) once = one_more (call_at ops x) (enqueued order) (enqueued_once apart order (tail_once x order once)) (λ v is h.
      let r = in_enqueued order v h in
      head_once x order once (subst (λ y. has_place order y ≡ true) (apart v r.0 x r.2 is) r.1))

  -- what is dequeued was there, or is enqueued
  pub taken : (order queue last : List ℕ) (v q : ℕ) → LeadsQueue ops queue order last → has_place order q ≡ true → Dequeues ops v q → has_place (queue ++ enqueued order) v ≡ true
  taken [] queue last v q legal there is = absurd (false≢true there)
  taken (x ∷ order) queue last v q legal there is =
      let Goal : Type 0 = has_place (queue ++ enqueued (x ∷ order)) v ≡ true in
      elim (goes (call_at ops x) queue legal.0 (enqueued order) legal.1) as (λ _. Goal) [
        | inl g ↦ elim (has_cons x order q there) as (λ _. Goal) [
          | inl e ↦ absurd (g.0 v (ap (λ y. call_at ops y) e ∙ is))
          | inr later ↦ subst (λ zs. has_place zs v ≡ true) (sym g.1) (taken order legal.0 last v q legal.2 later is)
        ]
        | inr g ↦ elim (has_cons x order q there) as (λ _. Goal) [
          | inl e ↦
              let same : g.0 ≡ v = same_dequeue g.0 v (sym g.1 ∙ ap (λ y. call_at ops y) e ∙ is) in
              subst (λ zs. has_place zs v ≡ true) (sym g.2) (subst (λ w. has_place (g.0 ∷ (legal.0 ++ enqueued order)) w ≡ true) same (has_head g.0 _))
          | inr later ↦ subst (λ zs. has_place zs v ≡ true) (sym g.2) (or_right (eqb g.0 v) _ (taken order legal.0 last v q legal.2 later is))
        ]
      ]

  -- what is dequeued was there, or was enqueued before
  pub from_where : (order queue last : List ℕ) (v q : ℕ) → LeadsQueue ops queue order last → has_place order q ≡ true → Dequeues ops v q → (has_place queue v ≡ true) ⊎ ((p : ℕ) × Enqueues ops v p × PlaceStandsBefore order p q)
  from_where [] queue last v q legal there is = absurd (false≢true there)
  from_where (x ∷ order) queue last v q legal there is =
      let Goal : Type 0 = (has_place queue v ≡ true) ⊎ ((p : ℕ) × Enqueues ops v p × PlaceStandsBefore (x ∷ order) p q) in
      elim (has_cons x order q there) as (λ _. Goal) [
        | inl e ↦
            let h : queue ≡ v ∷ legal.0 = subst (λ c. QueueAllows c queue legal.0) (ap (λ y. call_at ops y) e ∙ is) legal.1 in
            inl (subst (λ zs. has_place zs v ≡ true) (sym h) (has_head v legal.0))
        | inr later ↦ elim (from_where order legal.0 last v q legal.2 later is) as (λ _. Goal) [
          | inl held ↦ elim (came (call_at ops x) queue legal.0 v legal.1 held) as (λ _. Goal) [
            | inl older ↦ inl older
            | inr here ↦ inr (x, here, inl (refl, later))
          ]
          | inr r ↦ inr (r.0, r.1, inr r.2)
        ]
      ]

  -- what stands in front is dequeued first
  pub in_turn : (order queue last : List ℕ) (a b q : ℕ) → LeadsQueue ops queue order last → HasNoPlaceTwice (queue ++ enqueued order) → PlaceStandsBefore (queue ++ enqueued order) a b
      → has_place order q ≡ true → Dequeues ops b q → (p : ℕ) × Dequeues ops a p × PlaceStandsBefore order p q
  in_turn [] queue last a b q legal once before there is = absurd (false≢true there)
  in_turn (x ∷ order) queue last a b q legal once before there is =
      let Goal : Type 0 = (p : ℕ) × Dequeues ops a p × PlaceStandsBefore (x ∷ order) p q in
      elim (goes (call_at ops x) queue legal.0 (enqueued order) legal.1) as (λ _. Goal) [
        | inl g ↦ elim (has_cons x order q there) as (λ _. Goal) [
          | inl e ↦ absurd (g.0 b (ap (λ y. call_at ops y) e ∙ is))
          | inr later ↦
              let r = in_turn order legal.0 last a b q legal.2 (subst HasNoPlaceTwice g.1 once) (subst (λ zs. PlaceStandsBefore zs a b) g.1 before) later is in
              (r.0, r.1, inr r.2)
        ]
        | inr g ↦
            let rest : List ℕ = legal.0 ++ enqueued order in
            let once' : HasNoPlaceTwice (g.0 ∷ rest) = subst HasNoPlaceTwice g.2 once in
            let before' : PlaceStandsBefore (g.0 ∷ rest) a b = subst (λ zs. PlaceStandsBefore zs a b) g.2 before in
            elim (has_cons x order q there) as (λ _. Goal) [
              | inl e ↦
                  let same : g.0 ≡ b = same_dequeue g.0 b (sym g.1 ∙ ap (λ y. call_at ops y) e ∙ is) in
                  let again : has_place rest b ≡ true = elim before' as (λ _. has_place rest b ≡ true) [ inl now ↦ now.1 | inr later ↦ before_second rest a b later ] in
                  absurd (head_once g.0 rest once' (subst (λ w. has_place rest w ≡ true) (sym same) again))
              | inr later ↦ elim before' as (λ _. Goal) [
                | inl now ↦ (x, g.1 ∙ ap (λ w. Dequeue w) now.0, inl (refl, later))
                | inr behind ↦ let r = in_turn order legal.0 last a b q legal.2 (tail_once g.0 rest once') behind later is in (r.0, r.1, inr r.2)
              ]
            ]
      ]

  -- nothing is dequeued twice
  pub dequeued_once : (order queue last : List ℕ) (v p q : ℕ) → LeadsQueue ops queue order last → HasNoPlaceTwice (queue ++ enqueued order) → PlaceStandsBefore order p q → Dequeues ops v p → Dequeues ops v q → ⊥
  dequeued_once [] queue last v p q legal once before is_p is_q = before
  dequeued_once (x ∷ order) queue last v p q legal once before is_p is_q =
      elim (goes (call_at ops x) queue legal.0 (enqueued order) legal.1) as (λ _. ⊥) [
        | inl g ↦ elim before as (λ _. ⊥) [
          | inl now ↦ g.0 v (ap (λ y. call_at ops y) now.0 ∙ is_p)
          | inr later ↦ dequeued_once order legal.0 last v p q legal.2 (subst HasNoPlaceTwice g.1 once) later is_p is_q
        ]
        | inr g ↦
            let rest : List ℕ = legal.0 ++ enqueued order in
            let once' : HasNoPlaceTwice (g.0 ∷ rest) = subst HasNoPlaceTwice g.2 once in
            elim before as (λ _. ⊥) [
              | inl now ↦
                  let same : g.0 ≡ v = same_dequeue g.0 v (sym g.1 ∙ ap (λ y. call_at ops y) now.0 ∙ is_p) in
                  head_once g.0 rest once' (subst (λ w. has_place rest w ≡ true) (sym same) (taken order legal.0 last v q legal.2 now.1 is_q))
              | inr later ↦ dequeued_once order legal.0 last v p q legal.2 (tail_once g.0 rest once') later is_p is_q
            ]
      ]

  -- before the queue is found empty, what was there or was enqueued is dequeued
  pub emptied : (order queue last : List ℕ) (v q : ℕ) → LeadsQueue ops queue order last → HasNoPlaceTwice order → has_place order q ≡ true → call_at ops q ≡ Empty
      → (has_place queue v ≡ true) ⊎ ((p : ℕ) × Enqueues ops v p × PlaceStandsBefore order p q) → (d : ℕ) × Dequeues ops v d × PlaceStandsBefore order d q
  emptied [] queue last v q legal once there is enters_it = absurd (false≢true there)
  emptied (x ∷ order) queue last v q legal once there is enters_it =
      let Goal : Type 0 = (d : ℕ) × Dequeues ops v d × PlaceStandsBefore (x ∷ order) d q in
      elim (has_cons x order q there) as (λ _. Goal) [
        | inl e ↦
            let h : (queue ≡ []) × (legal.0 ≡ []) = subst (λ c. QueueAllows c queue legal.0) (ap (λ y. call_at ops y) e ∙ is) legal.1 in
            elim enters_it as (λ _. Goal) [
              | inl held ↦ absurd (false≢true (subst (λ zs. has_place zs v ≡ true) h.0 held))
              | inr r ↦ elim r.2 as (λ _. Goal) [
                | inl now ↦ absurd (not_enqueue v (sym r.1 ∙ ap (λ y. call_at ops y) (sym now.0 ∙ e) ∙ is))
                | inr later ↦ absurd (head_once x order once (subst (λ y. has_place order y ≡ true) (sym e) (before_second order r.0 q later)))
              ]
            ]
        | inr later ↦
            let on : (has_place legal.0 v ≡ true) ⊎ ((p : ℕ) × Enqueues ops v p × PlaceStandsBefore order p q) → Goal = λ h.
            let r = emptied order legal.0 last v q legal.2 (tail_once x order once) later is h in (r.0, r.1, inr r.2) in
            elim enters_it as (λ _. Goal) [
              | inl held ↦ elim (stays (call_at ops x) queue legal.0 v legal.1 held) as (λ _. Goal) [
                | inl still ↦ on (inl still)
                | inr gone ↦ (x, gone, inl (refl, later))
              ]
              | inr r ↦ elim r.2 as (λ _. Goal) [
                | inl now ↦ on (inl (enters (call_at ops x) queue legal.0 v legal.1 (ap (λ y. call_at ops y) now.0 ∙ r.1)))
                | inr behind ↦ on (inr (r.0, r.1, behind))
              ]
            ]
      ]
