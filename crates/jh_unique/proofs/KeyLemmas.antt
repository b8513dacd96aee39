-- Clusters sorted by their sums.
use Rattle.std.proofs.Common.{◌≡◌, ℕ, ◌+◌, ◌-◌, ◌^◌, ◌<◌, ◌≤◌, ℤ, true, Option, Some, None, List, [], ◌∷◌, length, take, get_or, refl, sym, ap, subst, ◌∙◌, inl, inr, arith, min, max}
use Rattle.std.specs.Prelude.{◌⊎◌}
use Rattle.std.proofs.lemmas.Bool.{false≢true, cases_lt}
use Rattle.std.proofs.lemmas.List.{take_more}
use Rattle.jh_linear.specs.declared.register.Outcome.TheVariants.{Done}
use Rattle.jh_linear.specs.declared.register.RegOp.{RegOp}
use Rattle.jh_linear.specs.Order.{op_at, IsDone, has, EndsBefore, Precedes}
use Rattle.jh_unique.specs.Reasons.{ClusterComesBefore}
use Rattle.jh_unique.specs.Steps.{IsClusterList}
use Rattle.jh_unique.specs.LayoutInside.{AreLaidOut}
use Rattle.jh_unique.specs.Keys.{IsSoonest, IsLatest, HasKey, HasClusterKey}
use Rattle.jh_unique.specs.Sorted.{seconds_of, AreKeyedNumbers, RiseInKeys}
use Rattle.jh_unique.proofs.SortedLemmas.{entry_has, entry_before}
use Rattle.jh_unique.proofs.ListLemmas.{has_left, has_right, has_cases, has_head, one_is}

module _ (ops : List RegOp) (list : List ℕ) (i : ℕ) (low : i < length list) where
  abbrev this : ℕ
  this = get_or list i 0

  taken : (p : ℕ) → has (take (i + 1) list) p ≡ true → (has (take i list) p ≡ true) ⊎ (this ≡ p)
  taken p h = elim (has_cases (take i list) (this ∷ []) p (subst (λ xs. has xs p ≡ true) (take_more list i 0 low) h)) as (λ _. (has (take i list) p ≡ true) ⊎ (this ≡ p)) [ inl old ↦ inl old | inr new ↦ inr (one_is this p new) ]

  older : (p : ℕ) → has (take i list) p ≡ true → has (take (i + 1) list) p ≡ true
  older p h = subst (λ xs. has xs p ≡ true) (sym (take_more list i 0 low)) (has_left (take i list) (this ∷ []) p h)

  newest : has (take (i + 1) list) this ≡ true
  newest = subst (λ xs. has xs this ≡ true) (sym (take_more list i 0 low)) (has_right (take i list) (this ∷ []) this (has_head this []))

  pub soon_more : (op : RegOp) → op ≡ op_at ops this → (soon end next : ℕ) → ((e : ℕ) → op.outcome ≡ Done → op.ended ≡ Some e → end ≤ e) → ((op.outcome ≡ Done) × (op.ended ≡ Some end)) ⊎ (end ≡ 2 ^ 64 - 1)
      → next ≡ min soon end → IsSoonest ops (take i list) soon → IsSoonest ops (take (i + 1) list) next
  soon_more op is soon end next least which least_is so = record {
    least = λ p e h done ended. elim (taken p h) as (λ _. next ≤ e) [
      | inl old ↦ (let le = so.least p e old done ended in omega (arith, least_is, le))
      | inr here ↦
          let at : op ≡ op_at ops p = is ∙ ap (op_at ops) here in
          let le = least e (ap (λ o. o.outcome) at ∙ done) (ap (λ o. o.ended) at ∙ ended) in omega (arith, least_is, le)
    ];
    which = elim (cases_lt end soon) as (λ _. ((p : ℕ) × (has (take (i + 1) list) p ≡ true) × IsDone ops p × ((op_at ops p).ended ≡ Some next)) ⊎ (next ≡ 2 ^ 64 - 1)) [
      | inl lt ↦
          let same : end ≡ next = omega (arith, least_is, lt) in
          elim which as (λ _. ((p : ℕ) × (has (take (i + 1) list) p ≡ true) × IsDone ops p × ((op_at ops p).ended ≡ Some next)) ⊎ (next ≡ 2 ^ 64 - 1)) [
            | inl w ↦ inl (this, newest, sym (ap (λ o. o.outcome) is) ∙ w.0, sym (ap (λ o. o.ended) is) ∙ w.1 ∙ ap (λ n. Some n) same)
            | inr past ↦ inr (sym same ∙ past)
          ]
      | inr ge ↦
          let same : soon ≡ next = omega (arith, least_is, ge) in
          elim so.which as (λ _. ((p : ℕ) × (has (take (i + 1) list) p ≡ true) × IsDone ops p × ((op_at ops p).ended ≡ Some next)) ⊎ (next ≡ 2 ^ 64 - 1)) [
            | inl w ↦ inl (w.0, older w.0 w.1, w.2, w.3 ∙ ap (λ n. Some n) same)
            | inr past ↦ inr (sym same ∙ past)
          ]
    ];
  }

  pub latest_more : (op : RegOp) → op ≡ op_at ops this → (late next : ℕ) → next ≡ max late op.invoked → IsLatest ops (take i list) late → IsLatest ops (take (i + 1) list) next
  latest_more op is late next most_is so = record {
    most = λ p h. elim (taken p h) as (λ _. (op_at ops p).invoked ≤ next) [
      | inl old ↦ (let le = so.most p old in omega (arith, most_is, le))
      | inr here ↦ (let at : op.invoked ≡ (op_at ops p).invoked = ap (λ o. o.invoked) (is ∙ ap (op_at ops) here) in omega (arith, most_is, at))
    ];
    which = elim (cases_lt late op.invoked) as (λ _. ((p : ℕ) × (has (take (i + 1) list) p ≡ true) × ((op_at ops p).invoked ≡ next)) ⊎ (next ≡ 0)) [
      | inl lt ↦ (let same : op.invoked ≡ next = omega (arith, most_is, lt) in inl (this, newest, sym (ap (λ o. o.invoked) is) ∙ same))
      | inr ge ↦
          let same : late ≡ next = omega (arith, most_is, ge) in
          elim so.which as (λ _. ((p : ℕ) × (has (take (i + 1) list) p ≡ true) × ((op_at ops p).invoked ≡ next)) ⊎ (next ≡ 0)) [
            | inl w ↦ inl (w.0, older w.0 w.1, w.2 ∙ same)
            | inr none ↦ inr (sym same ∙ none)
          ]
    ];
  }

module _ (ops : List RegOp) (members : ℕ → List ℕ) where
  not_past : (s t m : ℕ) → s < t → t ≤ m → s ≡ m → ⊥
  not_past s t m lt high is = omega (arith, lt, high, is)

  over_end : (end : Option ℕ) (at : ℕ) → EndsBefore end at → (e : ℕ) × (end ≡ Some e) × (e < at)
  over_end None at h = absurd h
  over_end (Some e) at h = (e, refl, h)

  -- of two clusters that are sorted the first one comes before the second one, where they cross
  pub crossing : (initial : Option ℤ) → ((c : ℕ) → IsClusterList ops initial c (members c)) → (c d k l : ℕ) → HasKey ops (members c) k → HasKey ops (members d) l → k ≤ l
      → (a b : ℕ) → has (members c) a ≡ true → has (members d) b ≡ true → Precedes ops b a → ClusterComesBefore ops initial c d
  crossing initial lists c d k l one other le a b in_c in_d over =
      let e = over_end (op_at ops b).ended (op_at ops a).invoked over.1 in
      let soon = other.4.least b e.0 in_d over.0 e.1 in
      let late = one.5.most a in_c in
      let lt : one.0 < other.1 = omega (arith, soon, late, e.2, le, one.2, other.2) in
      elim one.4.which as (λ _. ClusterComesBefore ops initial c d) [
        | inl p ↦ elim other.5.which as (λ _. ClusterComesBefore ops initial c d) [
          | inl q ↦
              let last : one.0 < (op_at ops q.0).invoked = subst (λ n. one.0 < n) (sym q.2) lt in
              inr (p.0, q.0, (lists c).each_of p.0 p.1, (lists d).each_of q.0 q.1, (p.2, subst (λ n. EndsBefore n (op_at ops q.0).invoked) (sym p.3) last), (lists d).each_there q.0 q.1)
          | inr none ↦ absurd (omega (arith, lt, none))
        ]
        | inr past ↦ let high = other.3 in absurd (not_past one.0 other.1 (2 ^ 64 - 1) lt high past)
      ]

  pub in_order : (initial : Option ℤ) → ((c : ℕ) → IsClusterList ops initial c (members c)) → (bound : ℕ) → ((c : ℕ) → bound ≤ c → members c ≡ []) → (xs : List (ℕ × ℕ)) → AreKeyedNumbers (HasClusterKey ops members) 1 bound xs → RiseInKeys xs
      → AreLaidOut ops initial members (seconds_of xs)
  in_order initial lists bound past xs are rise = record {
    distinct = are.distinct;
    later = λ c h. (let low = (entry_has (λ e. (1 ≤ e.1) × (e.1 < bound) × HasClusterKey ops members e.1 e.0) xs are.each c h).1.0 in omega (arith, low));
    whole = λ c p pos h. elim (cases_lt c bound) as (λ _. has (seconds_of xs) c ≡ true) [
      | inl lt ↦ are.whole c (omega (arith, pos)) lt
      | inr ge ↦ absurd (false≢true (subst (λ zs. has zs p ≡ true) (past c ge) h))
    ];
    crossing = λ c d a b h in_c in_d over.
        let r = entry_before (λ e. (1 ≤ e.1) × (e.1 < bound) × HasClusterKey ops members e.1 e.0) xs are.each rise c d h in
        crossing initial lists c d r.0 r.1 r.2.2 r.3.2 r.4 a b in_c in_d over;
  }
