-- Histories that are cut.
use Rattle.std.proofs.Common.{◌≡◌, ◌≢◌, ℕ, ◌-◌, ◌^◌, ◌<◌, ◌≤◌, ℤ, Bool, true, false, cond, ltb, eqb, Option, Some, None, List, [], ◌∷◌, ◌++◌, length, get_or, unwrap_or, refl, sym, ap, subst, ◌∙◌, inl, inr, arith}
use Rattle.std.specs.Prelude.{◌⊎◌}
use Rattle.std.proofs.lemmas.Bool.{cases_lt, false≢true, lt-ltb, ltb-true, or_right}
use Rattle.std.proofs.lemmas.List.{get_or-map, get_or_past, length-map}
use Rattle.std.proofs.lemmas.List.Elements.{All-nil, All-from_get_or}
use Rattle.jh_linear.specs.declared.register.Outcome.{Outcome}
use Rattle.jh_linear.specs.declared.register.Outcome.TheVariants.{Done, Failed, Unsure}
use Rattle.jh_linear.specs.declared.register.RegOp.{RegOp}
use Rattle.jh_linear.specs.Order.{Allows, HasNoneTwice, EndAfterInvoked, EndsBefore, Precedes, IsDone, IsOrder, IsPossible, IsLegalFrom, StandBefore, has, no_op, op_at}
use Rattle.jh_linear.specs.Stuck.{ops_before, op_end, op_in, outcome_before_end, outcome_in}
use Rattle.jh_unique.specs.Unique.{WritesValue, WritesAt, WriteOnce, reg_call_at}
use Rattle.jh_unique.proofs.ListLemmas.{none_twice, has_left, has_cases, has_head, has_cons, one_is, before_itself, before_trans, once_left, front_before, place_has}
use Rattle.jh_unique.proofs.RunLemmas.{all_has}
use Rattle.jh_unique.proofs.PartLemmas.{possible_there, legal_split}

-- ---- what a cut history shows of an operation

not_done_before : (outcome : Outcome) → outcome_before_end outcome ≡ Done → ⊥
not_done_before Done h = let bad = h in cc
not_done_before Failed h = let bad = h in cc
not_done_before Unsure h = let bad = h in cc

failed_before : (outcome : Outcome) → outcome ≢ Failed → outcome_before_end outcome ≢ Failed
failed_before Done h k = let bad = k in cc
failed_before Failed h k = h refl
failed_before Unsure h k = let bad = k in cc

still : (op : RegOp) → op.outcome ≡ Failed → (b : Bool) → cond b op.outcome (outcome_before_end op.outcome) ≡ Failed
still op failed true = failed
still op failed false = ap outcome_before_end failed

module _ (n : ℕ) (op : RegOp) where
  done_in : outcome_in n op ≡ Done → (op.outcome ≡ Done) × (op.invoked < n) × (op_end op < n)
  done_in h = elim (ltb op.invoked n) as (λ b. ltb op.invoked n ≡ b → cond b (cond (ltb (op_end op) n) op.outcome (outcome_before_end op.outcome)) Failed ≡ Done → (op.outcome ≡ Done) × (op.invoked < n) × (op_end op < n)) [
    | true ↦ λ e k. elim (ltb (op_end op) n) as (λ b. ltb (op_end op) n ≡ b → cond b op.outcome (outcome_before_end op.outcome) ≡ Done → (op.outcome ≡ Done) × (op.invoked < n) × (op_end op < n)) [
      | true ↦ λ f l. (l, ltb-true _ _ e, ltb-true _ _ f)
      | false ↦ λ f l. absurd (not_done_before op.outcome l)
    ] refl k
    | false ↦ λ e k. absurd (let bad = k in cc)
  ] refl h

  to_done : op.outcome ≡ Done → op.invoked < n → op_end op < n → outcome_in n op ≡ Done
  to_done done low end = rw (lt-ltb op.invoked n low) (rw (lt-ltb (op_end op) n end) done)

  possible_in : outcome_in n op ≢ Failed → (op.outcome ≢ Failed) × (op.invoked < n)
  possible_in h = elim (ltb op.invoked n) as (λ b. ltb op.invoked n ≡ b → cond b (cond (ltb (op_end op) n) op.outcome (outcome_before_end op.outcome)) Failed ≢ Failed → (op.outcome ≢ Failed) × (op.invoked < n)) [
    | true ↦ λ e k. (λ failed. k (still op failed (ltb (op_end op) n)), ltb-true _ _ e)
    | false ↦ λ e k. absurd (k refl)
  ] refl h

  to_possible : op.outcome ≢ Failed → op.invoked < n → outcome_in n op ≢ Failed
  to_possible possible low = rw (lt-ltb op.invoked n low) (elim (ltb (op_end op) n) as (λ b. cond b op.outcome (outcome_before_end op.outcome) ≢ Failed) [
    | true ↦ possible
    | false ↦ failed_before op.outcome possible
  ])

outcome_none : (n : ℕ) → outcome_in n no_op ≡ Failed
outcome_none n = elim (ltb 0 n) as (λ b. cond b (cond (ltb (op_end no_op) n) Failed Failed) Failed ≡ Failed) [
  | true ↦ elim (ltb (op_end no_op) n) as (λ b. cond b Failed Failed ≡ Failed) [ true ↦ refl | false ↦ refl ]
  | false ↦ refl
]

module _ (ops : List RegOp) (n : ℕ) where
  cut_at : (p : ℕ) → op_at (ops_before ops n) p ≡ op_in n (op_at ops p)
  cut_at p = elim (cases_lt p (length ops)) as (λ _. op_at (ops_before ops n) p ≡ op_in n (op_at ops p)) [
    | inl lt ↦ get_or-map (op_in n) ops p no_op no_op lt
    | inr le ↦
        get_or_past (ops_before ops n) p no_op (omega (arith, le, length-map ops (op_in n)))
        ∙ sym (ap (op_in n) (get_or_past ops p no_op le) ∙ ap (λ o. record no_op { outcome = o }) (outcome_none n))
  ]

  call_cut : (p : ℕ) → reg_call_at (ops_before ops n) p ≡ reg_call_at ops p
  call_cut p = ap (λ o. o.call) (cut_at p)

  ended_cut : (p : ℕ) → (op_at (ops_before ops n) p).ended ≡ (op_at ops p).ended
  ended_cut p = ap (λ o. o.ended) (cut_at p)

  invoked_cut : (p : ℕ) → (op_at (ops_before ops n) p).invoked ≡ (op_at ops p).invoked
  invoked_cut p = ap (λ o. o.invoked) (cut_at p)

  done_cut : (p : ℕ) → IsDone (ops_before ops n) p → IsDone ops p × ((op_at ops p).invoked < n) × (op_end (op_at ops p) < n)
  done_cut p done = done_in n (op_at ops p) (sym (ap (λ o. o.outcome) (cut_at p)) ∙ done)

  cut_done : (p : ℕ) → IsDone ops p → (op_at ops p).invoked < n → op_end (op_at ops p) < n → IsDone (ops_before ops n) p
  cut_done p done low end = ap (λ o. o.outcome) (cut_at p) ∙ to_done n (op_at ops p) done low end

  possible_cut : (p : ℕ) → IsPossible (ops_before ops n) p → IsPossible ops p × ((op_at ops p).invoked < n)
  possible_cut p possible = possible_in n (op_at ops p) (λ failed. possible (ap (λ o. o.outcome) (cut_at p) ∙ failed))

  cut_possible : (p : ℕ) → IsPossible ops p → (op_at ops p).invoked < n → IsPossible (ops_before ops n) p
  cut_possible p possible low failed = to_possible n (op_at ops p) possible low (sym (ap (λ o. o.outcome) (cut_at p)) ∙ failed)

  before_cut : (a b : ℕ) → Precedes (ops_before ops n) a b → Precedes ops a b
  before_cut a b h = ((done_cut a h.0).0, subst (λ i. EndsBefore (op_at ops a).ended i) (invoked_cut b) (subst (λ e. EndsBefore e (op_at (ops_before ops n) b).invoked) (ended_cut a) h.1))

  cut_before : (a b : ℕ) → Precedes ops a b → (op_at ops a).invoked < n → op_end (op_at ops a) < n → Precedes (ops_before ops n) a b
  cut_before a b h low end = (
    cut_done a h.0 low end,
    subst (λ i. EndsBefore (op_at (ops_before ops n) a).ended i) (sym (invoked_cut b)) (subst (λ e. EndsBefore e (op_at ops b).invoked) (sym (ended_cut a)) h.1),
  )

  runs_cut : (order : List ℕ) (v last : Option ℤ) → IsLegalFrom ops v order last → IsLegalFrom (ops_before ops n) v order last
  runs_cut [] v last r = r
  runs_cut (p ∷ order) v last r = (r.0, subst (λ c. Allows c v r.0) (sym (call_cut p)) r.1, runs_cut order r.0 last r.2)

  pub cut_runs : (order : List ℕ) (v last : Option ℤ) → IsLegalFrom (ops_before ops n) v order last → IsLegalFrom ops v order last
  cut_runs [] v last r = r
  cut_runs (p ∷ order) v last r = (r.0, subst (λ c. Allows c v r.0) (call_cut p) r.1, cut_runs order r.0 last r.2)

  -- a cut history is of the same kind
  pub once_cut : (initial : Option ℤ) → WriteOnce ops initial → WriteOnce (ops_before ops n) initial
  once_cut initial once = record { apart = λ v p q h k. once.apart v p q (wrote p v h) (wrote q v k); fresh = λ v p h. once.fresh v p (wrote p v h) } where
    wrote : (p : ℕ) (v : ℤ) → WritesAt (ops_before ops n) p v → WritesAt ops p v
    wrote p v h = ((possible_cut p h.0).0, subst (λ c. WritesValue c v) (call_cut p) h.1)

  pub ends_cut : EndAfterInvoked ops → EndAfterInvoked (ops_before ops n)
  ends_cut ends p end is = subst (λ i. i < end) (sym (invoked_cut p)) (ends p end (sym (ended_cut p) ∙ is))

end_is : (ended : Option ℕ) (at : ℕ) → EndsBefore ended at → (e : ℕ) × (ended ≡ Some e) × (e < at)
end_is None at h = absurd h
end_is (Some e) at h = (e, refl, h)

to_end : (ended : Option ℕ) (e at : ℕ) → ended ≡ Some e → e < at → EndsBefore ended at
to_end ended e at is lt = subst (λ o. EndsBefore o at) (sym is) lt

op_end_is : (op : RegOp) (e : ℕ) → op.ended ≡ Some e → op_end op ≡ e
op_end_is op e is = ap (λ o. unwrap_or o (2 ^ 64 - 1)) is

-- an end in time is one
timely : (ended : Option ℕ) (n : ℕ) → n ≤ 2 ^ 64 - 1 → unwrap_or ended (2 ^ 64 - 1) < n → (e : ℕ) × (ended ≡ Some e) × (e < n)
timely None n small lt = absurd (omega (arith, small, lt))
timely (Some e) n small lt = (e, refl, lt)

-- ---- the first part of an order, up to the last that is known

module _ (Known : ℕ → Type 0) (known_or_not : (p : ℕ) → Known p ⊎ (Known p → ⊥)) where
  pub record KnownFront (xs : List ℕ) : Type 0 where
    pub front : List ℕ
    pub back : List ℕ
    pub is : xs ≡ front ++ back
    pub none : (p : ℕ) → has back p ≡ true → Known p → ⊥
    pub some : (p : ℕ) → has front p ≡ true → (q : ℕ) × Known q × (has front q ≡ true) × ((p ≡ q) ⊎ StandBefore front p q)

  known_none : KnownFront []
  known_none = record { front = []; back = []; is = refl; none = λ p h. absurd (false≢true h); some = λ p h. absurd (false≢true h) }

  -- the front has what is known already
  known_more : (x : ℕ) (xs : List ℕ) (so : KnownFront xs) → (q : ℕ) → has so.front q ≡ true → KnownFront (x ∷ xs)
  known_more x xs so q there =
      let late = so.some q there in
      record {
        front = x ∷ so.front;
        back = so.back;
        is = ap (λ ys. x ∷ ys) so.is;
        none = so.none;
        some = λ p h. elim (has_cons x so.front p h) as (λ _. (z : ℕ) × Known z × (has (x ∷ so.front) z ≡ true) × ((p ≡ z) ⊎ StandBefore (x ∷ so.front) p z)) [
          | inl here ↦ (late.0, late.1, or_right (eqb x late.0) _ late.2, inr (inl (here, late.2)))
          | inr inside ↦ (let r = so.some p inside in (r.0, r.1, or_right (eqb x r.0) _ r.2, elim r.3 as (λ _. (p ≡ r.0) ⊎ StandBefore (x ∷ so.front) p r.0) [ inl same ↦ inl same | inr stands ↦ inr (inr stands) ]))
        ];
      }

  any : (xs : List ℕ) → ((q : ℕ) × (has xs q ≡ true) × Known q) ⊎ ((p : ℕ) → has xs p ≡ true → Known p → ⊥)
  any [] = inr (λ p h is. false≢true h)
  any (x ∷ xs) =
      let Goal : Type 0 = ((q : ℕ) × (has (x ∷ xs) q ≡ true) × Known q) ⊎ ((p : ℕ) → has (x ∷ xs) p ≡ true → Known p → ⊥) in
      elim (known_or_not x) as (λ _. Goal) [
        | inl here ↦ inl (x, has_head x xs, here)
        | inr not_here ↦ elim (any xs) as (λ _. Goal) [
          | inl later ↦ inl (later.0, or_right (eqb x later.0) _ later.1, later.2)
          | inr none ↦ inr (λ p h is. elim (has_cons x xs p h) as (λ _. ⊥) [ inl same ↦ not_here (subst Known (sym same) is) | inr there ↦ none p there is ])
        ]
      ]

  pub known_front : (xs : List ℕ) → KnownFront xs
  known_front [] = known_none
  known_front (x ∷ xs) = elim (any xs) as (λ _. KnownFront (x ∷ xs)) [
    | inl later ↦
        let so = known_front xs in
        known_more x xs so later.0 (elim (has_cases so.front so.back later.0 (subst (λ ys. has ys later.0 ≡ true) so.is later.1)) as (λ _. has so.front later.0 ≡ true) [ inl there ↦ there | inr behind ↦ absurd (so.none later.0 behind later.2) ])
    | inr none ↦ elim (known_or_not x) as (λ _. KnownFront (x ∷ xs)) [
      | inl here ↦ record {
        front = x ∷ [];
        back = xs;
        is = refl;
        none = none;
        some = λ p h. (x, here, has_head x [], inl (sym (one_is x p h)));
      }
      | inr not_here ↦ record {
        front = [];
        back = x ∷ xs;
        is = refl;
        none = λ p h is. elim (has_cons x xs p h) as (λ _. ⊥) [ inl same ↦ not_here (subst Known (sym same) is) | inr there ↦ none p there is ];
        some = λ p h. absurd (false≢true h);
      }
    ]
  ]

done_or_not : (outcome : Outcome) → (outcome ≡ Done) ⊎ (outcome ≡ Done → ⊥)
done_or_not Done = inl refl
done_or_not Failed = inr (λ h. let bad : ◌≡◌ {A = Outcome} Failed Done = h in cc)
done_or_not Unsure = inr (λ h. let bad : ◌≡◌ {A = Outcome} Unsure Done = h in cc)

module _ (ops : List RegOp) (ends : EndAfterInvoked ops) (initial : Option ℤ) where
  abbrev EndsIn : ℕ → ℕ → Type 0
  EndsIn n p = IsDone ops p × (op_end (op_at ops p) < n)

  ends_or_not : (n p : ℕ) → EndsIn n p ⊎ (EndsIn n p → ⊥)
  ends_or_not n p = elim (done_or_not (op_at ops p).outcome) as (λ _. EndsIn n p ⊎ (EndsIn n p → ⊥)) [
    | inl done ↦ elim (cases_lt (op_end (op_at ops p)) n) as (λ _. EndsIn n p ⊎ (EndsIn n p → ⊥)) [
      | inl lt ↦ inl (done, lt)
      | inr ge ↦ inr (λ h. let lt = h.1 in omega (arith, ge, lt))
    ]
    | inr other ↦ inr (λ h. other h.0)
  ]

  -- what precedes something that was invoked before a place ended before it
  over_early : (a b m : ℕ) → Precedes ops a b → (op_at ops b).invoked < m → ((op_at ops a).invoked < m) × (op_end (op_at ops a) < m)
  over_early a b m before low =
      let e = end_is (op_at ops a).ended (op_at ops b).invoked before.1 in
      let first = ends a e.0 e.1 in
      let is = op_end_is (op_at ops a) e.0 e.1 in
      (omega (arith, first, e.2, low), omega (arith, is, e.2, low))

  module _ (m n : ℕ) (order : List ℕ) (is : IsOrder (ops_before ops m) initial order) where
    possible_m : (p : ℕ) → has order p ≡ true → IsPossible ops p × ((op_at ops p).invoked < m)
    possible_m p h = possible_cut ops m p (all_has (IsPossible (ops_before ops m)) order is.partial.possible p h)

    stands_m : (a b : ℕ) → Precedes ops a b → has order b ≡ true → StandBefore order a b
    stands_m a b before h =
        let low = over_early a b m before (possible_m b h).1 in
        is.partial.precedence a b (cut_before ops m a b before low.0 low.1) h

    -- an order of a history gives one of the history that is cut earlier,
    module _ (low : n ≤ m) (small : n ≤ 2 ^ 64 - 1) where
      k : KnownFront (EndsIn n) (ends_or_not n) order
      k = known_front (EndsIn n) (ends_or_not n) order

      to_order : (p : ℕ) → has k.front p ≡ true → has order p ≡ true
      to_order p h = subst (λ xs. has xs p ≡ true) (sym k.is) (has_left k.front k.back p h)

      distinct_cut : HasNoneTwice (k.front ++ k.back)
      distinct_cut = subst HasNoneTwice k.is is.partial.distinct

      to_front : (p : ℕ) → IsDone ops p → (op_at ops p).invoked < n → op_end (op_at ops p) < n → has k.front p ≡ true
      to_front p done early end =
          let there = is.whole p (cut_done ops m p done (omega (arith, early, low)) (omega (arith, end, low))) in
          elim (has_cases k.front k.back p (subst (λ xs. has xs p ≡ true) k.is there)) as (λ _. has k.front p ≡ true) [
            | inl in_front ↦ in_front
            | inr behind ↦ absurd (k.none p behind (done, end))
          ]

      stands_front : (a b : ℕ) → Precedes ops a b → has k.front b ≡ true → StandBefore k.front a b
      stands_front a b before h = front_before k.front k.back a b distinct_cut (subst (λ xs. StandBefore xs a b) k.is (stands_m a b before (to_order b h))) h

      invoked_front : (p : ℕ) → has k.front p ≡ true → (op_at ops p).invoked < n
      invoked_front p h =
          let z = k.some p h in
          let t = timely (op_at ops z.0).ended n small z.1.1 in
          let first = ends z.0 t.0 t.1 in
          elim z.3 as (λ _. (op_at ops p).invoked < n) [
            | inl same ↦ subst (λ q. (op_at ops q).invoked < n) (sym same) (omega (arith, first, t.2))
            | inr stands ↦ elim (cases_lt (op_at ops p).invoked n) as (λ _. (op_at ops p).invoked < n) [
              | inl lt ↦ lt
              | inr ge ↦
                  let before : Precedes ops z.0 p = (z.1.0, to_end (op_at ops z.0).ended t.0 (op_at ops p).invoked t.1 (omega (arith, t.2, ge))) in
                  let once = once_left k.front k.back distinct_cut in
                  absurd (before_itself k.front p once (before_trans k.front p z.0 p once stands (stands_front z.0 p before h)))
            ]
          ]

      possible_n : (p : ℕ) → has k.front p ≡ true → IsPossible (ops_before ops n) p
      possible_n p h = cut_possible ops n p (possible_m p (to_order p h)).0 (invoked_front p h)

      pub cut_earlier : (o : List ℕ) × IsOrder (ops_before ops n) initial o
      cut_earlier =
          let runs = legal_split ops k.front k.back initial is.last (cut_runs ops m (k.front ++ k.back) initial is.last (subst (λ xs. IsLegalFrom (ops_before ops m) initial xs is.last) k.is is.partial.runs)) in (
            k.front,
            record {
              last = runs.0;
              partial = record {
                there = All-from_get_or (λ p. p < length (ops_before ops n)) k.front 0 (λ i lt. possible_there (ops_before ops n) (get_or k.front i 0) (possible_n (get_or k.front i 0) (place_has k.front i lt)));
                distinct = once_left k.front k.back distinct_cut;
                possible = All-from_get_or (IsPossible (ops_before ops n)) k.front 0 (λ i lt. possible_n (get_or k.front i 0) (place_has k.front i lt));
                precedence = λ a b before h. stands_front a b (before_cut ops n a b before) h;
                runs = runs_cut ops n k.front initial runs.0 runs.1;
              };
              whole = λ p done. let d = done_cut ops n p done in to_front p d.0 d.1 d.2;
            },
          )

    -- and is one of the history that is cut later, where nothing ends between
    pub cut_later : m ≤ n → n ≤ 2 ^ 64 - 1 → ((p : ℕ) → IsDone ops p → m ≤ op_end (op_at ops p) → op_end (op_at ops p) < n → ⊥) → IsOrder (ops_before ops n) initial order
    cut_later high small none =
        let possible : (p : ℕ) → has order p ≡ true → IsPossible (ops_before ops n) p = λ p h. let r = possible_m p h in cut_possible ops n p r.0 (omega (arith, r.1, high)) in
        record {
          last = is.last;
          partial = record {
            there = All-from_get_or (λ p. p < length (ops_before ops n)) order 0 (λ i lt. possible_there (ops_before ops n) (get_or order i 0) (possible (get_or order i 0) (place_has order i lt)));
            distinct = is.partial.distinct;
            possible = All-from_get_or (IsPossible (ops_before ops n)) order 0 (λ i lt. possible (get_or order i 0) (place_has order i lt));
            precedence = λ a b before h. stands_m a b (before_cut ops n a b before) h;
            runs = runs_cut ops n order initial is.last (cut_runs ops m order initial is.last is.partial.runs);
          };
          whole = λ p done.
              let d = done_cut ops n p done in
              let t = timely (op_at ops p).ended n small d.2 in
              let first = ends p t.0 t.1 in
              let end = op_end_is (op_at ops p) t.0 t.1 in
              elim (cases_lt (op_end (op_at ops p)) m) as (λ _. has order p ≡ true) [
                | inl lt ↦ is.whole p (cut_done ops m p d.0 (omega (arith, first, end, lt)) lt)
                | inr ge ↦ absurd (none p d.0 ge d.2)
              ];
        }

    -- it is one of the whole history where all has ended
    pub cut_behind : ((p : ℕ) → IsDone ops p → ((op_at ops p).invoked < m) × (op_end (op_at ops p) < m)) → IsOrder ops initial order
    cut_behind all = record {
      last = is.last;
      partial = record {
        there = All-from_get_or (λ p. p < length ops) order 0 (λ i lt. possible_there ops (get_or order i 0) (possible_m (get_or order i 0) (place_has order i lt)).0);
        distinct = is.partial.distinct;
        possible = All-from_get_or (IsPossible ops) order 0 (λ i lt. (possible_m (get_or order i 0) (place_has order i lt)).0);
        precedence = stands_m;
        runs = cut_runs ops m order initial is.last is.partial.runs;
      };
      whole = λ p done. let r = all p done in is.whole p (cut_done ops m p done r.0 r.1);
    }

-- where nothing is known to have happened, nothing is an order
pub empty_order : (ops : List RegOp) (initial : Option ℤ) → ((p : ℕ) → IsDone ops p → ⊥) → IsOrder ops initial []
empty_order ops initial none = record {
  last = initial;
  partial = record {
    there = All-nil (λ p. p < length ops);
    distinct = none_twice;
    possible = All-nil (IsPossible ops);
    precedence = λ a b before h. absurd (false≢true h);
    runs = refl;
  };
  whole = λ p done. absurd (none p done);
}

pub empty_cut : (ops : List RegOp) (initial : Option ℤ) (n : ℕ) → ((p : ℕ) → IsDone ops p → n ≤ op_end (op_at ops p)) → IsOrder (ops_before ops n) initial []
empty_cut ops initial n later = empty_order (ops_before ops n) initial (λ p done. let d = done_cut ops n p done in let le = later p d.0 in omega (arith, le, d.2))
