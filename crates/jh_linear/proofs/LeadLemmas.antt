-- Which operation may come next, where an order can be gone on to one that passes more stages: one of the moves.
use Rattle.std.proofs.Common.{◌≡◌, ℕ, zero, suc, ◌<◌, ◌≤◌, ℤ, true, false, eqb, Option, Some, None, List, [], ◌∷◌, ◌++◌, length, slice_get, refl, sym, ap, subst, ◌∙◌, inl, inr, arith}
use Rattle.std.specs.Prelude.{◌⊎◌, ◌||◌}
use Rattle.std.proofs.lemmas.Bool.{false≢true, cases_lt, eqb-true, lt-ltb, le-ltb}
use Rattle.jh_linear.specs.declared.register.RegOp.{RegOp}
use Rattle.jh_linear.specs.declared.register.Outcome.{Outcome}
use Rattle.jh_linear.specs.declared.register.Outcome.TheVariants.{Done, Failed, Unsure}
use Rattle.jh_linear.specs.declared.register.RegCall.{RegCall}
use Rattle.jh_linear.specs.declared.register.RegCall.TheVariants.{Read, Write, Cas}
use Rattle.jh_linear.specs.declared.sorted_ops.Problem.{Problem}
use Rattle.jh_linear.specs.declared.config.Config.{Config}
use Rattle.jh_linear.specs.declared.moves.Move.{Move}
use Rattle.jh_linear.specs.declared.moves.Source.TheVariants.{Happened, NextOfClass}
use Rattle.jh_linear.specs.Order.{op_at, IsDone, Precedes, IsPossible, EndsBefore, has, Allows}
use Rattle.jh_linear.specs.SearchInside.{AreMoves, CanReach, GoesOnWith, HasHappened, HasUnknown, IsNoneSettled, IsProblem, IsReady, IsUnsureChange, IsWanted, LeavesValue, MayComeNext, Needs, LeadsTo, source_call, class_at, is_unsure_change, next_at, source_number, stage_number, stages_in}
use Rattle.jh_linear.proofs.NumberSetLemmas.{has_append, has_here, has_kept, has_one, has_self, not_true, or_cases, or_left, or_right, place_of as index_of, test_cases}
use Rattle.jh_linear.proofs.StageLemmas.{is_pending, of_pending, unknown_not_done}
use Rattle.jh_linear.proofs.NextLemmas.{class_of, is_unknown_at}
use Rattle.jh_linear.proofs.FollowLemmas.{after_twin, follows_less, follows_more, may_without, taken_out}

join : (front back : List ℕ) (q : ℕ) → (has front q ≡ true) ⊎ (has back q ≡ true) → has (front ++ back) q ≡ true
join front back q h = has_append front back q ∙ elim h as (λ _. (has front q || has back q) ≡ true) [ inl e ↦ or_left _ _ e | inr e ↦ or_right (has front q) _ e ]

halves : (front back : List ℕ) (q : ℕ) → has (front ++ back) q ≡ true → (has front q ≡ true) ⊎ (has back q ≡ true)
halves front back q h = or_cases (has front q) (has back q) (sym (has_append front back q) ∙ h)

leaves_read : (seen : Option ℤ) → LeavesValue (Read seen)
leaves_read None = λ value next allowed. allowed
leaves_read (Some seen) = λ value next allowed. allowed.1

-- a call that another value does not stop: a write
any_value : (call : RegCall) (new : ℤ) → call ≡ Write new → (value other next : Option ℤ) → Allows call value next → Allows call other next
any_value call new is value other next allowed = subst (λ c. Allows c other next) (sym is) (subst (λ c. Allows c value next) is allowed)

-- what a call finds: any value and it leaves it, any value and it writes, or this one alone
abbrev pub Finds : RegCall → Option ℤ → Type 0
Finds call value = (call ≡ Read None) ⊎ ((new : ℤ) × (call ≡ Write new)) ⊎ Needs call value

finds : (call : RegCall) (value next : Option ℤ) → Allows call value next → Finds call value
finds (Read None) value next allowed = inl refl
finds (Read (Some seen)) value next allowed = inr (inr allowed.0)
finds (Write new) value next allowed = inr (inl (new, refl))
finds (Cas old new) value next allowed = inr (inr allowed.0)

read_keeps : (call : RegCall) (seen : Option ℤ) → call ≡ Read seen → (value next : Option ℤ) → Allows call value next → next ≡ value
read_keeps call seen is value next allowed = leaves_read seen value next (subst (λ c. Allows c value next) is allowed)

ends_sooner : (ended : Option ℕ) (a b : ℕ) → a ≤ b → EndsBefore ended a → EndsBefore ended b
ends_sooner None a b le h = absurd h
ends_sooner (Some end) a b le h = omega (arith, le, h)

-- An operation that did not fail happened, is of unknown outcome, or is a read that is not known to have happened.
abbrev IsOther : List RegOp → ℕ → Type 0
IsOther ops p = IsUnsureChange ops p ⊎ ((IsDone ops p → ⊥) × ((seen : Option ℤ) × ((op_at ops p).call ≡ Read seen)))

unsure_kind : (call : RegCall) → (is_unsure_change Unsure call ≡ true) ⊎ ((seen : Option ℤ) × (call ≡ Read seen))
unsure_kind (Read seen) = inr (seen, refl)
unsure_kind (Write new) = inl refl
unsure_kind (Cas old new) = inl refl

kind_of : (ops : List RegOp) (p : ℕ) → IsPossible ops p → IsDone ops p ⊎ IsOther ops p
kind_of ops p possible = elim (op_at ops p).outcome as (λ o. (op_at ops p).outcome ≡ o → IsDone ops p ⊎ IsOther ops p) [
  | Done ↦ λ is. inl is
  | Failed ↦ λ is. absurd (possible is)
  | Unsure ↦ λ is. inr (elim (unsure_kind (op_at ops p).call) as (λ _. IsOther ops p) [
    | inl un ↦ inl (subst (λ o. is_unsure_change o (op_at ops p).call ≡ true) (sym is) un)
    | inr read ↦ inr (λ done. let both = sym done ∙ is in cc, read)
  ])
] refl

not_done_of : (ops : List RegOp) (p : ℕ) → IsOther ops p → IsDone ops p → ⊥
not_done_of ops p other = elim other as (λ _. IsDone ops p → ⊥) [ inl un ↦ unknown_not_done ops p un | inr read ↦ read.0 ]

no_unknown_read : (outcome : Outcome) (call : RegCall) → call ≡ Read None → is_unsure_change outcome call ≡ true → ⊥
no_unknown_read outcome call is h = elim outcome as (λ o. is_unsure_change o (Read None) ≡ true → ⊥) [
  | Done ↦ λ e. false≢true e
  | Failed ↦ λ e. false≢true e
  | Unsure ↦ λ e. false≢true e
] (subst (λ c. is_unsure_change outcome c ≡ true) is h)

module _ (problem : Problem) (stood : IsProblem problem) (n : ℕ) (few : n ≤ stages_in problem) where
  abbrev ops : List RegOp
  ops = problem.ops.now

  abbrev Covers : List ℕ → Type 0
  Covers order = (k : ℕ) → k < n → has order (stage_number problem k) ≡ true

  done : (k : ℕ) → k < n → IsDone ops (stage_number problem k)
  done k lt = stood.done.are_done k (omega (arith, lt, few))

  -- an operation that leaves the value is placed at once
  settled_leads : (order : List ℕ) (value : Option ℤ) (p : ℕ) → LeavesValue (op_at ops p).call → has order p ≡ false → CanReach problem n order value → CanReach problem n (order ++ p ∷ []) value
  settled_leads order value p leaves fresh reach =
      elim (test_cases (has reach.0 p)) as (λ _. CanReach problem n (order ++ p ∷ []) value) [
        | inl there ↦
            let t = taken_out ops p leaves order reach.0 value reach.1 fresh there reach.2 in (
              t.0,
              reach.1,
              t.2,
              λ k lt. join (order ++ p ∷ []) t.0 _ (elim (halves order reach.0 _ (reach.3 k lt)) as (λ _. (has (order ++ p ∷ []) (stage_number problem k) ≡ true) ⊎ (has t.0 (stage_number problem k) ≡ true)) [
                | inl old ↦ inl (has_kept order p _ old)
                | inr later ↦ elim (t.3 _ later) as (λ _. (has (order ++ p ∷ []) (stage_number problem k) ≡ true) ⊎ (has t.0 (stage_number problem k) ≡ true)) [
                  | inl is ↦ inl (subst (λ q. has (order ++ p ∷ []) q ≡ true) is (has_self order p))
                  | inr rest ↦ inr rest
                ]
              ]),
            )
        | inr none ↦ (
          reach.0,
          reach.1,
          follows_more ops p order reach.0 value reach.1 none reach.2,
          λ k lt. join (order ++ p ∷ []) reach.0 _ (elim (halves order reach.0 _ (reach.3 k lt)) as (λ _. (has (order ++ p ∷ []) (stage_number problem k) ≡ true) ⊎ (has reach.0 (stage_number problem k) ≡ true)) [
            | inl old ↦ inl (has_kept order p _ old)
            | inr later ↦ inr later
          ]),
        )
      ]

  -- the operation that comes first is placed
  first_leads : (order : List ℕ) (x : ℕ) (rest : List ℕ) (next last : Option ℤ) → GoesOnWith ops (order ++ x ∷ []) next rest last → Covers (order ++ x ∷ rest) → CanReach problem n (order ++ x ∷ []) next
  first_leads order x rest next last follows covers = (
    rest,
    last,
    follows,
    λ k lt. join (order ++ x ∷ []) rest _ (elim (halves order (x ∷ rest) _ (covers k lt)) as (λ _. (has (order ++ x ∷ []) (stage_number problem k) ≡ true) ⊎ (has rest (stage_number problem k) ≡ true)) [
      | inl old ↦ inl (has_kept order x _ old)
      | inr later ↦ elim (or_cases (eqb x (stage_number problem k)) (has rest (stage_number problem k)) later) as (λ _. (has (order ++ x ∷ []) (stage_number problem k) ≡ true) ⊎ (has rest (stage_number problem k) ≡ true)) [
        | inl is ↦ inl (subst (λ q. has (order ++ x ∷ []) q ≡ true) (eqb-true x _ is) (has_self order x))
        | inr on ↦ inr on
      ]
    ]),
  )

  -- what did not surely happen is not needed for a stage
  without_first : (order : List ℕ) (x : ℕ) (rest : List ℕ) → (IsDone ops x → ⊥) → Covers (order ++ x ∷ rest) → Covers (order ++ rest)
  without_first order x rest not_done covers k lt =
      join order rest _ (elim (halves order (x ∷ rest) _ (covers k lt)) as (λ _. (has order (stage_number problem k) ≡ true) ⊎ (has rest (stage_number problem k) ≡ true)) [
        | inl old ↦ inl old
        | inr later ↦ elim (or_cases (eqb x (stage_number problem k)) (has rest (stage_number problem k)) later) as (λ _. (has order (stage_number problem k) ≡ true) ⊎ (has rest (stage_number problem k) ≡ true)) [
          | inl is ↦ absurd (not_done (subst (IsDone ops) (sym (eqb-true x _ is)) (done k lt)))
          | inr on ↦ inr on
        ]
      ])

  without_second : (order : List ℕ) (x y : ℕ) (rest : List ℕ) → (IsDone ops y → ⊥) → Covers (order ++ x ∷ y ∷ rest) → Covers (order ++ x ∷ rest)
  without_second order x y rest not_done covers k lt =
      join order (x ∷ rest) _ (elim (halves order (x ∷ y ∷ rest) _ (covers k lt)) as (λ _. (has order (stage_number problem k) ≡ true) ⊎ (has (x ∷ rest) (stage_number problem k) ≡ true)) [
        | inl old ↦ inl old
        | inr later ↦ elim (or_cases (eqb x (stage_number problem k)) (has (y ∷ rest) (stage_number problem k)) later) as (λ _. (has order (stage_number problem k) ≡ true) ⊎ (has (x ∷ rest) (stage_number problem k) ≡ true)) [
          | inl is ↦ inr (or_left (eqb x (stage_number problem k)) _ is)
          | inr on ↦ elim (or_cases (eqb y (stage_number problem k)) (has rest (stage_number problem k)) on) as (λ _. (has order (stage_number problem k) ≡ true) ⊎ (has (x ∷ rest) (stage_number problem k) ≡ true)) [
            | inl is ↦ absurd (not_done (subst (IsDone ops) (sym (eqb-true y _ is)) (done k lt)))
            | inr far ↦ inr (or_right (eqb x (stage_number problem k)) _ far)
          ]
        ]
      ])

  module _ (order : List ℕ) (config : Config) (stands : LeadsTo problem order config) (open'' : config.stage < n) where
    abbrev Last : ℕ
    Last = stage_number problem config.stage

    room : config.stage < stages_in problem
    room = omega (arith, open'', few)

    -- the class of an operation of unknown outcome that is not placed, and may come before the end of the stage
    abbrev Class : ℕ → Type 0
    Class z =
        (k : ℕ) × IsReady problem config k × (source_call problem config (NextOfClass k) ≡ (op_at ops z).call)
        × (has order (source_number problem config (NextOfClass k)) ≡ false) × IsUnsureChange ops (source_number problem config (NextOfClass k))

    ready_class : (z : ℕ) → IsUnsureChange ops z → has order z ≡ false → (Precedes ops Last z → ⊥) → Class z
    ready_class z un fresh early =
        let classes = stood.classes in
        let r = class_of ops problem.sorted.unsure_changes.items problem.sorted.classes.items classes z un in
        let k : ℕ = r.0 in
        let j : ℕ = r.1 in
        let m : ℕ = next_at config.next.items k in
        let bounds = stands.used.bounds k r.2 in
        let later : m ≤ j = elim (cases_lt j m) as (λ _. m ≤ j) [
          | inl lt ↦ absurd (not_true _ (stands.used.placed k j r.2 r.3 ∙ lt-ltb j m lt) (subst (λ q. has order q ≡ false) (sym r.4) fresh))
          | inr ge ↦ ge
        ] in
        let left : m < (class_at problem.sorted.classes.items k).upto = omega (arith, later, r.3.1) in
        let twins = classes.twins k m j r.2 (bounds.0, left) r.3 later in
        let p : ℕ = source_number problem config (NextOfClass k) in
        let call : (op_at ops p).call ≡ (op_at ops z).call = twins.0 ∙ ap (λ q. (op_at ops q).call) r.4 in
        let sooner : (op_at ops p).invoked ≤ (op_at ops z).invoked = subst (λ q. (op_at ops p).invoked ≤ (op_at ops q).invoked) r.4 twins.1 in (
          k,
          ((r.2, left), λ before. early (before.0, ends_sooner (op_at ops Last).ended (op_at ops p).invoked (op_at ops z).invoked sooner before.1)),
          call,
          stands.used.placed k m r.2 (bounds.0, left) ∙ le-ltb m m (omega arith),
          is_unknown_at ops problem.sorted.unsure_changes.items problem.sorted.classes.items classes m (omega (arith, left, (classes.bounded k r.2).1)),
        )

    -- a move that leads on
    abbrev Led : List Move → Type 0
    Led moves = (i : ℕ) × (move : Move) × (slice_get moves i ≡ Some move) × CanReach problem n (order ++ source_number problem config move.source ∷ []) move.value

    led_by : (moves : List Move) (i : ℕ) (move : Move) (p : ℕ) (next : Option ℤ) → slice_get moves i ≡ Some move → source_number problem config move.source ≡ p → move.value ≡ next → CanReach problem n (order ++ p ∷ []) next → Led moves
    led_by moves i move p next is number value reach =
        (i, move, is, subst (λ q. CanReach problem n (order ++ q ∷ []) move.value) (sym number) (subst (λ v. CanReach problem n (order ++ p ∷ []) v) (sym value) reach))

    pending_at : (x : ℕ) → IsDone ops x → MayComeNext ops order x → (i : ℕ) × (i < length config.happened.items) × (source_number problem config (Happened i) ≡ x)
    pending_at x is may =
        index_of config.happened.items x (is_pending ops problem.sorted.arrivals.items problem.sorted.stages.items stood.done order config.stage config.happened.items x stands.known room (stands.waits room) is may)

    -- what needs the value and may come behind an unknown operation is wanted
    wanted_by : (x y : ℕ) (next : Option ℤ) → (IsDone ops x → ⊥) → MayComeNext ops (order ++ x ∷ []) y → Needs (op_at ops y).call next → IsDone ops y ⊎ IsUnsureChange ops y → IsWanted problem config next
    wanted_by x y next not_done may needs how = elim how as (λ _. IsWanted problem config next) [
      | inl is ↦
          let r = pending_at y is (may_without ops x not_done order y may) in
          inl (r.0, r.1, subst (λ q. Needs (op_at ops q).call next) (sym r.2) needs)
      | inr un ↦
          let before = may_without ops x not_done order y may in
          let c = ready_class y un before.fresh (λ late. not_true _ (before.ready Last late) (stands.waits room)) in
          inr (c.0, c.1, subst (λ (call : RegCall). Needs call next) (sym c.2) needs)
    ]

    module _ (moves : List Move) (are : AreMoves problem config moves) where
      -- the first one left of the class is tried, and stands for the one that comes first
      class_leads : (x : ℕ) (rest : List ℕ) (next last : Option ℤ) → IsUnsureChange ops x → MayComeNext ops order x → Allows (op_at ops x).call config.value next → IsWanted problem config next
          → ((k : ℕ) → IsReady problem config k → Allows (source_call problem config (NextOfClass k)) config.value next → (i : ℕ) × (move : Move) × (slice_get moves i ≡ Some move) × (move.source ≡ NextOfClass k) × (move.value ≡ next))
          → GoesOnWith ops (order ++ x ∷ []) next rest last → Covers (order ++ x ∷ rest) → Led moves
      class_leads x rest next last un may allowed wanted tried follows covers =
          let c = ready_class x un may.fresh (λ late. not_true _ (may.ready Last late) (stands.waits room)) in
          let p : ℕ = source_number problem config (NextOfClass c.0) in
          let m = tried c.0 c.1 (subst (λ (call : RegCall). Allows call config.value next) (sym c.2) allowed) in
          let not_x : IsDone ops x → ⊥ = unknown_not_done ops x un in
          let not_p : IsDone ops p → ⊥ = unknown_not_done ops p c.4 in
          let t = after_twin ops x not_x p (sym c.2) not_p order rest next last may c.3 follows in
          let number : source_number problem config m.1.source ≡ p = ap (source_number problem config) m.3 in
          led_by moves m.0 m.1 p next m.2 number m.4 (
            t.0,
            last,
            t.2,
            λ k lt. join (order ++ p ∷ []) t.0 _ (elim (halves order rest _ (without_first order x rest not_x covers k lt)) as (λ _. (has (order ++ p ∷ []) (stage_number problem k) ≡ true) ⊎ (has t.0 (stage_number problem k) ≡ true)) [
              | inl old ↦ inl (has_kept order p _ old)
              | inr later ↦ inr (t.3 _ (done k lt) later)
            ]),
          )

      module _ (happened : HasHappened problem config moves (length config.happened.items)) (unknown : HasUnknown problem config moves (length problem.sorted.classes.items)) (none : IsNoneSettled problem config (length config.happened.items)) where
        done_leads : (x : ℕ) (rest : List ℕ) (next last : Option ℤ) → IsDone ops x → MayComeNext ops order x → Allows (op_at ops x).call config.value next → GoesOnWith ops (order ++ x ∷ []) next rest last → Covers (order ++ x ∷ rest) → Led moves
        done_leads x rest next last is may allowed follows covers =
            let r = pending_at x is may in
            let m = happened r.0 next r.1 (subst (λ q. Allows (op_at ops q).call config.value next) (sym r.2) allowed) in
            led_by moves m.0 m.1 x next m.2 (ap (source_number problem config) m.3 ∙ r.2) m.4 (first_leads order x rest next last follows covers)

        tried_by : (next : Option ℤ) → IsWanted problem config next → (k : ℕ) → IsReady problem config k → Allows (source_call problem config (NextOfClass k)) config.value next
            → (i : ℕ) × (move : Move) × (slice_get moves i ≡ Some move) × (move.source ≡ NextOfClass k) × (move.value ≡ next)
        tried_by next wanted k ready allowed = unknown k next ready.0.0 ready allowed wanted

        by_size : (size : ℕ) (back : List ℕ) (last : Option ℤ) → length back ≤ size → GoesOnWith ops order config.value back last → Covers (order ++ back) → Led moves
        by_size size [] last small follows covers =
            elim (halves order [] _ (covers config.stage open'')) as (λ _. Led moves) [
              | inl there ↦ absurd (not_true _ there (stands.waits room))
              | inr none' ↦ absurd (false≢true none')
            ]
        by_size zero (x ∷ rest) last small follows covers = absurd (omega (arith, small))
        by_size (suc size) (x ∷ []) last small follows covers =
            elim (kind_of ops x follows.0.possible) as (λ _. Led moves) [
              | inl is ↦ done_leads x [] follows.1.0 last is follows.0 follows.1.1 follows.1.2 covers
              | inr other ↦ elim (halves order (x ∷ []) _ (covers config.stage open'')) as (λ _. Led moves) [
                | inl there ↦ absurd (not_true _ there (stands.waits room))
                | inr here ↦ absurd (not_done_of ops x other (subst (IsDone ops) (sym (has_one x Last here)) (done config.stage open'')))
              ]
            ]
        by_size (suc size) (x ∷ y ∷ rest) last small follows covers =
            let next : Option ℤ = follows.1.0 in
            elim (kind_of ops x follows.0.possible) as (λ _. Led moves) [
              | inl is ↦ done_leads x (y ∷ rest) next last is follows.0 follows.1.1 follows.1.2 covers
              | inr other ↦
                  let not_x : IsDone ops x → ⊥ = not_done_of ops x other in
                  elim other as (λ _. Led moves) [
                    | inr read ↦
                        let kept : next ≡ config.value = read_keeps (op_at ops x).call read.1.0 read.1.1 config.value next follows.1.1 in
                        by_size size (y ∷ rest) last (omega (arith, small)) (follows_less ops x not_x order (y ∷ rest) config.value last (subst (λ v. GoesOnWith ops (order ++ x ∷ []) v (y ∷ rest) last) kept follows.1.2)) (without_first order x (y ∷ rest) not_x covers)
                    | inl un ↦
                        let f = follows.1.2 in
                        let overwritten : (new : ℤ) → (op_at ops y).call ≡ Write new → Led moves = λ new writes.
                        by_size size (y ∷ rest) last (omega (arith, small))
                        (follows_less ops x not_x order (y ∷ rest) config.value last (f.0, (f.1.0, any_value (op_at ops y).call new writes next config.value f.1.0 f.1.1, f.1.2)))
                        (without_first order x (y ∷ rest) not_x covers) in
                        let needed : Needs (op_at ops y).call next → (IsDone ops y ⊎ IsUnsureChange ops y) → Led moves = λ needs how.
                        let wanted = wanted_by x y next not_x f.0 needs how in
                        class_leads x (y ∷ rest) next last un follows.0 follows.1.1 wanted (tried_by next wanted) f covers in
                        elim (kind_of ops y f.0.possible) as (λ _. Led moves) [
                          | inl is ↦ elim (finds (op_at ops y).call next f.1.0 f.1.1) as (λ _. Led moves) [
                            | inl any ↦
                                let r = pending_at y is (may_without ops x not_x order y f.0) in
                                absurd (none r.0 r.1 (subst (IsDone ops) (sym r.2) is) (ap (λ q. (op_at ops q).call) r.2 ∙ any))
                            | inr how ↦ elim how as (λ _. Led moves) [ inl writes ↦ overwritten writes.0 writes.1 | inr needs ↦ needed needs (inl is) ]
                          ]
                          | inr other' ↦ elim other' as (λ _. Led moves) [
                            | inl un' ↦ elim (finds (op_at ops y).call next f.1.0 f.1.1) as (λ _. Led moves) [
                              | inl any ↦ absurd (no_unknown_read (op_at ops y).outcome (op_at ops y).call any un')
                              | inr how ↦ elim how as (λ _. Led moves) [ inl writes ↦ overwritten writes.0 writes.1 | inr needs ↦ needed needs (inr un') ]
                            ]
                            | inr read ↦
                                let not_y : IsDone ops y → ⊥ = read.0 in
                                let kept : f.1.0 ≡ next = read_keeps (op_at ops y).call read.1.0 read.1.1 next f.1.0 f.1.1 in
                                by_size size (x ∷ rest) last (omega (arith, small))
                                (follows.0, (next, follows.1.1, follows_less ops y not_y (order ++ x ∷ []) rest next last (subst (λ v. GoesOnWith ops ((order ++ x ∷ []) ++ y ∷ []) v rest last) kept f.1.2)))
                                (without_second order x y rest not_y covers)
                          ]
                        ]
                  ]
            ]

      -- where an order can be gone on to one that passes more stages, one of the moves leads on
      pub one_leads : CanReach problem n order config.value → Led moves
      one_leads reach = elim are.enough as (λ _. Led moves) [
        | inl s ↦
            let p : ℕ = source_number problem config (Happened s.0) in
            let fresh = (of_pending ops problem.sorted.arrivals.items problem.sorted.stages.items stood.done order config.stage config.happened.items p stands.known room (has_here config.happened.items s.0 s.1.0)).1 in
            let m = s.2 in
            led_by moves m.0 m.1 p config.value m.2 (ap (source_number problem config) m.3) m.4 (settled_leads order config.value p s.1.1.1 fresh reach)
        | inr r ↦ by_size r.0 r.1 r.2 (length reach.0) reach.0 reach.1 (omega arith) reach.2 reach.3
      ]
