-- One more number in an order, and what a configuration knows of it then.
use Rattle.std.proofs.Common.{◌≡◌, ℕ, ◌+◌, ◌<◌, ◌≤◌, ℤ, Bool, true, false, Option, List, [], ◌∷◌, ◌++◌, length, refl, sym, ap, subst, ◌∙◌, inl, inr, arith}
use Rattle.std.specs.Prelude.{◌⊎◌, set}
use Rattle.std.specs.List.{remove}
use Rattle.std.proofs.lemmas.Bool.{le-ltb}
use Rattle.std.proofs.lemmas.List.{append_assoc, append-nil, length-set}
use Rattle.jh_linear.specs.declared.register.RegOp.{RegOp}
use Rattle.jh_linear.specs.declared.sorted_ops.Problem.{Problem}
use Rattle.jh_linear.specs.declared.sorted_ops.Stage.{Stage}
use Rattle.jh_linear.specs.declared.config.Config.{Config}
use Rattle.jh_linear.specs.declared.moves.Source.TheVariants.{Happened, NextOfClass}
use Rattle.jh_linear.specs.Order.{op_at, has, Allows, IsDone}
use Rattle.jh_linear.specs.SearchInside.{AreNext, GoesOnWith, IsAfter, IsAt, IsProblem, CanBePlaced, IsUnsureChange, MayComeNext, PassesStages, source_call, arrivals_after, next_at, source_number, stage_at, stage_number, stages_in}
use Rattle.jh_linear.proofs.NumberSetLemmas.{has_here, has_push_cases, false_if, place_of as index_of}
use Rattle.jh_linear.proofs.StageLemmas.{at_next, at_other, at_placed, done_possible, is_placed, may_come, not_arrival, of_pending, unknown_not_done, unknown_possible}
use Rattle.jh_linear.proofs.NextLemmas.{is_unknown_at, next_other, next_placed}
use Rattle.jh_linear.proofs.FollowLemmas.{not_pushed}

pub follows_push : (ops : List RegOp) (front order : List ℕ) (value last next : Option ℤ) (p : ℕ) → GoesOnWith ops front value order last → MayComeNext ops (front ++ order) p → Allows (op_at ops p).call last next → GoesOnWith ops front value (order ++ p ∷ []) next
follows_push ops front [] value last next p is may allowed =
    (subst (λ o. MayComeNext ops o p) (append-nil front) may, (next, subst (λ v. Allows (op_at ops p).call v next) is allowed, refl))
follows_push ops front (q ∷ order) value last next p is may allowed =
    (is.0, (is.1.0, is.1.1, follows_push ops (front ++ q ∷ []) order is.1.0 last next p is.1.2 (subst (λ o. MayComeNext ops o p) (sym (append_assoc front (q ∷ []) order)) may) allowed))

pub seen_at : (stages stages' : List Stage) (pending pending' : List ℕ) (k : ℕ) (b : Bool) → stages' ≡ stages → pending' ≡ pending → has pending' (stage_at stages' k).number ≡ b → has pending (stage_at stages k).number ≡ b
seen_at stages stages' pending pending' k b e f h = subst (λ s. has pending (stage_at s k).number ≡ b) e (subst (λ p. has p (stage_at stages' k).number ≡ b) f h)

pub coming_same : (arrivals arrivals' : List ℕ) (stages stages' : List Stage) (k : ℕ) → arrivals' ≡ arrivals → stages' ≡ stages → arrivals_after arrivals' stages' k ≡ arrivals_after arrivals stages k
coming_same arrivals arrivals' stages stages' k e f = ap (λ a. arrivals_after a stages' k) e ∙ ap (λ s. arrivals_after arrivals s k) f

module _ (problem : Problem) (stood : IsProblem problem) where
  abbrev ops : List RegOp
  ops = problem.ops.now

  abbrev At : List ℕ → ℕ → List ℕ → Type 0
  At = IsAt problem.sorted.arrivals.items problem.sorted.stages.items

  -- what is known where nothing is passed yet
  pub passes_none : (stage : ℕ) (pending pending' : List ℕ) → pending' ≡ pending → (order : List ℕ) → At order stage pending → At order stage pending'
  passes_none stage pending pending' is order known = subst (At order stage) (sym is) known

  -- a stage whose number is not pending is passed
  pub passes_one : (stage : ℕ) (pending : List ℕ) (later : ℕ) (left next : List ℕ) → later < stages_in problem → has left (stage_number problem later) ≡ false
      → (later + 1 < stages_in problem → next ≡ left ++ arrivals_after problem.sorted.arrivals.items problem.sorted.stages.items later)
      → ((order : List ℕ) → At order stage pending → At order later left)
      → (order : List ℕ) → At order stage pending → At order (later + 1) next
  passes_one stage pending later left next lt gone more so_far order known =
      let now = so_far order known in
      let here = is_placed ops problem.sorted.arrivals.items problem.sorted.stages.items stood.done stood.ends order later left now lt gone in
      at_next ops problem.sorted.arrivals.items problem.sorted.stages.items stood.done order later left next now lt here more

  not_unknown : (p : ℕ) → IsDone ops p → has problem.sorted.unsure_changes.items p ≡ false
  not_unknown p done = false_if _ (λ h. let r = index_of problem.sorted.unsure_changes.items p h in unknown_not_done ops p (subst (IsUnsureChange ops) r.2 (stood.classes.each r.0 0 r.1)) done)

  -- what is pending is not placed
  in_order : (order : List ℕ) (stage : ℕ) (pending : List ℕ) → At order stage pending → stage < stages_in problem → has pending (stage_number problem stage) ≡ true → has order (stage_number problem stage) ≡ false
  in_order order stage pending known lt h = (of_pending ops problem.sorted.arrivals.items problem.sorted.stages.items stood.done order stage pending (stage_number problem stage) known lt h).1

  -- an operation that happened is placed
  pub stands_happened : (config config' : Config) (i : ℕ) (value : Option ℤ) (left : List ℕ) → config.stage < stages_in problem → i < length config.happened.items → Allows (source_call problem config (Happened i)) config.value value
      → left ≡ remove config.happened.items i → PassesStages problem config.stage left config'.stage config'.happened.items → config'.next.items ≡ config.next.items → config'.value ≡ value
      → IsAfter problem config (source_number problem config (Happened i)) value config'
  stands_happened config config' i value left lt inside allowed left_is passes next_is value_is =
      let arrivals : List ℕ = problem.sorted.arrivals.items in
      let stages : List Stage = problem.sorted.stages.items in
      let p : ℕ = source_number problem config (Happened i) in
      record {
        rises = passes.rises;
        value_is = value_is;
        sizes = ap length next_is;
        stands = λ order stands.
            let r = of_pending ops arrivals stages stood.done order config.stage config.happened.items p stands.known lt (has_here config.happened.items i inside) in
            let may = may_come ops arrivals stages stood.done order config.stage config.happened.items p stands.known lt (done_possible ops p r.0) r.1 r.2 in
            let placed = at_placed ops arrivals stages stood.done order config.stage config.happened.items i stands.known lt inside in
            let known = passes.at (order ++ p ∷ []) (subst (At (order ++ p ∷ []) config.stage) (sym left_is) placed) in
            record {
              follows = subst (λ v. GoesOnWith ops [] problem.initial (order ++ p ∷ []) v) (sym value_is) (follows_push ops [] order problem.initial config.value value p stands.follows may allowed);
              searched = λ q h. elim (has_push_cases order p q h) as (λ _. IsDone ops q ⊎ IsUnsureChange ops q) [ inl old ↦ stands.searched q old | inr is ↦ inl (subst (IsDone ops) is r.0) ];
              known = known;
              used = next_other ops problem.sorted.unsure_changes.items problem.sorted.classes.items stood.classes order config'.next.items p (not_unknown p r.0) (subst (λ ns. AreNext problem.sorted.unsure_changes.items problem.sorted.classes.items order ns) (sym next_is) stands.used);
              low = passes.low;
              waits = λ room. in_order (order ++ p ∷ []) config'.stage config'.happened.items known room (passes.waits room);
            };
      }

  -- an operation of unknown outcome is placed
  pub stands_unknown : (config config' : Config) (k : ℕ) (value : Option ℤ) → config.stage < stages_in problem → CanBePlaced problem config (NextOfClass k) → Allows (source_call problem config (NextOfClass k)) config.value value
      → config'.stage ≡ config.stage → config'.happened.items ≡ config.happened.items → config'.next.items ≡ set config.next.items k (next_at config.next.items k + 1) → config'.value ≡ value
      → IsAfter problem config (source_number problem config (NextOfClass k)) value config'
  stands_unknown config config' k value lt there allowed stage_is pending_is next_is value_is =
      let arrivals : List ℕ = problem.sorted.arrivals.items in
      let stages : List Stage = problem.sorted.stages.items in
      let p : ℕ = source_number problem config (NextOfClass k) in
      let bound = stood.classes.bounded k there.0.0 in
      let un = is_unknown_at ops problem.sorted.unsure_changes.items problem.sorted.classes.items stood.classes (next_at config.next.items k) (omega (arith, there.0.1, bound.1)) in
      let not_done : IsDone ops p → ⊥ = unknown_not_done ops p un in
      record {
        rises = omega (arith, stage_is);
        value_is = value_is;
        sizes = ap length next_is ∙ length-set config.next.items k (next_at config.next.items k + 1);
        stands = λ order stands.
            let fresh : has order p ≡ false = stands.used.placed k (next_at config.next.items k) there.0.0 ((stands.used.bounds k there.0.0).0, there.0.1) ∙ le-ltb (next_at config.next.items k) (next_at config.next.items k) (omega arith) in
            let may = may_come ops arrivals stages stood.done order config.stage config.happened.items p stands.known lt (unknown_possible ops p un) fresh there.1 in
            let known = at_other ops arrivals stages stood.done order config.stage config.happened.items p stands.known (not_arrival ops arrivals stages stood.done p not_done) in
            record {
              follows = subst (λ v. GoesOnWith ops [] problem.initial (order ++ p ∷ []) v) (sym value_is) (follows_push ops [] order problem.initial config.value value p stands.follows may allowed);
              searched = λ q h. elim (has_push_cases order p q h) as (λ _. IsDone ops q ⊎ IsUnsureChange ops q) [ inl old ↦ stands.searched q old | inr is ↦ inr (subst (IsUnsureChange ops) is un) ];
              known = subst (λ s. At (order ++ p ∷ []) s config'.happened.items) (sym stage_is) (subst (At (order ++ p ∷ []) config.stage) (sym pending_is) known);
              used = next_placed ops problem.sorted.unsure_changes.items problem.sorted.classes.items stood.classes order config.next.items config'.next.items k there.0.0 there.0.1 next_is stands.used;
              low = subst (λ s. s ≤ stages_in problem) (sym stage_is) stands.low;
              waits = λ room. subst (λ s. has (order ++ p ∷ []) (stage_number problem s) ≡ false) (sym stage_is)
                  (not_pushed order p (stage_number problem config.stage) (stands.waits lt) (λ is. not_done (subst (IsDone ops) (sym is) (stood.done.are_done config.stage lt))));
            };
      }
