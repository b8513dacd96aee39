-- The turns of untold writers.
use Rattle.std.proofs.Common.{◌≡◌, ℕ, ◌+◌, ◌-◌, ◌<◌, ◌≤◌, Bool, true, false, cond, eqb, Option, Some, None, List, [], ◌∷◌, ◌++◌, length, take, get_or, set, refl, sym, ap, subst, ◌∙◌, inl, inr, arith, append_assoc}
use Rattle.std.specs.Prelude.{◌⊎◌, ◌≢◌, ◌↔◌, ◌&&◌, ◌||◌, Vec, slice_get, slice_index_or}
use Rattle.std.specs.List.{Contains}
use Rattle.std.specs.declared.alloc.Global.{Global}
use Rattle.std.proofs.lemmas.Bool.{cases_Bool, cases_lt, eqb-true, false≢true, or_left, or_right}
use Rattle.std.proofs.lemmas.List.{get_or_append_left, get_or_default, get_or_push, length_push, length-set, take_more}
use Rattle.std.proofs.lemmas.List.Elements.{filter_more}
use Rattle.std.proofs.lemmas.List.Folds.{list_any-append}
use Rattle.std.proofs.lemmas.Option.{same_Some, slice_get-get_or}
use Rattle.jh_txn.specs.declared.dependency.Step.{Step}
use Rattle.jh_txn.specs.declared.dependency.Why.{Why}
use Rattle.jh_txn.specs.declared.dependency.Why.TheVariants.{RealTime}
use Rattle.jh_txn.specs.declared.txn.MicroOp.{MicroOp}
use Rattle.jh_txn.specs.declared.txn.MicroOp.TheVariants.{Append, Read}
use Rattle.jh_txn.specs.declared.txn.Txn.{Txn}
use Rattle.jh_txn.specs.Dependencies.{MustBeThere}
use Rattle.jh_txn.specs.Transactions.{ComesBefore, HasNoRepeat, appended, includes, ops_at}
use Rattle.jh_txn.proofs.ListLemmas.{append_nil_right, before_first, before_itself, before_right, before_second, eqb_self, includes_cons, includes_head}
use Rattle.jh_txn_edges.specs.Inside.{AddsSteps}
use Rattle.jh_txn_graph.specs.Graphs.{HasStep, KeepsPaths}
use Rattle.jh_txn_edges.proofs.StepLemmas.{StepsBelow, adds_if, at_last, at_neighbours, last_at, neighbours_at}
use Rattle.jh_txn_graph.proofs.FilterLemmas.{before_filter, includes_filter}
use Rattle.jh_txn_seen.specs.Marks.{IsMarked}
use Rattle.jh_txn_seen.proofs.KnownLemmas.{appends_below}
use Rattle.jh_txn_snapshot_judge.specs.Judged.{HasUntoldPair}
use Rattle.jh_txn_snapshot_judge.specs.TurnsInside.{AddsTurns, AreLastInTurn, AreUntoldMarks, HasTurn, IsAnyTurnStep, IsTurn, IsTurnAt, IsTurnBehind, IsTurnStep, KeepsTurns, TakesTurns, has_append_of, is_append_of, is_untold_writer, turn_of}
use Rattle.jh_txn_snapshot_judge.specs.declared.turns.Succession.{Succession}
use Rattle.jh_txn_snapshot_judge.proofs.StampLemmas.{stamped_as, stamped_one, stamped_then}
use Rattle.jh_txn_snapshots.specs.Untold.{IsUntold}
use Rattle.jh_txn_writers.specs.Numbers.{AreNumbersOf}
use Rattle.jh_txn_writers.specs.Writers.{AreNeighbours, EndsWith}

-- Neighbours and the end of a list that one number more stands behind.
neighbours_left : (xs ys : List ℕ) (a b : ℕ) → AreNeighbours xs a b → AreNeighbours (xs ++ ys) a b
neighbours_left xs ys a b h = (h.0, h.1 ++ ys, ap (λ zs. zs ++ ys) h.2 ∙ append_assoc h.0 (a ∷ b ∷ h.1) ys)

end_neighbours : (xs : List ℕ) (a b : ℕ) → EndsWith xs a → AreNeighbours (xs ++ b ∷ []) a b
end_neighbours xs a b h = (h.0, [], ap (λ zs. zs ++ b ∷ []) h.1 ∙ append_assoc h.0 (a ∷ []) (b ∷ []))

neighbours_push : (xs : List ℕ) (y a b : ℕ) → AreNeighbours (xs ++ y ∷ []) a b → AreNeighbours xs a b ⊎ (EndsWith xs a × (y ≡ b))
neighbours_push xs y a b h =
    let r = at_neighbours (xs ++ y ∷ []) a b h in
    let long : length (xs ++ y ∷ []) ≡ length xs + 1 = length_push xs y in
    let early : r.0 < length xs = omega (arith, long, r.1) in
    let one : get_or xs r.0 0 ≡ a = sym (get_or_append_left xs (y ∷ []) 0 r.0 early) ∙ r.2 in
    elim (cases_lt (r.0 + 1) (length xs)) as (λ _. AreNeighbours xs a b ⊎ (EndsWith xs a × (y ≡ b))) [
      | inl lt ↦
          let other : get_or xs (r.0 + 1) 0 ≡ b = sym (get_or_append_left xs (y ∷ []) 0 (r.0 + 1) lt) ∙ r.3 in
          inl (subst (λ z. AreNeighbours xs z b) one (subst (λ z. AreNeighbours xs (get_or xs r.0 0) z) other (neighbours_at xs r.0 lt)))
      | inr ge ↦
          let end : length xs ≡ r.0 + 1 = omega (arith, ge, early) in
          let before : r.0 ≡ length xs - 1 = omega (arith, end) in
          let at : slice_get xs (length xs - 1) ≡ Some a = subst (λ k. slice_get xs k ≡ Some a) before (slice_get-get_or xs r.0 0 early ∙ ap Some one) in
          inr (last_at xs a at, sym (get_or_push xs y 0 (r.0 + 1) end) ∙ r.3)
    ]

ends_push : (xs : List ℕ) (y a : ℕ) → EndsWith (xs ++ y ∷ []) a → y ≡ a
ends_push xs y a h = same_Some y a (sym (at_last (xs ++ y ∷ []) y (xs, refl)) ∙ at_last (xs ++ y ∷ []) a h)

neighbours_before : (xs : List ℕ) (a b : ℕ) → AreNeighbours xs a b → ComesBefore xs a b
neighbours_before xs a b h = subst (λ zs. ComesBefore zs a b) (sym h.2) (before_right h.0 (a ∷ b ∷ h.1) a b (inl (refl, includes_head b h.1)))

-- The micro-operations that append marked elements.
module _ (untold : List Bool) where
  pub append_in : (key : ℕ) (ops : List MicroOp) → has_append_of untold key ops ≡ true → (element : ℕ) × (includes (appended key ops) element ≡ true) × IsMarked untold element
  append_in key [] h = absurd (false≢true h)
  append_in key (Append k e ∷ ops) h =
      elim (eqb k key) as (λ b. ((b && slice_index_or untold e false) || has_append_of untold key ops) ≡ true → (element : ℕ) × (includes (cond b (e ∷ appended key ops) (appended key ops)) element ≡ true) × IsMarked untold element) [
        | true ↦ λ there. elim (cases_Bool (slice_index_or untold e false)) as (λ _. (element : ℕ) × (includes (e ∷ appended key ops) element ≡ true) × IsMarked untold element) [
          | inl is ↦ (e, includes_head e (appended key ops), is)
          | inr not ↦
              let later : has_append_of untold key ops ≡ true = subst (λ b. (b || has_append_of untold key ops) ≡ true) not there in
              let r = append_in key ops later in
              (r.0, or_right _ _ r.1, r.2)
        ]
        | false ↦ λ there. append_in key ops there
      ] h
  append_in key (Read k seen ∷ ops) h = append_in key ops h

  pub append_marked : (key element : ℕ) (ops : List MicroOp) → includes (appended key ops) element ≡ true → IsMarked untold element → has_append_of untold key ops ≡ true
  append_marked key element [] h marked = absurd (false≢true h)
  append_marked key element (Append k e ∷ ops) h marked =
      elim (eqb k key) as (λ b. includes (cond b (e ∷ appended key ops) (appended key ops)) element ≡ true → ((b && slice_index_or untold e false) || has_append_of untold key ops) ≡ true) [
        | true ↦ λ there. elim (includes_cons e (appended key ops) element there) as (λ _. (slice_index_or untold e false || has_append_of untold key ops) ≡ true) [
          | inl same ↦ or_left _ _ (ap (λ x. slice_index_or untold x false) same ∙ marked)
          | inr later ↦ or_right _ _ (append_marked key element ops later marked)
        ]
        | false ↦ λ there. append_marked key element ops there marked
      ] h
  append_marked key element (Read k seen ∷ ops) h marked = append_marked key element ops h marked

  and_true : (b : Bool) → ((b && true) || false) ≡ b
  and_true true = refl
  and_true false = refl

  pub one_marked : (k e : ℕ) → IsMarked untold e → (key : ℕ) → has_append_of untold key (Append k e ∷ []) ≡ eqb k key
  one_marked k e marked key = ap (λ m. (eqb k key && m) || false) marked ∙ and_true (eqb k key)

-- what a list of turns has past its end
abbrev pub no_turn : Succession
no_turn = record { first = 0; second = 0 }

module _ (untold : List Bool) (place : ℕ) where
  pub takes_one : (k e : ℕ) (last : List (Option ℕ)) (old new : List Succession) → k < length last → IsMarked untold e → AddsTurns (IsTurnBehind (slice_index_or last k None) place) old new → TakesTurns untold place (Append k e ∷ []) last (set last k (Some place)) old new
  takes_one k e last old new low marked added = record {
    count = length-set last k (Some place);
    noted = stamped_as (λ key. eqb k key) (λ key. has_append_of untold key (Append k e ∷ [])) place last (set last k (Some place)) (λ key. sym (one_marked untold k e marked key)) (stamped_one last k place low);
    turns = λ turn. (
      λ has. elim ((added turn).0 has) as (λ _. Contains old turn ⊎ IsTurnAt untold place (Append k e ∷ []) last turn) [
        | inl before ↦ inl before
        | inr behind ↦ inr (k, one_marked untold k e marked k ∙ eqb_self k, behind)
      ],
      λ h. elim h as (λ _. Contains new turn) [
        | inl before ↦ (added turn).1 (inl before)
        | inr at ↦
            let same : k ≡ at.0 = eqb-true k at.0 (sym (one_marked untold k e marked at.0) ∙ at.1) in
            (added turn).1 (inr (subst (λ n. IsTurnBehind (slice_index_or last n None) place turn) (sym same) at.2))
      ],
    );
  }

  takes_then : (ops more : List MicroOp) (last mid now : List (Option ℕ)) (old between new : List Succession) → TakesTurns untold place ops last mid old between → TakesTurns untold place more mid now between new → TakesTurns untold place (ops ++ more) last now old new
  takes_then ops more last mid now old between new a b = record {
    count = b.count ∙ a.count;
    noted = stamped_then (is_append_of untold) place ops more last mid now a.noted b.noted;
    turns = λ turn. (
      λ has. elim ((b.turns turn).0 has) as (λ _. Goal turn) [
        | inl before ↦ elim ((a.turns turn).0 before) as (λ _. Goal turn) [
          | inl first ↦ inl first
          | inr at ↦ inr (at.0, list_any-append (is_append_of untold at.0) ops more ∙ or_left _ _ at.1, at.2)
        ]
        | inr at ↦ elim (cases_Bool (has_append_of untold at.0 ops)) as (λ _. Goal turn) [
          | inl here ↦
              let is : Some place ≡ Some turn.first = sym (a.noted at.0 ∙ ap (λ t. cond t (Some place) (get_or last at.0 None)) here) ∙ at.2.2 in
              absurd (at.2.1 (sym (same_Some place turn.first is)))
          | inr not ↦
              let was : get_or last at.0 None ≡ Some turn.first = sym (a.noted at.0 ∙ ap (λ t. cond t (Some place) (get_or last at.0 None)) not) ∙ at.2.2 in
              inr (at.0, list_any-append (is_append_of untold at.0) ops more ∙ or_right _ _ at.1, (at.2.0, at.2.1, was))
        ]
      ],
      λ h. elim h as (λ _. Contains new turn) [
        | inl first ↦ (b.turns turn).1 (inl ((a.turns turn).1 (inl first)))
        | inr at ↦ elim (cases_Bool (has_append_of untold at.0 ops)) as (λ _. Contains new turn) [
          | inl here ↦ (b.turns turn).1 (inl ((a.turns turn).1 (inr (at.0, here, at.2))))
          | inr not ↦
              let late : has_append_of untold at.0 more ≡ true = subst (λ t. (t || has_append_of untold at.0 more) ≡ true) not (sym (list_any-append (is_append_of untold at.0) ops more) ∙ at.1) in
              let is : get_or mid at.0 None ≡ Some turn.first = a.noted at.0 ∙ ap (λ t. cond t (Some place) (get_or last at.0 None)) not ∙ at.2.2 in
              (b.turns turn).1 (inr (at.0, late, (at.2.0, at.2.1, is)))
        ]
      ],
    );
  } where
    Goal : Succession → Type 0
    Goal turn = Contains old turn ⊎ IsTurnAt untold place (ops ++ more) last turn

  pub takes_more : (ops : List MicroOp) (i : ℕ) (op : MicroOp) (last mid now : List (Option ℕ)) (old between new : List Succession) → i < length ops → op ≡ get_or ops i op → TakesTurns untold place (take i ops) last mid old between → TakesTurns untold place (op ∷ []) mid now between new → TakesTurns untold place (take (i + 1) ops) last now old new
  takes_more ops i op last mid now old between new low is a b = subst (λ os. TakesTurns untold place os last now old new) (sym (take_more ops i op low ∙ ap (λ o. take i ops ++ o ∷ []) (sym is))) (takes_then (take i ops) (op ∷ []) last mid now old between new a b)

-- the step of the turn at an index
abbrev pub TurnAt : ℕ → List Succession → ℕ → ℕ → Why → ℕ → Type 0
TurnAt count turns index place why target = (index < length turns) × IsTurnStep count (get_or turns index no_turn) place why target

pub turn_steps : (count : ℕ) (turns : List Succession) (i : ℕ) (old new : List (Vec Step Global)) → length turns ≤ i → AddsSteps (StepsBelow (TurnAt count turns) i) old new → AddsSteps (IsAnyTurnStep count turns) old new
turn_steps count turns i old new all = adds_if (StepsBelow (TurnAt count turns) i) (IsAnyTurnStep count turns) old new
    (λ p w t h. (get_or turns h.0 no_turn, (h.0, h.2.0, get_or_default turns h.0 (get_or turns h.0 no_turn) no_turn h.2.0), h.2.1))
    (λ p w t h.
    let at : get_or turns h.1.0 no_turn ≡ h.0 = get_or_default turns h.1.0 no_turn h.0 h.1.1 ∙ h.1.2 in
    (h.1.0, omega (arith, all, h.1.1), (h.1.1, subst (λ turn. IsTurnStep count turn p w t) (sym at) h.2)))

module _ (txns : List Txn) (untold : List Bool) where
  -- the turns are those of the first nodes, and the table has who is last in each
  pub record AreTurnsOf (nodes : List ℕ) (last : List (Option ℕ)) (turns : List Succession) : Type 0 where
    pub ends : AreLastInTurn txns untold nodes last
    pub these : (turn : Succession) → Contains turns turn ↔ IsTurn txns untold nodes turn

  module _ (nodes : List ℕ) (i : ℕ) (low : i < length nodes) (last now : List (Option ℕ)) (old new : List Succession) (a : AreTurnsOf (take i nodes) last old) (takes : TakesTurns untold (get_or nodes i 0) (ops_at txns (get_or nodes i 0)) last now old new) where
    abbrev Node : ℕ
    Node = get_or nodes i 0

    abbrev Turn_of : ℕ → List ℕ
    Turn_of key = turn_of txns untold (take i nodes) key

    grown : (key : ℕ) → turn_of txns untold (take (i + 1) nodes) key ≡ Turn_of key ++ cond (is_untold_writer txns untold key Node) (Node ∷ []) []
    grown key = filter_more (is_untold_writer txns untold key) nodes i 0 low

    more : (key : ℕ) → is_untold_writer txns untold key Node ≡ true → turn_of txns untold (take (i + 1) nodes) key ≡ Turn_of key ++ Node ∷ []
    more key writes = grown key ∙ ap (λ b. Turn_of key ++ cond b (Node ∷ []) []) writes

    same : (key : ℕ) → is_untold_writer txns untold key Node ≡ false → turn_of txns untold (take (i + 1) nodes) key ≡ Turn_of key
    same key not = grown key ∙ ap (λ b. Turn_of key ++ cond b (Node ∷ []) []) not ∙ append_nil_right (Turn_of key)

    entry_more : (key : ℕ) → is_untold_writer txns untold key Node ≡ true → slice_index_or now key None ≡ Some Node
    entry_more key writes = takes.noted key ∙ ap (λ b. cond b (Some Node) (get_or last key None)) writes

    entry_same : (key : ℕ) → is_untold_writer txns untold key Node ≡ false → slice_index_or now key None ≡ slice_index_or last key None
    entry_same key not = takes.noted key ∙ ap (λ b. cond b (Some Node) (get_or last key None)) not

    ends_more : AreLastInTurn txns untold (take (i + 1) nodes) now
    ends_more key place = elim (cases_Bool (is_untold_writer txns untold key Node)) as (λ _. (slice_index_or now key None ≡ Some place) ↔ EndsWith (turn_of txns untold (take (i + 1) nodes) key) place) [
      | inl writes ↦ (
        λ is.
            let here : Node ≡ place = same_Some Node place (sym (entry_more key writes) ∙ is) in
            (Turn_of key, more key writes ∙ ap (λ n. Turn_of key ++ n ∷ []) here),
        λ ends. entry_more key writes ∙ ap Some (ends_push (Turn_of key) Node place (subst (λ xs. EndsWith xs place) (more key writes) ends)),
      )
      | inr not ↦ (
        λ is. subst (λ xs. EndsWith xs place) (sym (same key not)) ((a.ends key place).0 (sym (entry_same key not) ∙ is)),
        λ ends. entry_same key not ∙ (a.ends key place).1 (subst (λ xs. EndsWith xs place) (same key not) ends),
      )
    ]

    these_more : (turn : Succession) → Contains new turn ↔ IsTurn txns untold (take (i + 1) nodes) turn
    these_more turn = (
      λ has. elim ((takes.turns turn).0 has) as (λ _. IsTurn txns untold (take (i + 1) nodes) turn) [
        | inl before ↦
            let h = (a.these turn).0 before in
            (h.0, h.1, subst (λ xs. AreNeighbours xs turn.first turn.second) (sym (grown h.1)) (neighbours_left (Turn_of h.1) (cond (is_untold_writer txns untold h.1 Node) (Node ∷ []) []) turn.first turn.second h.2))
        | inr at ↦
            let ends : EndsWith (Turn_of at.0) turn.first = (a.ends at.0 turn.first).0 at.2.2 in
            let next : AreNeighbours (turn_of txns untold (take (i + 1) nodes) at.0) turn.first Node = subst (λ xs. AreNeighbours xs turn.first Node) (sym (more at.0 at.1)) (end_neighbours (Turn_of at.0) turn.first Node ends) in
            (λ e. at.2.1 (e ∙ at.2.0), at.0, subst (λ n. AreNeighbours (turn_of txns untold (take (i + 1) nodes) at.0) turn.first n) (sym at.2.0) next)
      ],
      λ is. elim (cases_Bool (is_untold_writer txns untold is.1 Node)) as (λ _. Contains new turn) [
        | inl writes ↦ elim (neighbours_push (Turn_of is.1) Node turn.first turn.second (subst (λ xs. AreNeighbours xs turn.first turn.second) (more is.1 writes) is.2)) as (λ _. Contains new turn) [
          | inl before ↦ (takes.turns turn).1 (inl ((a.these turn).1 (is.0, is.1, before)))
          | inr end ↦ (takes.turns turn).1 (inr (is.1, writes, (sym end.1, λ e. is.0 (e ∙ end.1), (a.ends is.1 turn.first).1 end.0)))
        ]
        | inr not ↦ (takes.turns turn).1 (inl ((a.these turn).1 (is.0, is.1, subst (λ xs. AreNeighbours xs turn.first turn.second) (same is.1 not) is.2)))
      ],
    )

    pub turns_more : AreTurnsOf (take (i + 1) nodes) now new
    turns_more = record { ends = ends_more; these = these_more }

  -- the writers of a turn
  module _ (nodes : List ℕ) (turn : Succession) (is : IsTurn txns untold nodes turn) where
    before : ComesBefore (turn_of txns untold nodes is.1) turn.first turn.second
    before = neighbours_before (turn_of txns untold nodes is.1) turn.first turn.second is.2

    pub first_writer : is_untold_writer txns untold is.1 turn.first ≡ true
    first_writer = (includes_filter (is_untold_writer txns untold is.1) nodes turn.first (before_first (turn_of txns untold nodes is.1) turn.first turn.second before)).1

    pub second_writer : is_untold_writer txns untold is.1 turn.second ≡ true
    second_writer = (includes_filter (is_untold_writer txns untold is.1) nodes turn.second (before_second (turn_of txns untold nodes is.1) turn.first turn.second before)).1

  pub writer_below : (key place : ℕ) → is_untold_writer txns untold key place ≡ true → place < length txns
  writer_below key place h = let r = append_in untold key (ops_at txns place) h in appends_below txns key r.0 place r.1

  pub first_below : (nodes : List ℕ) (turn : Succession) → IsTurn txns untold nodes turn → turn.first < length txns
  first_below nodes turn is = writer_below is.1 turn.first (first_writer nodes turn is)

  pub second_below : (nodes : List ℕ) (turn : Succession) → IsTurn txns untold nodes turn → turn.second < length txns
  second_below nodes turn is = writer_below is.1 turn.second (second_writer nodes turn is)

  -- all turns of an order, and what they ask of a graph
  module _ (nodes : List ℕ) (turns : List Succession) (found : (turn : Succession) → Contains turns turn ↔ IsTurn txns untold nodes turn) where
    pub turn_below : (turn : Succession) → Contains turns turn → (turn.first < length txns) × (turn.second < length txns)
    turn_below turn has = let is = (found turn).0 has in (first_below nodes turn is, second_below nodes turn is)

    pub step_below : (place : ℕ) (why : Why) (target : ℕ) → IsAnyTurnStep (length txns) turns place why target → place < length txns + length txns
    step_below place why target h = omega (arith, (turn_below h.0 h.1).0, h.2.0)

    pub keeps_turns : (graph : List (Vec Step Global)) (order : List ℕ) → ((place : ℕ) (why : Why) (target : ℕ) → IsAnyTurnStep (length txns) turns place why target → HasStep graph place why target) → KeepsPaths graph (length txns + length txns) order → KeepsTurns txns untold nodes order
    keeps_turns graph order added keeps turn is =
        let one : turn.first < length txns = first_below nodes turn is in
        let other : turn.second < length txns = second_below nodes turn is in
        keeps.forwards (length txns + turn.first) turn.second RealTime (omega (arith, one)) (omega (arith, other)) ([], added (length txns + turn.first) RealTime turn.second (turn, (found turn).1 is, (refl, refl, refl)))

    pub empty_turns : (order : List ℕ) → length turns ≡ 0 → KeepsTurns txns untold nodes order
    empty_turns order none turn is = absurd (omega (arith, none, ((found turn).1 is).1))

    pub some_turn : 0 < length turns → HasTurn txns untold nodes
    some_turn some =
        let turn : Succession = get_or turns 0 no_turn in
        (turn, (found turn).0 (0, some, get_or_default turns 0 turn no_turn some))

  -- neighbours in a turn are two
  pub turn_differs : (nodes : List ℕ) (key first second : ℕ) → HasNoRepeat nodes → AreNeighbours (turn_of txns untold nodes key) first second → first ≢ second
  turn_differs nodes key first second once h same =
      let early : ComesBefore nodes first second = before_filter (is_untold_writer txns untold key) nodes first second (neighbours_before (turn_of txns untold nodes key) first second h) in
      before_itself nodes first once (subst (ComesBefore nodes first) (sym same) early)

  module _ (keys elements : ℕ) (numbered : AreNumbersOf txns keys elements) (marks : AreUntoldMarks txns untold) where
    pub untold_of : (key place : ℕ) → is_untold_writer txns untold key place ≡ true → (element : ℕ) × IsUntold txns key element place × MustBeThere txns place
    untold_of key place h =
        let r = append_in untold key (ops_at txns place) h in
        let u = (marks r.0).0 r.2 in
        let k : u.0 ≡ key = numbered.one_key u.0 key r.0 u.1 place u.2.appends r.1 in
        let told : IsUntold txns key r.0 u.1 = subst (λ n. IsUntold txns n r.0 u.1) k u.2 in
        let p : u.1 ≡ place = numbered.once.apart key r.0 u.1 place told.appends r.1 in
        (r.0, subst (IsUntold txns key r.0) p told, subst (MustBeThere txns) p u.3)

    pub writer_if : (key element place : ℕ) → IsUntold txns key element place → MustBeThere txns place → is_untold_writer txns untold key place ≡ true
    writer_if key element place u must = append_marked untold key element (ops_at txns place) u.appends ((marks element).1 (key, place, u, must))

    pub pair_of : (nodes : List ℕ) → HasTurn txns untold nodes → HasUntoldPair txns
    pair_of nodes h =
        let turn = h.0 in
        let is = h.1 in
        let a = untold_of is.1 turn.first (first_writer nodes turn is) in
        let b = untold_of is.1 turn.second (second_writer nodes turn is) in
        (is.1, a.0, b.0, turn.first, turn.second, is.0, a.1, b.1, a.2, b.2)
