-- What transactions append, and what a read sees in an order.
use Rattle.std.proofs.Common.{◌≡◌, ◌<◌, ℕ, Option, Some, None, arith, true, false, eqb, cond, List, [], ◌∷◌, ◌++◌, take, drop, refl, sym, ap, subst, ◌∙◌, append_assoc}
use Rattle.std.specs.List.{All}
use Rattle.std.specs.Option.{IsSomeAnd}
use Rattle.std.proofs.lemmas.List.{take-append-drop}
use Rattle.std.proofs.lemmas.List.Concat.{flat_map-append}
use Rattle.jh_txn.specs.declared.txn.MicroOp.{MicroOp}
use Rattle.jh_txn.specs.declared.txn.MicroOp.TheVariants.{Append, Read}
use Rattle.jh_txn.specs.declared.txn.Txn.{Txn}
use Rattle.jh_txn.specs.RealTime.{CompleteAfterInvocation, PrecedesInTime, completed_at, invoked_at}
use Rattle.jh_txn.specs.SerialOrders.{IsSerialOrder}
use Rattle.jh_txn.specs.Transactions.{AppendOnce, Appends, HasNoRepeat, IsFailedAt, IsPossibleAt, Saw, appended, appends_at, appends_before, includes, list_after, ops_at}
use Rattle.jh_txn.proofs.ListLemmas.{split_at, includes_left, flat_once, append_nil_right, place_of}

pub possible_of : (txns : List Txn) (order : List ℕ) → All (IsPossibleAt txns) order → (place : ℕ) → includes order place ≡ true → IsFailedAt txns place → ⊥
possible_of txns order all place h = let r = place_of order place h in subst (IsPossibleAt txns) r.2 (all r.0 0 r.1)

pub appended_append : (key : ℕ) (ops others : List MicroOp) → appended key (ops ++ others) ≡ appended key ops ++ appended key others
appended_append key [] others = refl
appended_append key (Append k element ∷ ops) others =
    elim (eqb k key) as (λ b. cond b (element ∷ appended key (ops ++ others)) (appended key (ops ++ others)) ≡ cond b (element ∷ appended key ops) (appended key ops) ++ appended key others) [
      | true ↦ ap (λ xs. element ∷ xs) (appended_append key ops others)
      | false ↦ appended_append key ops others
    ]
appended_append key (Read k seen ∷ ops) others = appended_append key ops others

-- no transaction was done before its own invocation
pub not_before_itself : (txns : List Txn) → CompleteAfterInvocation txns → (place : ℕ) → PrecedesInTime txns place place → ⊥
not_before_itself txns ends place late = at (completed_at txns place) (ends place) late.1 where
  at : (completed : Option ℕ) → ((index : ℕ) → completed ≡ Some index → invoked_at txns place < index) → IsSomeAnd completed (λ index. index < invoked_at txns place) → ⊥
  at None later h = h
  at (Some index) later h = absurd (omega (arith, h, later index refl))

-- what a transaction appends before one of its micro-operations, and from there on
pub appends_split : (txns : List Txn) (key place m : ℕ) → appends_at txns key place ≡ appends_before txns key place m ++ appended key (drop m (ops_at txns place))
appends_split txns key place m =
    ap (appended key) (sym (take-append-drop m (ops_at txns place))) ∙ appended_append key (take m (ops_at txns place)) (drop m (ops_at txns place))

-- what it appends before one of its micro-operations it appends
pub appends_from_before : (txns : List Txn) (key place m element : ℕ) → includes (appends_before txns key place m) element ≡ true → Appends txns key element place
appends_from_before txns key place m element h = subst (λ xs. includes xs element ≡ true) (sym (appends_split txns key place m)) (includes_left (appends_before txns key place m) (appended key (drop m (ops_at txns place))) element h)

-- no element comes twice, whatever the order
pub list_once_of : (txns : List Txn) → AppendOnce txns → (key : ℕ) (places : List ℕ) → HasNoRepeat places → HasNoRepeat (list_after txns key places)
list_once_of txns once key places apart = flat_once (appends_at txns key) places apart (once.within key) (once.apart key)

module _ (txns : List Txn) (order : List ℕ) (serial : IsSerialOrder txns order) where
  -- What a read sees begins the list behind its own transaction.
  pub record IsSeen (place m key : ℕ) (seen : List ℕ) : Type 0 where
    pub front : List ℕ
    pub back : List ℕ
    pub stands : order ≡ front ++ place ∷ back
    pub is : seen ≡ list_after txns key front ++ appends_before txns key place m
    pub rest : List ℕ
    pub begins : list_after txns key (front ++ place ∷ []) ≡ seen ++ rest

  pub saw : (place m key : ℕ) (seen : List ℕ) → Saw txns place m key seen → IsSeen place m key seen
  saw place m key seen s =
      let r = split_at order place (serial.whole place s.0) in
      let is : seen ≡ list_after txns key r.0 ++ appends_before txns key place m = serial.reads r.0 r.1 place r.2 m key seen s in
      let rest : List ℕ = appended key (drop m (ops_at txns place)) in
      let own : appends_at txns key place ++ [] ≡ appends_before txns key place m ++ rest = append_nil_right (appends_at txns key place) ∙ appends_split txns key place m in
      record {
        front = r.0;
        back = r.1;
        stands = r.2;
        is = is;
        rest = rest;
        begins = flat_map-append (appends_at txns key) r.0 (place ∷ []) ∙ ap (λ xs. list_after txns key r.0 ++ xs) own
            ∙ sym (append_assoc (list_after txns key r.0) (appends_before txns key place m) rest) ∙ ap (λ xs. xs ++ rest) (sym is);
      }

  -- no element comes twice, whatever the order
  pub list_once : AppendOnce txns → (key : ℕ) (places : List ℕ) → HasNoRepeat places → HasNoRepeat (list_after txns key places)
  list_once once key places apart = flat_once (appends_at txns key) places apart (once.within key) (once.apart key)
