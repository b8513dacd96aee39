-- That each dependency that a read says is one.
use Rattle.std.proofs.Common.{◌≡◌, ℕ, true, List, ◌∷◌, refl, sym, subst, inl, inr}
use Rattle.jh_txn.specs.declared.model.ConsistencyModel.{ConsistencyModel}
use Rattle.jh_txn.specs.declared.txn.Txn.{Txn}
use Rattle.jh_txn.specs.Dependencies.{IsDependency}
use Rattle.jh_txn.specs.Models.{is_of_snapshots}
use Rattle.jh_txn.specs.Transactions.{ComesBefore, Saw}
use Rattle.jh_txn.proofs.ListLemmas.{before_first, before_right, before_second, includes_head}
use Rattle.jh_txn_snapshots.specs.SaidByReads.{ReadSays}

pub says_dependencies : (txns : List Txn) (model : ConsistencyModel) (place index key : ℕ) (seen : List ℕ) → is_of_snapshots model ≡ true → Saw txns place index key seen → ReadSays txns place key seen (IsDependency txns model)
says_dependencies txns model place index key seen snapshots saw = record {
  shown = λ element writer shown appends differ. record {
    differ = differ;
    first_there = inr (key, element, place, appends, (index, seen, saw, shown));
    second_there = inl saw.0;
    reason = (appends, (index, seen, saw, shown));
  };
  in_turn = λ one other first second front back is appends others differ.
      let turn : ComesBefore seen one other = subst (λ xs. ComesBefore xs one other) (sym is) (before_right front (one ∷ other ∷ back) one other (inl (refl, includes_head other back))) in
      record {
        differ = differ;
        first_there = inr (key, one, place, appends, (index, seen, saw, before_first seen one other turn));
        second_there = inr (key, other, place, others, (index, seen, saw, before_second seen one other turn));
        reason = (appends, other, others, inl (place, index, seen, saw, turn));
      };
  lacked = λ element writer lacks appends must differ. record {
    differ = λ same. differ (sym same);
    first_there = inl saw.0;
    second_there = must;
    reason = ((index, seen, saw, lacks), appends);
  };
  wins = λ own other writer wrote lacks appends must differ. record {
    differ = λ same. differ (sym same);
    first_there = inl saw.0;
    second_there = must;
    reason = (snapshots, wrote, other, appends, (index, seen, saw, lacks));
  };
}
