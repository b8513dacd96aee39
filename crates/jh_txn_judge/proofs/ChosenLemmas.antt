-- Those of an order of all transactions that must be there.
use Rattle.std.proofs.Common.{ℕ, Bool, false, List, [], filter, get_or, length}
use Rattle.std.specs.Prelude.{Vec}
use Rattle.std.specs.declared.alloc.Global.{Global}
use Rattle.jh_txn.specs.declared.dependency.Step.{Step}
use Rattle.jh_txn.specs.declared.dependency.Why.{Why}
use Rattle.jh_txn.specs.declared.txn.Txn.{Txn}
use Rattle.jh_txn.specs.Dependencies.{MustBeThere}
use Rattle.jh_txn.specs.Keeping.{IsOfAll}
use Rattle.jh_txn.specs.Transactions.{ComesBefore}
use Rattle.jh_txn.proofs.ListLemmas.{before_itself, once_if}
use Rattle.jh_txn_graph.specs.Graphs.{HasStep, KeepsPaths, HasPath}
use Rattle.jh_txn_seen.specs.Marks.{IsMarked}
use Rattle.jh_txn_graph.proofs.FilterLemmas.{before_filter, filter_before, filter_includes, includes_filter}
use Rattle.jh_txn_seen.proofs.KnownLemmas.{must_below}

-- those that are marked
abbrev pub chosen : List Bool → List ℕ → List ℕ
chosen there nodes = filter (λ place. get_or there place false) nodes

module _ (txns : List Txn) (there : List Bool) (must_of : (place : ℕ) → IsMarked there place → MustBeThere txns place) (marked_of : (place : ℕ) → MustBeThere txns place → IsMarked there place) (graph : List (Vec Step Global)) (nodes : List ℕ) (kept : KeepsPaths graph (length txns) nodes) where
  pub of_all : IsOfAll txns (chosen there nodes)
  of_all = record {
    distinct = once_if (chosen there nodes) (λ a h. before_itself nodes a kept.distinct (before_filter (λ place. get_or there place false) nodes a a h));
    there = λ place. (
      λ h. must_of place (includes_filter (λ p. get_or there p false) nodes place h).1,
      λ must. filter_includes (λ p. get_or there p false) nodes place ((kept.whole place).1 (must_below txns place must)) (marked_of place must),
    );
  }

  pub way_before : (p : ℕ) (w : Why) (q : ℕ) → MustBeThere txns p → MustBeThere txns q → HasPath graph (length txns) p w q → ComesBefore (chosen there nodes) p q
  way_before p w q must also leads = filter_before (λ place. get_or there place false) nodes p q (kept.forwards p q w (must_below txns p must) (must_below txns q also) leads) (marked_of p must) (marked_of q also)

  pub step_before : (p : ℕ) (w : Why) (q : ℕ) → MustBeThere txns p → MustBeThere txns q → HasStep graph p w q → ComesBefore (chosen there nodes) p q
  step_before p w q must also step = way_before p w q must also ([], step)
