-- That running points on lists explains the reads at starts.
use Rattle.std.proofs.Common.{◌≡◌, ◌<◌, ◌+◌, ℕ, zero, suc, Some, List, [], ◌∷◌, ◌++◌, All, length, take, drop, get_or, refl, sym, ap, subst, ◌∙◌, inl, inr, arith, append_assoc}
use Rattle.std.specs.Prelude.{slice_get, option_map, unwrap_or, Vec}
use Rattle.std.specs.declared.alloc.Global.{Global}
use Rattle.std.proofs.lemmas.Bool.{cases_lt}
use Rattle.std.proofs.lemmas.List.{take_more, take_at, get_or_at, append-nil, length-append}
use Rattle.std.proofs.lemmas.List.Concat.{flat_map-append}
use Rattle.jh_txn.specs.declared.txn.MicroOp.{MicroOp}
use Rattle.jh_txn.specs.declared.txn.Outcome.TheVariants.{Done, Failed}
use Rattle.jh_txn.specs.declared.txn.Point.{Point}
use Rattle.jh_txn.specs.declared.txn.Point.TheVariants.{Commit, Start}
use Rattle.jh_txn.specs.declared.txn.Txn.{Txn}
use Rattle.jh_txn.specs.OrderCheckInside.{AreAfter, AreListsAfter, SawListAt, list_at}
use Rattle.jh_txn.specs.SnapshotCheckInside.{ExplainsStarts, IsExplainedPoint, SawListsAt, ops_of_point}
use Rattle.jh_txn.specs.SnapshotOrders.{commits}
use Rattle.jh_txn.specs.Transactions.{AreKeysBelow, IsKeyBelow, appended, appends_at, appends_before, list_after, ops_at, outcome_at}
use Rattle.jh_txn.proofs.TransactionLemmas.{appended_append}
use Rattle.jh_txn.proofs.OrderCheckLemmas.{key_of_read}
use Rattle.jh_txn.proofs.PhaseLemmas.{cut_points}

pub commits_append : (xs ys : List Point) → commits (xs ++ ys) ≡ commits xs ++ commits ys
commits_append [] ys = refl
commits_append (Start p ∷ xs) ys = commits_append xs ys
commits_append (Commit p ∷ xs) ys = ap (λ zs. p ∷ zs) (commits_append xs ys)

-- the keys of the transaction at a place
pub keys_of_ops : (keys : ℕ) (txns : List Txn) (place : ℕ) → AreKeysBelow keys txns → All (IsKeyBelow keys) (ops_at txns place)
keys_of_ops keys [] place all = λ k d low. absurd (omega (arith, low))
keys_of_ops keys (txn ∷ txns) zero all = all 0 txn (omega arith)
keys_of_ops keys (txn ∷ txns) (suc place) all = keys_of_ops keys txns place (λ k d low. all (suc k) d (omega (arith, low)))

-- the transaction that stands at a place
pub ops_is : (txns : List Txn) (place : ℕ) (txn : Txn) → slice_get txns place ≡ Some txn → ops_at txns place ≡ txn.ops
ops_is txns place txn is = ap (λ o. unwrap_or (option_map (λ t. t.ops) o) []) is

outcome_is : (txns : List Txn) (place : ℕ) (txn : Txn) → slice_get txns place ≡ Some txn → outcome_at txns place ≡ txn.outcome
outcome_is txns place txn is = ap (λ o. unwrap_or (option_map (λ t. t.outcome) o) Failed) is

module _ (txns : List Txn) (lists : List (Vec ℕ Global)) (place : ℕ) (txn : Txn) (is : slice_get txns place ≡ Some txn) where
  pub saw_at_start : (txn.outcome ≡ Done → (index : ℕ) → SawListAt lists txn.ops index) → SawListsAt txns lists (Start place)
  saw_at_start saw done index = subst (λ ops. SawListAt lists ops index) (sym (ops_is txns place txn is)) (saw (sym (outcome_is txns place txn is) ∙ done) index)

  pub start_saw : SawListsAt txns lists (Start place) → txn.outcome ≡ Done → (index : ℕ) → SawListAt lists txn.ops index
  start_saw saw done index = subst (λ ops. SawListAt lists ops index) (ops_is txns place txn is) (saw (outcome_is txns place txn is ∙ done) index)

-- with the lists as they are behind some points
module _ (txns : List Txn) (keys : ℕ) (front : List Point) (lists : List (Vec ℕ Global)) (all : AreKeysBelow keys txns) (are : AreListsAfter txns keys (commits front) lists) where
  pub explained_if_saw : (point : Point) → SawListsAt txns lists point → IsExplainedPoint txns front point
  explained_if_saw (Commit p) saw = tt
  explained_if_saw (Start p) saw = λ index key seen read.
      saw read.0 index key seen read.1
      ∙ ap (λ xs. xs ++ appends_before txns key p index) (are.1 key (key_of_read keys (ops_at txns p) index key seen (keys_of_ops keys txns p all) read.1))

  pub saw_if_explained : (point : Point) → IsExplainedPoint txns front point → SawListsAt txns lists point
  saw_if_explained (Commit p) explained = tt
  saw_if_explained (Start p) explained = λ done index key seen read.
      explained index key seen (done, read)
      ∙ ap (λ xs. xs ++ appends_before txns key p index) (sym (are.1 key (key_of_read keys (ops_at txns p) index key seen (keys_of_ops keys txns p all) read)))

  pub lists_behind : (point : Point) (new : List (Vec ℕ Global)) → AreAfter (ops_of_point txns point) lists new → AreListsAfter txns keys (commits (front ++ point ∷ [])) new
  lists_behind (Start p) new step = (
    step.0 ∙ are.0,
    λ key below. step.1 key (omega (arith, below, are.0)) ∙ append-nil (list_at lists key) ∙ are.1 key below
        ∙ ap (list_after txns key) (sym (commits_append front (Start p ∷ []) ∙ append-nil (commits front))),
  )
  lists_behind (Commit p) new step = (
    step.0 ∙ are.0,
    λ key below.
        step.1 key (omega (arith, below, are.0))
        ∙ ap (λ xs. xs ++ appends_at txns key p) (are.1 key below)
        ∙ ap (λ xs. list_after txns key (commits front) ++ xs) (sym (append-nil (appends_at txns key p)))
        ∙ sym (flat_map-append (appends_at txns key) (commits front) (p ∷ []))
        ∙ ap (list_after txns key) (sym (commits_append front (Commit p ∷ []))),
  )

pub starts_if : (txns : List Txn) (points : List Point) → ((i : ℕ) → i < length points → IsExplainedPoint txns (take i points) (get_or points i (Start 0))) → ExplainsStarts txns points
starts_if txns points each front back place is =
    let i : ℕ = length front in
    let inside : i < length points = omega (arith, ap length is, length-append front (Start place ∷ back)) in
    let same_front : take i points ≡ front = ap (take i) is ∙ take_at front (Start place ∷ back) i refl in
    let same_point : get_or points i (Start 0) ≡ Start place = ap (λ xs. get_or xs i (Start 0)) is ∙ get_or_at front (Start place) back (Start 0) i refl in
    subst (λ xs. IsExplainedPoint txns xs (Start place)) same_front (subst (IsExplainedPoint txns (take i points)) same_point (each i inside))

pub start_at : (txns : List Txn) (points : List Point) (i : ℕ) → i < length points → ExplainsStarts txns points → IsExplainedPoint txns (take i points) (get_or points i (Start 0))
start_at txns points i low explains = at (get_or points i (Start 0)) (cut_points points i low) where
  at : (point : Point) → points ≡ take i points ++ point ∷ drop (i + 1) points → IsExplainedPoint txns (take i points) point
  at (Start p) is = explains (take i points) (drop (i + 1) points) p is
  at (Commit p) is = tt

pub starts_more : (txns : List Txn) (points : List Point) (i : ℕ) → IsExplainedPoint txns (take i points) (get_or points i (Start 0)) → ((k : ℕ) → k < i → IsExplainedPoint txns (take k points) (get_or points k (Start 0))) → (k : ℕ) → k < i + 1 → IsExplainedPoint txns (take k points) (get_or points k (Start 0))
starts_more txns points i here each k low =
    elim (cases_lt k i) as (λ _. IsExplainedPoint txns (take k points) (get_or points k (Start 0))) [
      | inl lt ↦ each k lt
      | inr ge ↦ let at : i ≡ k = omega (arith, low, ge) in subst (λ n. IsExplainedPoint txns (take n points) (get_or points n (Start 0))) at here
    ]

-- one micro-operation less
pub undo_more : (ops : List MicroOp) (n : ℕ) (op : MicroOp) (before mid new : List (Vec ℕ Global)) → n < length ops → op ≡ get_or ops n op → AreAfter (take (n + 1) ops) before mid → length new ≡ length mid
    → ((key : ℕ) (xs : List ℕ) → list_at mid key ≡ xs ++ appended key (op ∷ []) → list_at new key ≡ xs) → AreAfter (take n ops) before new
undo_more ops n op before mid new low is after count undone = (
  count ∙ after.0,
  λ key below. undone key (list_at before key ++ appended key (take n ops))
      (after.1 key below
      ∙ ap (λ xs. list_at before key ++ appended key xs) (take_more ops n op low ∙ ap (λ o. take n ops ++ o ∷ []) (sym is))
      ∙ ap (λ xs. list_at before key ++ xs) (appended_append key (take n ops) (op ∷ []))
      ∙ sym (append_assoc (list_at before key) (appended key (take n ops)) (appended key (op ∷ [])))),
)
