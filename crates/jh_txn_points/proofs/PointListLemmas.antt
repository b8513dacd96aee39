-- Points of nodes: those of nodes below a count are the starts, those behind them the commits.
use Rattle.std.proofs.Common.{◌≡◌, ℕ, ◌+◌, ◌-◌, ◌<◌, ◌≤◌, true, cond, List, [], ◌∷◌, map, sym, ap, subst, ◌∙◌, inl, inr, arith}
use Rattle.std.specs.Prelude.{nat_lt}
use Rattle.std.proofs.lemmas.Bool.{cases_lt, false≢true, lt-ltb, le-ltb, or_right}
use Rattle.jh_txn.specs.declared.dependency.Why.{Why}
use Rattle.jh_txn.specs.declared.dependency.Why.TheVariants.{FirstCommitter, ReadWrite, RealTime, WriteRead, WriteWrite}
use Rattle.jh_txn.specs.declared.txn.Point.{Point}
use Rattle.jh_txn.specs.declared.txn.Point.TheVariants.{Start, Commit}
use Rattle.jh_txn.specs.Keeping.{leaves_at, arrives_at}
use Rattle.jh_txn.specs.SnapshotCheckInside.{place_of_point}
use Rattle.jh_txn.specs.SnapshotOrders.{HasPoint, IsEarlier}
use Rattle.jh_txn.specs.Transactions.{ComesBefore, includes}
use Rattle.jh_txn.proofs.ListLemmas.{includes_cons, includes_head}
use Rattle.jh_txn_points.specs.Points.{node_of_point}

-- the point of a node
abbrev pub point_of : ℕ → ℕ → Point
point_of n node = cond (nat_lt node n) (Start node) (Commit (node - n))

start_at : (n p : ℕ) → p < n → point_of n p ≡ Start p
start_at n p low = ap (λ b. cond b (Start p) (Commit (p - n))) (lt-ltb p n low)

commit_at : (n p : ℕ) → point_of n (n + p) ≡ Commit p
commit_at n p =
    let high : n ≤ n + p = omega arith in
    let back : n + p - n ≡ p = omega arith in
    ap (λ b. cond b (Start (n + p)) (Commit (n + p - n))) (le-ltb (n + p) n high) ∙ ap Commit back

node_at : (n x : ℕ) → node_of_point n (point_of n x) ≡ x
node_at n x = elim (cases_lt x n) as (λ _. node_of_point n (point_of n x) ≡ x) [
  | inl low ↦ ap (node_of_point n) (start_at n x low)
  | inr high ↦
      let is : point_of n x ≡ Commit (x - n) = ap (λ b. cond b (Start x) (Commit (x - n))) (le-ltb x n high) in
      let back : n + (x - n) ≡ x = omega (arith, high) in
      ap (node_of_point n) is ∙ back
]

pub at_node : (n : ℕ) (point : Point) → place_of_point point < n → point_of n (node_of_point n point) ≡ point
at_node n (Start p) low = start_at n p low
at_node n (Commit p) low = commit_at n p

-- what is true of the transaction of a dependency is so of those of its points
pub leaving_of : (P : ℕ → Type 0) (why : Why) (p : ℕ) → P p → P (place_of_point (leaves_at why p))
leaving_of P (WriteRead k e) p h = h
leaving_of P (WriteWrite k e) p h = h
leaving_of P (FirstCommitter k e) p h = h
leaving_of P (ReadWrite k e) p h = h
leaving_of P RealTime p h = h

pub arriving_of : (P : ℕ → Type 0) (why : Why) (p : ℕ) → P p → P (place_of_point (arrives_at why p))
arriving_of P (WriteRead k e) p h = h
arriving_of P (WriteWrite k e) p h = h
arriving_of P (FirstCommitter k e) p h = h
arriving_of P (ReadWrite k e) p h = h
arriving_of P RealTime p h = h

module _ (n : ℕ) where
  has_map : (xs : List ℕ) (x : ℕ) → includes xs x ≡ true → HasPoint (map (point_of n) xs) (point_of n x)
  has_map [] x h = absurd (false≢true h)
  has_map (y ∷ xs) x h = elim (includes_cons y xs x h) as (λ _. HasPoint (map (point_of n) (y ∷ xs)) (point_of n x)) [
    | inl same ↦ inl (ap (point_of n) same)
    | inr later ↦ inr (has_map xs x later)
  ]

  pub map_has : (xs : List ℕ) (p : Point) → HasPoint (map (point_of n) xs) p → (includes xs (node_of_point n p) ≡ true) × (point_of n (node_of_point n p) ≡ p)
  map_has [] p h = absurd h
  map_has (y ∷ xs) p h = elim h as (λ _. (includes (y ∷ xs) (node_of_point n p) ≡ true) × (point_of n (node_of_point n p) ≡ p)) [
    | inl same ↦
        let is : y ≡ node_of_point n p = sym (node_at n y) ∙ ap (node_of_point n) same in
        (subst (λ z. includes (y ∷ xs) z ≡ true) is (includes_head y xs), ap (point_of n) (sym is) ∙ same)
    | inr later ↦ let r = map_has xs p later in (or_right _ _ r.0, r.1)
  ]

  pub before_map : (xs : List ℕ) (a b : ℕ) → ComesBefore xs a b → IsEarlier (map (point_of n) xs) (point_of n a) (point_of n b)
  before_map [] a b h = absurd h
  before_map (x ∷ xs) a b h = elim h as (λ _. IsEarlier (map (point_of n) (x ∷ xs)) (point_of n a) (point_of n b)) [
    | inl now ↦ inl (ap (point_of n) now.0, has_map xs b now.1)
    | inr later ↦ inr (before_map xs a b later)
  ]

  pub map_before : (xs : List ℕ) (p q : Point) → IsEarlier (map (point_of n) xs) p q → ComesBefore xs (node_of_point n p) (node_of_point n q)
  map_before [] p q h = absurd h
  map_before (x ∷ xs) p q h = elim h as (λ _. ComesBefore (x ∷ xs) (node_of_point n p) (node_of_point n q)) [
    | inl now ↦ inl (sym (node_at n x) ∙ ap (node_of_point n) now.0, (map_has xs q now.1).0)
    | inr later ↦ inr (map_before xs p q later)
  ]
