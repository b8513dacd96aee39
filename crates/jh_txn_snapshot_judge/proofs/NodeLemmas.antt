-- Points of nodes, and steps of points.
use Rattle.std.proofs.Common.{◌≡◌, ℕ, ◌+◌, ◌-◌, ◌<◌, ◌≤◌, true, false, cond, eqb, eq-eqb, Option, Some, None, List, [], ◌∷◌, ◌++◌, length, get_or, take, drop, map, refl, sym, ap, subst, ◌∙◌, inl, inr, arith, append_assoc}
use Rattle.std.specs.Prelude.{◌≢◌}
use Rattle.std.proofs.lemmas.Bool.{cases_lt, false≢true, lt-ltb, le-ltb, ne_eqb, or_right}
use Rattle.std.proofs.lemmas.List.{drop_more, take_more}
use Rattle.jh_txn.specs.declared.dependency.Step.{Step}
use Rattle.jh_txn.specs.declared.dependency.Why.{Why}
use Rattle.jh_txn.specs.declared.txn.Point.{Point}
use Rattle.jh_txn.specs.declared.txn.Point.TheVariants.{Start, Commit}
use Rattle.jh_txn.specs.Cycles.{first_place}
use Rattle.jh_txn.specs.SnapshotCheckInside.{place_of_point}
use Rattle.jh_txn.specs.SnapshotOrders.{HasPoint, IsEarlier}
use Rattle.jh_txn.specs.Transactions.{ComesBefore, includes}
use Rattle.jh_txn.proofs.ListLemmas.{includes_cons, includes_head}
use Rattle.jh_txn_points.specs.Points.{node_of_point}
use Rattle.jh_txn_snapshot_judge.specs.Nodes.{point_at, point_steps, transaction_at, why_to}
use Rattle.jh_txn_snapshots.specs.PointCycles.{dependency_step, dependency_steps}

pub start_at : (n p : ℕ) → p < n → point_at n p ≡ Start p
start_at n p low = ap (λ b. cond b (Start p) (Commit (p - n))) (lt-ltb p n low)

pub commit_at : (n p : ℕ) → point_at n (n + p) ≡ Commit p
commit_at n p =
    let high : n ≤ n + p = omega arith in
    let back : n + p - n ≡ p = omega arith in
    ap (λ b. cond b (Start (n + p)) (Commit (n + p - n))) (le-ltb (n + p) n high) ∙ ap Commit back

pub node_at : (n x : ℕ) → node_of_point n (point_at n x) ≡ x
node_at n x = elim (cases_lt x n) as (λ _. node_of_point n (point_at n x) ≡ x) [
  | inl low ↦ ap (node_of_point n) (start_at n x low)
  | inr high ↦
      let is : point_at n x ≡ Commit (x - n) = ap (λ b. cond b (Start x) (Commit (x - n))) (le-ltb x n high) in
      let back : n + (x - n) ≡ x = omega (arith, high) in
      ap (node_of_point n) is ∙ back
]

pub at_node : (n : ℕ) (point : Point) → place_of_point point < n → point_at n (node_of_point n point) ≡ point
at_node n (Start p) low = start_at n p low
at_node n (Commit p) low = commit_at n p

module _ (n : ℕ) where
  pub has_map : (xs : List ℕ) (x : ℕ) → includes xs x ≡ true → HasPoint (map (point_at n) xs) (point_at n x)
  has_map [] x h = absurd (false≢true h)
  has_map (y ∷ xs) x h = elim (includes_cons y xs x h) as (λ _. HasPoint (map (point_at n) (y ∷ xs)) (point_at n x)) [
    | inl same ↦ inl (ap (point_at n) same)
    | inr later ↦ inr (has_map xs x later)
  ]

  pub map_has : (xs : List ℕ) (p : Point) → HasPoint (map (point_at n) xs) p → (includes xs (node_of_point n p) ≡ true) × (point_at n (node_of_point n p) ≡ p)
  map_has [] p h = absurd h
  map_has (y ∷ xs) p h = elim h as (λ _. (includes (y ∷ xs) (node_of_point n p) ≡ true) × (point_at n (node_of_point n p) ≡ p)) [
    | inl same ↦
        let is : y ≡ node_of_point n p = sym (node_at n y) ∙ ap (node_of_point n) same in
        (subst (λ z. includes (y ∷ xs) z ≡ true) is (includes_head y xs), ap (point_at n) (sym is) ∙ same)
    | inr later ↦ let r = map_has xs p later in (or_right _ _ r.0, r.1)
  ]

  pub before_map : (xs : List ℕ) (a b : ℕ) → ComesBefore xs a b → IsEarlier (map (point_at n) xs) (point_at n a) (point_at n b)
  before_map [] a b h = absurd h
  before_map (x ∷ xs) a b h = elim h as (λ _. IsEarlier (map (point_at n) (x ∷ xs)) (point_at n a) (point_at n b)) [
    | inl now ↦ inl (ap (point_at n) now.0, has_map xs b now.1)
    | inr later ↦ inr (before_map xs a b later)
  ]

  pub map_before : (xs : List ℕ) (p q : Point) → IsEarlier (map (point_at n) xs) p q → ComesBefore xs (node_of_point n p) (node_of_point n q)
  map_before [] p q h = absurd h
  map_before (x ∷ xs) p q h = elim h as (λ _. ComesBefore (x ∷ xs) (node_of_point n p) (node_of_point n q)) [
    | inl now ↦ inl (sym (node_at n x) ∙ ap (node_of_point n) now.0, (map_has xs q now.1).0)
    | inr later ↦ inr (map_before xs p q later)
  ]

  first_push : (xs : List Step) (s : Step) (last : ℕ) → first_place (xs ++ s ∷ []) last ≡ first_place xs s.place
  first_push [] s last = refl
  first_push (x ∷ xs) s last = refl

  pub steps_push : (xs : List Step) (s : Step) (last : ℕ) → point_steps n (xs ++ s ∷ []) last ≡ point_steps n xs s.place ++ (point_at n s.place, why_to n s last) ∷ []
  steps_push [] s last = refl
  steps_push (x ∷ xs) s last = ap (λ to. (point_at n x.place, why_to n x to) ∷ point_steps n (xs ++ s ∷ []) last) (first_push xs s last) ∙ ap (λ zs. (point_at n x.place, why_to n x (first_place xs s.place)) ∷ zs) (steps_push xs s last)

pub dependencies_append : (xs ys : List (Point × Option Why)) → dependency_steps (xs ++ ys) ≡ dependency_steps xs ++ dependency_steps ys
dependencies_append [] ys = refl
dependencies_append (x ∷ xs) ys = ap (λ zs. dependency_step x.0 x.1 ++ zs) (dependencies_append xs ys) ∙ sym (append_assoc (dependency_step x.0 x.1) (dependency_steps xs) (dependency_steps ys))

nil_right : (xs : List Step) → xs ++ [] ≡ xs
nil_right [] = refl
nil_right (x ∷ xs) = ap (λ zs. x ∷ zs) (nil_right xs)

-- the dependencies of one step more
module _ (n : ℕ) (steps : List Step) (i last : ℕ) (d : Step) (low : i < length steps) (old : List Step) (is : old ≡ dependency_steps (point_steps n (take i steps) (first_place (drop i steps) last))) where
  abbrev Now : Step
  Now = get_or steps i d

  abbrev Next : ℕ
  Next = first_place (drop (i + 1) steps) last

  grown : dependency_steps (point_steps n (take (i + 1) steps) Next) ≡ old ++ dependency_steps ((point_at n Now.place, why_to n Now Next) ∷ [])
  grown =
      let at : first_place (drop i steps) last ≡ Now.place = ap (λ xs. first_place xs last) (drop_more steps i d low) in
      ap (λ xs. dependency_steps (point_steps n xs Next)) (take_more steps i d low)
      ∙ ap dependency_steps (steps_push n (take i steps) Now Next)
      ∙ dependencies_append (point_steps n (take i steps) Now.place) ((point_at n Now.place, why_to n Now Next) ∷ [])
      ∙ ap (λ p. dependency_steps (point_steps n (take i steps) p) ++ dependency_steps ((point_at n Now.place, why_to n Now Next) ∷ [])) (sym at)
      ∙ ap (λ xs. xs ++ dependency_steps ((point_at n Now.place, why_to n Now Next) ∷ [])) (sym is)

  pub grow_push : (next place : ℕ) → next ≡ Next → next ≢ n + Now.place → place ≡ transaction_at n Now.place → old ++ record { place = place; why = Now.why } ∷ [] ≡ dependency_steps (point_steps n (take (i + 1) steps) Next)
  grow_push next place same differ at =
      let test : eqb Next (n + Now.place) ≡ false = ne_eqb Next (n + Now.place) (λ e. differ (same ∙ e)) in
      let one : dependency_steps ((point_at n Now.place, why_to n Now Next) ∷ []) ≡ record { place = transaction_at n Now.place; why = Now.why } ∷ [] = ap (λ b. dependency_steps ((point_at n Now.place, cond b None (Some Now.why)) ∷ [])) test in
      ap (λ p. old ++ record { place = p; why = Now.why } ∷ []) at ∙ ap (λ xs. old ++ xs) (sym one) ∙ sym grown

  pub grow_skip : (next : ℕ) → next ≡ Next → next ≡ n + Now.place → old ≡ dependency_steps (point_steps n (take (i + 1) steps) Next)
  grow_skip next same here =
      let test : eqb Next (n + Now.place) ≡ true = eq-eqb Next (n + Now.place) (sym same ∙ here) in
      let one : dependency_steps ((point_at n Now.place, why_to n Now Next) ∷ []) ≡ [] = ap (λ b. dependency_steps ((point_at n Now.place, cond b None (Some Now.why)) ∷ [])) test in
      sym (nil_right old) ∙ ap (λ xs. old ++ xs) (sym one) ∙ sym grown
