-- What is split from a distinct list is distinct.
use Rattle.std.proofs.Common.{◌≡◌, ℕ, zero, suc, Bool, true, cond, List, [], ◌∷◌, ◌++◌, refl, sym, ap, subst, ◌∙◌, inl, inr, arith}
use Rattle.std.specs.Prelude.{Vec, filter, not, ◌==◌}
use Rattle.std.specs.List.{Contains, flat_map}
use Rattle.std.specs.declared.alloc.Global.{Global}
use Rattle.std.proofs.lemmas.Bool.{cases_Bool, both_ways, not-true, eq-eqb}
use Rattle.std.proofs.lemmas.List.{append-nil, get_or_default}
use Rattle.std.proofs.lemmas.List.Elements.{All-filter, All-contains, All-contains_itself, filter_passes}
use Rattle.jh_grudge.specs.Lists.{AreDistinct, nodes_end_to_end, lists_of, split_of}
use Rattle.jh_grudge.proofs.ListLemmas.{distinct_none, distinct_tail}

distinct_cons : (x : ℕ) (xs : List ℕ) → ¬ Contains xs x → AreDistinct xs → AreDistinct (x ∷ xs)
distinct_cons x xs lacks distinct i zero d less below = absurd (omega arith)
distinct_cons x xs lacks distinct zero (suc j) d less below = λ same. lacks (j, omega arith, get_or_default xs j x d (omega arith) ∙ sym same)
distinct_cons x xs lacks distinct (suc i) (suc j) d less below = distinct i j d (omega arith) (omega arith)

kept_in : (test : ℕ → Bool) (xs : List ℕ) (a : ℕ) → Contains (filter test xs) a → Contains xs a
kept_in test xs a has = All-contains (Contains xs) (filter test xs) a (All-filter test (Contains xs) xs (All-contains_itself xs)) has

kept_passes : (test : ℕ → Bool) (xs : List ℕ) (a : ℕ) → Contains (filter test xs) a → test a ≡ true
kept_passes test xs a has = All-contains (λ x. test x ≡ true) (filter test xs) a (filter_passes test xs) has

distinct-filter : (test : ℕ → Bool) (xs : List ℕ) → AreDistinct xs → AreDistinct (filter test xs)
distinct-filter test [] distinct = distinct_none
distinct-filter test (x ∷ xs) distinct =
    let others = distinct-filter test xs (distinct_tail x xs distinct) in
    let lacks : ¬ Contains (filter test xs) x = λ has. (let (k, below, is) = kept_in test xs x has in distinct 0 (suc k) x (omega arith) (omega arith) (sym is)) in
    elim (cases_Bool (test x)) [
      | inl hit ↦ subst (λ (b : Bool). AreDistinct (cond b (x ∷ filter test xs) (filter test xs))) (sym hit) (distinct_cons x (filter test xs) lacks others)
      | inr miss ↦ subst (λ (b : Bool). AreDistinct (cond b (x ∷ filter test xs) (filter test xs))) (sym miss) others
    ]

joined_lists : (components : List (Vec ℕ Global)) → nodes_end_to_end components ≡ flat_map (λ xs. xs) (lists_of components)
joined_lists [] = refl
joined_lists (x ∷ xs) = ap (λ ys. x.items ++ ys) (joined_lists xs)

pub split_distinct : (components : List (Vec ℕ Global)) (loner : ℕ) (nodes : List ℕ) → lists_of components ≡ split_of loner nodes → AreDistinct nodes → AreDistinct (nodes_end_to_end components)
split_distinct components loner nodes is distinct =
    let test = λ (node : ℕ). not (node == loner) in
    let all : nodes_end_to_end components ≡ loner ∷ filter test nodes = joined_lists components ∙ ap (flat_map (λ xs. xs)) is ∙ ap (λ xs. loner ∷ xs) (append-nil (filter test nodes)) in
    subst (λ (xs : List ℕ). AreDistinct xs) (sym all)
    (distinct_cons loner (filter test nodes) (λ has. both_ways _ (not-true _ (kept_passes test nodes loner has)) (eq-eqb loner loner refl)) (distinct-filter test nodes distinct))
