-- Things in order: the same ones, and what stands once stands once in any order.
use Rattle.std.proofs.Common.{◌≡◌, ℕ, ◌+◌, ◌<◌, ◌≤◌, Bool, true, false, cond, List, [], ◌∷◌, ◌++◌, length, append_assoc, refl, sym, ap, subst, ◌∙◌, arith, length-append}
use Rattle.std.specs.Prelude.{if◌then◌else◌, ◌==◌, ◌||◌, ℤ}
use Rattle.std.specs.List.{list_any, sum_by}
use Rattle.std.specs.List.Sorted.{IsPermutation}
use Rattle.std.proofs.lemmas.Bool.{and_parts, and_from, eqb-true, eq-eqb, false≢true}
use Rattle.std.proofs.lemmas.List.{append-nil}
use Rattle.std.proofs.lemmas.List.Sorted.{All-permutation, IsPermutation-refl, IsPermutation-cons, IsPermutation-middle, IsPermutation-trans, sum_by-IsPermutation}
use Rattle.std.proofs.lemmas.List.Sums.{sum_by-append, sum_by-cons}
use Rattle.std.proofs.Math.Seq.{get_or-append_seam, take-append_seam}
use Rattle.jh_edn.specs.Order.{put_in_order, in_order}
use Rattle.jh_env.specs.Faults.{FaultValue, IsFault, IsBumpAmount, AreApart, kept_list, kept_links, kept_nodes, is_same_link, is_same_node, is_same_bumped}
use Rattle.jh_env.specs.Faults.{Cut, Slow, Loss, Fix, Pause, Kill, Bump}
use Rattle.jh_env.specs.FaultOrder.{fault_in_order, is_link_before, is_node_before, is_bump_before}
use Rattle.jh_env.proofs.FaultLemmas.{kept_apart, none_apart}

put_moves : {X : Type 0} (lt : X → X → Bool) (x : X) (ys : List X) → IsPermutation (x ∷ ys) (put_in_order lt x ys)
put_moves lt x [] = IsPermutation-refl (x ∷ [])
put_moves lt x (y ∷ ys) =
    elim (lt y x) as (λ t. IsPermutation (x ∷ y ∷ ys) (cond t (y ∷ put_in_order lt x ys) (x ∷ y ∷ ys))) [
      | true ↦
          IsPermutation-trans (x ∷ y ∷ ys) (y ∷ x ∷ ys) (y ∷ put_in_order lt x ys) (IsPermutation-middle (x ∷ []) y ys)
          (IsPermutation-cons y (x ∷ ys) (put_in_order lt x ys) (put_moves lt x ys))
      | false ↦ IsPermutation-refl (x ∷ y ∷ ys)
    ]

-- the same things stand in order
pub in_order_moves : {X : Type 0} (lt : X → X → Bool) (xs : List X) → IsPermutation xs (in_order lt xs)
in_order_moves lt [] = IsPermutation-refl []
in_order_moves lt (x ∷ xs) =
    IsPermutation-trans (x ∷ xs) (x ∷ in_order lt xs) (put_in_order lt x (in_order lt xs))
    (IsPermutation-cons x xs (in_order lt xs) (in_order_moves lt xs)) (put_moves lt x (in_order lt xs))

none_of : (x y : Bool) → (x || y) ≡ false → (x ≡ false) × (y ≡ false)
none_of true y e = absurd cc
none_of false y e = (refl, e)

-- a test of whether two are one
record IsSame {X : Type 0} (same : X → X → Bool) : Type 0 where
  pub itself : (x : X) → same x x ≡ true
  pub joins : (x y z : X) → same x z ≡ true → same y z ≡ true → same x y ≡ true

module _ {X : Type 0} (same : X → X → Bool) (o : IsSame same) where
  -- each is unlike those before it
  abbrev Fresh : List X → List X → Type 0
  Fresh kept [] = Unit {0}
  Fresh kept (x ∷ xs) = (list_any (λ k. same k x) kept ≡ false) × Fresh (kept ++ x ∷ []) xs

  fresh_kept : (kept xs : List X) → Fresh kept xs → kept_list same kept xs ≡ kept ++ xs
  fresh_kept kept [] fresh = sym (append-nil kept)
  fresh_kept kept (x ∷ xs) fresh =
      ap (λ t. kept_list same (if t then kept else kept ++ x ∷ []) xs) fresh.0 ∙ fresh_kept (kept ++ x ∷ []) xs fresh.1 ∙ append_assoc kept (x ∷ []) xs

  apart_fresh : (kept xs : List X) → AreApart same (kept ++ xs) → Fresh kept xs
  apart_fresh kept [] apart = tt
  apart_fresh kept (x ∷ xs) apart =
      let within : length kept < length (kept ++ x ∷ xs) = omega (arith, length-append kept (x ∷ xs)) in
      let here = rw (get_or-append_seam kept x xs x, take-append_seam kept (x ∷ xs)) at (apart (length kept) x within) in
      (here, apart_fresh (kept ++ x ∷ []) xs (subst (AreApart same) (sym (append_assoc kept (x ∷ []) xs)) apart))

  -- how many are like it
  abbrev likes : X → List X → ℕ
  likes z xs = sum_by (λ x. cond (same x z) 1 0) xs

  likes-cons : (z x : X) (xs : List X) → likes z (x ∷ xs) ≡ cond (same x z) 1 0 + likes z xs
  likes-cons z x xs = sum_by-cons (λ y. cond (same y z) 1 0) x xs

  likes-push : (z x : X) (xs : List X) → likes z (xs ++ x ∷ []) ≡ likes z xs + cond (same x z) 1 0
  likes-push z x xs = omega (arith, sum_by-append (λ y. cond (same y z) 1 0) xs (x ∷ []), likes-cons z x [])

  none_like : (x z : X) (kept : List X) → same x z ≡ true → list_any (λ k. same k x) kept ≡ false → likes z kept ≡ 0
  none_like x z [] like none = refl
  none_like x z (k ∷ kept) like none =
      let parts = none_of (same k x) (list_any (λ j. same j x) kept) none in
      let rest = none_like x z kept like parts.1 in
      likes-cons z k kept
      ∙ elim (same k z) as (λ t. same k z ≡ t → cond t 1 0 + likes z kept ≡ 0) [
        | true ↦ λ e. absurd (false≢true (sym parts.0 ∙ o.joins k x z e like))
        | false ↦ λ e. omega (arith, rest)
      ] refl

  no_more : (x z : X) (kept : List X) → list_any (λ k. same k x) kept ≡ false → likes z kept ≤ 1 → likes z (kept ++ x ∷ []) ≤ 1
  no_more x z kept none most =
      elim (same x z) as (λ t. same x z ≡ t → likes z (kept ++ x ∷ []) ≡ likes z kept + cond t 1 0 → likes z (kept ++ x ∷ []) ≤ 1) [
        | true ↦ λ e all. let zero = none_like x z kept e none in omega (arith, all, zero)
        | false ↦ λ e all. omega (arith, all, most)
      ] refl (likes-push z x kept)

  fresh_most : (z : X) (kept xs : List X) → Fresh kept xs → likes z kept ≤ 1 → likes z (kept ++ xs) ≤ 1
  fresh_most z kept [] fresh most = subst (λ w. likes z w ≤ 1) (sym (append-nil kept)) most
  fresh_most z kept (x ∷ xs) fresh most =
      subst (λ w. likes z w ≤ 1) (append_assoc kept (x ∷ []) xs) (fresh_most z (kept ++ x ∷ []) xs fresh.1 (no_more x z kept fresh.0 most))

  unlike : (x : X) (kept : List X) → likes x kept ≡ 0 → list_any (λ k. same k x) kept ≡ false
  unlike x [] none = refl
  unlike x (k ∷ kept) none =
      elim (same k x) as (λ t. cond t 1 0 + likes x kept ≡ 0 → (t || list_any (λ j. same j x) kept) ≡ false) [
        | true ↦ λ e. absurd (omega (arith, e))
        | false ↦ λ e. unlike x kept (omega (arith, e))
      ] (sym (likes-cons x k kept) ∙ none)

  fresh_from : (kept xs : List X) → ((z : X) → likes z (kept ++ xs) ≤ 1) → Fresh kept xs
  fresh_from kept [] most = tt
  fresh_from kept (x ∷ xs) most =
      let both = sum_by-append (λ y. cond (same y x) 1 0) kept (x ∷ xs) in
      let one : likes x (x ∷ xs) ≡ 1 + likes x xs = likes-cons x x xs ∙ ap (λ t. cond t 1 0 + likes x xs) (o.itself x) in
      let zero : likes x kept ≡ 0 = omega (arith, both, one, most x) in
      (unlike x kept zero, fresh_from (kept ++ x ∷ []) xs (λ z. subst (λ w. likes z w ≤ 1) (sym (append_assoc kept (x ∷ []) xs)) (most z)))

  -- of things that stand once, in any order, each is kept
  all_kept : (lt : X → X → Bool) (xs : List X) → AreApart same xs → kept_list same [] (in_order lt xs) ≡ in_order lt xs
  all_kept lt xs apart =
      let fresh = apart_fresh [] xs apart in
      let none : 0 ≤ 1 = omega arith in
      fresh_kept [] (in_order lt xs)
      (fresh_from [] (in_order lt xs)
      (λ z. subst (λ n. n ≤ 1) (sym (sum_by-IsPermutation (λ x. cond (same x z) 1 0) xs (in_order lt xs) (in_order_moves lt xs))) (fresh_most z [] xs fresh none)))

  -- and stands apart
  all_apart : (lt : X → X → Bool) (xs : List X) → AreApart same xs → AreApart same (in_order lt xs)
  all_apart lt xs apart = subst (AreApart same) (all_kept lt xs apart) (kept_apart same (in_order lt xs) [] (none_apart same))

node_same : IsSame is_same_node
node_same = record {
  itself = λ x. eq-eqb x x refl;
  joins = λ x y z e f. eq-eqb x y (eqb-true x z e ∙ sym (eqb-true y z f));
}

link_same : IsSame is_same_link
link_same = record {
  itself = λ x. and_from (x.0 == x.0) (x.1 == x.1) (eq-eqb x.0 x.0 refl) (eq-eqb x.1 x.1 refl);
  joins = λ x y z e f.
      let p = and_parts (x.0 == z.0) (x.1 == z.1) e in
      let q = and_parts (y.0 == z.0) (y.1 == z.1) f in
      and_from (x.0 == y.0) (x.1 == y.1) (node_same.joins x.0 y.0 z.0 p.0 q.0) (node_same.joins x.1 y.1 z.1 p.1 q.1);
}

bump_same : IsSame is_same_bumped
bump_same = record {
  itself = λ x. node_same.itself x.0;
  joins = λ x y z e f. node_same.joins x.0 y.0 z.0 e f;
}

-- links in order, each of which stands once, are kept as they are
pub links_kept : (links : List (ℕ × ℕ)) → AreApart is_same_link links → kept_links (in_order is_link_before links) ≡ in_order is_link_before links
links_kept links apart = all_kept is_same_link link_same is_link_before links apart

-- and so are nodes
pub nodes_kept : (nodes : List ℕ) → AreApart is_same_node nodes → kept_nodes (in_order is_node_before nodes) ≡ in_order is_node_before nodes
nodes_kept nodes apart = all_kept is_same_node node_same is_node_before nodes apart

-- a fault is one in order as well
pub in_order_is_fault : (fault : FaultValue) → IsFault fault → IsFault (fault_in_order fault)
in_order_is_fault (Cut links) right = all_apart is_same_link link_same is_link_before links right
in_order_is_fault (Slow ms links) right = (right.0, all_apart is_same_link link_same is_link_before links right.1)
in_order_is_fault (Loss level links) right = (right.0, all_apart is_same_link link_same is_link_before links right.1)
in_order_is_fault (Fix ms links) right = (right.0, all_apart is_same_link link_same is_link_before links right.1)
in_order_is_fault (Pause nodes) right = all_apart is_same_node node_same is_node_before nodes right
in_order_is_fault (Kill nodes) right = all_apart is_same_node node_same is_node_before nodes right
in_order_is_fault (Bump bumps) right =
    (All-permutation (λ (b : ℕ × ℤ). IsBumpAmount b.1) bumps _ (in_order_moves is_bump_before bumps) right.0, all_apart is_same_bumped bump_same is_bump_before bumps right.1)
