-- The latest invocation so far, and clusters one after another.
use Rattle.std.proofs.Common.{◌≡◌, ℕ, zero, suc, ◌+◌, ◌<◌, ◌≤◌, true, Option, Some, List, [], ◌∷◌, ◌++◌, length, take, drop, get_or, Vec, append-nil, refl, sym, ap, subst, ◌∙◌, inl, inr, arith}
use Rattle.std.specs.Prelude.{◌⊎◌}
use Rattle.std.specs.List.{flat_map}
use Rattle.std.specs.declared.alloc.Global.{Global}
use Rattle.std.proofs.lemmas.List.{take_more}
use Rattle.std.proofs.lemmas.List.Concat.{flat_map-append}
use Rattle.jh_linear.specs.declared.register.RegOp.{RegOp}
use Rattle.jh_linear.specs.Order.{op_at, has, StandBefore, Precedes}
use Rattle.jh_unique.specs.Lists.{members_in}
use Rattle.jh_unique.proofs.ListLemmas.{has_left, has_right, has_cases, has_head, one_is, before_across, before_push, cut_at}
use Rattle.jh_unique.proofs.PartLemmas.{over_later}

some_is : (x y : ℕ) → ◌≡◌ {A = Option ℕ} (Some x) (Some y) → x ≡ y
some_is x y h = cc

module _ (ops : List RegOp) (order : List ℕ) (i : ℕ) (low : i < length order) where
  abbrev this : ℕ
  this = get_or order i 0

  pub late_found : (q : ℕ) → has (take i order) q ≡ true → StandBefore order q this
  late_found q h = subst (λ xs. StandBefore xs q this) (sym (cut_at order i low)) (before_across (take i order) (this ∷ drop (i + 1) order) q this h (has_head this (drop (i + 1) order)))

  pub late_more : (latest : Option ℕ) → ((a b : ℕ) → StandBefore (take i order) a b → Precedes ops b a → ⊥)
      → ((a : ℕ) → has (take i order) a ≡ true → (q : ℕ) × (latest ≡ Some q) × ((op_at ops a).invoked ≤ (op_at ops q).invoked))
      → ((q : ℕ) → latest ≡ Some q → Precedes ops this q → ⊥) → (a b : ℕ) → StandBefore (take (i + 1) order) a b → Precedes ops b a → ⊥
  late_more latest so_far high none a b h over = elim (before_push (take i order) this a b (subst (λ xs. StandBefore xs a b) (take_more order i 0 low) h)) as (λ _. ⊥) [
    | inl old ↦ so_far a b old over
    | inr new ↦
        let q = high a new.0 in
        let mine : Precedes ops this a = subst (λ z. Precedes ops z a) (sym new.1) over in
        none q.0 q.1 (mine.0, over_later (op_at ops this).ended (op_at ops a).invoked (op_at ops q.0).invoked mine.1 q.2)
  ]

  pub inside_more : (latest : Option ℕ) (next : ℕ) → ((q : ℕ) → latest ≡ Some q → has (take i order) q ≡ true) → (next ≡ this) ⊎ (latest ≡ Some next) → (q : ℕ) → ◌≡◌ {A = Option ℕ} (Some next) (Some q) → has (take (i + 1) order) q ≡ true
  inside_more latest next inside which q is = subst (λ xs. has xs q ≡ true) (sym (take_more order i 0 low)) (subst (λ z. has (take i order ++ this ∷ []) z ≡ true) (some_is next q is) (elim which as (λ _. has (take i order ++ this ∷ []) next ≡ true) [
    | inl here ↦ has_right (take i order) (this ∷ []) next (subst (λ z. has (this ∷ []) z ≡ true) (sym here) (has_head this []))
    | inr old ↦ has_left (take i order) (this ∷ []) next (inside next old)
  ]))

  pub high_more : (latest : Option ℕ) (next : ℕ) → ((a : ℕ) → has (take i order) a ≡ true → (q : ℕ) × (latest ≡ Some q) × ((op_at ops a).invoked ≤ (op_at ops q).invoked))
      → (op_at ops this).invoked ≤ (op_at ops next).invoked → ((q : ℕ) → latest ≡ Some q → (op_at ops q).invoked ≤ (op_at ops next).invoked)
      → (a : ℕ) → has (take (i + 1) order) a ≡ true → (q : ℕ) × (◌≡◌ {A = Option ℕ} (Some next) (Some q)) × ((op_at ops a).invoked ≤ (op_at ops q).invoked)
  high_more latest next high mine others a h = (
    next,
    refl,
    elim (has_cases (take i order) (this ∷ []) a (subst (λ xs. has xs a ≡ true) (take_more order i 0 low) h)) as (λ _. (op_at ops a).invoked ≤ (op_at ops next).invoked) [
      | inl old ↦ (let q = high a old in let le = others q.0 q.1 in omega (arith, q.2, le))
      | inr here ↦ subst (λ z. (op_at ops z).invoked ≤ (op_at ops next).invoked) (one_is this a here) mine
    ],
  )

pub flat_more : (f : ℕ → List ℕ) (cs : List ℕ) (i : ℕ) → i < length cs → flat_map f (take (i + 1) cs) ≡ flat_map f (take i cs) ++ f (get_or cs i 0)
flat_more f cs i low = ap (flat_map f) (take_more cs i 0 low) ∙ flat_map-append f (take i cs) (get_or cs i 0 ∷ []) ∙ ap (λ ys. flat_map f (take i cs) ++ ys) (append-nil (f (get_or cs i 0)))

pub members_at : (lists : List (Vec ℕ Global)) (c : ℕ) (v : Vec ℕ Global) → c < length lists → v ≡ get_or lists c v → members_in lists c ≡ v.items
members_at [] c v low is = absurd (omega (arith, low))
members_at (x ∷ xs) zero v low is = ap (λ w. w.items) (sym is)
members_at (x ∷ xs) (suc c) v low is = members_at xs c v (omega (arith, low)) is
