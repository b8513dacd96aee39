-- Lists in order: a stable sort gives `in_order`, and a list in an exact order has one order.
use Rattle.std.proofs.Common.{◌≡◌, ℕ, suc, ◌+◌, ◌≤◌, ◌<◌, Bool, true, false, cond, not, ◌&&◌, List, [], ◌∷◌, length, get_or, map, refl, sym, ap, subst, ◌∙◌, arith}
use Rattle.std.specs.Cmp.{IsStrictWeakOrder}
use Rattle.std.specs.List.{filter}
use Rattle.std.specs.List.Sorted.{IsSortedBy, IsStableBy, ties}
use Rattle.std.proofs.lemmas.List.Sorted.{sorted_far}
use Rattle.jh_edn.specs.Order.{put_in_order, in_order}

pub both : (a b : Bool) → (a && b) ≡ true → (a ≡ true) × (b ≡ true)
both true b h = (refl, h)
both false b h = absurd cc

pub no_both : {b : Bool} → b ≡ true → b ≡ false → ⊥
no_both e f = let bad : true ≡ false = sym e ∙ f in cc

not_true : (b : Bool) → not b ≡ true → b ≡ false
not_true true h = absurd cc
not_true false h = refl

-- a sum over a list in order
module _ {X : Type 0} (lt : X → X → Bool) (of : X → ℕ) (total : List X → ℕ) (more : (x : X) (xs : List X) → total (x ∷ xs) ≡ of x + total xs) where
  put_total : (x : X) (ys : List X) → total (put_in_order lt x ys) ≡ total (x ∷ ys)
  put_total x [] = refl
  put_total x (y ∷ ys) =
      elim (lt y x) as (λ t. total (cond t (y ∷ put_in_order lt x ys) (x ∷ y ∷ ys)) ≡ total (x ∷ y ∷ ys)) [
        | true ↦ omega (arith, more y (put_in_order lt x ys), put_total x ys, more x ys, more y ys, more x (y ∷ ys))
        | false ↦ refl
      ]

  pub in_order_total : (xs : List X) → total (in_order lt xs) ≡ total xs
  in_order_total [] = refl
  in_order_total (x ∷ xs) = omega (arith, put_total x (in_order lt xs), more x (in_order lt xs), in_order_total xs, more x xs)

module _ {X : Type 0} (lt : X → X → Bool) (o : IsStrictWeakOrder lt) where
  pub below_itself : (x : X) → lt x x ≡ false
  below_itself x = elim (lt x x) as (λ b. lt x x ≡ b → b ≡ false) [ true ↦ λ e. sym e ∙ o.one_way x x e | false ↦ λ e. refl ] refl

  pub tied : (x y : X) → ties lt x y ≡ true → (lt x y ≡ false) × (lt y x ≡ false)
  tied x y h = let p = both (not (lt x y)) (not (lt y x)) h in (not_true (lt x y) p.0, not_true (lt y x) p.1)

  pub ties_from : (x y : X) → lt x y ≡ false → lt y x ≡ false → ties lt x y ≡ true
  ties_from x y h k = rw (h, k) refl

  -- x is not above any
  abbrev pub Below : X → List X → Type 0
  Below x [] = Unit {0}
  Below x (y ∷ ys) = (lt y x ≡ false) × Below x ys

  abbrev pub Ascends : List X → Type 0
  Ascends [] = Unit {0}
  Ascends (x ∷ xs) = Below x xs × Ascends xs

  below_all : (x y : X) (ys : List X) → lt y x ≡ false → Below y ys → Below x ys
  below_all x y [] h b = tt
  below_all x y (z ∷ zs) h b = (o.chain z y x b.0 h, below_all x y zs h b.1)

  below_put : (y x : X) (ys : List X) → Below y ys → lt x y ≡ false → Below y (put_in_order lt x ys)
  below_put y x [] b h = (h, tt)
  below_put y x (z ∷ zs) b h =
      elim (lt z x) as (λ t. Below y (cond t (z ∷ put_in_order lt x zs) (x ∷ z ∷ zs))) [
        | true ↦ (b.0, below_put y x zs b.1 h)
        | false ↦ (h, b)
      ]

  put_ascends : (x : X) (ys : List X) → Ascends ys → Ascends (put_in_order lt x ys)
  put_ascends x [] a = (tt, tt)
  put_ascends x (y ∷ ys) a =
      elim (lt y x) as (λ t. lt y x ≡ t → Ascends (cond t (y ∷ put_in_order lt x ys) (x ∷ y ∷ ys))) [
        | true ↦ λ e. (below_put y x ys a.0 (o.one_way y x e), put_ascends x ys a.1)
        | false ↦ λ e. ((e, below_all x y ys e a.0), a)
      ] refl

  pub in_order_ascends : (xs : List X) → Ascends (in_order lt xs)
  in_order_ascends [] = tt
  in_order_ascends (x ∷ xs) = put_ascends x (in_order lt xs) (in_order_ascends xs)

  -- ---- those that tie stay as they stood

  swap_ties : (z x y : X) (ys : List X) → lt y x ≡ true → filter (ties lt z) (y ∷ x ∷ ys) ≡ filter (ties lt z) (x ∷ y ∷ ys)
  swap_ties z x y ys h =
      elim (ties lt z x) as (λ b. ties lt z x ≡ b → cond (ties lt z y) (y ∷ cond b (x ∷ filter (ties lt z) ys) (filter (ties lt z) ys)) (cond b (x ∷ filter (ties lt z) ys) (filter (ties lt z) ys)) ≡ cond b (x ∷ cond (ties lt z y) (y ∷ filter (ties lt z) ys) (filter (ties lt z) ys)) (cond (ties lt z y) (y ∷ filter (ties lt z) ys) (filter (ties lt z) ys))) [
        | true ↦ λ e.
            elim (ties lt z y) as (λ c. ties lt z y ≡ c → cond c (y ∷ x ∷ filter (ties lt z) ys) (x ∷ filter (ties lt z) ys) ≡ (x ∷ cond c (y ∷ filter (ties lt z) ys) (filter (ties lt z) ys))) [
              | true ↦ λ f. absurd (no_both h (o.chain y z x (tied z y f).1 (tied z x e).0))
              | false ↦ λ f. refl
            ] refl
        | false ↦ λ e. refl
      ] refl

  put_ties : (z x : X) (ys : List X) → filter (ties lt z) (put_in_order lt x ys) ≡ filter (ties lt z) (x ∷ ys)
  put_ties z x [] = refl
  put_ties z x (y ∷ ys) =
      elim (lt y x) as (λ t. lt y x ≡ t → filter (ties lt z) (cond t (y ∷ put_in_order lt x ys) (x ∷ y ∷ ys)) ≡ filter (ties lt z) (x ∷ y ∷ ys)) [
        | true ↦ λ e. ap (λ w. cond (ties lt z y) (y ∷ w) w) (put_ties z x ys) ∙ swap_ties z x y ys e
        | false ↦ λ e. refl
      ] refl

  in_order_ties : (z : X) (xs : List X) → filter (ties lt z) (in_order lt xs) ≡ filter (ties lt z) xs
  in_order_ties z [] = refl
  in_order_ties z (x ∷ xs) = put_ties z x (in_order lt xs) ∙ ap (λ w. cond (ties lt z x) (x ∷ w) w) (in_order_ties z xs)

  -- ---- lists that ascend and have the same that tie are one

  some_tie : (x y a : X) (zs rest : List X) → Below y zs → filter (ties lt x) zs ≡ a ∷ rest → lt x y ≡ false
  some_tie x y a [] rest b h = absurd cc
  some_tie x y a (z ∷ zs) rest b h =
      elim (ties lt x z) as (λ t. ties lt x z ≡ t → cond t (z ∷ filter (ties lt x) zs) (filter (ties lt x) zs) ≡ a ∷ rest → lt x y ≡ false) [
        | true ↦ λ e f. o.chain x z y (tied x z e).0 b.0
        | false ↦ λ e f. some_tie x y a zs rest b.1 f
      ] refl h

  own_ties : (x : X) (xs : List X) → filter (ties lt x) (x ∷ xs) ≡ x ∷ filter (ties lt x) xs
  own_ties x xs = rw (ties_from x x (below_itself x) (below_itself x)) refl

  -- the first of one list is not below that of the other
  not_below : (x y : X) (xs ys : List X) → Below y ys → filter (ties lt x) (x ∷ xs) ≡ filter (ties lt x) (y ∷ ys) → lt x y ≡ false
  not_below x y xs ys b h = some_tie x y x (y ∷ ys) (filter (ties lt x) xs) (below_itself y, b) (sym h ∙ own_ties x xs)

  tail_ties : (z x : X) (xs ys : List X) → filter (ties lt z) (x ∷ xs) ≡ filter (ties lt z) (x ∷ ys) → filter (ties lt z) xs ≡ filter (ties lt z) ys
  tail_ties z x xs ys h =
      elim (ties lt z x) as (λ t. cond t (x ∷ filter (ties lt z) xs) (filter (ties lt z) xs) ≡ cond t (x ∷ filter (ties lt z) ys) (filter (ties lt z) ys) → filter (ties lt z) xs ≡ filter (ties lt z) ys) [
        | true ↦ λ e. cc
        | false ↦ λ e. e
      ] h

  one_stable : (xs ys : List X) → Ascends xs → Ascends ys → ((z : X) → filter (ties lt z) xs ≡ filter (ties lt z) ys) → xs ≡ ys
  one_stable [] [] a b h = refl
  one_stable [] (y ∷ ys) a b h = absurd (let bad : [] ≡ y ∷ filter (ties lt y) ys = h y ∙ own_ties y ys in cc)
  one_stable (x ∷ xs) [] a b h = absurd (let bad : [] ≡ x ∷ filter (ties lt x) xs = sym (h x) ∙ own_ties x xs in cc)
  one_stable (x ∷ xs) (y ∷ ys) a b h =
      let up : lt x y ≡ false = not_below x y xs ys b.0 (h x) in
      let down : lt y x ≡ false = not_below y x ys xs a.0 (sym (h y)) in
      let other : filter (ties lt x) (y ∷ ys) ≡ y ∷ filter (ties lt x) ys = rw (ties_from x y up down) refl in
      let firsts : x ∷ filter (ties lt x) xs ≡ y ∷ filter (ties lt x) ys = sym (own_ties x xs) ∙ h x ∙ other in
      let heads : x ≡ y = cc in
      let tails : (z : X) → filter (ties lt z) xs ≡ filter (ties lt z) ys =
      λ z. tail_ties z x xs ys (h z ∙ ap (λ w. filter (ties lt z) (w ∷ ys)) (sym heads)) in
      λ i. heads i ∷ one_stable xs ys a.1 b.1 tails i

  -- each is not above those after it, by index
  below_from : (x : X) (xs : List X) → ((j : ℕ) (d : X) → j < length xs → lt (get_or xs j d) x ≡ false) → Below x xs
  below_from x [] h = tt
  below_from x (y ∷ ys) h = (h 0 x (omega arith), below_from x ys (λ j d less. h (suc j) d (omega arith)))

  ascends_from : (xs : List X) → ((i j : ℕ) (d : X) → i ≤ j → j < length xs → lt (get_or xs j d) (get_or xs i d) ≡ false) → Ascends xs
  ascends_from [] h = tt
  ascends_from (x ∷ xs) h =
      (below_from x xs (λ j d less. h 0 (suc j) d (omega arith) (omega arith)), ascends_from xs (λ i j d le less. h (suc i) (suc j) d (omega arith) (omega arith)))

  -- a stable sort gives the list in order
  pub sorted_is : (xs ys : List X) → IsSortedBy lt ys → IsStableBy lt xs ys → ys ≡ in_order lt xs
  sorted_is xs ys up still =
      one_stable ys (in_order lt xs) (ascends_from ys (λ i j d le less. sorted_far lt o ys up i j d le less)) (in_order_ascends xs)
      (λ z. still z ∙ sym (in_order_ties z xs))

  -- ---- counting

  -- how often it is among these
  abbrev pub count : X → List X → ℕ
  count z [] = 0
  count z (x ∷ xs) = cond (ties lt z x) 1 0 + count z xs

  pub in_order_count : (z : X) (xs : List X) → count z (in_order lt xs) ≡ count z xs
  in_order_count z = in_order_total lt (λ x. cond (ties lt z x) 1 0) (count z) (λ x xs. refl)

  pub own : (x : X) (xs : List X) → 0 < count x (x ∷ xs)
  own x xs = rw (ties_from x x (below_itself x) (below_itself x)) (omega arith)

  -- ---- a fact of each

  abbrev pub Each : (X → Type 0) → List X → Type 0
  Each P [] = Unit {0}
  Each P (x ∷ xs) = P x × Each P xs

  put_each : (P : X → Type 0) (x : X) (ys : List X) → P x → Each P ys → Each P (put_in_order lt x ys)
  put_each P x [] h e = (h, tt)
  put_each P x (y ∷ ys) h e =
      elim (lt y x) as (λ t. Each P (cond t (y ∷ put_in_order lt x ys) (x ∷ y ∷ ys))) [
        | true ↦ (e.0, put_each P x ys h e.1)
        | false ↦ (h, e)
      ]

  pub in_order_each : (P : X → Type 0) (xs : List X) → Each P xs → Each P (in_order lt xs)
  in_order_each P [] e = tt
  in_order_each P (x ∷ xs) e = put_each P x (in_order lt xs) e.0 (in_order_each P xs e.1)

  -- ---- no two tie

  abbrev pub Unlike : List X → Type 0
  Unlike [] = Unit {0}
  Unlike (x ∷ xs) = Each (λ y. ties lt x y ≡ false) xs × Unlike xs

  ties_back : (x y : X) → ties lt x y ≡ false → ties lt y x ≡ false
  ties_back x y h =
      elim (ties lt y x) as (λ b. ties lt y x ≡ b → b ≡ false) [
        | true ↦ λ e. absurd (let p = tied y x e in no_both (ties_from x y p.1 p.0) h)
        | false ↦ λ e. refl
      ] refl

  put_unlike : (x : X) (ys : List X) → Unlike (x ∷ ys) → Unlike (put_in_order lt x ys)
  put_unlike x [] u = u
  put_unlike x (y ∷ ys) u =
      elim (lt y x) as (λ t. Unlike (cond t (y ∷ put_in_order lt x ys) (x ∷ y ∷ ys))) [
        | true ↦ (put_each (λ z. ties lt y z ≡ false) x ys (ties_back x y u.0.0) u.1.0, put_unlike x ys (u.0.1, u.1.1))
        | false ↦ u
      ]

  pub in_order_unlike : (xs : List X) → Unlike xs → Unlike (in_order lt xs)
  in_order_unlike [] u = tt
  in_order_unlike (x ∷ xs) u = put_unlike x (in_order lt xs) (in_order_each (λ y. ties lt x y ≡ false) xs u.0, in_order_unlike xs u.1)

  -- of two that do not tie, the one that is not above the other is below it
  pub strictly : (x y : X) → lt y x ≡ false → ties lt x y ≡ false → lt x y ≡ true
  strictly x y h k =
      elim (lt x y) as (λ b. lt x y ≡ b → b ≡ true) [ true ↦ λ e. refl | false ↦ λ e. absurd (no_both (ties_from x y e h) k) ] refl

  put_first : (x : X) (xs : List X) → Below x xs → put_in_order lt x xs ≡ x ∷ xs
  put_first x [] b = refl
  put_first x (y ∷ ys) b = rw b.0 refl

  -- a list that ascends is in order
  pub in_order_is : (xs : List X) → Ascends xs → in_order lt xs ≡ xs
  in_order_is [] a = refl
  in_order_is (x ∷ xs) a = ap (put_in_order lt x) (in_order_is xs a.1) ∙ put_first x xs a.0

-- ---- where only equal things tie

module _ {X : Type 0} (lt : X → X → Bool) (o : IsStrictWeakOrder lt) (exact : (x y : X) → ties lt x y ≡ true → x ≡ y) where
  among : (x z : X) (ys : List X) → Below lt o x ys → 0 < count lt o z ys → lt z x ≡ false
  among x z [] h less = absurd (omega arith)
  among x z (y ∷ ys) h less =
      elim (ties lt z y) as (λ b. ties lt z y ≡ b → 0 < cond b 1 0 + count lt o z ys → lt z x ≡ false) [
        | true ↦ λ e l. subst (λ w. lt w x ≡ false) (sym (exact z y e)) h.0
        | false ↦ λ e l. among x z ys h.1 (omega arith)
      ] refl less

  -- a list that ascends has one order
  pub one_order : (xs ys : List X) → Ascends lt o xs → Ascends lt o ys → ((z : X) → count lt o z xs ≡ count lt o z ys) → xs ≡ ys
  one_order [] [] a b h = refl
  one_order [] (y ∷ ys) a b h = absurd (omega (arith, h y, own lt o y ys))
  one_order (x ∷ xs) [] a b h = absurd (omega (arith, h x, own lt o x xs))
  one_order (x ∷ xs) (y ∷ ys) a b h =
      let up : lt y x ≡ false = among x y (x ∷ xs) (below_itself lt o x, a.0) (omega (arith, h y, own lt o y ys)) in
      let down : lt x y ≡ false = among y x (y ∷ ys) (below_itself lt o y, b.0) (omega (arith, h x, own lt o x xs)) in
      let heads : x ≡ y = exact x y (ties_from lt o x y down up) in
      let tails : (z : X) → count lt o z xs ≡ count lt o z ys =
      λ z. let one : X → ℕ = λ w. cond (ties lt z w) 1 0 in let e : one x ≡ one y = ap one heads in omega (arith, h z, e) in
      λ i. heads i ∷ one_order xs ys a.1 b.1 tails i

-- ---- in order by what a function says of each

module _ {X Y : Type 0} (f : X → Y) (lt : Y → Y → Bool) where
  map_put : (x : X) (ys : List X) → map f (put_in_order (λ a b. lt (f a) (f b)) x ys) ≡ put_in_order lt (f x) (map f ys)
  map_put x [] = refl
  map_put x (y ∷ ys) =
      elim (lt (f y) (f x)) as (λ t. map f (cond t (y ∷ put_in_order (λ a b. lt (f a) (f b)) x ys) (x ∷ y ∷ ys)) ≡ cond t (f y ∷ put_in_order lt (f x) (map f ys)) (f x ∷ f y ∷ map f ys)) [
        | true ↦ ap (λ w. f y ∷ w) (map_put x ys)
        | false ↦ refl
      ]

  pub map_in_order : (xs : List X) → map f (in_order (λ a b. lt (f a) (f b)) xs) ≡ in_order lt (map f xs)
  map_in_order [] = refl
  map_in_order (x ∷ xs) = map_put x (in_order (λ a b. lt (f a) (f b)) xs) ∙ ap (put_in_order lt (f x)) (map_in_order xs)
