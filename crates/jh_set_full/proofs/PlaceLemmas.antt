-- The latest and the earliest of places.
use Rattle.std.proofs.Common.{◌≡◌, ℕ, zero, suc, ◌+◌, ◌<◌, Bool, true, false, cond, nat_lt, List, [], ◌∷◌, ◌++◌, length, take, get_or, set, replicate, map, refl, sym, ap, ◌∙◌, arith}
use Rattle.std.specs.Prelude.{Option, Some, None, max, min}
use Rattle.std.specs.List.{filter, cons_option}
use Rattle.std.proofs.lemmas.Bool.{lt-ltb, le-ltb}
use Rattle.std.proofs.lemmas.Bool.Decides.{nat_tests}
use Rattle.std.proofs.lemmas.List.{map-append, take_more}
use Rattle.std.proofs.lemmas.List.Elements.{filter-append}
use Rattle.jh_ops.specs.declared.pairs.Pair.{Pair}
use Rattle.jh_set_full.specs.SetFull.{earlier_of, greatest_of, invoke_place, later_of, least}
use Rattle.jh_set_full.specs.Inside.{from_end, latest_of, newest_within}

-- ---- the later of two

pub later_none : (a : Option ℕ) → later_of a None ≡ a
later_none None = refl
later_none (Some a) = refl

pub later_assoc : (a b d : Option ℕ) → later_of (later_of a b) d ≡ later_of a (later_of b d)
later_assoc None b d = refl
later_assoc (Some a) None d = refl
later_assoc (Some a) (Some b) None = refl
later_assoc (Some a) (Some b) (Some d) = let e : max (max a b) d ≡ max a (max b d) = omega arith in ap Some e

pub later_back : (a b : Option ℕ) → later_of a b ≡ later_of b a
later_back None b = sym (later_none b)
later_back (Some a) None = refl
later_back (Some a) (Some b) = let e : max a b ≡ max b a = omega arith in ap Some e

earlier_none : (a : Option ℕ) → earlier_of a None ≡ a
earlier_none None = refl
earlier_none (Some a) = refl

earlier_assoc : (a b d : Option ℕ) → earlier_of (earlier_of a b) d ≡ earlier_of a (earlier_of b d)
earlier_assoc None b d = refl
earlier_assoc (Some a) None d = refl
earlier_assoc (Some a) (Some b) None = refl
earlier_assoc (Some a) (Some b) (Some d) = let e : min (min a b) d ≡ min a (min b d) = omega arith in ap Some e

-- ---- one place more

greatest-append : (xs ys : List ℕ) → greatest_of (xs ++ ys) ≡ later_of (greatest_of xs) (greatest_of ys)
greatest-append [] ys = refl
greatest-append (x ∷ xs) ys = ap (later_of (Some x)) (greatest-append xs ys) ∙ sym (later_assoc (Some x) (greatest_of xs) (greatest_of ys))

least-append : (xs ys : List ℕ) → least (xs ++ ys) ≡ earlier_of (least xs) (least ys)
least-append [] ys = refl
least-append (x ∷ xs) ys = ap (earlier_of (Some x)) (least-append xs ys) ∙ sym (earlier_assoc (Some x) (least xs) (least ys))

pub greatest_more : {A : Type 0} (f : A → ℕ) (test : A → Bool) (xs : List A) (x : A)
    → greatest_of (map f (filter test (xs ++ x ∷ []))) ≡ later_of (greatest_of (map f (filter test xs))) (cond (test x) (Some (f x)) None)
greatest_more {A} f test xs x =
    ap (λ w. greatest_of (map f w)) (filter-append test xs (x ∷ []))
    ∙ ap greatest_of (map-append f (filter test xs) (filter test (x ∷ [])))
    ∙ greatest-append (map f (filter test xs)) (map f (filter test (x ∷ [])))
    ∙ ap (later_of (greatest_of (map f (filter test xs)))) (one (test x)) where
      one : (b : Bool) → greatest_of (map f (cond b (x ∷ []) [])) ≡ cond b (Some (f x)) None
      one true = refl
      one false = refl

pub least_more : {A : Type 0} (f : A → ℕ) (test : A → Bool) (xs : List A) (x : A)
    → least (map f (filter test (xs ++ x ∷ []))) ≡ earlier_of (least (map f (filter test xs))) (cond (test x) (Some (f x)) None)
least_more {A} f test xs x =
    ap (λ w. least (map f w)) (filter-append test xs (x ∷ []))
    ∙ ap least (map-append f (filter test xs) (filter test (x ∷ [])))
    ∙ least-append (map f (filter test xs)) (map f (filter test (x ∷ [])))
    ∙ ap (earlier_of (least (map f (filter test xs)))) (one (test x)) where
      one : (b : Bool) → least (map f (cond b (x ∷ []) [])) ≡ cond b (Some (f x)) None
      one true = refl
      one false = refl

least_with : (o : Option ℕ) (xs : List ℕ) → least (cons_option o xs) ≡ earlier_of o (least xs)
least_with None xs = refl
least_with (Some n) xs = refl

pub least_with_more : {A : Type 0} (o : Option ℕ) (f : A → ℕ) (test : A → Bool) (xs : List A) (x : A)
    → least (cons_option o (map f (filter test (xs ++ x ∷ [])))) ≡ earlier_of (least (cons_option o (map f (filter test xs)))) (cond (test x) (Some (f x)) None)
least_with_more o f test xs x =
    least_with o (map f (filter test (xs ++ x ∷ [])))
    ∙ ap (earlier_of o) (least_more f test xs x)
    ∙ sym (earlier_assoc o (least (map f (filter test xs))) (cond (test x) (Some (f x)) None))
    ∙ ap (λ w. earlier_of w (cond (test x) (Some (f x)) None)) (sym (least_with o (map f (filter test xs))))

pub greatest_pushed : (xs : List ℕ) (x : ℕ) → later_of (greatest_of xs) (Some x) ≡ greatest_of (xs ++ x ∷ [])
greatest_pushed xs x = sym (greatest-append xs (x ∷ []))

-- ---- marks

pub latest_more : (xs : List (Option ℕ)) (x : Option ℕ) → latest_of (xs ++ x ∷ []) ≡ later_of (latest_of xs) x
latest_more [] x = later_none x
latest_more (y ∷ ys) x = ap (later_of y) (latest_more ys x) ∙ sym (later_assoc y (latest_of ys) x)

pub latest_taken : (xs : List (Option ℕ)) (i : ℕ) (d : Option ℕ) → i < length xs → later_of (latest_of (take i xs)) (get_or xs i d) ≡ latest_of (take (i + 1) xs)
latest_taken xs i d less = sym (latest_more (take i xs) (get_or xs i d)) ∙ ap latest_of (sym (take_more xs i d less))

at_front : (ts : List (Option ℕ)) (x d : Option ℕ) (near : ℕ) → near < length ts → get_or (ts ++ x ∷ []) near d ≡ get_or ts near d
at_front [] x d near less = absurd (omega (arith, less))
at_front (t ∷ ts) x d zero less = refl
at_front (t ∷ ts) x d (suc near) less = at_front ts x d near (omega (arith, less))

at_end : (ts : List (Option ℕ)) (x d : Option ℕ) → get_or (ts ++ x ∷ []) (length ts) d ≡ x
at_end [] x d = refl
at_end (t ∷ ts) x d = at_end ts x d

-- a table with one place more
pub table_more : (f : ℕ → Option ℕ) (ts : List (Option ℕ)) (x d : Option ℕ) (n : ℕ) → length ts ≡ n → ((near : ℕ) → near < n → get_or ts near d ≡ f near) → x ≡ f n
    → (near : ℕ) → near < n + 1 → get_or (ts ++ x ∷ []) near d ≡ f near
table_more f ts x d n long before last near less =
    elim (nat_lt near n) as (λ b. nat_lt near n ≡ b → get_or (ts ++ x ∷ []) near d ≡ f near) [
      | true ↦ λ is.
          let low : near < n = grind (arith, nat_tests, is) in
          at_front ts x d near (omega (arith, low, long)) ∙ before near low
      | false ↦ λ is.
          let here : near ≡ length ts = grind (arith, nat_tests, is, less, long) in
          ap (λ k. get_or (ts ++ x ∷ []) k d) here ∙ at_end ts x d ∙ last ∙ ap f (sym long ∙ sym here)
    ] refl

pub latest_blank : (n near : ℕ) → latest_of (take near (replicate n None)) ≡ None
latest_blank zero zero = refl
latest_blank zero (suc near) = refl
latest_blank (suc n) zero = refl
latest_blank (suc n) (suc near) = latest_blank n near

-- where the later of two stands at a place
pub latest_put : (xs : List (Option ℕ)) (at : ℕ) (d : Option ℕ) (v near : ℕ) → at < length xs
    → latest_of (take near (set xs at (later_of (get_or xs at d) (Some v)))) ≡ later_of (latest_of (take near xs)) (cond (nat_lt at near) (Some v) None)
latest_put [] at d v near less = absurd (omega arith)
latest_put (x ∷ xs) zero d v zero less = ap (λ b. cond b (Some v) None) (sym (le-ltb 0 0 (omega arith)))
latest_put (x ∷ xs) zero d v (suc near) less =
    later_assoc x (Some v) (latest_of (take near xs))
    ∙ ap (later_of x) (later_back (Some v) (latest_of (take near xs)))
    ∙ sym (later_assoc x (latest_of (take near xs)) (Some v))
    ∙ ap (λ b. later_of (latest_of (x ∷ take near xs)) (cond b (Some v) None)) (sym (lt-ltb 0 (suc near) (omega arith)))
latest_put (x ∷ xs) (suc at) d v zero less = ap (λ b. cond b (Some v) None) (sym (le-ltb (suc at) 0 (omega arith)))
latest_put (x ∷ xs) (suc at) d v (suc near) less =
    let same : nat_lt at near ≡ nat_lt (suc at) (suc near) = grind (arith, nat_tests) in
    ap (later_of x) (latest_put xs at d v near (omega arith))
    ∙ sym (later_assoc x (latest_of (take near xs)) (cond (nat_lt at near) (Some v) None))
    ∙ ap (λ b. later_of (latest_of (x ∷ take near xs)) (cond b (Some v) None)) same

pub within_more : (count : ℕ) (reads : List Pair) (i : ℕ) (d : Pair) (near : ℕ) → i < length reads
    → newest_within count (take (i + 1) reads) near ≡ later_of (newest_within count (take i reads) near) (cond (nat_lt (from_end count (get_or reads i d)) near) (Some (get_or reads i d).invoke) None)
within_more count reads i d near less =
    ap (λ w. newest_within count w near) (take_more reads i d less)
    ∙ greatest_more invoke_place (λ pair. nat_lt (from_end count pair) near) (take i reads) (get_or reads i d)
