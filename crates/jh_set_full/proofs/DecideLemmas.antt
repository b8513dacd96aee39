-- What decides on an element, by operations from the one that was invoked last on.
use Rattle.std.proofs.Common.{◌≡◌, ℕ, suc, ◌≤◌, ◌<◌, Bool, true, false, cond, not, ◌&&◌, nat_lt, List, [], ◌∷◌, map, refl, sym, ap, ◌∙◌, arith, inl, inr}
use Rattle.std.specs.Prelude.{Option, Some, None, is_some, max, option_map, ◌⊎◌, ◌==◌}
use Rattle.std.specs.List.{filter, cons_option}
use Rattle.std.proofs.lemmas.Bool.{lt-ltb, le-ltb}
use Rattle.std.proofs.lemmas.Bool.Decides.{nat_tests}
use Rattle.jh_ops.specs.declared.pairs.Pair.{Pair}
use Rattle.jh_check.specs.CounterResults.{end_place}
use Rattle.jh_set_full.specs.SetFull.{earlier_of, first_that, greatest_of, invoke_place, is_before, later_of, least}
use Rattle.jh_set_full.specs.Inside.{first_lacking, same_place}

-- ---- below a place

abbrev pub IsBelow : ℕ → List Pair → Type 0
IsBelow n [] = Unit {0}
IsBelow n (p ∷ ps) = (p.invoke < n) × IsBelow n ps

-- each was invoked before the one in front of it
abbrev pub Descend : List Pair → Type 0
Descend [] = Unit {0}
Descend (p ∷ ps) = IsBelow p.invoke ps × Descend ps

abbrev pub IsPlaceBelow : ℕ → Option ℕ → Type 0
IsPlaceBelow n None = Unit {0}
IsPlaceBelow n (Some m) = m < n

-- the last invocation of those that pass
abbrev pub last_of : (Pair → Bool) → List Pair → Option ℕ
last_of f ps = greatest_of (map invoke_place (filter f ps))

later_below : (n m : ℕ) (o : Option ℕ) → m < n → IsPlaceBelow n o → IsPlaceBelow n (later_of (Some m) o)
later_below n m None less b = less
later_below n m (Some k) less b = omega (arith, less, b)

last_below : (n : ℕ) (f : Pair → Bool) (ps : List Pair) → IsBelow n ps → IsPlaceBelow n (last_of f ps)
last_below n f [] b = tt
last_below n f (p ∷ ps) b =
    elim (f p) as (λ t. IsPlaceBelow n (greatest_of (map invoke_place (cond t (p ∷ filter f ps) (filter f ps))))) [
      | true ↦ later_below n p.invoke (last_of f ps) b.0 (last_below n f ps b.1)
      | false ↦ last_below n f ps b.1
    ]

top : (n : ℕ) (o : Option ℕ) → IsPlaceBelow n o → later_of (Some n) o ≡ Some n
top n None b = refl
top n (Some m) b = let e : max n m ≡ n = omega (arith, b) in ap Some e

before_top : (n : ℕ) (o : Option ℕ) → IsPlaceBelow n o → is_before o (Some n) ≡ true
before_top n None b = refl
before_top n (Some m) b = lt-ltb m n b

behind_top : (n k : ℕ) (o : Option ℕ) → n ≤ suc k → IsPlaceBelow n o → is_before (Some k) o ≡ false
behind_top n k None le b = refl
behind_top n k (Some m) le b = le-ltb k m (omega (arith, le, b))

apart_top : (n : ℕ) (o : Option ℕ) → IsPlaceBelow n o → same_place o (Some n) ≡ false
apart_top n None b = refl
apart_top n (Some m) b = grind (arith, nat_tests, b)

itself : (n : ℕ) → same_place (Some n) (Some n) ≡ true
itself n = grind (arith, nat_tests)

-- ---- stable

module _ (later rd has : Pair → Bool) (only : (p : Pair) → has p ≡ true → rd p ≡ true) where
  abbrev with : Bool → Pair → List Pair → Option ℕ
  with b p ps = greatest_of (map invoke_place (cond b (p ∷ ps) ps))

  -- a list without those that lack is behind them where the last of all is the last that has
  pub stable_is : (ps : List Pair) → Descend ps
      → is_before (last_of (λ p. later p && (rd p && not (has p))) ps) (last_of (λ p. later p && has p) ps)
      ≡ same_place (last_of (λ p. later p && has p) ps) (last_of (λ p. later p && rd p) ps)
  stable_is [] d = refl
  stable_is (p ∷ ps) d = cases (later p) (rd p) (has p) (only p) (stable_is ps d.1) where
    lacking : List Pair
    lacking = filter (λ (q : Pair). later q && (rd q && not (has q))) ps

    having : List Pair
    having = filter (λ (q : Pair). later q && has q) ps

    reads : List Pair
    reads = filter (λ (q : Pair). later q && rd q) ps

    cases : (l r h : Bool) → (h ≡ true → r ≡ true) → is_before (greatest_of (map invoke_place lacking)) (greatest_of (map invoke_place having)) ≡ same_place (greatest_of (map invoke_place having)) (greatest_of (map invoke_place reads)) → is_before (with (l && (r && not h)) p lacking) (with (l && h) p having) ≡ same_place (with (l && h) p having) (with (l && r) p reads)
    cases false r h o rest = rest
    cases true false false o rest = rest
    cases true false true o rest = absurd (let bad : true ≡ false = sym (o refl) in cc)
    cases true true true o rest =
        let low = last_below p.invoke (λ q. later q && (rd q && not (has q))) ps d.0 in
        let has_top = top p.invoke (greatest_of (map invoke_place having)) (last_below p.invoke (λ q. later q && has q) ps d.0) in
        let read_top = top p.invoke (greatest_of (map invoke_place reads)) (last_below p.invoke (λ q. later q && rd q) ps d.0) in
        ap (is_before (greatest_of (map invoke_place lacking))) has_top ∙ before_top p.invoke (greatest_of (map invoke_place lacking)) low
        ∙ sym (itself p.invoke) ∙ (λ i. same_place (sym has_top i) (sym read_top i))
    cases true true false o rest =
        let low = last_below p.invoke (λ q. later q && has q) ps d.0 in
        let lack_top = top p.invoke (greatest_of (map invoke_place lacking)) (last_below p.invoke (λ q. later q && (rd q && not (has q))) ps d.0) in
        let read_top = top p.invoke (greatest_of (map invoke_place reads)) (last_below p.invoke (λ q. later q && rd q) ps d.0) in
        ap (λ w. is_before w (greatest_of (map invoke_place having))) lack_top ∙ behind_top p.invoke p.invoke (greatest_of (map invoke_place having)) (omega arith) low
        ∙ sym (apart_top p.invoke (greatest_of (map invoke_place having)) low) ∙ ap (same_place (greatest_of (map invoke_place having))) (sym read_top)

-- ---- lost and stale

abbrev pub Ends : List Pair → Type 0
Ends [] = Unit {0}
Ends (p ∷ ps) = (p.invoke ≤ end_place p) × Ends ps

-- the two are one, or both are up to a place
abbrev pub IsNear : ℕ → Option ℕ → Option ℕ → Type 0
IsNear i a b = (a ≡ b) ⊎ (IsPlaceBelow (suc i) a × IsPlaceBelow (suc i) b)

place_below_more : (n m : ℕ) (o : Option ℕ) → n ≤ m → IsPlaceBelow n o → IsPlaceBelow m o
place_below_more n m None le b = tt
place_below_more n m (Some k) le b = omega (arith, le, b)

-- the first of all that lack it, and the last of those that completed behind a place
pub missing_is : (i : ℕ) (lacks : Pair → Bool) (ps : List Pair) → Descend ps → Ends ps
    → IsNear i (option_map invoke_place (first_that lacks ps)) (last_of (λ p. nat_lt i (end_place p) && lacks p) ps)
missing_is i lacks [] d e = inl refl
missing_is i lacks (p ∷ ps) d e =
    elim (lacks p) as (λ t. IsNear i (option_map invoke_place (cond t (Some p) (first_that lacks ps))) (greatest_of (map invoke_place (cond (nat_lt i (end_place p) && t) (p ∷ rest) rest)))) [
      | true ↦
          elim (nat_lt i (end_place p)) as (λ t. nat_lt i (end_place p) ≡ t → IsNear i (Some p.invoke) (greatest_of (map invoke_place (cond (t && true) (p ∷ rest) rest)))) [
            | true ↦ λ is. inl (sym (top p.invoke (greatest_of (map invoke_place rest)) low))
            | false ↦ λ is. inr (let up : end_place p ≤ i = grind (arith, nat_tests, is) in (omega (arith, up, e.0), place_below_more p.invoke (suc i) (greatest_of (map invoke_place rest)) (omega (arith, up, e.0)) low))
          ] refl
      | false ↦
          elim (nat_lt i (end_place p)) as (λ t. IsNear i (option_map invoke_place (first_that lacks ps)) (greatest_of (map invoke_place (cond (t && false) (p ∷ rest) rest)))) [
            | true ↦ missing_is i lacks ps d.1 e.1
            | false ↦ missing_is i lacks ps d.1 e.1
          ]
    ] where
      rest : List Pair
      rest = filter (λ (q : Pair). nat_lt i (end_place q) && lacks q) ps

      low : IsPlaceBelow p.invoke (greatest_of (map invoke_place rest))
      low = last_below p.invoke (λ q. nat_lt i (end_place q) && lacks q) ps d.0

abbrev pub IsFrom : ℕ → Option ℕ → Type 0
IsFrom i None = Unit {0}
IsFrom i (Some k) = i ≤ k

module _ (i : ℕ) (known : Option ℕ) (from : IsFrom i known) (missed absent : Option ℕ) (near : IsNear i missed absent) where
  neither : (o : Option ℕ) (k : Option ℕ) → IsFrom i k → IsPlaceBelow (suc i) o → (is_some k && is_before k o) ≡ false
  neither o None f b = refl
  neither o (Some k) f b = behind_top (suc i) k o (omega (arith, f)) b

  pub behind_is : (is_some known && is_before known absent) ≡ (is_some known && is_before known missed)
  behind_is = elim near [
    | inl same ↦ ap (λ w. is_some known && is_before known w) (sym same)
    | inr low ↦ neither absent known from low.1 ∙ sym (neither missed known from low.0)
  ]

  three : (a b x y : Bool) → (a && b) ≡ false → (a && (b && x)) ≡ false
  three true true x y h = absurd (let bad : true ≡ false = h in cc)
  three true false x y h = refl
  three false b x y h = refl

  pub lost_is : (present : Option ℕ) → (is_some known && (is_before known absent && is_before present absent)) ≡ (is_some known && (is_before known missed && is_before present missed))
  lost_is present = elim near [
    | inl same ↦ ap (λ w. is_some known && (is_before known w && is_before present w)) (sym same)
    | inr low ↦
        three (is_some known) (is_before known absent) (is_before present absent) true (neither absent known from low.1)
        ∙ sym (three (is_some known) (is_before known missed) (is_before present missed) true (neither missed known from low.0))
  ]

  pub absent_is : (is_some known && is_before known missed) ≡ true → missed ≡ absent
  absent_is h = elim near [
    | inl same ↦ same
    | inr low ↦ absurd (let bad : true ≡ false = sym h ∙ neither missed known from low.0 in cc)
  ]

-- ---- the first that is missing

pub missing_found : (rd has : Pair → Bool) → ((p : Pair) → has p ≡ true → rd p ≡ true) → (ps : List Pair) → Descend ps
    → first_lacking (filter rd ps) (filter has ps) ≡ option_map invoke_place (first_that (λ p. rd p && not (has p)) ps)
missing_found rd has only [] d = refl
missing_found rd has only (p ∷ ps) d = cases (rd p) (has p) (only p) (missing_found rd has only ps d.1) where
  other : (hs : List Pair) → IsBelow p.invoke hs → first_lacking (p ∷ filter rd ps) hs ≡ Some p.invoke
  other [] b = refl
  other (h ∷ hs) b = let apart : (h.invoke == p.invoke) ≡ false = grind (arith, nat_tests, b.0) in rw apart refl

  below_filter : (n : ℕ) (f : Pair → Bool) (qs : List Pair) → IsBelow n qs → IsBelow n (filter f qs)
  below_filter n f [] b = tt
  below_filter n f (q ∷ qs) b =
      elim (f q) as (λ t. IsBelow n (cond t (q ∷ filter f qs) (filter f qs))) [
        | true ↦ (b.0, below_filter n f qs b.1)
        | false ↦ below_filter n f qs b.1
      ]

  cases : (r h : Bool) → (h ≡ true → r ≡ true) → first_lacking (filter rd ps) (filter has ps) ≡ option_map invoke_place (first_that (λ q. rd q && not (has q)) ps) → first_lacking (cond r (p ∷ filter rd ps) (filter rd ps)) (cond h (p ∷ filter has ps) (filter has ps)) ≡ option_map invoke_place (cond (r && not h) (Some p) (first_that (λ q. rd q && not (has q)) ps))
  cases false false o rest = rest
  cases false true o rest = absurd (let bad : true ≡ false = sym (o refl) in cc)
  cases true true o rest = let same : (p.invoke == p.invoke) ≡ true = grind (arith, nat_tests) in rw same rest
  cases true false o rest = other (filter has ps) (below_filter p.invoke has ps d.0)

-- ---- known from the add on

earlier_from : (i : ℕ) (a b : Option ℕ) → IsFrom i a → IsFrom i b → IsFrom i (earlier_of a b)
earlier_from i None b f g = g
earlier_from i (Some a) None f g = f
earlier_from i (Some a) (Some b) f g = omega (arith, f, g)

pub known_from : (i : ℕ) (o : Option ℕ) (has : Pair → Bool) (ps : List Pair) → IsFrom i o
    → IsFrom i (least (cons_option o (map end_place (filter (λ p. nat_lt i (end_place p) && has p) ps))))
known_from i o has ps f = with_first o f where
  ends : (qs : List Pair) → IsFrom i (least (map end_place (filter (λ p. nat_lt i (end_place p) && has p) qs)))
  ends [] = tt
  ends (q ∷ qs) =
      elim (nat_lt i (end_place q)) as (λ t. nat_lt i (end_place q) ≡ t → IsFrom i (least (map end_place (cond (t && has q) (q ∷ rest) rest)))) [
        | true ↦ λ is.
            elim (has q) as (λ t. IsFrom i (least (map end_place (cond t (q ∷ rest) rest)))) [
              | true ↦ earlier_from i (Some (end_place q)) (least (map end_place rest)) (grind (arith, nat_tests, is)) (ends qs)
              | false ↦ ends qs
            ]
        | false ↦ λ is. ends qs
      ] refl where
        rest : List Pair
        rest = filter (λ (p : Pair). nat_lt i (end_place p) && has p) qs

  with_first : (o : Option ℕ) → IsFrom i o → IsFrom i (least (cons_option o (map end_place (filter (λ p. nat_lt i (end_place p) && has p) ps))))
  with_first None f = ends ps
  with_first (Some k) f = earlier_from i (Some k) (least (map end_place (filter (λ p. nat_lt i (end_place p) && has p) ps))) f (ends ps)
