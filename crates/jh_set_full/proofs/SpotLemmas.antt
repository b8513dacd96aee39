-- What decides on an element, by what the checker keeps of a history.
use Rattle.std.proofs.Common.{◌≡◌, ℕ, zero, suc, ◌+◌, ◌-◌, ◌≤◌, ◌<◌, Bool, true, false, cond, ◌&&◌, nat_lt, List, [], ◌∷◌, ◌++◌, length, drop, get_or, map, reverse, refl, sym, ap, subst, ◌∙◌, arith, inl, inr}
use Rattle.std.specs.Prelude.{Option, Some, None, is_some, option_map, slice_get, unwrap_or, IfSome, ◌⊎◌, All}
use Rattle.std.specs.List.{filter, cons_option}
use Rattle.std.proofs.lemmas.Bool.Decides.{nat_tests}
use Rattle.std.proofs.lemmas.List.{reverse-append}
use Rattle.std.proofs.lemmas.List.Elements.{All-head, All-tail}
use Rattle.jh_edn.specs.Edn.{Edn}
use Rattle.jh_ops.specs.Operation.{Operation}
use Rattle.jh_ops.specs.Pairing.{IsPairWithin, pair_of, pairs_from}
use Rattle.jh_ops.specs.declared.operation.Kind.{Kind}
use Rattle.jh_ops.specs.declared.operation.Process.{Process}
use Rattle.jh_ops.specs.declared.pairs.Pair.{Pair}
use Rattle.jh_check.specs.CounterResults.{end_place, has_ended, is_ok_read}
use Rattle.jh_check.specs.Distinct.{has_same_value}
use Rattle.jh_set_full.specs.SetFull.{Timeline, first_that, greatest_of, has_element, having, invoke_place, is_before, is_later, is_lost, is_stable, is_stale, lacks, from_latest, least, ok_end, timeline_since}
use Rattle.jh_set_full.specs.Inside.{first_lacking, from_end, is_lost_spot, is_missed_spot, is_stable_spot, newest_behind, newest_within, sighted_pairs, same_place, spot_with}
use Rattle.jh_set_full.specs.declared.sightings.Sighting.{Sighting}
use Rattle.jh_set_full.specs.declared.spots.Spot.{Spot}
use Rattle.jh_set_full.proofs.DecideLemmas.{Descend, Ends, IsBelow, IsFrom, IsNear, absent_is, behind_is, known_from, lost_is, missing_found, missing_is, stable_is}

-- ---- one read after another

pub missing_step : (reads hs : List Pair) (i : ℕ) (d : Pair) (next : Option ℕ) → i < length reads → next ≡ option_map invoke_place (slice_get hs i)
    → first_lacking (drop i reads) (drop i hs) ≡ cond (same_place next (Some (get_or reads i d).invoke)) (first_lacking (drop (i + 1) reads) (drop (i + 1) hs)) (Some (get_or reads i d).invoke)
missing_step [] hs i d next less is = absurd (omega (arith, less))
missing_step (r ∷ rs) [] zero d next less is = ap (λ o. cond (same_place o (Some r.invoke)) (first_lacking rs []) (Some r.invoke)) (sym is)
missing_step (r ∷ rs) (h ∷ hs) zero d next less is = ap (λ o. cond (same_place o (Some r.invoke)) (first_lacking rs hs) (Some r.invoke)) (sym is)
missing_step (r ∷ rs) [] (suc i) d next less is = let e : suc i + 1 ≡ suc (i + 1) = omega arith in rw e (empty rs i (omega (arith, less))) where
  empty : (qs : List Pair) (j : ℕ) → j < length qs → first_lacking (drop j qs) [] ≡ cond (same_place next (Some (get_or qs j d).invoke)) (first_lacking (drop (j + 1) qs) []) (Some (get_or qs j d).invoke)
  empty [] j l = absurd (omega (arith, l))
  empty (q ∷ qs) zero l = ap (λ o. cond (same_place o (Some q.invoke)) (first_lacking qs []) (Some q.invoke)) (sym is)
  empty (q ∷ qs) (suc j) l = let e : suc j + 1 ≡ suc (j + 1) = omega arith in rw e (empty qs j (omega (arith, l)))
missing_step (r ∷ rs) (h ∷ hs) (suc i) d next less is = let e : suc i + 1 ≡ suc (i + 1) = omega arith in rw e (missing_step rs hs i d next (omega (arith, less)) is)

pub next_got : (ss : List Sighting) (i : ℕ) → option_map (λ s. s.pair.invoke) (slice_get ss i) ≡ option_map invoke_place (slice_get (sighted_pairs ss) i)
next_got [] i = refl
next_got (s ∷ ss) zero = refl
next_got (s ∷ ss) (suc i) = next_got ss i

-- ---- lists

pub filter_twice : {A : Type 0} (p q : A → Bool) (xs : List A) → filter p (filter q xs) ≡ filter (λ x. p x && q x) xs
filter_twice p q [] = refl
filter_twice {A} p q (x ∷ xs) = cases (p x) (q x) (filter_twice p q xs) refl where
  cases : (a b : Bool) → filter p (filter q xs) ≡ filter (λ y. p y && q y) xs → p x ≡ a → filter p (cond b (x ∷ filter q xs) (filter q xs)) ≡ cond (a && b) (x ∷ filter (λ y. p y && q y) xs) (filter (λ y. p y && q y) xs)
  cases true true rest is = rw is (ap (λ w. x ∷ w) rest)
  cases true false rest is = rest
  cases false true rest is = rw is rest
  cases false false rest is = rest

pub filter_all : {A : Type 0} (P : A → Type 0) (p q : A → Bool) → ((x : A) → P x → p x ≡ q x) → (xs : List A) → All P xs → filter p xs ≡ filter q xs
filter_all P p q same [] all = refl
filter_all P p q same (x ∷ xs) all = λ i. cond (same x (All-head P x xs all) i) (x ∷ filter_all P p q same xs (All-tail P x xs all) i) (filter_all P p q same xs (All-tail P x xs all) i)

pub first_is : {A : Type 0} (p : A → Bool) (xs : List A) → first_that p xs ≡ slice_get (filter p xs) 0
first_is p [] = refl
first_is p (x ∷ xs) =
    elim (p x) as (λ b. cond b (Some x) (first_that p xs) ≡ slice_get (cond b (x ∷ filter p xs) (filter p xs)) 0) [
      | true ↦ refl
      | false ↦ first_is p xs
    ]

-- ---- places of pairs

ends_of : (o : Option ℕ) (v n : ℕ) → v < n → IfSome o (λ place. (v < place) × (place < n)) → (unwrap_or o v < n) × (v ≤ unwrap_or o v)
ends_of None v n less h = (less, omega arith)
ends_of (Some o) v n less h = (h.1, omega (arith, h.0))

pub end_within : (n : ℕ) (p : Pair) → IsPairWithin n p → (end_place p < n) × (p.invoke ≤ end_place p)
end_within n p within = ends_of p.outcome p.invoke n within.invoke within.outcome

pub ends_within : (n : ℕ) (ps : List Pair) → All (IsPairWithin n) ps → Ends ps
ends_within n [] all = tt
ends_within n (p ∷ ps) all = ((end_within n p (All-head (IsPairWithin n) p ps all)).1, ends_within n ps (All-tail (IsPairWithin n) p ps all))

pub newest_glue : (history : List Operation) (n i : ℕ) (ps : List Pair) → All (IsPairWithin n) ps → i < n
    → newest_within n (filter (is_ok_read history) ps) (n - 1 - i) ≡ newest_behind history ps i
newest_glue history n i ps all less =
    ap (λ w. greatest_of (map invoke_place w))
    (filter_twice (λ p. nat_lt (from_end n p) (n - 1 - i)) (is_ok_read history) ps
    ∙ filter_all (IsPairWithin n) (λ p. nat_lt (from_end n p) (n - 1 - i) && is_ok_read history p) (λ p. is_later i p && is_ok_read history p)
    (λ p within. ap (λ b. b && is_ok_read history p) (nearer (end_place p) (end_within n p within).0)) ps all) where
      nearer : (e : ℕ) → e < n → nat_lt (n - 1 - e) (n - 1 - i) ≡ nat_lt i e
      nearer e h = grind (arith, nat_tests, h, less)

-- ---- the operations of a history, from the last one on

abbrev IsAbove : ℕ → List Pair → Type 0
IsAbove n [] = Unit {0}
IsAbove n (p ∷ ps) = (n ≤ p.invoke) × IsAbove n ps

above_less : (n : ℕ) (ps : List Pair) → IsAbove (n + 1) ps → IsAbove n ps
above_less n [] a = tt
above_less n (p ∷ ps) a = (omega (arith, a.0), above_less n ps a.1)

below_push : (m : ℕ) (ps : List Pair) (p : Pair) → IsBelow m ps → p.invoke < m → IsBelow m (ps ++ p ∷ [])
below_push m [] p b less = (less, tt)
below_push m (q ∷ qs) p b less = (b.0, below_push m qs p b.1 less)

descend_push : (n : ℕ) (ps : List Pair) (p : Pair) → Descend ps → IsAbove (n + 1) ps → p.invoke ≡ n → Descend (ps ++ p ∷ [])
descend_push n [] p d a is = (tt, tt)
descend_push n (q ∷ qs) p d a is = (below_push q.invoke qs p d.0 (omega (arith, a.0, is)), descend_push n qs p d.1 a.1 is)

above_push : (n : ℕ) (ps : List Pair) (p : Pair) → IsAbove (n + 1) ps → p.invoke ≡ n → IsAbove n (ps ++ p ∷ [])
above_push n [] p a is = (omega (arith, is), tt)
above_push n (q ∷ qs) p a is = (omega (arith, a.0), above_push n qs p a.1 is)

abbrev IsOne : ℕ → List Pair → Type 0
IsOne n ps = (ps ≡ []) ⊎ ((p : Pair) × (ps ≡ p ∷ []) × (p.invoke ≡ n))

one_pair : (kind : Kind) (process : Process) (n : ℕ) (ops : List Operation) → IsOne n (pair_of kind process n ops)
one_pair Kind.Invoke (Process.Client client) n ops = inr (_, refl, refl)
one_pair Kind.Invoke Process.Nemesis n ops = inl refl
one_pair Kind.Ok process n ops = inl refl
one_pair Kind.Fail process n ops = inl refl
one_pair Kind.Info process n ops = inl refl

latest_from : (n : ℕ) (ops : List Operation) → Descend (reverse (pairs_from n ops)) × IsAbove n (reverse (pairs_from n ops))
latest_from n [] = (tt, tt)
latest_from n (op ∷ ops) =
    let rest = latest_from (n + 1) ops in
    let qs = reverse (pairs_from (n + 1) ops) in
    elim (one_pair op.kind op.process n ops) [
      | inl none ↦ subst (λ w. Descend (reverse (w ++ pairs_from (n + 1) ops)) × IsAbove n (reverse (w ++ pairs_from (n + 1) ops))) (sym none) (rest.0, above_less n qs rest.1)
      | inr one ↦
          subst (λ w. Descend (reverse (w ++ pairs_from (n + 1) ops)) × IsAbove n (reverse (w ++ pairs_from (n + 1) ops))) (sym one.1)
          (subst (λ w. Descend w × IsAbove n w) (sym (reverse-append (one.0 ∷ []) (pairs_from (n + 1) ops)))
          (descend_push n qs one.0 rest.0 rest.1 one.2, above_push n qs one.0 rest.1 one.2))
    ]

pub latest_descends : (history : List Operation) → Descend (from_latest history)
latest_descends history = (latest_from 0 history).0

-- ---- an element by what is kept

only_read : (b : Bool) (ys : List Edn) (x : Edn) → has_same_value (cond b ys []) x ≡ true → b ≡ true
only_read true ys x h = refl
only_read false ys x h = absurd (let bad : false ≡ true = h in cc)

and_assoc : (a b d : Bool) → (a && (b && d)) ≡ ((a && b) && d)
and_assoc true b d = refl
and_assoc false b d = refl

module _ (history : List Operation) (ps : List Pair) (down : Descend ps) (ends : Ends ps) (x : Edn) where
  only : (p : Pair) → has_element history x p ≡ true → is_ok_read history p ≡ true
  only p h = only_read (is_ok_read history p) _ x h

  module _ (add : Pair) (up : add.invoke ≤ end_place add) where
    abbrev since : Timeline
    since = timeline_since history ps x add

    abbrev by : Spot
    by = spot_with history ps (filter (has_element history x) ps) add

    those : filter (is_later add.invoke) (filter (has_element history x) ps) ≡ having history ps x add.invoke
    those = filter_twice (is_later add.invoke) (has_element history x) ps

    pub known_same : by.known ≡ since.known
    known_same = ap (λ w. least (cons_option (ok_end history add) (map end_place w))) those

    present_same : by.present ≡ since.present
    present_same = ap (λ w. greatest_of (map invoke_place w)) those

    missed_same : by.missed ≡ option_map invoke_place (first_that (lacks history x) ps)
    missed_same = missing_found (is_ok_read history) (has_element history x) only ps down

    own_from : IsFrom add.invoke (ok_end history add)
    own_from = elim (has_ended Kind.Ok history add) as (λ b. IsFrom add.invoke (cond b (Some (end_place add)) None)) [
      | true ↦ up
      | false ↦ tt
    ]

    from : IsFrom add.invoke since.known
    from = known_from add.invoke (ok_end history add) (has_element history x) ps own_from

    near : IsNear add.invoke (option_map invoke_place (first_that (lacks history x) ps)) since.absent
    near = missing_is add.invoke (lacks history x) ps down ends

    pub stable_same : is_stable_spot by ≡ is_stable since
    stable_same = ap (λ w. same_place w by.newest) present_same ∙ sym (stable_is (is_later add.invoke) (is_ok_read history) (has_element history x) only ps down)

    pub missed_so : is_missed_spot by ≡ (is_some since.known && is_before since.known since.absent)
    missed_so =
        (λ i. is_some (known_same i) && is_before (known_same i) (missed_same i))
        ∙ sym (behind_is add.invoke since.known from (option_map invoke_place (first_that (lacks history x) ps)) since.absent near)

    pub lost_same : is_lost_spot by ≡ is_lost since
    lost_same =
        sym (and_assoc (is_some by.known) (is_before by.known by.missed) (is_before by.present by.missed))
        ∙ (λ i. is_some (known_same i) && (is_before (known_same i) (missed_same i) && is_before (present_same i) (missed_same i)))
        ∙ sym (lost_is add.invoke since.known from (option_map invoke_place (first_that (lacks history x) ps)) since.absent near since.present)

    pub stale_same : (is_stable_spot by && is_missed_spot by) ≡ is_stale since
    stale_same = λ i. stable_same i && missed_so i

    pub absent_same : is_missed_spot by ≡ true → by.missed ≡ since.absent
    absent_same h =
        missed_same
        ∙ absent_is add.invoke since.known from (option_map invoke_place (first_that (lacks history x) ps)) since.absent near
        ((λ i. is_some (sym known_same i) && is_before (sym known_same i) (sym missed_same i)) ∙ h)
