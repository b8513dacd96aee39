-- What is said of the turn of an event, from what is known of that event.
use Rattle.std.proofs.Common.{◌≡◌, ℕ, zero, suc, arith, ◌+◌, ◌<◌, Bool, true, false, List, [], length, take, get_or, Some, refl, ap, sym, subst, ◌∙◌}
use Rattle.std.specs.Prelude.{slice_get}
use Rattle.std.specs.List.{count_by, range_with_len, sum_by}
use Rattle.std.proofs.lemmas.List.Sums.{count_by_more_yes, count_by_more_no, sum_by-cons}
use Rattle.std.proofs.lemmas.Option.{slice_get_read, slice_get_within, get_or_from_slice_get}
use Rattle.jh_simnode.specs.Counts.{answered_count, applied_count}
use Rattle.jh_simnode.specs.Plans.{PlanValue}
use Rattle.jh_simnode.specs.declared.events.Event.{Event}
use Rattle.jh_audit.specs.Plans.{IsTurnKept, KeepsTurn}
use Rattle.jh_audit.proofs.ChoiceLemmas.{same_some}

pub event_at : (j : List Event) (n : ℕ) (e : Event) → n < length j → e ≡ get_or j n e → slice_get j n ≡ Some e
event_at j n e low is = slice_get_read j (length j) n e refl low is

pub kept_from : (p : PlanValue) (j : List Event) (n s c a : ℕ) (e : Event) → slice_get j n ≡ Some e → s ≡ applied_count (take n j) → c ≡ answered_count (take n j)
    → a ≡ answered_count j → KeepsTurn p s c a e → IsTurnKept p j n
kept_from p j n s c a e at steps calls all keeps other there =
    let here : KeepsTurn p s c a other = subst (KeepsTurn p s c a) (same_some e other (sym at ∙ there)) keeps in
    subst (λ x. KeepsTurn p x (answered_count (take n j)) (answered_count j) other) steps
    (subst (λ x. KeepsTurn p s x (answered_count j) other) calls (subst (λ x. KeepsTurn p s c x other) all here))

pub kept_gives : (p : PlanValue) (j : List Event) (n s c a : ℕ) (e : Event) → slice_get j n ≡ Some e → s ≡ applied_count (take n j) → c ≡ answered_count (take n j)
    → a ≡ answered_count j → IsTurnKept p j n → KeepsTurn p s c a e
kept_gives p j n s c a e at steps calls all kept =
    subst (λ x. KeepsTurn p x c a e) (sym steps)
    (subst (λ x. KeepsTurn p (applied_count (take n j)) x a e) (sym calls)
    (subst (λ x. KeepsTurn p (applied_count (take n j)) (answered_count (take n j)) x e) (sym all) (kept e at)))

pub more_yes : (f : Event → Bool) (j : List Event) (n : ℕ) (e : Event) → slice_get j n ≡ Some e → f e ≡ true
    → count_by f (take (n + 1) j) ≡ count_by f (take n j) + 1
more_yes f j n e at holds =
    count_by_more_yes f j n e (slice_get_within j n e at) (ap f (get_or_from_slice_get j n e e at) ∙ holds)

pub more_no : (f : Event → Bool) (j : List Event) (n : ℕ) (e : Event) → slice_get j n ≡ Some e → f e ≡ false
    → count_by f (take (n + 1) j) ≡ count_by f (take n j)
more_no f j n e at other =
    count_by_more_no f j n e (slice_get_within j n e at) (ap f (get_or_from_slice_get j n e e at) ∙ other)

sum_suc : (f : ℕ → ℕ) (a n : ℕ) → sum_by f (range_with_len a (suc n)) ≡ sum_by f (range_with_len a n) + f (a + n)
sum_suc f a zero =
    let one : sum_by f (range_with_len a (suc zero)) ≡ f a + sum_by f (range_with_len (a + 1) zero) = sum_by-cons f a [] in
    let same : a + 0 ≡ a = omega arith in
    omega (arith, one, ap f same)
sum_suc f a (suc n) =
    let longer : sum_by f (range_with_len a (suc (suc n))) ≡ f a + sum_by f (range_with_len (a + 1) (suc n)) = sum_by-cons f a (range_with_len (a + 1) (suc n)) in
    let shorter : sum_by f (range_with_len a (suc n)) ≡ f a + sum_by f (range_with_len (a + 1) n) = sum_by-cons f a (range_with_len (a + 1) n) in
    let same : a + 1 + n ≡ a + suc n = omega arith in
    omega (arith, longer, shorter, sum_suc f (a + 1) n, ap f same)

-- the sum over one number more
pub sum_more : (f : ℕ → ℕ) (n : ℕ) → sum_by f (range_with_len 0 (n + 1)) ≡ sum_by f (range_with_len 0 n) + f n
sum_more f n =
    let on : n + 1 ≡ suc n = omega arith in
    let same : 0 + n ≡ n = omega arith in
    ap (λ k. sum_by f (range_with_len 0 k)) on ∙ sum_suc f 0 n ∙ ap (λ k. sum_by f (range_with_len 0 n) + f k) same
