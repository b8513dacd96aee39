-- Counts of windows are those of all calls together.
use Rattle.std.proofs.Common.{◌≡◌, ◌∙◌, ℕ, zero, suc, ◌+◌, ◌*◌, ◌/◌, ◌<◌, ◌≤◌, Bool, true, false, cond, ◌&&◌, List, [], ◌∷◌, Option, Some, None, refl, sym, ap, arith, inl, inr}
use Rattle.std.specs.Prelude.{◌==◌, IfSome, count_by, is_some, sum_by}
use Rattle.std.specs.Option.{option_map_or}
use Rattle.std.specs.List.{All, range_with_len}
use Rattle.std.proofs.Math.Nat.{div-mul-le_self}
use Rattle.std.proofs.lemmas.Bool.{cases_eq, eq-eqb, ne_eqb}
use Rattle.std.proofs.lemmas.List.Elements.{All-head, All-tail}
use Rattle.std.proofs.lemmas.List.Sums.{sum_by-cons}
use Rattle.std.proofs.lemmas.Nat.{le-div}
use Rattle.jh_ops.specs.Operation.{is_kind}
use Rattle.jh_ops.specs.declared.operation.Kind.{Kind}
use Rattle.jh_plots.specs.CallsInside.{IsCallWithin}
use Rattle.jh_plots.specs.Rates.{count_in, is_ended_in, windows_of}
use Rattle.jh_plots.specs.declared.calls.TimedCall.{TimedCall}

sum_none : (xs : List ℕ) → sum_by (λ k. 0) xs ≡ 0
sum_none [] = refl
sum_none (x ∷ xs) = omega (arith, sum_by-cons (λ k. 0) x xs, sum_none xs)

sum_both : (f g : ℕ → ℕ) (xs : List ℕ) → sum_by (λ k. f k + g k) xs ≡ sum_by f xs + sum_by g xs
sum_both f g [] = refl
sum_both f g (x ∷ xs) = omega (arith, sum_by-cons (λ k. f k + g k) x xs, sum_by-cons f x xs, sum_by-cons g x xs, sum_both f g xs)

at_none : (w a n : ℕ) → w < a → sum_by (λ k. cond (w == k) 1 0) (range_with_len a n) ≡ 0
at_none w a zero h = refl
at_none w a (suc n) h =
    let first = sum_by-cons (λ k. cond (w == k) 1 0) a (range_with_len (a + 1) n) in
    let here : ◌≡◌ {A = ℕ} (cond (w == a) 1 0) 0 = ap (λ (t : Bool). cond {A = ℕ} t 1 0) (ne_eqb w a (λ same. omega arith)) in
    omega (arith, first, here, at_none w (a + 1) n (omega arith))

at_one : (w a n : ℕ) → a ≤ w → w < a + n → sum_by (λ k. cond (w == k) 1 0) (range_with_len a n) ≡ 1
at_one w a zero from to = absurd (omega arith)
at_one w a (suc n) from to = elim (cases_eq w a) as (λ _. sum_by (λ k. cond (w == k) 1 0) (range_with_len a (suc n)) ≡ 1) [
  | inl same ↦
      let first = sum_by-cons (λ k. cond (w == k) 1 0) a (range_with_len (a + 1) n) in
      let here : ◌≡◌ {A = ℕ} (cond (w == a) 1 0) 1 = ap (λ (t : Bool). cond {A = ℕ} t 1 0) (eq-eqb w a same) in
      omega (arith, first, here, at_none w (a + 1) n (omega arith))
  | inr apart ↦
      let first = sum_by-cons (λ k. cond (w == k) 1 0) a (range_with_len (a + 1) n) in
      let here : ◌≡◌ {A = ℕ} (cond (w == a) 1 0) 0 = ap (λ (t : Bool). cond {A = ℕ} t 1 0) (ne_eqb w a apart) in
      omega (arith, first, here, at_one w (a + 1) n (omega arith) (omega arith))
]

one_call : (width end : ℕ) (t : Bool) (ended : Option ℕ) → 0 < width → IfSome ended (λ e. e ≤ end)
    → sum_by (λ k. cond (t && option_map_or (λ e. e / width == k) ended false) 1 0) (windows_of width end) ≡ cond (t && is_some ended) 1 0
one_call width end false ended some within = sum_none (windows_of width end)
one_call width end true None some within = sum_none (windows_of width end)
one_call width end true (Some e) some within =
    let down : e / width * width ≤ e = div-mul-le_self e width in
    let low : e / width ≤ end / width = le-div (e / width) end width some (omega (arith, down, within)) in
    at_one (e / width) 0 (end / width + 1) (omega arith) (omega (arith, low))

pub counts_whole : (width end : ℕ) (kind : Kind) (calls : List TimedCall) → 0 < width → All (IsCallWithin end) calls
    → sum_by (count_in width calls kind) (windows_of width end) ≡ count_by (λ call. is_kind kind call.kind && is_some call.ended) calls
counts_whole width end kind [] some within = sum_none (windows_of width end)
counts_whole width end kind (call ∷ calls) some within =
    let here = λ (k : ℕ). cond (is_kind kind call.kind && is_ended_in width k call) 1 0 in
    let split : sum_by (count_in width (call ∷ calls) kind) (windows_of width end) ≡ sum_by (λ k. here k + count_in width calls kind k) (windows_of width end) =
    same_sum (count_in width (call ∷ calls) kind) (λ k. here k + count_in width calls kind k) (λ k. sum_by-cons (λ c. cond (is_kind kind c.kind && is_ended_in width k c) 1 0) call calls) (windows_of width end) in
    let first = one_call width end (is_kind kind call.kind) call.ended some (All-head (IsCallWithin end) call calls within).ended in
    let rest = counts_whole width end kind calls some (All-tail (IsCallWithin end) call calls within) in
    split ∙ sum_both here (count_in width calls kind) (windows_of width end) ∙ (λ i. first i + rest i)
    ∙ sym (sum_by-cons (λ c. cond (is_kind kind c.kind && is_some c.ended) 1 0) call calls) where
      same_sum : (f g : ℕ → ℕ) → ((k : ℕ) → f k ≡ g k) → (xs : List ℕ) → sum_by f xs ≡ sum_by g xs
      same_sum f g same xs = λ i. sum_by (λ k. same k i) xs
