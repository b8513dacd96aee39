-- Ends of axes, and what is on them.
use Rattle.std.proofs.Common.{◌≡◌, ◌∙◌, ℕ, ◌+◌, ◌*◌, ◌/◌, ◌^◌, ◌<◌, ◌≤◌, Bool, true, false, cond, nat_le, List, [], ◌∷◌, ◌++◌, Some, map, refl, sym, ap, arith}
use Rattle.std.specs.Prelude.{find, unwrap_or}
use Rattle.std.specs.Int.{div_ceil}
use Rattle.std.specs.List.{range_with_len}
use Rattle.std.proofs.Math.Nat.{div-mul-le_self, lt_of_mul-lt-mul_right, mul-div-le, mul-le-mul_left, mul-le-mul_right, mul_assoc, mul_comm}
use Rattle.std.proofs.lemmas.Bool.{leb-true}
use Rattle.std.proofs.lemmas.Grind.{div_ceil_times}
use Rattle.std.proofs.lemmas.List.{map-id}
use Rattle.std.proofs.lemmas.List.FromFn.{map-range_with_len_more}
use Rattle.jh_plots.specs.Axes.{round_numbers, round_up}

found_enough : (number d : ℕ) (xs : List ℕ) → number ≤ d → number ≤ unwrap_or (find (λ round. nat_le number round) xs) d
found_enough number d [] h = h
found_enough number d (x ∷ xs) h = by_first (nat_le number x) refl (found_enough number d xs h) where
  by_first : (t : Bool) → nat_le number x ≡ t → number ≤ unwrap_or (find (λ round. nat_le number round) xs) d → number ≤ unwrap_or (cond t (Some x) (find (λ round. nat_le number round) xs)) d
  by_first true e later = leb-true number x e
  by_first false e later = later

pub round_enough : (number : ℕ) → number ≤ 10 ^ 19 → number ≤ round_up number
round_enough number h = found_enough number (10 ^ 19) round_numbers h

-- a count fits below the round number that is made of its rate
pub rate_few : (most width : ℕ) → 10 ^ 9 ≤ width → div_ceil (most * 10 ^ 9) width ≤ most
rate_few most width long =
    let times = div_ceil_times (most * 10 ^ 9) width (omega (arith, long)) in
    let more : most * 10 ^ 9 ≤ most * width = mul-le-mul_left most long in
    let one : (most + 1) * width ≡ most * width + width = grind arith in
    let less : div_ceil (most * 10 ^ 9) width * width < (most + 1) * width = omega (arith, times.1, more, one) in
    let below : div_ceil (most * 10 ^ 9) width < most + 1 = lt_of_mul-lt-mul_right width less in
    omega (arith, below)

pub rate_enough : (most width : ℕ) → 10 ^ 9 ≤ width → most < 2 ^ 63 → most * 10 ^ 9 ≤ width * round_up (div_ceil (most * 10 ^ 9) width)
rate_enough most width long few =
    let m = div_ceil (most * 10 ^ 9) width in
    let times = div_ceil_times (most * 10 ^ 9) width (omega (arith, long)) in
    let low : m ≤ most = rate_few most width long in
    let up : m ≤ round_up m = round_enough m (omega (arith, low, few)) in
    let more : width * m ≤ width * round_up m = mul-le-mul_left width up in
    let turned : m * width ≡ width * m = mul_comm m width in
    omega (arith, times.0, more, turned)

-- ---- ranks

pub rank_few : (percent n : ℕ) → percent ≤ 100 → div_ceil (percent * n) 100 ≤ n
rank_few percent n most =
    let times = div_ceil_times (percent * n) 100 (omega arith) in
    let more : percent * n ≤ 100 * n = mul-le-mul_right n most in
    let less : div_ceil (percent * n) 100 * 100 < 100 * n + 100 = omega (arith, times.1, more) in
    omega (arith, less)

-- ---- steps

pub step_within : (end step number : ℕ) → 1 ≤ step → number < end / (step * 1000000) + 1 → number * step * 1000000 ≤ end
step_within end step number some less =
    let s = step * 1000000 in
    let few : number ≤ end / s = omega (arith, less) in
    let more : number * s ≤ end / s * s = mul-le-mul_right s few in
    let within : end / s * s ≤ end = div-mul-le_self end s in
    let same : number * step * 1000000 ≡ number * s = mul_assoc number step 1000000 in
    omega (arith, more, within, same)

pub part_within : (top parts part : ℕ) → part ≤ parts → part * (top / parts) ≤ top
part_within top parts part few =
    let more : part * (top / parts) ≤ parts * (top / parts) = mul-le-mul_right (top / parts) few in
    let within : parts * (top / parts) ≤ top = mul-div-le top parts in
    omega (arith, more, within)

pub range_more : (n : ℕ) → range_with_len 0 (n + 1) ≡ range_with_len 0 n ++ n ∷ []
range_more n = sym (map-id (range_with_len 0 (n + 1))) ∙ map-range_with_len_more (λ x. x) 0 n n (omega arith) ∙ ap (λ xs. xs ++ n ∷ []) (map-id (range_with_len 0 n))

-- one element more of a list that is made of numbers
pub mapped_to : {X : Type 0} (f : ℕ → X) (n : ℕ) (old new : List X) (x : X) → old ≡ map f (range_with_len 0 n) → x ≡ f n → new ≡ old ++ x ∷ [] → new ≡ map f (range_with_len 0 (n + 1))
mapped_to f n old new x is here pushed = pushed ∙ (λ i. is i ++ here i ∷ []) ∙ sym (map-range_with_len_more f 0 n n (omega arith))
