-- What the table of thresholds gives of a logarithm.
use Rattle.std.proofs.Common.{◌≡◌, ℕ, zero, suc, ◌+◌, ◌*◌, ◌^◌, ◌<◌, ◌≤◌, Bool, true, ◌&&◌, nat_lt, List, [], ◌∷◌, length, get_or, refl, ap, sym, subst, ◌∙◌, arith, inl, inr}
use Rattle.std.proofs.Math.Nat.{pow-suc, mul-suc, mul_comm, pow-le-pow_left, pow-le-pow_right, mul-le-mul_right, mul-lt-mul_of_pos_right, le_of_mul-le-mul_right, lt_of_mul-lt-mul_right, one-le-pow}
use native.Mathlib.Numerals.{unary_clauses}
use Rattle.std.proofs.lemmas.Grind.{pow_more}
use Rattle.std.proofs.lemmas.Nat.{mul-pow, pow-add}
use Rattle.std.proofs.lemmas.Bool.{cases_lt, ltb-true}
use Rattle.std.specs.Cmp.{first_so, second_so}
use Rattle.jh_plots.specs.declared.thresholds.TheConstants.{THRESHOLDS}

-- ---- powers

pub pow_pow : (b i n : ℕ) → (b ^ i) ^ n ≡ b ^ (i * n)
pow_pow b i zero = simp unary_clauses refl
pow_pow b i (suc n) =
    pow-suc (b ^ i) n ∙ ap (λ x. x * b ^ i) (pow_pow b i n) ∙ sym (pow-add b (i * n) i) ∙ ap (λ e. b ^ e) (sym (mul-suc i n))

scaled_pow : (b n number j : ℕ) → (number * b ^ j) ^ n ≡ number ^ n * b ^ (j * n)
scaled_pow b n number j = mul-pow number (b ^ j) n ∙ ap (λ x. number ^ n * x) (pow_pow b j n)

-- what is known of a power of a number that was scaled is known of the number
pub reached_unscaled : (b n number j e whole : ℕ) → 0 < b → whole ≡ e + j * n → b ^ whole ≤ (number * b ^ j) ^ n → b ^ e ≤ number ^ n
reached_unscaled b n number j e whole some long h =
    let left : b ^ whole ≡ b ^ e * b ^ (j * n) = ap (λ w. b ^ w) long ∙ pow-add b e (j * n) in
    let right = scaled_pow b n number j in
    let both : b ^ e * b ^ (j * n) ≤ number ^ n * b ^ (j * n) = omega (arith, left, right, h) in
    let more = one-le-pow (j * n) b some in
    le_of_mul-le-mul_right both (omega (arith, more))

pub below_unscaled : (b n number j e whole : ℕ) → whole ≡ e + j * n → (number * b ^ j) ^ n < b ^ whole → number ^ n < b ^ e
below_unscaled b n number j e whole long h =
    let left : b ^ whole ≡ b ^ e * b ^ (j * n) = ap (λ w. b ^ w) long ∙ pow-add b e (j * n) in
    let right = scaled_pow b n number j in
    let both : number ^ n * b ^ (j * n) < b ^ e * b ^ (j * n) = omega (arith, left, right, h) in
    lt_of_mul-lt-mul_right (b ^ (j * n)) both

pub lower_power : (a b n : ℕ) → a ^ n < b ^ n → a < b
lower_power a b n h = elim (cases_lt a b) as (λ _. a < b) [
  | inl less ↦ less
  | inr more ↦ absurd (let back : b ^ n ≤ a ^ n = pow-le-pow_left more n in omega (arith, back, h))
]

-- the greater power of a number has the greater exponent
pub lower_exponent : (b i j : ℕ) → 0 < b → b ^ i < b ^ j → i < j
lower_exponent b i j some h = elim (cases_lt i j) as (λ _. i < j) [
  | inl less ↦ less
  | inr more ↦ absurd (let back : b ^ j ≤ b ^ i = pow-le-pow_right some more in omega (arith, back, h))
]

-- ---- the table

-- each is the root of its power, rounded down, and no root is whole
abbrev are_roots : ℕ → ℕ → ℕ → List ℕ → Bool
are_roots b n e [] = true
are_roots b n e (t ∷ ts) = nat_lt (t ^ n) (b ^ e) && (nat_lt (b ^ e) ((t + 1) ^ n) && are_roots b n (e + 1) ts)

pub table_of_roots : are_roots 10 100 1801 THRESHOLDS ≡ true
table_of_roots = refl

root_below : (b n e : ℕ) (ts : List ℕ) → are_roots b n e ts ≡ true → (k : ℕ) → k < length ts → get_or ts k 0 ^ n < b ^ (e + k)
root_below b n e [] h k less = absurd (omega arith)
root_below b n e (t ∷ ts) h zero less = let none : e ≡ e + 0 = omega arith in subst (λ w. t ^ n < b ^ w) none (ltb-true (t ^ n) (b ^ e) (first_so (nat_lt (t ^ n) (b ^ e)) _ h))
root_below b n e (t ∷ ts) h (suc k) less =
    let rest = second_so (nat_lt (b ^ e) ((t + 1) ^ n)) (are_roots b n (e + 1) ts) (second_so (nat_lt (t ^ n) (b ^ e)) _ h) in
    let same : e + 1 + k ≡ e + suc k = omega arith in
    subst (λ w. get_or ts k 0 ^ n < b ^ w) same (root_below b n (e + 1) ts rest k (omega arith))

root_above : (b n e : ℕ) (ts : List ℕ) → are_roots b n e ts ≡ true → (k : ℕ) → k < length ts → b ^ (e + k) < (get_or ts k 0 + 1) ^ n
root_above b n e [] h k less = absurd (omega arith)
root_above b n e (t ∷ ts) h zero less = let none : e ≡ e + 0 = omega arith in subst (λ w. b ^ w < (t + 1) ^ n) none (ltb-true (b ^ e) ((t + 1) ^ n) (first_so (nat_lt (b ^ e) ((t + 1) ^ n)) (are_roots b n (e + 1) ts) (second_so (nat_lt (t ^ n) (b ^ e)) _ h)))
root_above b n e (t ∷ ts) h (suc k) less =
    let rest = second_so (nat_lt (b ^ e) ((t + 1) ^ n)) (are_roots b n (e + 1) ts) (second_so (nat_lt (t ^ n) (b ^ e)) _ h) in
    let same : e + 1 + k ≡ e + suc k = omega arith in
    subst (λ w. b ^ w < (get_or ts k 0 + 1) ^ n) same (root_above b n (e + 1) ts rest k (omega arith))

pub roots_rise : (b n e : ℕ) (ts : List ℕ) → 0 < b → are_roots b n e ts ≡ true → (i j : ℕ) → i ≤ j → j < length ts → get_or ts i 0 ≤ get_or ts j 0
roots_rise b n e ts some h i j le less =
    let low = root_below b n e ts h i (omega arith) in
    let high = root_above b n e ts h j less in
    let between : b ^ (e + i) ≤ b ^ (e + j) = pow-le-pow_right some (omega arith) in
    let both : get_or ts i 0 ^ n < (get_or ts j 0 + 1) ^ n = omega (arith, low, high, between) in
    let less : get_or ts i 0 < get_or ts j 0 + 1 = lower_power _ _ n both in
    omega (arith, less)

-- ---- a place in the table

pub place_reached : (b n e : ℕ) (ts : List ℕ) (low scaled r : ℕ) → are_roots b n (e + 1) ts ≡ true → low ^ n ≡ b ^ e → low ≤ scaled → r ≤ length ts
    → ((k : ℕ) → k < r → get_or ts k 0 < scaled) → b ^ (e + r) ≤ scaled ^ n
place_reached b n e ts low scaled zero roots is from within before =
    let up : low ^ n ≤ scaled ^ n = pow-le-pow_left from n in
    let none : b ^ (e + 0) ≡ b ^ e = ap (λ w. b ^ w) (omega arith) in
    omega (arith, up, is, none)
place_reached b n e ts low scaled (suc k) roots is from within before =
    let above = root_above b n (e + 1) ts roots k (omega arith) in
    let here = before k (omega arith) in
    let up : (get_or ts k 0 + 1) ^ n ≤ scaled ^ n = pow-le-pow_left (omega (arith, here)) n in
    let same : e + 1 + k ≡ e + suc k = omega arith in
    let above' = subst (λ w. b ^ w < (get_or ts k 0 + 1) ^ n) same above in
    omega (arith, above', up)

pub place_below : (b n e : ℕ) (ts : List ℕ) (scaled r : ℕ) → are_roots b n (e + 1) ts ≡ true → r ≤ length ts
    → ((k : ℕ) → r ≤ k → k < length ts → scaled ≤ get_or ts k 0) → scaled ^ n < b ^ (e + 1 + length ts) → scaled ^ n < b ^ (e + 1 + r)
place_below b n e ts scaled r roots within behind last = elim (cases_lt r (length ts)) as (λ _. scaled ^ n < b ^ (e + 1 + r)) [
  | inl less ↦
      let below = root_below b n (e + 1) ts roots r less in
      let up : scaled ^ n ≤ get_or ts r 0 ^ n = pow-le-pow_left (behind r (omega arith) less) n in
      omega (arith, below, up)
  | inr more ↦ let same : length ts ≡ r = omega arith in subst (λ w. scaled ^ n < b ^ (e + 1 + w)) same last
]

-- ---- a number with one digit before the scale

pub scaled_from : (b number d j whole : ℕ) → whole ≡ d + j → b ^ d ≤ number → b ^ whole ≤ number * b ^ j
scaled_from b number d j whole long h =
    let split : b ^ whole ≡ b ^ d * b ^ j = ap (λ w. b ^ w) long ∙ pow-add b d j in
    let more : b ^ d * b ^ j ≤ number * b ^ j = mul-le-mul_right (b ^ j) h in
    omega (arith, split, more)

pub scaled_below : (b number d j whole : ℕ) → 0 < b → whole ≡ d + 1 + j → number < b * b ^ d → number * b ^ j < b ^ whole
scaled_below b number d j whole some long h =
    let split : b ^ whole ≡ b ^ (d + 1) * b ^ j = ap (λ w. b ^ w) long ∙ pow-add b (d + 1) j in
    let next : b ^ (d + 1) ≡ b * b ^ d = pow_more b d ∙ mul_comm (b ^ d) b in
    let less : number < b ^ (d + 1) = omega (arith, next, h) in
    let pos = one-le-pow j b some in
    let more : number * b ^ j < b ^ (d + 1) * b ^ j = mul-lt-mul_of_pos_right less (omega (arith, pos)) in
    omega (arith, split, more)

-- ---- decades

pub decades_left : (last decades greatest : ℕ) → last ≡ 10 ^ (5 + decades) → last < greatest → greatest < 2 ^ 63 → decades ≤ 13
decades_left last decades greatest is less fits =
    let low : 10 ^ (5 + decades) < 10 ^ 19 = omega (arith, is, less, fits) in
    let few : 5 + decades < 19 = lower_exponent 10 (5 + decades) 19 (omega arith) low in
    omega (arith, few)

pub next_power : (last decades : ℕ) → last ≡ 10 ^ (5 + decades) → last * 10 ≡ 10 ^ (5 + (decades + 1))
next_power last decades is =
    let more : 10 ^ (5 + decades + 1) ≡ 10 ^ (5 + decades) * 10 = pow_more 10 (5 + decades) in
    let same : 10 ^ (5 + decades + 1) ≡ 10 ^ (5 + (decades + 1)) = ap (λ w. 10 ^ w) (omega arith) in
    ap (λ w. w * 10) is ∙ sym more ∙ same

pub decades_least : (last decades greatest fewer : ℕ) → last ≡ 10 ^ (5 + decades) → last < greatest → decades ≤ fewer → greatest ≤ 10 ^ (5 + fewer) → decades + 1 ≤ fewer
decades_least last decades greatest fewer is less from enough =
    let low : 10 ^ (5 + decades) < 10 ^ (5 + fewer) = omega (arith, is, less, enough) in
    let more : 5 + decades < 5 + fewer = lower_exponent 10 (5 + decades) (5 + fewer) (omega arith) low in
    omega (arith, more)

-- ---- the pixel of a position

-- a number from 0.1 ms on has its place on the axis, which reaches as far as its decades
pub position_some : (number hundredths : ℕ) → 10 ^ 5 ≤ number → number ^ 100 < 10 ^ (hundredths + 1) → 500 ≤ hundredths
position_some number hundredths from below =
    let up : (10 ^ 5) ^ 100 ≤ number ^ 100 = pow-le-pow_left from 100 in
    let both : 10 ^ 500 < 10 ^ (hundredths + 1) = omega (arith, up, below, pow_pow 10 5 100) in
    let more : 500 < hundredths + 1 = lower_exponent 10 500 (hundredths + 1) (omega arith) both in
    omega (arith, more)

pub position_within : (number hundredths decades : ℕ) → number ≤ 10 ^ (5 + decades) → 10 ^ hundredths ≤ number ^ 100 → hundredths ≤ 500 + 100 * decades
position_within number hundredths decades within reached =
    let up : number ^ 100 ≤ (10 ^ (5 + decades)) ^ 100 = pow-le-pow_left within 100 in
    let long : (10 ^ (5 + decades)) ^ 100 ≡ 10 ^ ((5 + decades) * 100) = pow_pow 10 (5 + decades) 100 in
    let next : 10 ^ ((5 + decades) * 100) < 10 ^ ((5 + decades) * 100 + 1) = (let more = pow_more 10 ((5 + decades) * 100) in let some = one-le-pow ((5 + decades) * 100) 10 (omega arith) in omega (arith, more, some)) in
    let both : 10 ^ hundredths < 10 ^ ((5 + decades) * 100 + 1) = omega (arith, up, long, next, reached) in
    let less = lower_exponent 10 hundredths ((5 + decades) * 100 + 1) (omega arith) both in
    omega (arith, less)

pub first_within : (decades : ℕ) → 1 ≤ decades → 10 ^ 6 ≤ 10 ^ (5 + decades)
first_within decades some = pow-le-pow_right (omega arith) {i = 6} {j = 5 + decades} (omega (arith, some))

pub last_fits : (decades : ℕ) → decades ≤ 14 → 10 ^ (5 + decades) ≤ 10 ^ 19
last_fits decades few = pow-le-pow_right (omega arith) {i = 5 + decades} {j = 19} (omega (arith, few))
