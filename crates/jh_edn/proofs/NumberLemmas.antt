-- Signs and digits.
use Rattle.std.proofs.Common.{◌≡◌, ℕ, zero, suc, ◌+◌, ◌-◌, ◌<◌, ◌^◌, Bool, true, false, cond, eqb, ltb, List, [], ◌∷◌, length, take, drop, get_or, refl, arith}
use Rattle.std.specs.Prelude.{ℤ, pos, negsuc, FitsSigned, ◌&&◌, ◌||◌}
use Rattle.std.specs.Int.{w64}
use Rattle.std.specs.Str.Parse.{IsNumeral, AllDigits, signed_digits_value, without_leading_sign}
use Rattle.std.specs.Char.{digit_value}
use Rattle.std.specs.List.{prefix_len}
use Rattle.std.proofs.lemmas.Bool.{ltb-true}
use Rattle.std.proofs.lemmas.Grind.{common_steps}
use Rattle.std.proofs.lemmas.List.{take_all, length-drop}
use Rattle.jh_edn.specs.Bytes.{plus, minus, is_digit}
use Rattle.jh_edn.specs.Reading.{magnitude, sign_len, digits_len, digits_end, begins_number}
use Rattle.jh_edn.proofs.PrefixLemmas.{prefix_len-cases}

digit_below : (c : ℕ) → is_digit c ≡ true → digit_value c < 10
unfolding is_digit
digit_below c h = grind (arith, common_steps)

pub and_both : (a b : Bool) → (a && b) ≡ true → (a ≡ true) × (b ≡ true)
and_both true b h = (refl, h)
and_both false b h = absurd cc

-- the first digits are digits
pub digits_lead : (s : List ℕ) → AllDigits 10 (take (prefix_len is_digit s) s)
digits_lead [] = tt
digits_lead (c ∷ s) =
    prefix_len-cases is_digit (λ n. AllDigits 10 (take n (c ∷ s))) c s (λ e. (digit_below c e, digits_lead s)) (λ e. tt)

pub sign_or : (s : List ℕ) (p q : Bool) → drop (cond (p || q) 1 0) s ≡ cond q (drop 1 s) (drop (cond p 1 0) s)
sign_or s true true = refl
sign_or s true false = refl
sign_or s false true = refl
sign_or s false false = refl

pub unsigned_is : (s : List ℕ) → drop (sign_len s) s ≡ without_leading_sign s
unfolding sign_len
unsigned_is s = sign_or s (eqb (get_or s 0 0) plus) (eqb (get_or s 0 0) minus)

cut_by : (c : ℕ) (s : List ℕ) (n : ℕ) (p q : Bool) → eqb c plus ≡ p → eqb c minus ≡ q → without_leading_sign (take (cond (p || q) 1 0 + n) (c ∷ s)) ≡ take n (drop (cond (p || q) 1 0) (c ∷ s))
cut_by c s n true true e f = let k : 1 + n ≡ suc n = omega arith in rw (k, e, f) refl
cut_by c s n true false e f = let k : 1 + n ≡ suc n = omega arith in rw (k, e, f) refl
cut_by c s n false true e f = let k : 1 + n ≡ suc n = omega arith in rw (k, e, f) refl
cut_by c s zero false false e f = refl
cut_by c s (suc n) false false e f = let k : 0 + suc n ≡ suc n = omega arith in rw (k, e, f) refl

-- a sign and so many bytes more, without the sign
pub cut_unsigned : (token : List ℕ) (n : ℕ) → without_leading_sign (take (sign_len token + n) token) ≡ take n (drop (sign_len token) token)
unfolding sign_len
cut_unsigned [] zero = refl
cut_unsigned [] (suc n) = let k : 0 + suc n ≡ suc n = omega arith in rw k refl
cut_unsigned (c ∷ s) n = cut_by c s n (eqb c plus) (eqb c minus) refl refl

first_leads : (s : List ℕ) → is_digit (get_or s 0 0) ≡ true → (0 < prefix_len is_digit s) × (0 < length s)
unfolding is_digit
first_leads [] h = absurd cc
first_leads (c ∷ s) h = rw h (omega arith, omega arith)

length_cut : (n : ℕ) (s : List ℕ) → 0 < n → 0 < length s → 0 < length (take n s)
length_cut zero s p q = absurd (omega arith)
length_cut (suc n) [] p q = absurd (omega arith)
length_cut (suc n) (c ∷ s) p q = omega arith

-- the sign and the digits of a number are a numeral
pub numeral_cut : (token : List ℕ) → begins_number token ≡ true → IsNumeral 10 (without_leading_sign (take (digits_end token) token))
numeral_cut token h =
    let s = drop (sign_len token) token in
    let some = first_leads s h in
    rw (cut_unsigned token (digits_len token)) (length_cut (prefix_len is_digit s) s some.0 some.1, digits_lead s)

pub fits_from : (z : ℤ) → ltb (magnitude z) (2 ^ 63) ≡ true → FitsSigned w64 z
fits_from (pos n) h = record { sfits = ltb-true _ _ h }
fits_from (negsuc n) h = record { sfits = ltb-true _ _ h }

pub too_large : (core : List ℕ) → ((IsNumeral 10 (without_leading_sign core) × FitsSigned w64 (signed_digits_value 10 core)) → ⊥) → IsNumeral 10 (without_leading_sign core)
    → ltb (magnitude (signed_digits_value 10 core)) (2 ^ 63) ≡ false
too_large core never numeral =
    elim (ltb (magnitude (signed_digits_value 10 core)) (2 ^ 63)) as (λ b. ltb (magnitude (signed_digits_value 10 core)) (2 ^ 63) ≡ b → b ≡ false) [
      | true ↦ λ e. absurd (never (numeral, fits_from (signed_digits_value 10 core) e))
      | false ↦ λ e. refl
    ] refl

-- all that is left behind a place, as a slice to the end has it
pub rest_whole : (k : ℕ) (s : List ℕ) → take (length s - k) (drop k s) ≡ drop k s
rest_whole k s = take_all (length s - k) (drop k s) (omega (arith, length-drop k s))
