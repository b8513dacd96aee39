-- The first of some values that is no generator, and the way to a bad part.
use Rattle.std.proofs.Common.{◌≡◌, refl, sym, ap, ◌∙◌, subst, ℕ, suc, zero, ◌+◌, ◌-◌, ◌<◌, ◌≤◌, Bool, true, false, List, [], ◌∷◌, ◌++◌, length, take, drop, arith, get_or}
use Rattle.std.specs.Prelude.{Option, None, Some, IfSome, is_some, option_map, if◌then◌else◌, not, position}
use Rattle.std.specs.List.{position_from}
use Rattle.std.specs.Prelude.{cond}
use Rattle.std.proofs.lemmas.Iterator.Adapters.{position_from-zero}
use Rattle.std.proofs.lemmas.List.Quantifiers.{position-Some}
use Rattle.jh_edn.specs.View.{view, views}
use Rattle.jh_edn.specs.Edn.{Edn, elements_of, size_of, size_list}
use Rattle.jh_edn.specs.declared.value.Value.{Value}
use Rattle.jh_gen.specs.BadPart as rule
use Rattle.jh_gen.specs.BadPart.{IsWayTo, IsStepInto, behind_numbers, first_no_generator, form_name, held_values, holds_behind, holds_of, is_generator, is_small_number, first_name}
use Rattle.jh_gen.specs.Generator.{Generator}
use Rattle.jh_gen.specs.GeneratorText.{◌>>=◌, parsed_generator}
use Rattle.jh_gen.specs.declared.bad_parts.FormStep.{FormStep}
use Rattle.jh_gen.proofs.TextLemmas.{part_falls, two_first}

pub none_of : {X : Type 0} (o : Option X) → is_some o ≡ false → o ≡ None
none_of None e = refl
none_of (Some x) e = absurd cc

not_false : (b : Bool) → not b ≡ true → b ≡ false
not_false false e = refl
not_false true e = absurd cc

not_true : (b : Bool) → not b ≡ false → b ≡ true
not_true true e = refl
not_true false e = absurd cc

-- The first of some values.

abbrev later : ℕ × Edn → ℕ × Edn
later bad = (suc bad.0, bad.1)

abbrev pub counted_from : ℕ → Option (ℕ × Edn) → Option (ℕ × Edn)
counted_from n o = option_map (λ bad. (n + bad.0, bad.1)) o

pub from_none : (o : Option (ℕ × Edn)) → o ≡ counted_from 0 o
from_none None = refl
from_none (Some bad) = let h : bad.0 ≡ 0 + bad.0 = omega arith in ap (λ m. Some (m, bad.1)) h

from_next : (n : ℕ) (o : Option (ℕ × Edn)) → counted_from n (option_map (λ bad. (suc bad.0, bad.1)) o) ≡ counted_from (n + 1) o
from_next n None = refl
from_next n (Some bad) = let h : n + suc bad.0 ≡ n + 1 + bad.0 = omega arith in ap (λ m. Some (m, bad.1)) h

pub first_good : (v : Edn) (vs : List Edn) → is_generator v ≡ true → first_no_generator (v ∷ vs) ≡ option_map (λ bad. (suc bad.0, bad.1)) (first_no_generator vs)
first_good v vs e = ap (λ b. if b then option_map (λ bad. (suc bad.0, bad.1)) (first_no_generator vs) else Some (1, v)) e

pub first_here : (v : Edn) (vs : List Edn) → is_generator v ≡ false → first_no_generator (v ∷ vs) ≡ Some (1, v)
first_here v vs e = ap (λ b. if b then option_map (λ bad. (suc bad.0, bad.1)) (first_no_generator vs) else Some (1, v)) e

abbrev is_bad : Value → Bool
is_bad part = not (is_generator (view part))

first_at : (xs : List Value) (i : ℕ) (x : Value) → i < length xs → x ≡ get_or xs i x → is_bad x ≡ true → ((k : ℕ) → k < i → is_bad (get_or xs k x) ≡ false) → first_no_generator (views xs) ≡ Some (i + 1, view x)
first_at [] i x lt e bad good = absurd (omega arith)
first_at (y ∷ xs) zero x lt e bad good = first_here (view y) (views xs) (ap (λ z. is_generator (view z)) (sym e) ∙ not_false (is_generator (view x)) bad) ∙ ap (λ z. Some (1, view z)) (sym e)
first_at (y ∷ xs) (suc i) x lt e bad good =
    first_good (view y) (views xs) (not_true (is_generator (view y)) (good 0 (omega arith)))
    ∙ ap (option_map (λ bad. (suc bad.0, bad.1))) (first_at xs i x (omega arith) e bad (λ k below. good (suc k) (omega (arith, below))))
    ∙ (let h : suc (i + 1) ≡ suc i + 1 = omega arith in ap (λ n. Some (n, view x)) h)

pub first_found : (xs : List Value) (i : ℕ) (x : Value) → position (λ part. not (is_generator (view part))) xs ≡ Some i → x ≡ get_or xs i x → Some (i + 1, view x) ≡ first_no_generator (views xs)
first_found xs i x at e =
    let found : (i < length xs) × (is_bad (get_or xs i x) ≡ true) × ((k : ℕ) → k < i → is_bad (get_or xs k x) ≡ false) = position-Some is_bad xs i x at in
    sym (first_at xs i x found.0 e (ap is_bad e ∙ found.1) found.2)

none_here : (b : Bool) (i : ℕ) (o : Option ℕ) → cond (not b) (Some i) o ≡ None → (b ≡ true) × (o ≡ None)
none_here true i o e = (refl, e)
none_here false i o e = absurd cc

none_from : (i : ℕ) (xs : List Value) → position_from is_bad i xs ≡ None → None ≡ first_no_generator (views xs)
none_from i [] e = refl
none_from i (y ∷ xs) e =
    let here = none_here (is_generator (view y)) i (position_from is_bad (i + 1) xs) e in
    ap (option_map (λ bad. (suc bad.0, bad.1))) (none_from (i + 1) xs here.1) ∙ sym (first_good (view y) (views xs) here.0)

pub none_found : (xs : List Value) → position (λ part. not (is_generator (view part))) xs ≡ None → None ≡ first_no_generator (views xs)
none_found xs e = none_from 0 xs (sym (position_from-zero is_bad xs) ∙ e)

pub found_falls : (xs : List Value) (i : ℕ) (x : Value) → position (λ part. not (is_generator (view part))) xs ≡ Some i → x ≡ get_or xs i x → size_of (view x) < size_list (views xs)
found_falls xs i x at e = part_falls xs i x (position-Some is_bad xs i x at).0 e

-- Reserves, part by part.

pub two_next : (rest : List Value) (x : Value) → 2 ≤ length rest → x ≡ get_or rest 1 x → (n : Value) × (rest ≡ n ∷ x ∷ take (length rest - 2) (drop 2 rest))
two_next [] x le e = absurd (omega arith)
two_next (a ∷ []) x le e = absurd (omega arith)
two_next (a ∷ b ∷ later) x le e = (a, two_first (a ∷ b ∷ later) a x le refl e)

pub form_goes_on : (rest later : List Value) (n x : Value) → rest ≡ n ∷ x ∷ later → is_small_number (view n) ≡ true → rule.is_reserve_form (views rest) ≡ rule.is_reserve_form (views later)
form_goes_on rest later n x e number = ap (λ ys. rule.is_reserve_form (views ys)) e ∙ ap (λ b. if b then rule.is_reserve_form (views later) else false) number

pub form_ends : (rest later : List Value) (n x : Value) → rest ≡ n ∷ x ∷ later → is_small_number (view n) ≡ false → rule.is_reserve_form (views rest) ≡ false
form_ends rest later n x e number = ap (λ ys. rule.is_reserve_form (views ys)) e ∙ ap (λ b. if b then rule.is_reserve_form (views later) else false) number

pub last_of_form : (rest : List Value) → length rest < 2 → rule.is_reserve_form (views rest) ≡ true → length rest ≡ 1
last_of_form [] lt e = absurd cc
last_of_form (x ∷ []) lt e = refl
last_of_form (x ∷ y ∷ rest) lt e = absurd (omega arith)

pub few_behind : (rest : List Value) → length rest < 2 → behind_numbers (views rest) ≡ views rest
few_behind [] lt = refl
few_behind (x ∷ []) lt = refl
few_behind (x ∷ y ∷ rest) lt = absurd (omega arith)

pub record Searched (xs rest : List Value) (before : ℕ) : Type 0 where
  pub same : first_no_generator (behind_numbers (views xs)) ≡ counted_from before (first_no_generator (behind_numbers (views rest)))
  pub smaller : size_list (views rest) ≤ size_list (views xs)
  pub count : before + length rest ≤ length xs

pub searched_one : (xs rest later : List Value) (n x : Value) (before : ℕ) → Searched xs rest before → rest ≡ n ∷ x ∷ later → is_generator (view x) ≡ true → Searched xs later (before + 1)
searched_one xs rest later n x before s e good = record {
  same = s.same ∙ ap (λ ys. counted_from before (first_no_generator (behind_numbers (views ys)))) e
      ∙ ap (counted_from before) (first_good (view x) (behind_numbers (views later)) good)
      ∙ from_next before (first_no_generator (behind_numbers (views later)));
  smaller = let h : size_list (views rest) ≡ size_list (views (n ∷ x ∷ later)) = ap (λ ys. size_list (views ys)) e in omega (arith, h, s.smaller);
  count = let h : length rest ≡ length (n ∷ x ∷ later) = ap length e in omega (arith, h, s.count);
}

pub record FoundBehind (xs : List Value) (place : ℕ) (x : Value) : Type 0 where
  pub found : Some (place, view x) ≡ first_no_generator (behind_numbers (views xs))
  pub smaller : size_of (view x) < size_list (views xs)

pub found_one : (xs rest later : List Value) (n x : Value) (before : ℕ) → Searched xs rest before → rest ≡ n ∷ x ∷ later → is_generator (view x) ≡ false → FoundBehind xs (before + 1) x
found_one xs rest later n x before s e bad = record {
  found = sym (s.same ∙ ap (λ ys. counted_from before (first_no_generator (behind_numbers (views ys)))) e
      ∙ ap (counted_from before) (first_here (view x) (behind_numbers (views later)) bad));
  smaller = let h : size_list (views rest) ≡ size_list (views (n ∷ x ∷ later)) = ap (λ ys. size_list (views ys)) e in omega (arith, h, s.smaller);
}

pub found_last : (xs rest : List Value) (before : ℕ) (o : Option (ℕ × Edn)) → Searched xs rest before → length rest < 2 → o ≡ first_no_generator (views rest) → counted_from before o ≡ first_no_generator (behind_numbers (views xs))
found_last xs rest before o s lt e = sym (s.same ∙ ap (λ ys. counted_from before (first_no_generator ys)) (few_behind rest lt) ∙ ap (counted_from before) (sym e))

-- The way.

no_form_in : (o : Option (List Edn)) → (o >>= first_name) ≡ None → holds_of o ≡ []
no_form_in None e = refl
no_form_in (Some []) e = refl
no_form_in (Some (first ∷ parts)) e = ap (λ name. holds_behind name parts) e

pub no_form : (v : Edn) → form_name v ≡ None → first_no_generator (held_values v) ≡ None
no_form v e = ap first_no_generator (no_form_in (elements_of v) e)

some_is : {X : Type 0} (x y : X) → Some x ≡ Some y → x ≡ y
some_is x y e = cc

in_later : (o : Option (ℕ × Edn)) (n : ℕ) (x : Edn) → option_map later o ≡ Some (n, x) → ((m : ℕ) (y : Edn) → o ≡ Some (m, y) → parsed_generator y ≡ None) → parsed_generator x ≡ None
in_later None n x e rec = absurd cc
in_later (Some bad) n x e rec = ap (λ p. parsed_generator p.1) (sym (some_is {X = ℕ × Edn} (suc bad.0, bad.1) (n, x) e)) ∙ rec bad.0 bad.1 refl

found_by : (b : Bool) (v : Edn) (vs : List Edn) (n : ℕ) (x : Edn) → is_generator v ≡ b → first_no_generator (v ∷ vs) ≡ Some (n, x) → ((m : ℕ) (y : Edn) → first_no_generator vs ≡ Some (m, y) → parsed_generator y ≡ None) → parsed_generator x ≡ None
found_by true v vs n x h e rec = in_later (first_no_generator vs) n x (sym (first_good v vs h) ∙ e) rec
found_by false v vs n x h e rec =
    ap (λ p. parsed_generator p.1) (sym (some_is {X = ℕ × Edn} (1, v) (n, x) (sym (first_here v vs h) ∙ e))) ∙ none_of (parsed_generator v) h

pub found_is_bad : (xs : List Edn) (n : ℕ) (x : Edn) → first_no_generator xs ≡ Some (n, x) → parsed_generator x ≡ None
found_is_bad [] n x e = absurd cc
found_is_bad (v ∷ vs) n x e = found_by (is_generator v) v vs n x refl e (found_is_bad vs)

pub leads_on : (way : List FormStep) (step : FormStep) (value part inner : Edn) → IsWayTo way value part → IsStepInto part step inner → IsWayTo (way ++ step ∷ []) value inner
leads_on [] step value part inner l next = (inner, subst (λ v. IsStepInto v step inner) (sym l) next, refl)
leads_on (first ∷ way) step value part inner l next = (l.0, l.1, leads_on way step l.0 part inner l.2 next)

pub leads_none : (way : List FormStep) (v : Edn) → way ≡ [] → IsWayTo way v v
leads_none way v e = subst (λ w. IsWayTo w v v) (sym e) refl

pub record LedOn (way : List FormStep) (value inner : Edn) : Type 0 where
  pub leads : IsWayTo way value inner
  pub bad : parsed_generator inner ≡ None

pub led_on : (way later : List FormStep) (step : FormStep) (value part inner : Edn) → IsWayTo way value part → IsStepInto part step inner → later ≡ way ++ step ∷ [] → LedOn later value inner
led_on way later step value part inner l next e = record {
  leads = subst (λ w. IsWayTo w value inner) (sym e) (leads_on way step value part inner l next);
  bad = found_is_bad (held_values part) step.place inner next.first;
}
