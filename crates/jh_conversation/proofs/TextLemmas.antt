-- Lists that the code makes one by one.
use Rattle.std.proofs.Common.{◌≡◌, ℕ, zero, suc, true, false, append-nil, codes, ◌+◌, ◌-◌, ◌<◌, ◌≤◌}
use Rattle.std.proofs.Common.{List, [], ◌∷◌, ◌++◌, length, get_or, take, drop, reverse, refl, sym}
use Rattle.std.proofs.Common.{ap, ap₂, ◌∙◌, arith, subst, All}
use Rattle.std.specs.Prelude.{if◌then◌else◌}
use Rattle.std.specs.Prelude.{Result, Ok, Err, IfOk, OnOk}
use Rattle.std.specs.List.{AllByRecursion}
use Rattle.std.proofs.lemmas.List.{append_assoc, get_or-reverse, length-reverse, reverse-append}
use Rattle.std.proofs.lemmas.List.{reverse-reverse, take-append-drop}
use Rattle.jh_ops.specs.HistoryWritten.{history_lines}
use Rattle.jh_ops.specs.Operation.{Operation}
use Rattle.jh_test_parts.specs.Records.{recorded_operations}
use Rattle.jh_conversation.specs.Lines.{is_test_over}
use Rattle.jh_conversation.specs.Machine.{Machine}
use Rattle.jh_test_parts.specs.Test.{TestValue}
use Rattle.jh_conversation.specs.Text.{end_line, recorded_lines, recorded_history, said_lines}
use Rattle.jh_test_parts.specs.declared.records.Recorded.{Recorded}

-- What was said is the end of the history.

take_front : {A : Type 0} (a b : List A) → take (length a) (a ++ b) ≡ a
take_front [] b = refl
take_front (x ∷ a) b = ap (λ l. x ∷ l) (take_front a b)

length_drop : {A : Type 0} (k : ℕ) (xs : List A) → k ≤ length xs → length (drop k xs) + k ≡ length xs
length_drop zero xs h = omega arith
length_drop (suc k) [] h = absurd (omega arith)
length_drop (suc k) (x ∷ xs) h = let rest = length_drop k xs (omega arith) in omega (arith, rest)

pub said_end : {A : Type 0} (xs : List A) (n : ℕ) → n ≤ length xs → reverse (take n (reverse xs)) ≡ drop (length xs - n) xs
said_end xs n few =
    let k = length xs - n in
    let long : length (reverse (drop k xs)) ≡ n = (let a = length_drop k xs (omega arith) in let b = length-reverse (drop k xs) in omega (arith, a, b, few)) in
    ap (λ l. reverse (take n (reverse l))) (sym (take-append-drop k xs))
    ∙ ap (λ l. reverse (take n l)) (reverse-append (take k xs) (drop k xs))
    ∙ ap (λ m. reverse (take m (reverse (drop k xs) ++ reverse (take k xs)))) (sym long)
    ∙ ap reverse (take_front (reverse (drop k xs)) (reverse (take k xs)))
    ∙ reverse-reverse (drop k xs)

length_take : {A : Type 0} (n : ℕ) (xs : List A) → n ≤ length xs → length (take n xs) ≡ n
length_take zero xs h = refl
length_take (suc n) [] h = absurd (omega arith)
length_take (suc n) (x ∷ xs) h = ap suc (length_take n xs (omega arith))

pub said_first : {A : Type 0} (xs : List A) (n : ℕ) → n ≤ length xs → length (reverse xs) - length (take n (reverse xs)) ≡ length xs - n
said_first xs n few = let a = length-reverse xs in let b = length_take n (reverse xs) (let e = length-reverse xs in omega (arith, e, few)) in omega (arith, a, b)

-- what holds of all records, newest first, holds of each

at_place : {A : Type 0} (P : A → Type 0) (ys : List A) (k : ℕ) (d : A) → AllByRecursion P ys → k < length ys → P (get_or ys k d)
at_place P [] k d all h = absurd (omega arith)
at_place P (y ∷ ys) zero d all h = all.0
at_place P (y ∷ ys) (suc k) d all h = at_place P ys k d all.1 (omega arith)

pub all_reversed : {A : Type 0} (P : A → Type 0) (xs : List A) → AllByRecursion P (reverse xs) → All P xs
all_reversed P xs all = λ k d less.
    let long = length-reverse xs in
    let there : get_or (reverse (reverse xs)) k d ≡ get_or (reverse xs) (length (reverse xs) - 1 - k) d = get_or-reverse (reverse xs) k d (omega (arith, less, long)) in
    subst P (sym there ∙ ap (λ l. get_or l k d) (reverse-reverse xs)) (at_place P (reverse xs) (length (reverse xs) - 1 - k) d all (omega (arith, less, long)))

-- what is written

lines_are : (t : TestValue) (m : Machine) (records : List Recorded) (n : ℕ) → n ≤ length records → m.history ≡ reverse records → m.said ≡ take n m.history
    → history_lines (recorded_operations t.start.names (length records - n) (drop (length records - n) records)) ≡ history_lines (recorded_operations t.start.names (length m.history - length m.said) (reverse m.said))
lines_are t m records n few history said =
    let first : length m.history - length m.said ≡ length records - n =
    ap₂ (λ (h s : List Recorded). length h - length s) history (said ∙ ap (take n) history) ∙ said_first records n few in
    let last : reverse m.said ≡ drop (length records - n) records = ap reverse (said ∙ ap (take n) history) ∙ said_end records n few in
    ap₂ (λ (k : ℕ) (rs : List Recorded). history_lines (recorded_operations t.start.names k rs)) (sym first) (sym last)

module _ (t : TestValue) (m : Machine) (records : List Recorded) (n : ℕ) (few : n ≤ length records) (history : m.history ≡ reverse records) (said : m.said ≡ take n m.history) (out written : List ℕ)
    (lines : written ≡ out ++ history_lines (recorded_operations t.start.names (length records - n) (drop (length records - n) records))) where
  pub written_over : (next : List ℕ) → next ≡ written ++ end_line → is_test_over m ≡ true → next ≡ out ++ said_lines t m
  written_over next added over =
      let all = history_lines (recorded_operations t.start.names (length m.history - length m.said) (reverse m.said)) in
      added ∙ ap (λ l. l ++ end_line) (lines ∙ ap (λ l. out ++ l) (lines_are t m records n few history said))
      ∙ append_assoc out all end_line
      ∙ ap (λ b. out ++ (all ++ (if b then end_line else []))) (sym over)

  pub written_on : is_test_over m ≡ false → written ≡ out ++ said_lines t m
  written_on over =
      let all = history_lines (recorded_operations t.start.names (length m.history - length m.said) (reverse m.said)) in
      lines ∙ ap (λ l. out ++ l) (lines_are t m records n few history said ∙ sym (append-nil all))
      ∙ ap (λ b. out ++ (all ++ (if b then end_line else []))) (sym over)

-- what follows where a call succeeded

pub on_ok : {A E : Type 0} {P Q : Type 0} (r : Result A E) → (P → Q) → OnOk r P → OnOk r Q
on_ok (Ok a) follows p = follows p
on_ok (Err e) follows p = tt

pub if_ok : {A E : Type 0} {P Q : A → Type 0} (r : Result A E) → ((a : A) → P a → Q a) → IfOk r P → IfOk r Q
if_ok (Ok a) follows p = follows a p
if_ok (Err e) follows p = tt

-- the whole history

module _ (t : TestValue) (m : Machine) (records : List Recorded) (names : List (List ℕ)) where
  pub history_written : (out next : List ℕ) → names ≡ t.start.names → m.history ≡ reverse records → next ≡ out ++ history_lines (recorded_operations names 0 (drop 0 records)) → next ≡ out ++ recorded_lines t m
  history_written out next named history is = is ∙ ap₂ (λ (n : List (List ℕ)) r. out ++ history_lines (recorded_operations n 0 r)) named (sym (ap reverse history ∙ reverse-reverse records))

  pub history_is : names ≡ t.start.names → m.history ≡ reverse records → (ops : List Operation) → ops ≡ recorded_operations names 0 records → ops ≡ recorded_history t m
  history_is named history ops is = is ∙ ap₂ (λ (n : List (List ℕ)) r. recorded_operations n 0 r) named (sym (ap reverse history ∙ reverse-reverse records))
