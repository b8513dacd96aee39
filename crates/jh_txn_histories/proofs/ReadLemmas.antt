-- What is found in a list, one after another; answers, one by one.
use Rattle.std.proofs.Common.{◌≡◌, ◌∙◌, ℕ, ◌+◌, ◌<◌, ◌≤◌, Bool, true, false, List, [], ◌∷◌, ◌++◌, Option, Some, None, option_map, length, get_or, drop, map, refl, sym, ap, arith, append_assoc, append-nil}
use Rattle.std.specs.Prelude.{◌&&◌, option_and_then}
use Rattle.std.proofs.lemmas.List.{drop_more, drop_all}
use Rattle.jh_txn_histories.specs.ReadingInside.{found_behind, written, written_ops}
use Rattle.jh_txn_histories.specs.Written.{each_found, are_answers, is_answer}
use Rattle.jh_txn_histories.specs.declared.written.WrittenOp.{WrittenOp}

pub each_found-map : {A B C : Type 0} (f : B → Option C) (v : A → B) (xs : List A) → each_found (λ x. f (v x)) xs ≡ each_found f (map v xs)
each_found-map f v [] = refl
each_found-map f v (x ∷ xs) = ap (λ o. option_and_then (λ y. option_map (λ ys. y ∷ ys) o) (f (v x))) (each_found-map f v xs)

pub none_in_front : {A : Type 0} (o : Option (List A)) → found_behind [] o ≡ o
none_in_front None = refl
none_in_front (Some ys) = refl

joined : {A : Type 0} (front : List A) (y : A) (o : Option (List A)) → found_behind front (option_map (λ ys. y ∷ ys) o) ≡ found_behind (front ++ y ∷ []) o
joined front y None = refl
joined front y (Some ys) = ap Some (sym (append_assoc front (y ∷ []) ys))

module _ {A B : Type 0} (f : A → Option B) (xs : List A) (i : ℕ) (d : A) (front : List B) where
  -- one more
  pub each_more : (y : B) → i < length xs → f (get_or xs i d) ≡ Some y → found_behind front (each_found f (drop i xs)) ≡ found_behind (front ++ y ∷ []) (each_found f (drop (i + 1) xs))
  each_more y low is =
      ap (λ ys. found_behind front (each_found f ys)) (drop_more xs i d low)
      ∙ ap (λ o. found_behind front (option_and_then (λ y. option_map (λ ys. y ∷ ys) (each_found f (drop (i + 1) xs))) o)) is
      ∙ joined front y (each_found f (drop (i + 1) xs))

  -- one that is none
  pub each_stop : i < length xs → f (get_or xs i d) ≡ None → found_behind front (each_found f (drop i xs)) ≡ None
  each_stop low is =
      ap (λ ys. found_behind front (each_found f ys)) (drop_more xs i d low)
      ∙ ap (λ o. found_behind front (option_and_then (λ y. option_map (λ ys. y ∷ ys) (each_found f (drop (i + 1) xs))) o)) is

  -- no more
  pub each_end : length xs ≤ i → found_behind front (each_found f (drop i xs)) ≡ Some front
  each_end past = ap (λ ys. found_behind front (each_found f ys)) (drop_all i xs past) ∙ ap Some (append-nil front)

-- as many answers as were asked for
pub not_as_many : (asked answers : List WrittenOp) → (length asked ≡ length answers → ⊥) → are_answers (written_ops asked) (written_ops answers) ≡ false
not_as_many [] [] differ = absurd (differ refl)
not_as_many [] (b ∷ ys) differ = refl
not_as_many (a ∷ xs) [] differ = refl
not_as_many (a ∷ xs) (b ∷ ys) differ = ap (λ t. is_answer (written a) (written b) && t) (not_as_many xs ys (λ e. differ (omega (arith, e)))) ∙ false_behind (is_answer (written a) (written b))
  where
    false_behind : (t : Bool) → (t && false) ≡ false
    false_behind true = refl
    false_behind false = refl

pub answers_more : (asked answers : List WrittenOp) (i : ℕ) (d e : WrittenOp) → i < length asked → i < length answers
    → are_answers (written_ops (drop i asked)) (written_ops (drop i answers))
    ≡ (is_answer (written (get_or asked i d)) (written (get_or answers i e)) && are_answers (written_ops (drop (i + 1) asked)) (written_ops (drop (i + 1) answers)))
answers_more asked answers i d e low below =
    ap (λ xs. are_answers (written_ops xs) (written_ops (drop i answers))) (drop_more asked i d low)
    ∙ ap (λ ys. are_answers (written_ops (get_or asked i d ∷ drop (i + 1) asked)) (written_ops ys)) (drop_more answers i e below)

pub answers_end : (asked answers : List WrittenOp) (i : ℕ) → length asked ≤ i → length answers ≤ i → are_answers (written_ops (drop i asked)) (written_ops (drop i answers)) ≡ true
answers_end asked answers i past beyond =
    ap (λ xs. are_answers (written_ops xs) (written_ops (drop i answers))) (drop_all i asked past)
    ∙ ap (λ ys. are_answers [] (written_ops ys)) (drop_all i answers beyond)

-- Two that stand at one index of what was asked for and of the answers.
module _ (asked answers : List WrittenOp) (n : ℕ) (one other : WrittenOp) (low : n < length asked) (below : n < length answers) (first : one ≡ get_or asked n one) (second : other ≡ get_or answers n other) where
  turn : are_answers (written_ops (drop n asked)) (written_ops (drop n answers)) ≡ (is_answer (written one) (written other) && are_answers (written_ops (drop (n + 1) asked)) (written_ops (drop (n + 1) answers)))
  turn =
      answers_more asked answers n one other low below
      ∙ ap (λ op. is_answer (written op) (written (get_or answers n other)) && are_answers (written_ops (drop (n + 1) asked)) (written_ops (drop (n + 1) answers))) (sym first)
      ∙ ap (λ op. is_answer (written one) (written op) && are_answers (written_ops (drop (n + 1) asked)) (written_ops (drop (n + 1) answers))) (sym second)

  pub answers_stop : is_answer (written one) (written other) ≡ false → are_answers (written_ops (drop n asked)) (written_ops (drop n answers)) ≡ false
  answers_stop wrong = turn ∙ ap (λ b. b && are_answers (written_ops (drop (n + 1) asked)) (written_ops (drop (n + 1) answers))) wrong

  pub answers_next : is_answer (written one) (written other) ≡ true → are_answers (written_ops (drop (n + 1) asked)) (written_ops (drop (n + 1) answers)) ≡ are_answers (written_ops (drop n asked)) (written_ops (drop n answers))
  answers_next right = sym (turn ∙ ap (λ b. b && are_answers (written_ops (drop (n + 1) asked)) (written_ops (drop (n + 1) answers))) right)
