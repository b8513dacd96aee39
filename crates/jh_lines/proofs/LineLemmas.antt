-- Lines and answers, where a stream goes on.
use Rattle.std.proofs.Common.{◌≡◌, ℕ, Bool, ◌==◌, true, false, cond, List, [], ◌∷◌, ◌++◌, refl, sym, ap, ◌∙◌}
use Rattle.std.proofs.Common.{append_assoc, append-nil}
use Rattle.jh_lines.specs.Lines.{lines_from, rest_from, last_line, whole_lines, all_lines}
use Rattle.jh_lines.specs.Answering.{after_lines, answers_to_lines, said_to_all}

pub rest_from-append : (line xs ys : List ℕ) → rest_from line (xs ++ ys) ≡ rest_from (rest_from line xs) ys
rest_from-append line [] ys = refl
rest_from-append line (x ∷ xs) ys =
    elim (x == 10) as (λ b. cond b (rest_from [] (xs ++ ys)) (rest_from (line ++ x ∷ []) (xs ++ ys))
    ≡ rest_from (cond b (rest_from [] xs) (rest_from (line ++ x ∷ []) xs)) ys)
    [ true ↦ rest_from-append [] xs ys | false ↦ rest_from-append (line ++ x ∷ []) xs ys ]

pub lines_from-append : (line xs ys : List ℕ)
    → lines_from line (xs ++ ys) ≡ lines_from line xs ++ lines_from (rest_from line xs) ys
lines_from-append line [] ys = refl
lines_from-append line (x ∷ xs) ys =
    elim (x == 10) as (λ b. cond b (line ∷ lines_from [] (xs ++ ys)) (lines_from (line ++ x ∷ []) (xs ++ ys))
    ≡ cond b (line ∷ lines_from [] xs) (lines_from (line ++ x ∷ []) xs)
    ++ lines_from (cond b (rest_from [] xs) (rest_from (line ++ x ∷ []) xs)) ys)
    [ true ↦ ap (λ l. line ∷ l) (lines_from-append [] xs ys) | false ↦ lines_from-append (line ++ x ∷ []) xs ys ]

module _ {M : Type 0} (after_line : M → List ℕ → M) (answer_to : M → List ℕ → List ℕ) where
  pub after_lines-append : (m : M) (xs ys : List (List ℕ)) → after_lines after_line m (xs ++ ys)
      ≡ after_lines after_line (after_lines after_line m xs) ys
  after_lines-append m [] ys = refl
  after_lines-append m (x ∷ xs) ys = after_lines-append (after_line m x) xs ys

  pub answers_to_lines-append : (m : M) (xs ys : List (List ℕ)) → answers_to_lines after_line answer_to m (xs ++ ys)
      ≡ answers_to_lines after_line answer_to m xs ++ answers_to_lines after_line answer_to (after_lines after_line m xs) ys
  answers_to_lines-append m [] ys = refl
  answers_to_lines-append m (x ∷ xs) ys =
      ap (λ l. answer_to m x ++ l) (answers_to_lines-append (after_line m x) xs ys) ∙ sym (append_assoc (answer_to m x) _ _)

  -- where the machine listens no more
  abbrev pub StaysOver : (M → Bool) → Type 0
  StaysOver has_finished = (m : M) (line : List ℕ) → has_finished m ≡ true
      → (answer_to m line ≡ []) × (has_finished (after_line m line) ≡ true)

  module _ (has_finished : M → Bool) (stays_over : StaysOver has_finished) where
    says_nothing : (m : M) (lines : List (List ℕ)) → has_finished m ≡ true → answers_to_lines after_line answer_to m lines ≡ []
    says_nothing m [] over = refl
    says_nothing m (line ∷ lines) over =
        let one = stays_over m line over in
        ap (λ l. l ++ answers_to_lines after_line answer_to (after_line m line) lines) one.0
        ∙ says_nothing (after_line m line) lines one.1

    pub said_to_all-over : (opening : M → List ℕ) (m : M) (xs ys : List ℕ)
        → has_finished (after_lines after_line m (whole_lines xs)) ≡ true
        → said_to_all opening after_line answer_to m (xs ++ ys)
        ≡ opening m ++ answers_to_lines after_line answer_to m (whole_lines xs)
    said_to_all-over opening m xs ys over =
        let behind : List (List ℕ) = lines_from (rest_from [] xs) ys ++ last_line (rest_from [] (xs ++ ys)) in
        let parts : all_lines (xs ++ ys) ≡ whole_lines xs ++ behind =
        ap (λ l. l ++ last_line (rest_from [] (xs ++ ys))) (lines_from-append [] xs ys)
        ∙ append_assoc (whole_lines xs) _ _ in
        ap (λ l. opening m ++ l)
        (ap (answers_to_lines after_line answer_to m) parts ∙ answers_to_lines-append m (whole_lines xs) behind
        ∙ ap (λ l. answers_to_lines after_line answer_to m (whole_lines xs) ++ l) (says_nothing _ behind over) ∙ append-nil _)
