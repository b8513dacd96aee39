-- The errors of a line, piece by piece.
use Rattle.std.proofs.Common.{◌≡◌, ◌∙◌, ℕ, Bool, true, false, ◌&&◌, List, [], ◌∷◌, ◌++◌, codes, refl, sym, ap, append_assoc, append-nil}
use Rattle.std.specs.Prelude.{Option, Some, None, is_none}
use Rattle.jh_edn.specs.Edn.{Edn, keyword, members_of}
use Rattle.jh_edn.specs.Parts.{map_of}
use Rattle.jh_edn.specs.Print.{joined_text, member_texts, print, separator_before}
use Rattle.jh_bank.specs.BankInside.{entries_text}
use Rattle.jh_bank.specs.BankLines.{errors_value, kind_pairs}
use Rattle.jh_bank.specs.declared.judge.ReadErrors.{ReadErrors}

-- ---- one error

-- its pair
pub kind_text_is : (first : Bool) (name : List ℕ) (errors : ReadErrors)
    → (separator_before first (codes ", ") ++ (codes ":" ++ (name ++ codes " "))) ++ print (errors_value errors) ≡ entries_text first (kind_pairs name (Some errors))
kind_text_is first name errors =
    let value = print (errors_value errors) in
    let separator = separator_before first (codes ", ") in
    append_assoc separator (codes ":" ++ (name ++ codes " ")) value
    ∙ ap (λ (w : List ℕ). separator ++ (codes ":" ++ w)) (append_assoc name (codes " ") value)
    ∙ ap (λ (w : List ℕ). separator ++ w) (sym (append-nil (print (keyword name) ++ (codes " " ++ value))))

-- ---- all of them

abbrev pair_text : Edn × Edn → List ℕ
pair_text pair = print pair.0 ++ (codes " " ++ print pair.1)

entries_joined : (pairs : List (Edn × Edn)) → entries_text true pairs ≡ joined_text (codes ", ") (member_texts (members_of pairs))
entries_joined [] = refl
entries_joined (p ∷ []) = append-nil (pair_text p)
entries_joined (p ∷ q ∷ pairs) = ap (λ (w : List ℕ). pair_text p ++ (codes ", " ++ w)) (entries_joined (q ∷ pairs))

-- whether the next pair is still the first
abbrev still : Bool → List (Edn × Edn) → Bool
still first [] = first
still first (pair ∷ pairs) = false

still_none : (pairs : List (Edn × Edn)) → still false pairs ≡ false
still_none [] = refl
still_none (pair ∷ pairs) = refl

entries_append : (first : Bool) (ps qs : List (Edn × Edn)) → entries_text first (ps ++ qs) ≡ entries_text first ps ++ entries_text (still first ps) qs
entries_append first [] qs = refl
entries_append first (p ∷ ps) qs =
    let separator = separator_before first (codes ", ") in
    let behind : entries_text false (ps ++ qs) ≡ entries_text false ps ++ entries_text false qs =
    entries_append false ps qs ∙ ap (λ b. entries_text false ps ++ entries_text b qs) (still_none ps) in
    ap (λ (w : List ℕ). separator ++ (pair_text p ++ w)) behind
    ∙ ap (λ (w : List ℕ). separator ++ w) (sym (append_assoc (pair_text p) (entries_text false ps) (entries_text false qs)))
    ∙ sym (append_assoc separator (pair_text p ++ entries_text false ps) (entries_text false qs))

still_first : (first : Bool) (name : List ℕ) (errors : Option ReadErrors) → (first && is_none errors) ≡ still first (kind_pairs name errors)
still_first true name None = refl
still_first false name None = refl
still_first true name (Some errors) = refl
still_first false name (Some errors) = refl

four_joined : (two three four : Bool) (p q r s : List (Edn × Edn)) → two ≡ still true p → three ≡ still two q → four ≡ still three r
    → entries_text true (p ++ (q ++ (r ++ s))) ≡ entries_text true p ++ (entries_text two q ++ (entries_text three r ++ entries_text four s))
four_joined two three four p q r s is_two is_three is_four =
    entries_append true p (q ++ (r ++ s))
    ∙ ap (λ b. entries_text true p ++ entries_text b (q ++ (r ++ s))) (sym is_two)
    ∙ ap (λ (w : List ℕ). entries_text true p ++ w)
    (entries_append two q (r ++ s)
    ∙ ap (λ b. entries_text two q ++ entries_text b (r ++ s)) (sym is_three)
    ∙ ap (λ (w : List ℕ). entries_text two q ++ w) (entries_append three r s ∙ ap (λ b. entries_text three r ++ entries_text b s) (sym is_four)))

grouped : (t u v w : List ℕ) → ((((codes "{" ++ t) ++ u) ++ v) ++ w) ++ codes "}" ≡ codes "{" ++ ((t ++ (u ++ (v ++ w))) ++ codes "}")
grouped t u v w = simp append_assoc

pub kinds_text : (a b d e : List ℕ) (first second third fourth : Option ReadErrors) (two three four : Bool)
    → two ≡ (true && is_none first) → three ≡ (two && is_none second) → four ≡ (three && is_none third)
    → ((((codes "{" ++ entries_text true (kind_pairs a first)) ++ entries_text two (kind_pairs b second)) ++ entries_text three (kind_pairs d third)) ++ entries_text four (kind_pairs e fourth)) ++ codes "}"
    ≡ print (map_of (kind_pairs a first ++ (kind_pairs b second ++ (kind_pairs d third ++ kind_pairs e fourth))))
kinds_text a b d e first second third fourth two three four is_two is_three is_four =
    grouped (entries_text true (kind_pairs a first)) (entries_text two (kind_pairs b second)) (entries_text three (kind_pairs d third)) (entries_text four (kind_pairs e fourth))
    ∙ ap (λ (w : List ℕ). codes "{" ++ (w ++ codes "}"))
    (sym (four_joined two three four (kind_pairs a first) (kind_pairs b second) (kind_pairs d third) (kind_pairs e fourth)
    (is_two ∙ still_first true a first) (is_three ∙ still_first two b second) (is_four ∙ still_first three d third))
    ∙ entries_joined (kind_pairs a first ++ (kind_pairs b second ++ (kind_pairs d third ++ kind_pairs e fourth))))
