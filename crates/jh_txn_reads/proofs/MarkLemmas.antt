-- Marks of the elements of a list.
use Rattle.std.proofs.Common.{◌≡◌, ◌<◌, ◌+◌, ℕ, zero, suc, Option, Some, None, Bool, true, false, List, [], ◌∷◌, ◌++◌, length, take, drop, get_or, set, replicate, refl, sym, ap, subst, ◌∙◌, inl, inr, arith, IsSomeAnd}
use Rattle.std.specs.Prelude.{◌||◌}
use Rattle.std.proofs.lemmas.Bool.{false≢true, cases_Bool, cases_eq, cases_lt, false_from_ne_true, ne_eqb}
use Rattle.std.proofs.lemmas.List.{drop_all, drop_more, get_or-replicate, get_or-set_other, get_or-set_same, get_or_default, get_or_past, length-replicate, take_more}
use Rattle.jh_txn.specs.Transactions.{ComesBefore, HasNoRepeat, includes}
use Rattle.jh_txn.proofs.ListLemmas.{before_right, cut_at, head_once, includes_cases, includes_cons, includes_left, includes_middle, not_both, once_push, one_is, tail_once}
use Rattle.jh_txn_writers.specs.declared.writer.Writer.{Writer}
use Rattle.jh_txn_reads.specs.Inside.{AreElementMarks, IsOutOfTurn, previous_of}
use Rattle.jh_txn_reads.proofs.NeighbourLemmas.{behind}

pub nothing_marked : (marks : List Bool) (count : ℕ) → marks ≡ replicate count false → AreElementMarks [] marks
nothing_marked marks count is e = ap (λ bs. get_or bs e false) is ∙ elim (cases_lt e count) as (λ _. get_or (replicate count false) e false ≡ false) [
  | inl low ↦ get_or-replicate count e false false low
  | inr past ↦ get_or_past (replicate count false) e false (omega (arith, length-replicate count false, past))
]

includes_other : (xs : List ℕ) (x p : ℕ) → (p ≡ x → ⊥) → includes (xs ++ x ∷ []) p ≡ includes xs p
includes_other xs x p other = elim (cases_Bool (includes xs p)) as (λ _. includes (xs ++ x ∷ []) p ≡ includes xs p) [
  | inl is ↦ includes_left xs (x ∷ []) p is ∙ sym is
  | inr lacks ↦
      let none : includes (xs ++ x ∷ []) p ≡ false = false_from_ne_true _ (λ is. elim (includes_cases xs (x ∷ []) p is) as (λ _. ⊥) [ inl e ↦ not_both _ e lacks | inr e ↦ other (sym (one_is x p e)) ]) in
      none ∙ sym lacks
]

-- what is left of a list with none twice
drop_once : (xs : List ℕ) (k : ℕ) → HasNoRepeat xs → HasNoRepeat (drop k xs)
drop_once xs zero once = once
drop_once [] (suc k) once = once
drop_once (x ∷ xs) (suc k) once = drop_once xs k (tail_once x xs once)

-- one more at the end
mark_push : (xs : List ℕ) (marks : List Bool) (x : ℕ) → x < length marks → AreElementMarks xs marks → AreElementMarks (xs ++ x ∷ []) (set marks x true)
mark_push xs marks x low are p = elim (cases_eq p x) as (λ _. get_or (set marks x true) p false ≡ includes (xs ++ x ∷ []) p) [
  | inl same ↦
      ap (λ q. get_or (set marks x true) q false) same
      ∙ get_or-set_same marks x true false low
      ∙ sym (subst (λ q. includes (xs ++ x ∷ []) q ≡ true) (sym same) (includes_middle xs [] x))
  | inr other ↦ get_or-set_other marks x p true false other ∙ are p ∙ sym (includes_other xs x p other)
]

-- the first one less
mark_pop : (x : ℕ) (xs : List ℕ) (marks : List Bool) → x < length marks → HasNoRepeat (x ∷ xs) → AreElementMarks (x ∷ xs) marks → AreElementMarks xs (set marks x false)
mark_pop x xs marks low once are p = elim (cases_eq p x) as (λ _. get_or (set marks x false) p false ≡ includes xs p) [
  | inl same ↦
      ap (λ q. get_or (set marks x false) q false) same
      ∙ get_or-set_same marks x false false low
      ∙ sym (subst (λ q. includes xs q ≡ false) (sym same) (false_from_ne_true _ (head_once x xs once)))
  | inr other ↦ get_or-set_other marks x p false false other ∙ are p ∙ ap (λ b. b || includes xs p) (ne_eqb x p (λ e. other (sym e)))
]

module _ (list : List ℕ) (marks : List Bool) (i : ℕ) (low : i < length list) (there : get_or list i 0 < length marks) where
  pub marks_more : AreElementMarks (take i list) marks → AreElementMarks (take (i + 1) list) (set marks (get_or list i 0) true)
  marks_more are = subst (λ xs. AreElementMarks xs (set marks (get_or list i 0) true)) (sym (take_more list i 0 low)) (mark_push (take i list) marks (get_or list i 0) there are)

  pub is_marked_at : AreElementMarks (take i list) marks → (b : Bool) → b ≡ get_or marks (get_or list i 0) b → b ≡ includes (take i list) (get_or list i 0)
  is_marked_at are b read = read ∙ get_or_default marks (get_or list i 0) b false there ∙ are (get_or list i 0)

  pub distinct_more : HasNoRepeat (take i list) → includes (take i list) (get_or list i 0) ≡ false → HasNoRepeat (take (i + 1) list)
  distinct_more once new = subst HasNoRepeat (sym (take_more list i 0 low)) (once_push (take i list) (get_or list i 0) once (λ h. not_both _ h new))

  pub marks_less : HasNoRepeat list → AreElementMarks (drop i list) marks → AreElementMarks (drop (i + 1) list) (set marks (get_or list i 0) false)
  marks_less once are =
      let rest : drop i list ≡ get_or list i 0 ∷ drop (i + 1) list = drop_more list i 0 low in
      mark_pop (get_or list i 0) (drop (i + 1) list) marks there (subst HasNoRepeat rest (drop_once list i once)) (subst (λ xs. AreElementMarks xs marks) rest are)

pub marks_gone : (list : List ℕ) (marks : List Bool) (i : ℕ) → length list ≡ i → AreElementMarks (drop i list) marks → AreElementMarks [] marks
marks_gone list marks i is are = subst (λ xs. AreElementMarks xs marks) (drop_all i list (omega (arith, is))) are

-- What is behind an element, and which of them its writer appended just before it.
module _ (table : List (Option Writer)) (list : List ℕ) (i : ℕ) (low : i < length list) where
  pub out_of_turn : (found : Option ℕ) (marks : List Bool) → found ≡ previous_of table (get_or list i 0) → AreElementMarks (drop (i + 1) list) marks → IsSomeAnd found (λ x. get_or marks x false ≡ true) → IsOutOfTurn table list
  out_of_turn None marks is are h = absurd h
  out_of_turn (Some one) marks is are h = (one, get_or list i 0, sym is, subst (λ xs. ComesBefore xs (get_or list i 0) one) (sym (cut_at list i low)) (before_right (take i list) (get_or list i 0 ∷ drop (i + 1) list) (get_or list i 0) one (inl (refl, sym (are one) ∙ h))))

  pub in_turn_more : HasNoRepeat list → (found : Option ℕ) (marks : List Bool) → found ≡ previous_of table (get_or list i 0) → AreElementMarks (drop (i + 1) list) marks → (IsSomeAnd found (λ x. get_or marks x false ≡ true) → ⊥)
      → ((one other : ℕ) → previous_of table other ≡ Some one → ComesBefore list other one → includes (drop i list) other ≡ true)
      → (one other : ℕ) → previous_of table other ≡ Some one → ComesBefore list other one → includes (drop (i + 1) list) other ≡ true
  in_turn_more once found marks is are none each one other previous before =
      elim (includes_cons (get_or list i 0) (drop (i + 1) list) other (subst (λ xs. includes xs other ≡ true) (drop_more list i 0 low) (each one other previous before))) as (λ _. includes (drop (i + 1) list) other ≡ true) [
        | inr later ↦ later
        | inl here ↦
            let cut = cut_at list i low in
            let there : includes (drop (i + 1) list) one ≡ true = behind (take i list) (drop (i + 1) list) (get_or list i 0) one (subst HasNoRepeat cut once) (subst (λ xs. ComesBefore xs (get_or list i 0) one) cut (subst (λ y. ComesBefore list y one) (sym here) before)) in
            let known : found ≡ Some one = is ∙ ap (previous_of table) here ∙ previous in
            absurd (none (subst (λ o. IsSomeAnd o (λ x. get_or marks x false ≡ true)) (sym known) (are one ∙ there)))
      ]

pub none_out_of_turn : (table : List (Option Writer)) (list : List ℕ) (i : ℕ) → length list ≡ i → ((one other : ℕ) → previous_of table other ≡ Some one → ComesBefore list other one → includes (drop i list) other ≡ true) → IsOutOfTurn table list → ⊥
none_out_of_turn table list i is each out = false≢true (subst (λ xs. includes xs out.1 ≡ true) (drop_all i list (omega (arith, is))) (each out.0 out.1 out.2 out.3))
