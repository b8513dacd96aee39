-- Printing, element by element.
use Rattle.std.proofs.Common.{◌≡◌, ℕ, zero, suc, ◌+◌, ◌<◌, Bool, true, false, eqb, List, [], ◌∷◌, ◌++◌, codes, length, take, get_or, Option, Some, None, refl, sym, ap, ◌∙◌, append_assoc, arith}
use Rattle.std.specs.Io.KnownBytes.{Appends}
use Rattle.std.proofs.lemmas.Bool.{ne_eqb}
use Rattle.jh_edn.specs.Edn.{items_of, members_of}
use Rattle.jh_edn.specs.View.{view, views, view_pairs}
use Rattle.jh_edn.specs.Print.{print, joined_text, item_texts, member_texts, separator_before}
use Rattle.jh_edn.specs.declared.value.Value.{Value}
use Rattle.jh_edn.proofs.PushLemmas.{push_from_clauses}

pub appends_then : (a b c : Option (List ℕ)) (s t : List ℕ) → Appends a b s → Appends b c t → Appends a c (s ++ t)
appends_then None b c s t h k = tt
appends_then (Some xs) None c s t h k = absurd h
appends_then (Some xs) (Some ys) None s t h k = absurd k
appends_then (Some xs) (Some ys) (Some zs) s t h k = k ∙ ap (λ (w : List ℕ). w ++ t) h ∙ append_assoc xs s t

abbrev is_none : List (List ℕ) → Bool
is_none [] = true
is_none (t ∷ ts) = false

-- one text more
joined_push : (separator t : List ℕ) (ts : List (List ℕ)) → joined_text separator (ts ++ t ∷ []) ≡ (joined_text separator ts ++ separator_before (is_none ts) separator) ++ t
joined_push separator t [] = refl
joined_push separator t (u ∷ []) = sym (append_assoc u separator t)
joined_push separator t (u ∷ v ∷ ts) =
    let inner = joined_text separator (v ∷ ts) in
    ap (λ (w : List ℕ). u ++ (separator ++ w)) (joined_push separator t (v ∷ ts))
    ∙ ap (λ (w : List ℕ). u ++ w) (sym (append_assoc separator (inner ++ separator) t) ∙ ap (λ (w : List ℕ). w ++ t) (sym (append_assoc separator inner separator)))
    ∙ sym (append_assoc u ((separator ++ inner) ++ separator) t)
    ∙ ap (λ (w : List ℕ). w ++ t) (sym (append_assoc u (separator ++ inner) separator))

-- texts joined, one element more
module _ {X : Type 0} (texts : List X → List (List ℕ)) (text : X → List ℕ) (none : texts [] ≡ []) (more : (x : X) (xs : List X) → texts (x ∷ xs) ≡ text x ∷ texts xs) where
  begin : (xs : List X) (i : ℕ) → i < length xs → is_none (texts (take i xs)) ≡ eqb i 0
  begin [] i h = absurd (omega arith)
  begin (x ∷ xs) zero h = rw none refl
  begin (x ∷ xs) (suc i) h = rw (more x (take i xs)) (sym (ne_eqb (suc i) 0 (λ e. omega arith)))

  pub joined_more : (separator : List ℕ) (xs : List X) (i : ℕ) (d : X) → i < length xs
      → joined_text separator (texts (take (i + 1) xs)) ≡ (joined_text separator (texts (take i xs)) ++ separator_before (eqb i 0) separator) ++ text (get_or xs i d)
  joined_more separator xs i d h =
      let pushed = joined_push separator (text (get_or xs i d)) (texts (take i xs)) in
      ap (joined_text separator) (push_from_clauses texts text none more xs i d h) ∙ (rw (begin xs i h) at pushed)

-- one element more
pub items_push : (vs : List Value) (i : ℕ) (d : Value) → i < length vs
    → joined_text (codes " ") (item_texts (items_of (views (take (i + 1) vs))))
    ≡ (joined_text (codes " ") (item_texts (items_of (views (take i vs)))) ++ separator_before (eqb i 0) (codes " ")) ++ print (view (get_or vs i d))
items_push = joined_more (λ vs. item_texts (items_of (views vs))) (λ v. print (view v)) refl (λ v vs. refl) (codes " ")

abbrev pair_text : Value × Value → List ℕ
pair_text p = print (view p.0) ++ (codes " " ++ print (view p.1))

-- one pair more
pub members_push : (ps : List (Value × Value)) (i : ℕ) (d : Value × Value) → i < length ps
    → joined_text (codes ", ") (member_texts (members_of (view_pairs (take (i + 1) ps))))
    ≡ (((joined_text (codes ", ") (member_texts (members_of (view_pairs (take i ps)))) ++ separator_before (eqb i 0) (codes ", ")) ++ print (view (get_or ps i d).0)) ++ codes " ") ++ print (view (get_or ps i d).1)
members_push ps i d h =
    let p = get_or ps i d in
    let front = joined_text (codes ", ") (member_texts (members_of (view_pairs (take i ps)))) ++ separator_before (eqb i 0) (codes ", ") in
    joined_more (λ qs. member_texts (members_of (view_pairs qs))) pair_text refl (λ q qs. refl) (codes ", ") ps i d h
    ∙ sym (append_assoc (front ++ print (view p.0)) (codes " ") (print (view p.1)) ∙ append_assoc front (print (view p.0)) (codes " " ++ print (view p.1)))
