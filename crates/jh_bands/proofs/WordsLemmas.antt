-- Texts written behind others, and elements in words.
use Rattle.std.proofs.Common.{◌≡◌, ℕ, zero, suc, ◌+◌, ◌<◌, false, cond, List, [], ◌∷◌, ◌++◌, length, take, get_or, refl, sym, ap, ◌∙◌, append_assoc, arith}
use Rattle.std.specs.Prelude.{◌==◌, OnOk, Result, Ok, Err, is_ok}
use Rattle.jh_edn.specs.Edn.{Edn, items_of, list, size_list, size_of, vector}
use Rattle.jh_edn.specs.View.{view, views}
use Rattle.jh_edn.specs.declared.value.Value.{Value}
use Rattle.jh_edn.specs.declared.value.Value.TheVariants.{List as Listed, Vector}
use mathlib.Core.Logic.{◌⊎◌, inl, inr}
use Rattle.jh_bands.specs.Words.{elements_in_words, gap_between, in_words}
use Rattle.jh_bands.specs.WordsInside.{gap_behind}

-- ---- texts

-- what is written behind a text is there where the call succeeds
pub on_extended : {E : Type 0} (r : Result (Unit {0}) E) (old new bytes all : List ℕ) → new ≡ cond (is_ok r) (old ++ bytes) old → bytes ≡ all → OnOk r (new ≡ old ++ all)
on_extended (Ok u) old new bytes all e same = e ∙ ap (λ w. old ++ w) same
on_extended (Err x) old new bytes all e same = tt

-- two texts behind one
pub on_both : {E : Type 0} (r : Result (Unit {0}) E) (old between new one other all : List ℕ) → between ≡ old ++ one → OnOk r (new ≡ between ++ other) → one ++ other ≡ all
    → OnOk r (new ≡ old ++ all)
on_both (Ok u) old between new one other all e h same = h ∙ ap (λ w. w ++ other) e ∙ append_assoc old one other ∙ ap (λ w. old ++ w) same
on_both (Err x) old between new one other all e h same = tt

-- ---- elements

-- the gap behind values is the one behind the last of them
pub gap_last : (vs : List Value) (i : ℕ) (v last : Value) → i + 1 ≡ length vs → last ≡ get_or vs i last → gap_between (view last) (view v) ≡ gap_behind (views vs) (view v)
gap_last [] i v last at same = absurd (omega arith)
gap_last (x ∷ []) zero v last at same = ap (λ w. gap_between (view w) (view v)) same
gap_last (x ∷ []) (suc i) v last at same = absurd (omega arith)
gap_last (x ∷ y ∷ ys) zero v last at same = absurd (omega arith)
gap_last (x ∷ y ∷ ys) (suc i) v last at same = gap_last (y ∷ ys) i v last (omega arith) same

elements_more : (xs : List Edn) (x : Edn)
    → elements_in_words (items_of (xs ++ x ∷ [])) ≡ (elements_in_words (items_of xs) ++ gap_behind xs x) ++ in_words x
elements_more [] x = refl
elements_more (y ∷ []) x = sym (append_assoc (in_words y) (gap_between y x) (in_words x))
elements_more (y ∷ z ∷ zs) x =
    ap (λ (w : List ℕ). in_words y ++ (gap_between y z ++ w)) (elements_more (z ∷ zs) x) ∙ simp append_assoc

taken_more : (vs : List Value) (i : ℕ) (d : Value) → i < length vs → views (take (i + 1) vs) ≡ views (take i vs) ++ view (get_or vs i d) ∷ []
taken_more [] i d below = absurd (omega arith)
taken_more (v ∷ vs) zero d below = refl
taken_more (v ∷ vs) (suc i) d below =
    let next : suc i + 1 ≡ suc (i + 1) = omega arith in
    ap (λ m. views (take m (v ∷ vs))) next ∙ ap (λ ws. view v ∷ ws) (taken_more vs i d (omega arith))

-- one element more is written
pub written_more : (vs : List Value) (i : ℕ) (v : Value) (start front gapped all : List ℕ) → i < length vs → v ≡ get_or vs i v
    → front ≡ start ++ elements_in_words (items_of (views (take i vs))) → gapped ≡ front ++ gap_behind (views (take i vs)) (view v) → all ≡ gapped ++ in_words (view v)
    → all ≡ start ++ elements_in_words (items_of (views (take (i + 1) vs)))
written_more vs i v start front gapped all below same before gap words =
    let xs = views (take i vs) in
    let inner = elements_in_words (items_of xs) in
    let more : elements_in_words (items_of (views (take (i + 1) vs))) ≡ (inner ++ gap_behind xs (view v)) ++ in_words (view v) =
    ap (λ ws. elements_in_words (items_of ws)) (taken_more vs i v below ∙ ap (λ w. xs ++ view w ∷ []) (sym same)) ∙ elements_more xs (view v) in
    let gap_text = gap_behind xs (view v) in
    let parts : ((start ++ inner) ++ gap_text) ++ in_words (view v) ≡ start ++ ((inner ++ gap_text) ++ in_words (view v)) = simp append_assoc in
    words ∙ ap (λ w. w ++ in_words (view v)) (gap ∙ ap (λ w. w ++ gap_text) before) ∙ parts ∙ ap (λ w. start ++ w) (sym more)

-- ---- going down

-- an element is smaller than all
pub size_below : (vs : List Value) (i : ℕ) (v : Value) → i < length vs → v ≡ get_or vs i v → size_of (view v) < size_list (views vs)
size_below [] i v below same = absurd (omega arith)
size_below (x ∷ xs) zero v below same = omega (arith, ap (λ w. size_of (view w)) same)
size_below (x ∷ xs) (suc i) v below same = omega (arith, size_below xs i v (omega arith) same)

-- a list or a vector that has elements is its elements in words
pub sequence_words : (value : Value) (us vs : List Value) (xs : List Edn) → (length us == 0) ≡ false → views us ≡ xs → views vs ≡ xs → (value ≡ Listed xs) ⊎ (value ≡ Vector xs)
    → elements_in_words (items_of (views vs)) ≡ in_words (view value)
sequence_words value [] vs xs some same alike kind = absurd cc
sequence_words value (u ∷ us) vs xs some same alike kind = ap (λ ws. elements_in_words (items_of ws)) (alike ∙ sym same) ∙ seen kind
  where
    seen : (value ≡ Listed xs) ⊎ (value ≡ Vector xs) → elements_in_words (items_of (views (u ∷ us))) ≡ in_words (view value)
    seen (inl is) = ap (λ ws. in_words (list (items_of ws))) same ∙ ap (λ v. in_words (view v)) (sym is)
    seen (inr is) = ap (λ ws. in_words (vector (items_of ws))) same ∙ ap (λ v. in_words (view v)) (sym is)
