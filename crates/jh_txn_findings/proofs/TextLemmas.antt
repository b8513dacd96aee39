-- The text of a line: its pieces, one after another.
use Rattle.std.proofs.Common.{◌≡◌, ◌∙◌, ℕ, List, [], ◌∷◌, ◌++◌, codes, refl, sym, ap, append_assoc, append-nil}
use Rattle.jh_edn.specs.Edn.{Edn, keyword, items_of, members_of}
use Rattle.jh_edn.specs.Parts.{behind_pair_text, vector_of}
use Rattle.jh_edn.specs.Print.{print, item_texts, joined_text, member_texts}
use Rattle.jh_check.specs.Lines.{map_with_verdict, operations_value, verdict_value}
use Rattle.jh_check.specs.declared.verdict.Verdict.{Verdict}
use Rattle.jh_ops.specs.declared.operation.Op.{Op}
use Rattle.jh_txn_findings.specs.TextInside.{pairs_text, values_text}

-- ---- maps

joined_pairs : (t : List ℕ) (ps : List (Edn × Edn)) → joined_text (codes ", ") (t ∷ member_texts (members_of ps)) ≡ t ++ pairs_text ps
joined_pairs t [] = sym (append-nil t)
joined_pairs t (p ∷ ps) =
    let pair = print p.0 ++ (codes " " ++ print p.1) in
    ap (λ (w : List ℕ). t ++ w)
    (ap (λ (w : List ℕ). codes ", " ++ w) (joined_pairs pair ps) ∙ sym (append_assoc (codes ", ") pair (pairs_text ps)))

-- the verdict, the pairs behind it, and the end
pub line_text : (verdict : Verdict) (ps : List (Edn × Edn))
    → ((codes "{:valid? " ++ print (verdict_value verdict)) ++ pairs_text ps) ++ codes "}" ≡ print (map_with_verdict verdict ps)
line_text verdict ps = sym (ap (λ (w : List ℕ). codes "{" ++ (w ++ codes "}")) (joined_pairs (codes ":valid? " ++ print (verdict_value verdict)) ps))

-- three pairs, one behind another
pub three_pairs : (a b d : List ℕ) (x x' y z : Edn) → x ≡ x'
    → (behind_pair_text a x ++ behind_pair_text b y) ++ behind_pair_text d z ≡ pairs_text ((keyword a, x') ∷ (keyword b, y) ∷ (keyword d, z) ∷ [])
three_pairs a b d x x' y z e =
    (λ i. (behind_pair_text a (e i) ++ behind_pair_text b y) ++ behind_pair_text d z)
    ∙ grouped (behind_pair_text a x') (behind_pair_text b y) (behind_pair_text d z) where
      grouped : (p q r : List ℕ) → (p ++ q) ++ r ≡ p ++ (q ++ (r ++ []))
      grouped p q r = append_assoc p q r ∙ ap (λ (w : List ℕ). p ++ (q ++ w)) (sym (append-nil r))

-- two pairs
pub two_pairs : (a b : List ℕ) (x x' y : Edn) → x ≡ x' → behind_pair_text a x ++ behind_pair_text b y ≡ pairs_text ((keyword a, x') ∷ (keyword b, y) ∷ [])
two_pairs a b x x' y e = (λ i. behind_pair_text a (e i) ++ behind_pair_text b y) ∙ ap (λ (w : List ℕ). behind_pair_text a x' ++ w) (sym (append-nil (behind_pair_text b y)))

-- pairs behind pairs
pub pairs_append : (ps qs : List (Edn × Edn)) → pairs_text (ps ++ qs) ≡ pairs_text ps ++ pairs_text qs
pairs_append [] qs = refl
pairs_append (p ∷ ps) qs =
    let pair = codes ", " ++ (print p.0 ++ (codes " " ++ print p.1)) in
    ap (λ (w : List ℕ). pair ++ w) (pairs_append ps qs) ∙ sym (append_assoc pair (pairs_text ps) (pairs_text qs))

-- ---- vectors

joined_values : (t : List ℕ) (vs : List Edn) → joined_text (codes " ") (t ∷ item_texts (items_of vs)) ≡ t ++ values_text vs
joined_values t [] = sym (append-nil t)
joined_values t (v ∷ vs) =
    ap (λ (w : List ℕ). t ++ w)
    (ap (λ (w : List ℕ). codes " " ++ w) (joined_values (print v) vs) ∙ sym (append_assoc (codes " ") (print v) (values_text vs)))

-- a first value, the values behind it, and the end
pub vector_text : (v : Edn) (vs : List Edn) → ((codes "[" ++ print v) ++ values_text vs) ++ codes "]" ≡ print (vector_of (v ∷ vs))
vector_text v vs = sym (ap (λ (w : List ℕ). codes "[" ++ (w ++ codes "]")) (joined_values (print v) vs))

-- operations, as a pair
pub operations_text : (ops ops' : List Op) → ops ≡ ops'
    → behind_pair_text (codes "operations") (operations_value ops) ≡ pairs_text ((keyword (codes "operations"), operations_value ops') ∷ [])
operations_text ops ops' e =
    (λ i. behind_pair_text (codes "operations") (operations_value (e i)))
    ∙ sym (append-nil (behind_pair_text (codes "operations") (operations_value ops')))
