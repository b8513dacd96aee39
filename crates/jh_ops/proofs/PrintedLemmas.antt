-- The text of an operation: its pieces, one after another.
use Rattle.std.proofs.Common.{◌≡◌, ◌∙◌, ℕ, ℤ, List, [], ◌∷◌, ◌++◌, codes, sym, ap, append_assoc, append-nil}
use Rattle.std.specs.Prelude.{Option, Some, None, refl}
use Rattle.jh_edn.specs.Edn.{Edn, int, keyword, members_of}
use Rattle.jh_edn.specs.Print.{print, joined_text, member_texts}
use Rattle.jh_edn.specs.Parts.{behind_pair_text}
use Rattle.jh_ops.specs.Operation.{Operation}
use Rattle.jh_ops.specs.OperationWritten.{integer_pairs, kind_name, process_value, value_written}
use Rattle.jh_ops.specs.PrintedInside.{front_text, pair_text, rest_text, type_text}

abbrev joined_of : List (Edn × Edn) → List ℕ
joined_of pairs = joined_text (codes ", ") (member_texts (members_of pairs))

-- pairs behind a text
joined_rest : (t : List ℕ) (ps : List (Edn × Edn)) → joined_text (codes ", ") (t ∷ member_texts (members_of ps)) ≡ t ++ rest_text ps
joined_rest t [] = sym (append-nil t)
joined_rest t (p ∷ ps) =
    ap (λ (w : List ℕ). t ++ w)
    (ap (λ (w : List ℕ). codes ", " ++ w) (joined_rest (pair_text p) ps) ∙ sym (append_assoc (codes ", ") (pair_text p) (rest_text ps)))

-- an integer in front of pairs
fronted : (name : List ℕ) (integer : Option ℤ) (p : Edn × Edn) (ps : List (Edn × Edn))
    → joined_of (integer_pairs name integer ++ p ∷ ps) ≡ front_text name integer ++ joined_of (p ∷ ps)
fronted name None p ps = refl
fronted name (Some number) p ps = sym (append_assoc (pair_text (keyword name, int number)) (codes ", ") (joined_of (p ∷ ps)))

two_fronted : (index time : Option ℤ) (p : Edn × Edn) (ps : List (Edn × Edn))
    → joined_of (integer_pairs (codes "index") index ++ (integer_pairs (codes "time") time ++ p ∷ ps))
    ≡ front_text (codes "index") index ++ (front_text (codes "time") time ++ joined_of (p ∷ ps))
two_fronted index None p ps = fronted (codes "index") index p ps
two_fronted index (Some number) p ps =
    fronted (codes "index") index (keyword (codes "time"), int number) (p ∷ ps)
    ∙ ap (λ (w : List ℕ). front_text (codes "index") index ++ w) (fronted (codes "time") (Some number) p ps)

regrouped : (o a b t p f v r e : List ℕ)
    → ((o ++ (((a ++ b) ++ t) ++ p)) ++ ((f ++ v) ++ r)) ++ e ≡ o ++ ((a ++ (b ++ (t ++ (p ++ (f ++ (v ++ r)))))) ++ e)
regrouped o a b t p f v r e = simp append_assoc

-- the head and the body, between braces
pub operation_text : (op : Operation)
    → ((codes "{" ++ (((front_text (codes "index") op.index ++ front_text (codes "time") op.time) ++ type_text op.kind) ++ behind_pair_text (codes "process") (process_value op.process)))
    ++ ((behind_pair_text (codes "f") op.f ++ behind_pair_text (codes "value") op.value) ++ rest_text op.rest))
    ++ codes "}"
    ≡ print (value_written op)
operation_text op =
    let type : Edn × Edn = (keyword (codes "type"), keyword (kind_name op.kind)) in
    let others : List (Edn × Edn) = (keyword (codes "process"), process_value op.process) ∷ (keyword (codes "f"), op.f) ∷ (keyword (codes "value"), op.value) ∷ op.rest in
    regrouped (codes "{") (front_text (codes "index") op.index) (front_text (codes "time") op.time) (type_text op.kind)
    (behind_pair_text (codes "process") (process_value op.process)) (behind_pair_text (codes "f") op.f) (behind_pair_text (codes "value") op.value) (rest_text op.rest) (codes "}")
    ∙ sym (ap (λ (w : List ℕ). codes "{" ++ (w ++ codes "}"))
    (two_fronted op.index op.time type others
    ∙ ap (λ (w : List ℕ). front_text (codes "index") op.index ++ (front_text (codes "time") op.time ++ w)) (joined_rest (pair_text type) others)))
