-- The line of a result: a map, pair by pair.
use Rattle.std.proofs.Common.{◌≡◌, ℕ, ◌+◌, ◌<◌, eqb, length, take, get_or, List, [], ◌∷◌, ◌++◌, codes, map, refl, sym, ap, ◌∙◌, append_assoc}
use Rattle.jh_edn.specs.Edn.{Edn, keyword, members_of}
use Rattle.jh_edn.specs.Parts.{behind_pair_text, map_of}
use Rattle.jh_edn.specs.Print.{print, joined_text, member_texts, separator_before}
use Rattle.jh_edn.proofs.CitedLemmas.{joined_more}
use Rattle.jh_check.specs.Lines.{count_pair, map_with_verdict, tally_value, verdict_value}
use Rattle.jh_check.specs.Tallies.{view_tally}
use Rattle.jh_check.specs.TallyInside.{entry_text}
use Rattle.jh_check.specs.declared.tally.Counted.{Counted}
use Rattle.jh_check.specs.declared.verdict.Verdict.{Verdict}

abbrev text_of : List (Edn × Edn) → List ℕ
text_of pairs = print (map_of pairs)

abbrev pair_text : Edn × Edn → List ℕ
pair_text p = print p.0 ++ (codes " " ++ print p.1)

-- the pairs behind the first, and the end
abbrev behind : List (Edn × Edn) → List ℕ
behind [] = codes "}"
behind (p ∷ ps) = (codes ", " ++ pair_text p) ++ behind ps

joined_behind : (t : List ℕ) (ps : List (Edn × Edn)) → joined_text (codes ", ") (t ∷ member_texts (members_of ps)) ++ codes "}" ≡ t ++ behind ps
joined_behind t [] = refl
joined_behind t (p ∷ ps) =
    let rest = joined_text (codes ", ") (pair_text p ∷ member_texts (members_of ps)) in
    append_assoc t (codes ", " ++ rest) (codes "}")
    ∙ ap (λ (w : List ℕ). t ++ w)
    (append_assoc (codes ", ") rest (codes "}") ∙ ap (λ (w : List ℕ). codes ", " ++ w) (joined_behind (pair_text p) ps) ∙ sym (append_assoc (codes ", ") (pair_text p) (behind ps)))

text_is : (p : Edn × Edn) (ps : List (Edn × Edn)) → text_of (p ∷ ps) ≡ (codes "{" ++ pair_text p) ++ behind ps
text_is p ps = ap (λ (w : List ℕ). codes "{" ++ w) (joined_behind (pair_text p) ps) ∙ sym (append_assoc (codes "{") (pair_text p) (behind ps))

abbrev opening : Verdict → List ℕ
opening verdict = codes "{:valid? " ++ print (verdict_value verdict)

abbrev valid : Verdict → Edn × Edn
valid verdict = (keyword (codes "valid?"), verdict_value verdict)

-- the opening, so many parts and the end are the text of a map
pub no_part : (verdict : Verdict) → opening verdict ++ codes "}" ≡ text_of (valid verdict ∷ [])
no_part verdict = sym (text_is (valid verdict) [])

pub one_part : (verdict : Verdict) (a : List ℕ) (x x' : Edn)
    → x ≡ x' → (opening verdict ++ behind_pair_text a x) ++ codes "}" ≡ text_of (valid verdict ∷ (keyword a, x') ∷ [])
one_part verdict a x x' ex =
    (λ i. (opening verdict ++ behind_pair_text a (ex i)) ++ codes "}")
    ∙ append_assoc (opening verdict) (behind_pair_text a x') (codes "}")
    ∙ sym (text_is (valid verdict) ((keyword a, x') ∷ []))

pub three_parts : (verdict : Verdict) (a b : List ℕ) (x y x' y' : Edn)
    → x ≡ x' → y ≡ y'
    → ((opening verdict ++ behind_pair_text a x) ++ behind_pair_text b y) ++ codes "}"
    ≡ text_of (valid verdict ∷ (keyword a, x') ∷ (keyword b, y') ∷ [])
three_parts verdict a b x y x' y' ex ey =
    (λ i. ((opening verdict ++ behind_pair_text a (ex i)) ++ behind_pair_text b (ey i)) ++ codes "}")
    ∙ tails (opening verdict) (behind_pair_text a x') (behind_pair_text b y') (codes "}")
    ∙ sym (text_is (valid verdict) ((keyword a, x') ∷ (keyword b, y') ∷ [])) where
      tails : (v p q t : List ℕ) → ((v ++ p) ++ q) ++ t ≡ v ++ (p ++ (q ++ t))
      tails v p q t = simp append_assoc

pub four_parts : (verdict : Verdict) (a b d : List ℕ) (x y z x' y' z' : Edn)
    → x ≡ x' → y ≡ y' → z ≡ z'
    → (((opening verdict ++ behind_pair_text a x) ++ behind_pair_text b y) ++ behind_pair_text d z) ++ codes "}"
    ≡ text_of (valid verdict ∷ (keyword a, x') ∷ (keyword b, y') ∷ (keyword d, z') ∷ [])
four_parts verdict a b d x y z x' y' z' ex ey ez =
    (λ i. (((opening verdict ++ behind_pair_text a (ex i)) ++ behind_pair_text b (ey i)) ++ behind_pair_text d (ez i)) ++ codes "}")
    ∙ tails (opening verdict) (behind_pair_text a x') (behind_pair_text b y') (behind_pair_text d z') (codes "}")
    ∙ sym (text_is (valid verdict) ((keyword a, x') ∷ (keyword b, y') ∷ (keyword d, z') ∷ [])) where
      tails : (v p q r t : List ℕ) → (((v ++ p) ++ q) ++ r) ++ t ≡ v ++ (p ++ (q ++ (r ++ t)))
      tails v p q r t = simp append_assoc

pub five_parts : (verdict : Verdict) (a b d e : List ℕ) (x y z u x' y' z' u' : Edn)
    → x ≡ x' → y ≡ y' → z ≡ z' → u ≡ u'
    → ((((opening verdict ++ behind_pair_text a x) ++ behind_pair_text b y) ++ behind_pair_text d z) ++ behind_pair_text e u) ++ codes "}"
    ≡ text_of (valid verdict ∷ (keyword a, x') ∷ (keyword b, y') ∷ (keyword d, z') ∷ (keyword e, u') ∷ [])
five_parts verdict a b d e x y z u x' y' z' u' ex ey ez eu =
    (λ i. ((((opening verdict ++ behind_pair_text a (ex i)) ++ behind_pair_text b (ey i)) ++ behind_pair_text d (ez i)) ++ behind_pair_text e (eu i)) ++ codes "}")
    ∙ tails (opening verdict) (behind_pair_text a x') (behind_pair_text b y') (behind_pair_text d z') (behind_pair_text e u') (codes "}")
    ∙ sym (text_is (valid verdict) ((keyword a, x') ∷ (keyword b, y') ∷ (keyword d, z') ∷ (keyword e, u') ∷ [])) where
      tails : (v p q r s t : List ℕ) → ((((v ++ p) ++ q) ++ r) ++ s) ++ t ≡ v ++ (p ++ (q ++ (r ++ (s ++ t))))
      tails v p q r s t = simp append_assoc

pub six_parts : (verdict : Verdict) (a b c d e f : List ℕ) (s t u v w x u' v' w' : Edn)
    → u ≡ u' → v ≡ v' → w ≡ w'
    → ((((((opening verdict ++ behind_pair_text a s) ++ behind_pair_text b t) ++ behind_pair_text c u) ++ behind_pair_text d v) ++ behind_pair_text e w) ++ behind_pair_text f x) ++ codes "}"
    ≡ print (map_with_verdict verdict ((keyword a, s) ∷ (keyword b, t) ∷ (keyword c, u') ∷ (keyword d, v') ∷ (keyword e, w') ∷ (keyword f, x) ∷ []))
six_parts verdict a b c d e f s t u v w x u' v' w' eu ev ew =
    (λ i. ((((((opening verdict ++ behind_pair_text a s) ++ behind_pair_text b t) ++ behind_pair_text c (eu i)) ++ behind_pair_text d (ev i)) ++ behind_pair_text e (ew i)) ++ behind_pair_text f x) ++ codes "}")
    ∙ tails (opening verdict) (behind_pair_text a s) (behind_pair_text b t) (behind_pair_text c u') (behind_pair_text d v') (behind_pair_text e w') (behind_pair_text f x) (codes "}")
    ∙ sym (text_is (keyword (codes "valid?"), verdict_value verdict) ((keyword a, s) ∷ (keyword b, t) ∷ (keyword c, u') ∷ (keyword d, v') ∷ (keyword e, w') ∷ (keyword f, x) ∷ [])) where
      tails : (o p q r i j k z : List ℕ) → ((((((o ++ p) ++ q) ++ r) ++ i) ++ j) ++ k) ++ z ≡ o ++ (p ++ (q ++ (r ++ (i ++ (j ++ (k ++ z))))))
      tails o p q r i j k z = simp append_assoc

pub eight_parts : (verdict : Verdict) (a b c d e f g : List ℕ) (s t u v w x y : Edn)
    → (((((((opening verdict ++ behind_pair_text a s) ++ behind_pair_text b t) ++ behind_pair_text c u) ++ behind_pair_text d v) ++ behind_pair_text e w) ++ behind_pair_text f x) ++ behind_pair_text g y) ++ codes "}"
    ≡ print (map_with_verdict verdict ((keyword a, s) ∷ (keyword b, t) ∷ (keyword c, u) ∷ (keyword d, v) ∷ (keyword e, w) ∷ (keyword f, x) ∷ (keyword g, y) ∷ []))
eight_parts verdict a b c d e f g s t u v w x y =
    tails (opening verdict) (behind_pair_text a s) (behind_pair_text b t) (behind_pair_text c u) (behind_pair_text d v) (behind_pair_text e w) (behind_pair_text f x) (behind_pair_text g y) (codes "}")
    ∙ sym (text_is (keyword (codes "valid?"), verdict_value verdict) ((keyword a, s) ∷ (keyword b, t) ∷ (keyword c, u) ∷ (keyword d, v) ∷ (keyword e, w) ∷ (keyword f, x) ∷ (keyword g, y) ∷ [])) where
      tails : (o p q r i j k l z : List ℕ) → (((((((o ++ p) ++ q) ++ r) ++ i) ++ j) ++ k) ++ l) ++ z ≡ o ++ (p ++ (q ++ (r ++ (i ++ (j ++ (k ++ (l ++ z)))))))
      tails o p q r i j k l z = simp append_assoc

pub mapped_twice : {A B C : Type 0} (f : B → C) (g : A → B) (xs : List A) → map (λ x. f (g x)) xs ≡ map f (map g xs)
mapped_twice f g [] = refl
mapped_twice f g (x ∷ xs) = ap (λ w. f (g x) ∷ w) (mapped_twice f g xs)

-- ---- a tally

-- one entry more
pub entries_push : (cs : List Counted) (i : ℕ) (d : Counted) → i < length cs
    → joined_text (codes ", ") (map entry_text (take (i + 1) cs)) ≡ (joined_text (codes ", ") (map entry_text (take i cs)) ++ separator_before (eqb i 0) (codes ", ")) ++ entry_text (get_or cs i d)
entries_push = joined_more (map entry_text) entry_text refl (λ c cs. refl) (codes ", ")

entries_are_members : (cs : List Counted) → map entry_text cs ≡ member_texts (members_of (map count_pair (view_tally cs)))
entries_are_members [] = refl
entries_are_members (c ∷ cs) = ap (λ w. entry_text c ∷ w) (entries_are_members cs)

pub tally_text : (cs : List Counted) (entries : List (Edn × ℕ)) → view_tally cs ≡ entries
    → (codes "{" ++ joined_text (codes ", ") (map entry_text cs)) ++ codes "}" ≡ print (tally_value entries)
tally_text cs entries e =
    ap (λ w. (codes "{" ++ joined_text (codes ", ") w) ++ codes "}") (entries_are_members cs) ∙ ap (λ w. print (tally_value w)) e
