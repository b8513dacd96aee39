-- Two lists of findings of one history: where each key has one result, there is one line.
use Rattle.std.proofs.Common.{◌≡◌, ◌∙◌, List, [], ◌∷◌, codes, map, refl, sym, subst}
use Rattle.std.specs.Prelude.{All}
use Rattle.std.proofs.lemmas.List.Elements.{All-head, All-tail}
use Rattle.jh_edn.specs.Edn.{Edn, keyword}
use Rattle.jh_edn.specs.Parts.{vector_of}
use Rattle.jh_edn.specs.Print.{print}
use Rattle.jh_edn.specs.View.{view}
use Rattle.jh_check.specs.Lines.{map_with_verdict}
use Rattle.jh_check.specs.Verdicts.{merged_verdict}
use Rattle.jh_checkers.specs.Findings.{finding_verdict}
use Rattle.jh_checkers.specs.Lines.{finding_value}
use Rattle.jh_checkers.specs.declared.finding.Finding.{Finding}
use Rattle.jh_independent.specs.Lines.{key_value, keys_line}
use Rattle.jh_independent.specs.Refusals.{KeysQuestion, AreFindings, IsFindingOf}
use Rattle.jh_independent.specs.declared.serial.KeyFinding.{KeyFinding}

-- each key has one result, with one verdict
abbrev pub HasOneResult : KeysQuestion → Type 0
HasOneResult asked = (key : Edn) (a b : Finding) → IsFindingOf asked key a → IsFindingOf asked key b
    → (finding_value a ≡ finding_value b) × (finding_verdict a ≡ finding_verdict b)

same_parts : (asked : KeysQuestion) → HasOneResult asked → (a b : List KeyFinding) → map (λ one. view one.key) a ≡ map (λ one. view one.key) b
    → All (λ one. IsFindingOf asked (view one.key) one.finding) a → All (λ one. IsFindingOf asked (view one.key) one.finding) b
    → (map key_value a ≡ map key_value b) × (map (λ one. finding_verdict one.finding) a ≡ map (λ one. finding_verdict one.finding) b)
same_parts asked agree [] [] keys x y = (refl, refl)
same_parts asked agree [] (two ∷ b) keys x y = absurd cc
same_parts asked agree (one ∷ a) [] keys x y = absurd cc
same_parts asked agree (one ∷ a) (two ∷ b) keys x y =
    let P : KeyFinding → Type 0 = λ one. IsFindingOf asked (view one.key) one.finding in
    let key : view one.key ≡ view two.key = cc in
    let rest : map (λ one. view one.key) a ≡ map (λ one. view one.key) b = cc in
    let same = agree (view one.key) one.finding two.finding (All-head P one a x) (subst (λ k. IsFindingOf asked k two.finding) (sym key) (All-head P two b y)) in
    let others = same_parts asked agree a b rest (All-tail P one a x) (All-tail P two b y) in
    (λ i. vector_of (key i ∷ same.0 i ∷ []) ∷ others.0 i, λ i. same.1 i ∷ others.1 i)

pub one_line : (asked : KeysQuestion) (a b : List KeyFinding) → HasOneResult asked → AreFindings asked a → AreFindings asked b → keys_line a ≡ keys_line b
one_line asked a b agree x y =
    let parts = same_parts asked agree a b (x.keys ∙ sym y.keys) x.each y.each in
    λ i. print (map_with_verdict (merged_verdict (parts.1 i)) ((keyword (codes "keys"), vector_of (parts.0 i)) ∷ []))
