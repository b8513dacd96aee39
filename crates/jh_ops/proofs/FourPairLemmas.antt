-- Four things added at the end, one by one.
use Rattle.std.proofs.Common.{◌≡◌, List, [], ◌∷◌, ◌++◌, ap, ◌∙◌}
use Rattle.std.proofs.lemmas.List.{append_assoc}

pub four_pushed : {X : Type 0} (start first second third fourth : List X) (a b c d : X) → first ≡ start ++ a ∷ [] → second ≡ first ++ b ∷ [] → third ≡ second ++ c ∷ [] → fourth ≡ third ++ d ∷ []
    → fourth ≡ start ++ a ∷ b ∷ c ∷ d ∷ []
four_pushed start first second third fourth a b c d is_first is_second is_third is_fourth =
    is_fourth ∙ ap (λ xs. xs ++ d ∷ []) (is_third ∙ ap (λ xs. xs ++ c ∷ []) (is_second ∙ ap (λ xs. xs ++ b ∷ []) is_first))
    ∙ ap (λ xs. (xs ++ c ∷ []) ++ d ∷ []) (append_assoc start (a ∷ []) (b ∷ []))
    ∙ ap (λ xs. xs ++ d ∷ []) (append_assoc start (a ∷ b ∷ []) (c ∷ []))
    ∙ append_assoc start (a ∷ b ∷ c ∷ []) (d ∷ [])
