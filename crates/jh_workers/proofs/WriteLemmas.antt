-- The words of a claim as they are written, and how many a record has.
use Rattle.std.proofs.Common.{◌≡◌, ℕ, ◌+◌, ◌*◌, ◌<◌, ◌≤◌, List, [], ◌∷◌, ◌++◌, length, take, get_or, ap, ◌∙◌, sym, arith, length-append}
use Rattle.std.proofs.lemmas.List.{take_more, take_more_set, length-set, length-replicate}
use Rattle.jh_slots.specs.Seats.{Knowledge, knowledge_after_claim, knowledge_after_write, claim_at}
use Rattle.jh_slots.proofs.CallerLemmas.{words_took, words_wrote}
use Rattle.jh_ops.specs.Operation.{Operation}
use Rattle.jh_ops.specs.Words.{IsRecordedAs, heading}

pub took_size : (v w : Knowledge) (f rows n : ℕ) → rows ≡ n → w ≡ knowledge_after_claim f n v → length (claim_at w f).words ≡ 5 * rows
took_size v w f rows n same e = ap (length {A = ℕ}) (words_took v w f n e) ∙ (length-replicate (5 * n) 0 ∙ ap (λ k. 5 * k) (sym same))

pub wrote_size : (v w : Knowledge) (f g rows more p x : ℕ) → w ≡ knowledge_after_write f p x v → g ≡ f → more ≡ rows → length (claim_at v f).words ≡ 5 * rows → length (claim_at w g).words ≡ 5 * more
wrote_size v w f g rows more p x e first same size =
    ap (λ k. length (claim_at w k).words) first
    ∙ (ap (length {A = ℕ}) (words_wrote v w f p x e) ∙ (length-set (claim_at v f).words p x ∙ (size ∙ ap (λ k. 5 * k) (sym same))))

pub wrote_more : (v w : Knowledge) (f g p : ℕ) (words : List ℕ) → w ≡ knowledge_after_write f p (get_or words p 0) v → g ≡ f → p < length (claim_at v f).words → p < length words
    → take p (claim_at v f).words ≡ take p words → take (p + 1) (claim_at w g).words ≡ take (p + 1) words
wrote_more v w f g p words e first room low so_far =
    let x = get_or words p 0 in
    ap (λ k. take (p + 1) (claim_at w k).words) first
    ∙ (ap (take (p + 1)) (words_wrote v w f p x e)
    ∙ (take_more_set (claim_at v f).words p x room ∙ (ap (λ l. l ++ x ∷ []) so_far ∙ sym (take_more words p 0 low))))

-- a record has three words at least
pub recorded_long : (op : Operation) (words : List ℕ) → IsRecordedAs op words → 3 ≤ length words
recorded_long op words recorded =
    let r = recorded.0 in
    let are = recorded.3 in
    let long = ap (length {A = ℕ}) are.1 ∙ length-append (heading r) are.0 in
    omega (arith, long)
