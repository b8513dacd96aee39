-- For callers: what a seat knows after its calls.
use Rattle.std.proofs.Common.{◌≡◌, ℕ, ◌*◌, set, take, replicate, Some, None, refl, ap, ◌∙◌}
use Rattle.std.specs.Prelude.{Option}
use Rattle.std.specs.Option.{unwrap_or}
use Rattle.std.specs.FinMap as map
use Rattle.jh_slots.specs.Seats.{Mark, Words, Knowledge, knowledge_after_claim, knowledge_after_write, knowledge_after_publish, knowledge_after_join, claim_at, no_claim, written_claim, Agree}
use Rattle.jh_slots.proofs.MapLemmas.{get_new, get_gather, either_of}

pub words_took : (v w : Knowledge) (f rows : ℕ) → w ≡ knowledge_after_claim f rows v → (claim_at w f).words ≡ replicate (5 * rows) 0
words_took v w f rows e = ap (λ (x : Knowledge). (claim_at x f).words) e ∙ ap (λ o. (unwrap_or o no_claim).words) (get_new v.claims f (record { rows = rows; words = replicate (5 * rows) 0 }))

pub words_wrote : (v w : Knowledge) (f p x : ℕ) → w ≡ knowledge_after_write f p x v → (claim_at w f).words ≡ set (claim_at v f).words p x
words_wrote v w f p x e = ap (λ (y : Knowledge). (claim_at y f).words) e ∙ ap (λ o. (unwrap_or o no_claim).words) (get_new v.claims f (written_claim (claim_at v f) p x))

pub seen_published : (v w : Knowledge) (f len : ℕ) → w ≡ knowledge_after_publish f len v → map.get w.seen f ≡ Some (Words (take len (claim_at v f).words))
seen_published v w f len e = ap (λ (y : Knowledge). map.get y.seen f) e ∙ get_new v.seen f (Words (take len (claim_at v f).words))

pub joined_first : (v w x : Knowledge) (r : ℕ) (m : Mark) → x ≡ knowledge_after_join v w → map.get v.seen r ≡ Some m → map.get x.seen r ≡ Some m
joined_first v w x r m e is = ap (λ (y : Knowledge). map.get y.seen r) e ∙ (get_gather v.seen w.seen r ∙ ap (λ o. either_of o (map.get w.seen r)) is)

pub joined_second : (v w x : Knowledge) (r : ℕ) (m : Mark) → x ≡ knowledge_after_join v w → Agree v w → map.get w.seen r ≡ Some m → map.get x.seen r ≡ Some m
joined_second v w x r m e agree is = ap (λ (y : Knowledge). map.get y.seen r) e ∙ (get_gather v.seen w.seen r ∙ (by (map.get v.seen r) refl))
  where
    by : (o : Option Mark) → map.get v.seen r ≡ o → either_of o (map.get w.seen r) ≡ Some m
    by (Some n) at = ap Some (agree.0 r n m at is)
    by None at = is
