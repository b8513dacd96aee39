-- Claims that a seat holds, known by their number of rows.
use Rattle.std.proofs.Common.{◌≡◌, ℕ, ◌≤◌, Some, None, refl, sym, ap, ◌∙◌, arith}
use Rattle.std.specs.Prelude.{Option, IfSome}
use Rattle.std.specs.Option.{unwrap_or}
use Rattle.std.specs.FinMap as map
use Rattle.jh_slots.specs.Seats.{Claim, ClaimValue, Knowledge, HoldsClaim, claim_at, no_claim, knowledge_after_join}
use Rattle.jh_slots.proofs.MapLemmas.{get_gather, either_of}

pub holds_if : (v : Knowledge) (f rows : ℕ) → (claim_at v f).rows ≡ rows → 1 ≤ rows → HoldsClaim v f rows
holds_if v f rows is some = by (map.get v.claims f) refl
  where
    by : (o : Option Claim) → map.get v.claims f ≡ o → HoldsClaim v f rows
    by (Some c) at =
        let same : c.rows ≡ rows = sym (ap (λ o. (unwrap_or o no_claim).rows) at) ∙ is in
        (c.words, at ∙ ap (λ (n : ℕ). Some (record { rows = n; words = c.words })) same)
    by None at = let none : 0 ≡ rows = sym (ap (λ o. (unwrap_or o no_claim).rows) at) ∙ is in absurd (omega arith)

-- the claim of the first of two seats, once they are joined
pub holds_joined : (claim : Option ClaimValue) (v w x : Knowledge) (rows : ℕ) → x ≡ knowledge_after_join v w
    → IfSome claim (λ c. (c.rows ≡ rows) × (1 ≤ c.rows) × ((claim_at v c.first).rows ≡ c.rows))
    → IfSome claim (λ c. (c.rows ≡ rows) × (1 ≤ c.rows) × ((claim_at x c.first).rows ≡ c.rows))
holds_joined None v w x rows e is = is
holds_joined (Some c) v w x rows e (same, some, is) =
    let held = holds_if v c.first c.rows is some in (
      same,
      some,
      ap (λ (y : Knowledge). (claim_at y c.first).rows) e
          ∙ ap (λ o. (unwrap_or o no_claim).rows) (get_gather v.claims w.claims c.first ∙ ap (λ o. either_of o (map.get w.claims c.first)) held.1),
    )
