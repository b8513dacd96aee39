use Rattle.std.proofs.Common.{◌≡◌, ℕ, subst, ap, ◌∙◌, eq-eqb}
use Rattle.std.specs.Prelude.{MatchBool}
use Rattle.jh_slots.specs.Seats.{Knowledge, knowledge_after_claim, knowledge_after_look, BeginsAbove, AreClaimsApart}
use Rattle.jh_slots.proofs.MapLemmas.{holds_took}
use Rattle.jh_slots.proofs.slots.Slots.claim.Goals as goal

pub returns-then-found-first-clause-held : goal.returns-then-found-first-clause-held
returns-then-found-first-clause-held c =
    let w : Knowledge = c.take-found.new.seat.knows in
    let v : Knowledge = c.loop-first.seat.knows in
    let n : ℕ = c.take-found.result in
    let t = subst (λ b. MatchBool b ((w ≡ knowledge_after_claim n c.args.rows v) × BeginsAbove v n × AreClaimsApart w) (w ≡ knowledge_after_look n v)) (eq-eqb _ _ c.if-found-first.true) c.take-found.ensures.taken in
    holds_took v w c.loop-first.first c.args.rows (t.0 ∙ ap (λ k. knowledge_after_claim k c.args.rows v) c.if-found-first.true)
