use Rattle.std.proofs.Common.{◌≡◌, ap, sym, subst, Ok, Err}
use Rattle.std.specs.Prelude.{IfOk}
use Rattle.jh_ops.specs.Operation.{operations}
use Rattle.jh_slots.specs.Seats.{Marks}
use Rattle.jh_workers.specs.Gather.{IsGathered}
use Rattle.jh_workers.proofs.runs.run_on_log.Goals as goal

-- the outcome's history is the one that was gathered
pub returns-clause-gathered : goal.returns-clause-gathered
returns-clause-gathered g c =
    let history = c.in-Ok.history in
    let seen = c.gather.new.self.seat.knows.seen in
    let rows = c.args.plan.now.rows in
    let gathered : IsGathered seen rows (operations history.items) =
    subst (λ n. IsGathered seen n (operations history.items)) c.rows.ensures.rows c.in-Ok.ensures.gathered in
    elim c.audited_outcome.result
    as (λ r. IfOk r (λ o. (o.history ≡ history) × (o.journal ≡ c.in_ok-journal.journal) × (o.shares ≡ c.in_ok-log_seat.shares))
    → IfOk r (λ o. (seen : Marks) × IsGathered seen rows (operations o.history.items)))
    [ Ok o ↦ λ same. (seen, subst (IsGathered seen rows) (ap (λ v. operations v.items) (sym same.0)) gathered) | Err e ↦ λ done. tt ] c.audited_outcome.ensures.same
