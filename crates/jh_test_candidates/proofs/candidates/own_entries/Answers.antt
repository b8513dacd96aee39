use Rattle.std.proofs.Common.{subst, sym, ◌∙◌}
use Rattle.std.proofs.lemmas.Result.{IfOk-weaker}
use Rattle.jh_test_candidates.specs.CandidatesInside.{AreEntriesForTest}
use Rattle.jh_test_candidates.proofs.candidates.own_entries.Goals as goal

pub returns-clause-kept : goal.returns-clause-kept
returns-clause-kept c =
    let t = c.args.test.now in
    let own = c.clients-clients.ensures.fit.schedule in
    IfOk-weaker c.entries_copied.result _ _
    (λ copy is. subst (AreEntriesForTest t) (sym (is ∙ c.schedule.ensures.schedule)) (record { few = own.0; fit = own.1; writable = λ limit own. own }))
    c.entries_copied.ensures
