use Rattle.std.proofs.Common.{subst, sym}
use Rattle.std.proofs.lemmas.Result.{on_ok_weaker}
use Rattle.jh_nemesis.specs.declared.steps.Step.TheVariants.{WithdrawAll}
use Rattle.jh_simnode.specs.declared.schedule.Entry.{Entry}
use Rattle.jh_search.specs.CandidatesInside.{AreEntriesFor}
use Rattle.jh_search.proofs.CandidateLemmas.{one_entry_more}
use Rattle.jh_search.proofs.candidates.put_heal.Goals as goal

pub returns-clause-kept : goal.returns-clause-kept
returns-clause-kept c =
    let p = c.args.plan.now in
    let heal : Entry = record { at = c.calls_before_heal.result; step = WithdrawAll } in
    on_ok_weaker c.put_entry.result (λ put. subst (AreEntriesFor p) (sym put) (one_entry_more p c.args.entries.now.items heal c.requires.kept tt (c.calls_before_heal.ensures.few, tt))) c.put_entry.ensures
