use Rattle.std.proofs.Common.{subst, sym}
use Rattle.std.proofs.lemmas.Result.{on_ok_weaker}
use Rattle.jh_nemesis.specs.declared.steps.Step.TheVariants.{WithdrawAll}
use Rattle.jh_test_parts.specs.declared.parts.TestEntry.{TestEntry}
use Rattle.jh_test_candidates.specs.CandidatesInside.{AreEntriesForTest}
use Rattle.jh_test_candidates.proofs.CandidateLemmas.{one_entry_more}
use Rattle.jh_test_candidates.proofs.candidates.put_heal.Goals as goal

pub returns-clause-kept : goal.returns-clause-kept
returns-clause-kept c =
    let t = c.args.test.now in
    let heal : TestEntry = record { at = c.heal_of.result; step = WithdrawAll } in
    on_ok_weaker c.put_entry.result (λ put. subst (AreEntriesForTest t) (sym put) (one_entry_more t c.args.entries.now.items heal c.requires.kept tt c.heal_of.ensures.writable tt)) c.put_entry.ensures
