use Rattle.std.proofs.Common.{ℕ, List, length, subst, sym}
use Rattle.std.proofs.lemmas.Result.{on_ok_weaker}
use Rattle.jh_env.specs.Faults.{FitsCount}
use Rattle.jh_nemesis.specs.declared.steps.Step.TheVariants.{Begin, Withdraw}
use Rattle.jh_test_parts.specs.declared.parts.TestEntry.{TestEntry}
use Rattle.jh_test_candidates.specs.CandidatesInside.{AreEntriesForTest}
use Rattle.jh_test_candidates.proofs.CandidateLemmas.{one_entry_more}
use Rattle.jh_test_candidates.proofs.candidates.put_fault.Goals as goal

pub returns-then-stays-clause-kept : goal.returns-then-stays-clause-kept
returns-then-stays-clause-kept c =
    let t = c.args.test.now in
    let fits = subst (λ (names : List (List ℕ)). FitsCount (length names) c.in_ok-fault.fault) c.nodes.ensures c.in_ok-fault.ensures.fits in
    let begin : TestEntry = record { at = c.begin_of.result; step = Begin c.args.id c.in_ok-fault.fault } in
    subst (AreEntriesForTest t) (sym c.in_ok-put_entry.ensures)
    (one_entry_more t c.args.entries.now.items begin c.requires.kept fits c.begin_of.ensures.writable c.in_ok-fault.ensures.others)

pub returns-clause-kept : goal.returns-clause-kept
returns-clause-kept c =
    let t = c.args.test.now in
    let fits = subst (λ (names : List (List ℕ)). FitsCount (length names) c.in_ok-fault.fault) c.nodes.ensures c.in_ok-fault.ensures.fits in
    let begin : TestEntry = record { at = c.begin_of.result; step = Begin c.args.id c.in_ok-fault.fault } in
    let end : TestEntry = record { at = c.end_of.result; step = Withdraw c.args.id } in
    let begun = subst (AreEntriesForTest t) (sym c.in_ok-put_entry.ensures)
    (one_entry_more t c.args.entries.now.items begin c.requires.kept fits c.begin_of.ensures.writable c.in_ok-fault.ensures.others) in
    on_ok_weaker c.put_entry-2.result (λ put. subst (AreEntriesForTest t) (sym put) (one_entry_more t c.put_entry.new.entries.items end begun tt c.end_of.ensures.writable tt)) c.put_entry-2.ensures
