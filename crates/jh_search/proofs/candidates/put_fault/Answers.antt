use Rattle.std.proofs.Common.{ℕ, List, length, ap, subst, sym, ◌∙◌}
use Rattle.std.proofs.lemmas.Result.{on_ok_weaker}
use Rattle.jh_env.specs.Faults.{FitsCount}
use Rattle.jh_nemesis.specs.declared.steps.Step.TheVariants.{Begin, Withdraw}
use Rattle.jh_simnode.specs.declared.schedule.Entry.{Entry}
use Rattle.jh_search.specs.CandidatesInside.{AreEntriesFor}
use Rattle.jh_search.proofs.CandidateLemmas.{one_entry_more}
use Rattle.jh_search.proofs.candidates.put_fault.Goals as goal

pub returns-then-stays-clause-kept : goal.returns-then-stays-clause-kept
returns-then-stays-clause-kept c =
    let p = c.args.plan.now in
    let names = c.nodes.ensures.names ∙ ap (λ env. env.names) c.environment.ensures.environment in
    let fits = subst (λ (names : List (List ℕ)). FitsCount (length names) c.in_ok-fault.fault) names c.in_ok-fault.ensures.fits in
    let begin : Entry = record { at = c.calls_before_begin.result; step = Begin c.args.id c.in_ok-fault.fault } in
    subst (AreEntriesFor p) (sym c.in_ok-put_entry.ensures) (one_entry_more p c.args.entries.now.items begin c.requires.kept fits (c.calls_before_begin.ensures.few, c.in_ok-fault.ensures.others))

pub returns-clause-kept : goal.returns-clause-kept
returns-clause-kept c =
    let p = c.args.plan.now in
    let names = c.nodes.ensures.names ∙ ap (λ env. env.names) c.environment.ensures.environment in
    let fits = subst (λ (names : List (List ℕ)). FitsCount (length names) c.in_ok-fault.fault) names c.in_ok-fault.ensures.fits in
    let begin : Entry = record { at = c.calls_before_begin.result; step = Begin c.args.id c.in_ok-fault.fault } in
    let end : Entry = record { at = c.calls_before_end.result; step = Withdraw c.args.id } in
    let begun = subst (AreEntriesFor p) (sym c.in_ok-put_entry.ensures) (one_entry_more p c.args.entries.now.items begin c.requires.kept fits (c.calls_before_begin.ensures.few, c.in_ok-fault.ensures.others)) in
    on_ok_weaker c.put_entry-2.result (λ put. subst (AreEntriesFor p) (sym put) (one_entry_more p c.put_entry.new.entries.items end begun tt (c.calls_before_end.ensures.few, tt))) c.put_entry-2.ensures
