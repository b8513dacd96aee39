use Rattle.std.proofs.Common.{◌≡◌, List, subst, sym, ap, ◌∙◌}
use Rattle.std.specs.Prelude.{map}
use Rattle.std.proofs.lemmas.Result.{IfOk-weaker}
use Rattle.jh_settings_texts.specs.SettingsWritten.{CanBeWritten, entry_in_order, plan_in_order}
use Rattle.jh_simnode.specs.declared.schedule.Entry.{Entry}
use Rattle.jh_search.specs.Candidates.{candidate_plan}
use Rattle.jh_search.specs.CandidatesInside.{AreEntriesFor}
use Rattle.jh_search.proofs.CandidateLemmas.{all_in_order, plan_stays, replanned_written}
use Rattle.jh_search.proofs.candidates.candidate.Goals as goal

pub candidate_plan-requires : goal.candidate_plan-requires
candidate_plan-requires c =
    let p = c.args.plan.now in
    let ordered = c.in_ok-entries.ensures ∙ ap (map entry_in_order) c.deref.ensures.value in
    subst (AreEntriesFor p) (sym ordered) (all_in_order p c.in_ok-drawn.drawn.items c.in_ok-drawn.ensures.kept)

pub returns-clause-written : goal.returns-clause-written
returns-clause-written c can =
    let p = c.args.plan.now in
    let ordered = c.in_ok-entries.ensures ∙ ap (map entry_in_order) c.deref.ensures.value in
    let entries = c.in_ok-entries.entries.items in
    let are : AreEntriesFor p entries = subst (AreEntriesFor p) (sym ordered) (all_in_order p c.in_ok-drawn.drawn.items c.in_ok-drawn.ensures.kept) in
    IfOk-weaker c.candidate_plan.result _ _ (λ made is. subst CanBeWritten (sym is) (replanned_written p entries c.candidate_seed-seed.result can c.candidate_seed-seed.ensures.small are)) c.candidate_plan.ensures

pub returns-clause-read_back : goal.returns-clause-read_back
returns-clause-read_back c =
    let p = c.args.plan.now in
    let seed = c.candidate_seed-seed.result in
    let drawn = candidate_plan p c.in_ok-drawn.drawn.items seed in
    let ordered = c.in_ok-entries.ensures ∙ ap (map entry_in_order) c.deref.ensures.value in
    IfOk-weaker c.candidate_plan.result _ _
    (λ made is. let same : made ≡ plan_in_order drawn = is ∙ ap (λ (es : List Entry). candidate_plan p es seed) ordered in
    ap plan_in_order same ∙ plan_stays drawn ∙ sym same)
    c.candidate_plan.ensures
