use Rattle.std.proofs.Common.{◌≡◌, List, subst, sym, ap, ◌∙◌}
use Rattle.std.specs.Prelude.{map}
use Rattle.std.specs.List.{All}
use Rattle.std.proofs.lemmas.Result.{IfOk-weaker}
use Rattle.jh_test_parts.specs.Test.{TestValue, test_with_schedule}
use Rattle.jh_test_parts.specs.declared.parts.TestEntry.{TestEntry}
use Rattle.jh_test_candidates.specs.CandidatesInside.{AreEntriesForTest}
use Rattle.jh_test_settings_texts.specs.WritableEntries.{IsWritableTestEntry, test_entry_in_order, test_in_order}
use Rattle.jh_test_candidates.proofs.CandidateLemmas.{all_in_order, test_stays}
use Rattle.jh_test_candidates.proofs.candidates.test_candidate.Goals as goal

-- the entries of a candidate
ordered : (t : TestValue) (drawn entries : List TestEntry) → entries ≡ map test_entry_in_order drawn → AreEntriesForTest t drawn → AreEntriesForTest t entries
ordered t drawn entries is are = subst (AreEntriesForTest t) (sym is) (all_in_order t drawn are)

pub with_schedule-requires-clause-few : goal.with_schedule-requires-clause-few
with_schedule-requires-clause-few c =
    (ordered c.args.test.now c.in_ok-drawn.drawn.items c.in_ok-entries.entries.items (c.in_ok-entries.ensures ∙ ap (map test_entry_in_order) c.deref.ensures.value) c.in_ok-drawn.ensures.kept).few

pub with_schedule-requires-clause-fit : goal.with_schedule-requires-clause-fit
with_schedule-requires-clause-fit c =
    (ordered c.args.test.now c.in_ok-drawn.drawn.items c.in_ok-entries.entries.items (c.in_ok-entries.ensures ∙ ap (map test_entry_in_order) c.deref.ensures.value) c.in_ok-drawn.ensures.kept).fit

pub returns-clause-written : goal.returns-clause-written
returns-clause-written c limit own =
    let are = ordered c.args.test.now c.in_ok-drawn.drawn.items c.in_ok-entries.entries.items (c.in_ok-entries.ensures ∙ ap (map test_entry_in_order) c.deref.ensures.value) c.in_ok-drawn.ensures.kept in
    IfOk-weaker c.with_schedule.result _ _ (λ made is. subst (λ (t : TestValue). All IsWritableTestEntry t.schedule) (sym is) (are.writable limit own)) c.with_schedule.ensures

pub returns-clause-read_back : goal.returns-clause-read_back
returns-clause-read_back c =
    let t = c.args.test.now in
    let seed = c.candidate_seed-seed.result in
    let drawn = test_with_schedule t c.in_ok-drawn.drawn.items seed in
    let ordered = c.in_ok-entries.ensures ∙ ap (map test_entry_in_order) c.deref.ensures.value in
    IfOk-weaker c.with_schedule.result _ _
    (λ made is. let same : made ≡ test_in_order drawn = is ∙ ap (λ (es : List TestEntry). test_with_schedule t es seed) ordered in
    ap test_in_order same ∙ test_stays drawn ∙ sym same)
    c.with_schedule.ensures
