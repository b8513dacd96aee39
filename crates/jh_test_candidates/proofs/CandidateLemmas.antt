-- What is true of the entries of a candidate.
use Rattle.std.proofs.Common.{◌≡◌, ℕ, ◌+◌, ◌<◌, true, false, List, [], ◌∷◌, ◌≤◌, length, length-append, map, take, drop, refl, ap, subst, sym, arith}
use Rattle.std.specs.Prelude.{nat_lt, if◌then◌else◌}
use Rattle.std.specs.List.{All, fold, insert, position_or_len, range_with_len}
use Rattle.std.proofs.lemmas.Bool.{ltb-true}
use Rattle.std.proofs.lemmas.List.{length-map, take-append-drop}
use Rattle.std.proofs.lemmas.List.Elements.{All-append, All-cons, All-drop, All-map, All-take, All-weaker}
use Rattle.std.proofs.lemmas.List.Sums.{fold_push}
use Rattle.jh_nemesis.specs.Steps.{FitsNodes}
use Rattle.jh_nemesis.specs.declared.steps.Step.{Step}
use Rattle.jh_nemesis.specs.declared.steps.Step.TheVariants.{Begin, Withdraw, WithdrawAll, Undo, Redo}
use Rattle.jh_step_texts.specs.StepWritten.{step_in_order}
use Rattle.jh_step_texts.proofs.LinkLemmas.{range_more}
use Rattle.jh_settings_texts.specs.SettingsWritten.{LeadsToOthers}
use Rattle.jh_test_parts.specs.Limits.{max_test_entries}
use Rattle.jh_test_parts.specs.Test.{TestValue}
use Rattle.jh_test_parts.specs.declared.parts.TestEntry.{TestEntry}
use Rattle.jh_random_faults.specs.declared.kinds.Palette.{Palette}
use Rattle.jh_random_faults.proofs.StepLemmas.{fault_leads, step_fits, step_stays}
use Rattle.jh_test_candidates.specs.Candidates.{is_due_later, test_entries_with, test_entries_with_random}
use Rattle.jh_test_candidates.specs.CandidatesInside.{AreEntriesForTest, IsWritableWithin}
use Rattle.jh_test_settings_texts.specs.WritableEntries.{IsWritableTestEntry, test_entry_in_order, test_in_order}

-- one fault more
pub one_fault_more : (t : TestValue) (palette : Palette) (seed n : ℕ)
    → fold (test_entries_with_random t palette seed) t.schedule (range_with_len 0 (n + 1)) ≡ test_entries_with_random t palette seed (fold (test_entries_with_random t palette seed) t.schedule (range_with_len 0 n)) n
one_fault_more t palette seed n =
    let same : 0 + n ≡ n = omega arith in
    rw (← range_more 0 n, same) (fold_push (test_entries_with_random t palette seed) t.schedule (range_with_len 0 n) n)

-- what is so of each entry, and of one more, is so of each where that one is put among them
all_with_one : (P : TestEntry → Type 0) (entries : List TestEntry) (place : ℕ) (entry : TestEntry) → All P entries → P entry → All P (insert entries place entry)
all_with_one P entries place entry all one =
    All-append P (take place entries) (entry ∷ drop place entries) (All-take P place entries all) (All-cons P entry (drop place entries) one (All-drop P place entries all))

-- entries with one more are such as a schedule of the test may have
pub one_entry_more : (t : TestValue) (entries : List TestEntry) (entry : TestEntry) → AreEntriesForTest t entries → FitsNodes (length t.start.names) entry.step
    → IsWritableWithin t entry.at → LeadsToOthers entry.step → AreEntriesForTest t (test_entries_with entries entry)
one_entry_more t entries entry are fits writable leads =
    let P : TestEntry → Type 0 = λ e. FitsNodes (length t.start.names) e.step in
    let place = position_or_len (λ (other : TestEntry). is_due_later entry.at other.at) entries in
    let whole = ap length (take-append-drop place entries) in
    let parts = length-append (take place entries) (drop place entries) in
    let longer = length-append (take place entries) (entry ∷ drop place entries) in
    elim (nat_lt (length entries) max_test_entries) as (λ b. nat_lt (length entries) max_test_entries ≡ b → AreEntriesForTest t (if b then insert entries place entry else entries)) [
      | true ↦ λ room. record {
        few = (let below : length entries < max_test_entries = ltb-true (length entries) max_test_entries room in omega (arith, whole, parts, longer, below));
        fit = all_with_one P entries place entry are.fit fits;
        writable = λ limit own. all_with_one IsWritableTestEntry entries place entry (are.writable limit own) (writable limit, leads);
      }
      | false ↦ λ full. are
    ] refl

-- in order, no link of a step leads from a node to itself where none did
step_leads : (step : Step) → LeadsToOthers step → LeadsToOthers (step_in_order step)
step_leads (Begin id fault) others = fault_leads fault others
step_leads (Withdraw id) others = tt
step_leads WithdrawAll others = tt
step_leads Undo others = tt
step_leads Redo others = tt

-- in order, entries are such as a schedule of the test may have
pub all_in_order : (t : TestValue) (entries : List TestEntry) → AreEntriesForTest t entries → AreEntriesForTest t (map test_entry_in_order entries)
all_in_order t entries are =
    let P : TestEntry → Type 0 = λ e. FitsNodes (length t.start.names) e.step in
    record {
      few = subst (λ n. n ≤ max_test_entries) (sym (length-map entries test_entry_in_order)) are.few;
      fit = All-map P test_entry_in_order entries
          (All-weaker P (λ e. P (test_entry_in_order e)) (λ e. step_fits (length t.start.names) e.step) entries are.fit);
      writable = λ limit own.
          All-map IsWritableTestEntry test_entry_in_order entries
          (All-weaker IsWritableTestEntry (λ e. IsWritableTestEntry (test_entry_in_order e)) (λ e writable. (writable.0, step_leads e.step writable.1)) entries (are.writable limit own));
    }

-- what is in order stays as it is
entries_stay : (entries : List TestEntry) → map test_entry_in_order (map test_entry_in_order entries) ≡ map test_entry_in_order entries
entries_stay [] = refl
entries_stay (e ∷ es) = λ i. record e { step = step_stays e.step i } ∷ entries_stay es i

pub test_stays : (t : TestValue) → test_in_order (test_in_order t) ≡ test_in_order t
test_stays t = ap (λ schedule. record t { schedule = schedule }) (entries_stay t.schedule)
