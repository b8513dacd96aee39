-- What is true of the entries of a candidate.
use Rattle.std.proofs.Common.{◌≡◌, ℕ, ◌+◌, ◌<◌, true, false, List, [], ◌∷◌, ◌≤◌, ◌^◌, length, length-append, map, take, drop, refl, ap, subst, sym, arith}
use Rattle.std.specs.Prelude.{nat_lt, if◌then◌else◌}
use Rattle.std.specs.List.{fold, insert, position_or_len, range_with_len}
use Rattle.std.proofs.lemmas.Bool.{ltb-true}
use Rattle.std.proofs.lemmas.List.{length-map, take-append-drop}
use Rattle.std.proofs.lemmas.List.Elements.{All-append, All-cons, All-drop, All-map, All-take, All-weaker}
use Rattle.std.proofs.lemmas.List.Sums.{fold_push}
use Rattle.jh_nemesis.specs.Steps.{FitsNodes}
use Rattle.jh_nemesis.specs.declared.steps.Step.{Step}
use Rattle.jh_nemesis.specs.declared.steps.Step.TheVariants.{Begin, Withdraw, WithdrawAll, Undo, Redo}
use Rattle.jh_step_texts.specs.StepWritten.{step_in_order}
use Rattle.jh_step_texts.proofs.LinkLemmas.{range_more}
use Rattle.jh_simnode.specs.declared.schedule.Entry.{Entry}
use Rattle.jh_simnode.specs.Limits.{max_entries}
use Rattle.jh_simnode.specs.Plans.{PlanValue, RefusesSchedule}
use Rattle.jh_simnode.specs.declared.plan.PlanError.TheVariants as PlanError
use Rattle.jh_settings_texts.specs.SettingsWritten.{CanBeWritten, IsWritableEntry, LeadsToOthers, entry_in_order, plan_in_order}
use Rattle.jh_random_faults.proofs.StepLemmas.{fault_leads, step_fits, step_stays}
use Rattle.jh_search.specs.declared.options.Options.{Options}
use Rattle.jh_search.specs.Candidates.{candidate_plan, entries_with, entries_with_random}
use Rattle.jh_search.specs.CandidatesInside.{AreEntriesFor}

-- one fault more
pub one_fault_more : (p : PlanValue) (options : Options) (seed n : ℕ)
    → fold (entries_with_random p options seed) p.schedule (range_with_len 0 (n + 1)) ≡ entries_with_random p options seed (fold (entries_with_random p options seed) p.schedule (range_with_len 0 n)) n
one_fault_more p options seed n =
    let same : 0 + n ≡ n = omega arith in
    rw (← range_more 0 n, same) (fold_push (entries_with_random p options seed) p.schedule (range_with_len 0 n) n)

-- entries with one more are such as a schedule of the plan may have
pub one_entry_more : (p : PlanValue) (entries : List Entry) (entry : Entry) → AreEntriesFor p entries → FitsNodes (length p.env.names) entry.step
    → IsWritableEntry entry → AreEntriesFor p (entries_with entries entry)
one_entry_more p entries entry are fits writable =
    let P : Entry → Type 0 = λ e. FitsNodes (length p.env.names) e.step in
    let place = position_or_len (λ (other : Entry). nat_lt entry.at other.at) entries in
    let whole = ap length (take-append-drop place entries) in
    let parts = length-append (take place entries) (drop place entries) in
    let longer = length-append (take place entries) (entry ∷ drop place entries) in
    elim (nat_lt (length entries) max_entries) as (λ b. nat_lt (length entries) max_entries ≡ b → AreEntriesFor p (if b then insert entries place entry else entries)) [
      | true ↦ λ room. record {
        few = (let below : length entries < max_entries = ltb-true (length entries) max_entries room in omega (arith, whole, parts, longer, below));
        fit = All-append P (take place entries) (entry ∷ drop place entries) (All-take P place entries are.fit)
            (All-cons P entry (drop place entries) fits (All-drop P place entries are.fit));
        writable = λ own. All-append IsWritableEntry (take place entries) (entry ∷ drop place entries) (All-take IsWritableEntry place entries (are.writable own))
            (All-cons IsWritableEntry entry (drop place entries) writable (All-drop IsWritableEntry place entries (are.writable own)));
      }
      | false ↦ λ full. are
    ] refl

-- such entries are refused only as out of memory
pub entries_refused : (p : PlanValue) (entries : List Entry) (e : PlanError.the_data) → AreEntriesFor p entries → RefusesSchedule p entries e → e ≡ PlanError.OutOfMemory
entries_refused p entries PlanError.BadClients are refused = absurd refused
entries_refused p entries PlanError.BadOps are refused = absurd refused
entries_refused p entries PlanError.BadRows are refused = absurd refused
entries_refused p entries PlanError.BadGenerator are refused = absurd refused
entries_refused p entries PlanError.BadStep are refused = absurd (refused are.fit)
entries_refused p entries PlanError.OutOfMemory are refused = refl

-- in order, no link of a step leads from a node to itself where none did
step_leads : (step : Step) → LeadsToOthers step → LeadsToOthers (step_in_order step)
step_leads (Begin id fault) others = fault_leads fault others
step_leads (Withdraw id) others = tt
step_leads WithdrawAll others = tt
step_leads Undo others = tt
step_leads Redo others = tt

-- in order, entries are such as a schedule of the plan may have
pub all_in_order : (p : PlanValue) (entries : List Entry) → AreEntriesFor p entries → AreEntriesFor p (map entry_in_order entries)
all_in_order p entries are =
    let P : Entry → Type 0 = λ e. FitsNodes (length p.env.names) e.step in
    record {
      few = subst (λ n. n ≤ max_entries) (sym (length-map entries entry_in_order)) are.few;
      fit = All-map P entry_in_order entries
          (All-weaker P (λ e. P (entry_in_order e)) (λ e. step_fits (length p.env.names) e.step) entries are.fit);
      writable = λ own.
          All-map IsWritableEntry entry_in_order entries
          (All-weaker IsWritableEntry (λ e. IsWritableEntry (entry_in_order e)) (λ e writable. (writable.0, step_leads e.step writable.1)) entries (are.writable own));
    }

-- what is in order stays as it is
entries_stay : (entries : List Entry) → map entry_in_order (map entry_in_order entries) ≡ map entry_in_order entries
entries_stay [] = refl
entries_stay (e ∷ es) = λ i. record e { step = step_stays e.step i } ∷ entries_stay es i

pub plan_stays : (p : PlanValue) → plan_in_order (plan_in_order p) ≡ plan_in_order p
plan_stays p = ap (λ schedule. record p { schedule = schedule }) (entries_stay p.schedule)

-- settings can say a plan with other entries where they can say each of these
pub replanned_written : (p : PlanValue) (entries : List Entry) (seed : ℕ) → CanBeWritten p → seed < 2 ^ 63 → AreEntriesFor p entries
    → CanBeWritten (candidate_plan p entries seed)
replanned_written p entries seed can small are =
    let writable = are.writable (λ i d below. (can.due i d below, can.others i d below)) in
    record {
      links = can.links;
      nodes = can.nodes;
      generator = can.generator;
      initial = can.initial;
      tick_every = can.tick_every;
      seed = small;
      due = λ i d below. (writable i d below).0;
      others = λ i d below. (writable i d below).1;
    }
